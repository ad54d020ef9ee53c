-- After so many instructions there are so many types, instructions and constants at most, and 65 records for each.
-- Assumes nothing.
use Prim.Native.Nat.{ℕ, suc, ◌+◌, ◌≤◌, ◌<◌}
use native.Mathlib.Omega.{arith}
use mathlib.Core.Path.{◌≡◌, refl, sym, ap, subst, ◌∙◌}
use mathlib.Core.Bool.{Bool, true, false, cond}
use mathlib.Core.List.{List, [], ◌∷◌}
use mathlib.Core.Option.{Option}
use lib.ListN.{length}
use Rattle.std.proofs.lemmas.List.{length-reverse, reverse-append}
use Rattle.std.specs.Prelude.{reverse}
use Rattle.instructions.specs.Instruction.{
  Instruction,
  declare_type,
  count_constructor,
  first_type,
  second_type,
  input_has,
  use_name,
  use_constant,
  use_undefined,
  open_pair,
  open_let,
  open_if,
  open_delay,
  take_first,
  take_second,
  close,
  close_if,
  open_rec,
  begin_pattern,
  open_parts,
  next_part,
  close_parts,
  next_alternative,
  match_type,
  match_one,
  use_leaf,
  use_zeros,
  open_constant,
  close_constant,
  end_constant,
  constant_has,
}
use Rattle.instructions.specs.Assembly.{DeclaredType, flat_type, paired_type, Assembly, assembly, nothing_assembled, one_constructor_more, with_first, with_second, begins_pattern, pattern_onto, patterns_below, pair_closed, assemble_one, assemble_all}
use Rattle.instructions.specs.Types.{last_constructors}
use Rattle.instructions.proofs.AssembledParts.{run-append}
use Rattle.instructions.proofs.TypeLaws.{few-leaves-numbered}
use Rattle.ordering.specs.Assembled.{Few}
use Rattle.ordering.specs.Held.{assembled, HasRoom}
use Rattle.ordering.specs.declared.assembly.Assembly.{Assembly as AssemblyHeld}

more : {n : ℕ} {T T' : List DeclaredType} {i i' : ℕ} {C C' W W' : List Instruction} {Y Y' : List ℕ} {p p' r r' : ℕ} {u u' : Option ℕ}
    → Few n (assembly T i C W Y p r u) → length T' ≤ length T + 1 → last_constructors T' ≤ last_constructors T + 1
    → length C' + length W' ≤ length C + length W + 1 → length Y' ≤ length Y + 1 → r' ≤ r + 65 → Few (n + 1) (assembly T' i' C' W' Y' p' r' u')
more f t c k y r =
    record {
      few_types = (let h = f.few_types in omega arith);
      few_constructors = (let h = f.few_constructors in omega arith);
      few_instructions = (let h = f.few_instructions in omega arith);
      few_constants = (let h = f.few_constants in omega arith);
      few_records = (let h = f.few_records in omega arith);
    }

-- no more types, and one constructor more
abbrev SameTypes : (T T' : List DeclaredType) → Type 0
SameTypes T T' = (length T' ≤ length T + 1) × (last_constructors T' ≤ last_constructors T + 1)

counted-few : (T : List DeclaredType) → SameTypes T (one_constructor_more T)
counted-few [] = (omega arith, omega arith)
counted-few (flat_type n ∷ T) = (omega arith, omega arith)
counted-few (paired_type a b ∷ T) = (omega arith, omega arith)

first-few : (a : ℕ) (T : List DeclaredType) → SameTypes T (with_first a T)
first-few a [] = (omega arith, omega arith)
first-few a (x ∷ T) = (omega arith, omega arith)

second-few : (b : ℕ) (T : List DeclaredType) → SameTypes T (with_second b T)
second-few b [] = (omega arith, omega arith)
second-few b (flat_type n ∷ T) = (omega arith, omega arith)
second-few b (paired_type a c ∷ T) = (omega arith, omega arith)

closed-few : (T : List DeclaredType) (Y : List ℕ) → length (pair_closed T Y) ≤ length Y + 1
closed-few T [] = omega arith
closed-few T (b ∷ []) = omega arith
closed-few T (b ∷ a ∷ []) = omega arith
closed-few T (b ∷ a ∷ mark ∷ Y) = omega arith

-- the pattern that waits last goes onto the code
pattern-few : (W C : List Instruction) → length (pattern_onto W C) + length (patterns_below W) ≡ length C + length W
pattern-few [] C = refl
pattern-few (i ∷ W) C = go (begins_pattern i) (pattern-few W C)
  where
    go : (b : Bool) → length (pattern_onto W C) + length (patterns_below W) ≡ length C + length W
        → length (cond b (i ∷ C) (i ∷ pattern_onto W C)) + length (cond b W (patterns_below W)) ≡ length C + length (i ∷ W)
    go true e = omega arith
    go false e = omega arith

few-one : {n : ℕ} (A : Assembly) (x : Instruction) → Few n A → Few (n + 1) (assemble_one A x)
few-one (assembly T i C W Y p r u) declare_type f = more f (omega arith) (omega arith) (omega arith) (omega arith) (omega arith)
few-one (assembly T i C W Y p r u) count_constructor f = more f (counted-few T).0 (counted-few T).1 (omega arith) (omega arith) (omega arith)
few-one (assembly T i C W Y p r u) (first_type t) f = more f (first-few t T).0 (first-few t T).1 (omega arith) (omega arith) (omega arith)
few-one (assembly T i C W Y p r u) (second_type t) f = more f (second-few t T).0 (second-few t T).1 (omega arith) (omega arith) (omega arith)
few-one (assembly T i C W Y p r u) (input_has t) f = more f (omega arith) (omega arith) (omega arith) (omega arith) (omega arith)
few-one (assembly T i C W Y p r u) (use_name k) f = more f (omega arith) (omega arith) (omega arith) (omega arith) (omega arith)
few-one (assembly T i C W Y p r u) (use_constant t n) f = more f (omega arith) (omega arith) (omega arith) (omega arith) (omega arith)
few-one (assembly T i C W Y p r u) (use_undefined t) f = more f (omega arith) (omega arith) (omega arith) (omega arith) (let e = few-leaves-numbered T t in omega arith)
few-one (assembly T i C W Y p r u) open_pair f = more f (omega arith) (omega arith) (omega arith) (omega arith) (omega arith)
few-one (assembly T i C W Y p r u) open_let f = more f (omega arith) (omega arith) (omega arith) (omega arith) (omega arith)
few-one (assembly T i C W Y p r u) (open_rec t) f = more f (omega arith) (omega arith) (omega arith) (omega arith) (omega arith)
few-one (assembly T i C W Y p r u) open_if f = more f (omega arith) (omega arith) (omega arith) (omega arith) (omega arith)
few-one (assembly T i C W Y p r u) open_delay f = more f (omega arith) (omega arith) (omega arith) (omega arith) (omega arith)
few-one (assembly T i C W Y p r u) take_first f = more f (omega arith) (omega arith) (omega arith) (omega arith) (omega arith)
few-one (assembly T i C W Y p r u) take_second f = more f (omega arith) (omega arith) (omega arith) (omega arith) (omega arith)
few-one (assembly T i C W Y p r u) close f = more f (omega arith) (omega arith) (omega arith) (omega arith) (omega arith)
few-one (assembly T i C W Y p r u) close_if f = more f (omega arith) (omega arith) (let e = pattern-few W C in omega arith) (omega arith) (omega arith)
few-one (assembly T i C W Y p r u) begin_pattern f = more f (omega arith) (omega arith) (omega arith) (omega arith) (omega arith)
few-one (assembly T i C W Y p r u) (match_type t) f = more f (omega arith) (omega arith) (omega arith) (omega arith) (omega arith)
few-one (assembly T i C W Y p r u) (match_one t n) f = more f (omega arith) (omega arith) (omega arith) (omega arith) (omega arith)
few-one (assembly T i C W Y p r u) open_parts f = more f (omega arith) (omega arith) (omega arith) (omega arith) (omega arith)
few-one (assembly T i C W Y p r u) next_part f = more f (omega arith) (omega arith) (omega arith) (omega arith) (omega arith)
few-one (assembly T i C W Y p r u) close_parts f = more f (omega arith) (omega arith) (omega arith) (omega arith) (omega arith)
few-one (assembly T i C W Y p r u) next_alternative f = more f (omega arith) (omega arith) (omega arith) (omega arith) (omega arith)
few-one (assembly T i C W Y p r u) (use_leaf t n) f = more f (omega arith) (omega arith) (omega arith) (omega arith) (omega arith)
few-one (assembly T i C W Y p r u) (use_zeros t) f = more f (omega arith) (omega arith) (omega arith) (omega arith) (let e = few-leaves-numbered T t in omega arith)
few-one (assembly T i C W Y p r u) (open_constant q) f = more f (omega arith) (omega arith) (omega arith) (omega arith) (omega arith)
few-one (assembly T i C W Y p r u) close_constant f = more f (omega arith) (omega arith) (omega arith) (closed-few T Y) (omega arith)
few-one (assembly T i C W Y p r u) end_constant f = more f (omega arith) (omega arith) (omega arith) (omega arith) (omega arith)
few-one (assembly T i C W Y p r u) (constant_has t) f = more f (omega arith) (omega arith) (omega arith) (omega arith) (omega arith)

pub few-after : (A B : Assembly) (i : Instruction) → B ≡ assemble_one A i → (n : ℕ) → Few n A → Few (n + 1) B
few-after A B i e n f = subst (Few (n + 1)) (sym e) (few-one A i f)

few-more : (A : Assembly) (is : List Instruction) (n : ℕ) → Few n A → Few (length is + n) (assemble_all A is)
few-more A [] n f = let e : n ≡ 0 + n = omega arith in subst (λ k. Few k A) e f
few-more A (i ∷ is) n f =
    let e : length is + (n + 1) ≡ suc (length is) + n = omega arith in
    subst (λ k. Few k (assemble_all (assemble_one A i) is)) e (few-more (assemble_one A i) is (n + 1) (few-one A i f))

pub few-assembled : (is : List Instruction) → Few (length is) (assemble_all nothing_assembled is)
few-assembled is =
    let e : length is + 0 ≡ length is = omega arith in
    let f : Few 0 nothing_assembled =
    record { few_types = omega arith; few_constructors = omega arith; few_instructions = omega arith; few_constants = omega arith; few_records = omega arith } in
    subst (λ k. Few k (assemble_all nothing_assembled is)) e (few-more nothing_assembled is 0 f)

pub few-read : (A : Assembly) (C : List Instruction) → A ≡ assemble_all nothing_assembled (reverse C) → Few (length C) A
few-read A C e = subst (λ n. Few n A) (length-reverse C) (subst (Few (length (reverse C))) (sym e) (few-assembled (reverse C)))

-- so there is room for one more while they are fewer than the bytes of a text
pub room-for-one : (a : AssemblyHeld) (n : ℕ) → Few n (assembled a) → n < 65535 → HasRoom a
room-for-one a n f l =
    record {
      few_types = (let h = f.few_types in omega arith);
      few_constructors = (let h = f.few_constructors in omega arith);
      few_instructions = (let h = f.few_instructions in omega arith);
      few_constants = (let h = f.few_constants in omega arith);
      few_records = (let h = f.few_records in omega arith);
    }

pub has-room : (a : AssemblyHeld) (is : List Instruction) → assembled a ≡ assemble_all nothing_assembled is → length is < 65535 → HasRoom a
has-room a is e l = room-for-one a (length is) (subst (Few (length is)) (sym e) (few-assembled is)) l

-- one instruction more
pub one-more : (A B C : Assembly) (is : List Instruction) (i : Instruction) → B ≡ assemble_all A (reverse is) → C ≡ assemble_one B i
    → C ≡ assemble_all A (reverse (i ∷ is))
one-more A B C is i e f =
    f ∙ ap (λ X. assemble_one X i) e ∙ sym (ap (assemble_all A) (reverse-append (i ∷ []) is) ∙ run-append A (reverse is) (i ∷ []))
