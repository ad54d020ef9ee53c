-- What the instructions of an expression write is what is laid of it, and then the expression is complete. By induction on the expression, with
-- what is written, the stack and the instructions before it as they come.
-- Assumes nothing.
use Prim.Native.Nat.{ℕ, zero, suc, ◌+◌, ◌-◌, min}
use native.Mathlib.Omega.{arith}
use mathlib.Core.Path.{◌≡◌, refl, sym, ap, ap₂, ◌∙◌}
use mathlib.Core.Bool.{Bool, true, false, cond}
use mathlib.Core.List.{List, [], ◌∷◌, ◌++◌, append_assoc}
use lib.ListN.{length, replicate, length-append, length-replicate}
use Rattle.records.specs.SheetOf.{Record, words}
use Rattle.picoella.specs.Language.{leaves}
use Rattle.grammar.specs.Source.{identifier, Declaration, SourceConstant, OfConstructor, Undefined, ConstantPair}
use Rattle.grammar.specs.Source.{SourcePattern, Alone, PatternPair, Either}
use Rattle.grammar.specs.Source.{
  Expression,
  NameUse,
  UndefinedOf,
  PairExpression,
  FirstOf,
  SecondOf,
  LetExpression,
  LetRecExpression,
  IfExpression,
  DelayExpression,
}
use Rattle.name_rules.specs.Declared.{is_among, is_declared, at_first, type_role, constructor_role}
use Rattle.name_rules.specs.Checks.{AllPass}
use Rattle.name_rules.specs.Constants.{letters, constant_type}
use Rattle.name_rules.specs.Names.{after_all, bind, pattern_checks, constant_names, expression_checks}
use Rattle.name_rules.specs.RecordsNeeded.{leaf_count_of, leaf_counts, pattern_records, constant_leaves}
use Rattle.layout.specs.Resolved.{type_meant, type_entries, distance}
use Rattle.layout.specs.Distances.{constant_values}
use Rattle.layout.specs.Layout.{leaves_laid, number_or, room_of, pattern_laid, laid}
use Rattle.layout.proofs.ConstructorTables.{pass-both, passes, pass-rest, after-new}
use Rattle.layout.proofs.Tables.{TablesMeant}
use Rattle.layout.proofs.Sizes.{constant-length}
use Rattle.instructions.specs.Instruction.{
  Instruction,
  use_name,
  use_constant,
  open_pair,
  open_let,
  open_rec,
  open_if,
  open_delay,
  open_parts,
  next_part,
  next_alternative,
  begin_pattern,
  match_type,
  match_one,
  constant_has,
}
use Rattle.instructions.specs.TextOrder.{number_of_type, constructor_in}
use Rattle.instructions.specs.Assembly.{leaves_numbered}
use Rattle.instructions.specs.RecordOrder.{declared_types, constant_onto, pattern_in_order, expression_onto}
use Rattle.instructions.specs.Emission.{
  Emission,
  emission,
  Slot,
  of_number,
  barrier,
  first_waits,
  second_waits,
  completed,
  zeros_written,
  zeros_next,
  emit_all,
}
use Rattle.instructions.proofs.LeavesNumbered.{leaves-numbered}

-- a chain of leaves from record r whose last has a given next
abbrev chain : ℕ → List ℕ → ℕ → List Record
chain r [] x = []
chain r (v ∷ []) x = words 64 x v 0 0 0 ∷ []
chain r (v ∷ w ∷ vs) x = words 64 (suc r) v 0 0 0 ∷ chain (suc r) (w ∷ vs) x

-- the next of what stands before it
abbrev before : ℕ → List ℕ → ℕ → ℕ
before r [] x = x
before r (v ∷ vs) x = r

chain-laid : (r : ℕ) (vs : List ℕ) → chain r vs 0 ≡ leaves_laid r vs
chain-laid r [] = refl
chain-laid r (v ∷ []) = refl
chain-laid r (v ∷ w ∷ vs) = ap (λ l. words 64 (suc r) v 0 0 0 ∷ l) (chain-laid (suc r) (w ∷ vs))

chain-both : (r : ℕ) (vs ws : List ℕ) (x : ℕ) → chain r (vs ++ ws) x ≡ chain r vs (before (r + length vs) ws x) ++ chain (r + length vs) ws x
chain-both r [] ws x = ap (λ k. chain k ws x) (let e : r ≡ r + 0 = omega arith in e)
chain-both r (v ∷ []) [] x = refl
chain-both r (v ∷ []) (w ∷ ws) x =
    let e : suc r ≡ r + 1 = omega arith in
    ap (λ k. words 64 k v 0 0 0 ∷ chain k (w ∷ ws) x) e
chain-both r (v ∷ u ∷ vs) ws x =
    let e : suc r + suc (length vs) ≡ r + suc (suc (length vs)) = omega arith in
    ap (λ l. words 64 (suc r) v 0 0 0 ∷ l) (chain-both (suc r) (u ∷ vs) ws x)
    ∙ ap (λ k. words 64 (suc r) v 0 0 0 ∷ (chain (suc r) (u ∷ vs) (before k ws x) ++ chain k ws x)) e

before-both : (r : ℕ) (vs ws : List ℕ) (x : ℕ) → before r (vs ++ ws) x ≡ before r vs (before (r + length vs) ws x)
before-both r [] ws x = ap (λ k. before k ws x) (let e : r ≡ r + 0 = omega arith in e)
before-both r (v ∷ vs) ws x = refl

zeros-last : (k : ℕ) → replicate {A = ℕ} (suc k) 0 ≡ replicate k 0 ++ 0 ∷ []
zeros-last zero = refl
zeros-last (suc k) = ap (λ l. 0 ∷ l) (zeros-last k)

-- so many undefined leaves from record r on
zeros-written : (k r : ℕ) (R : List Record) (c x : ℕ) → c ≡ r + k
    → (zeros_written k R c x ≡ chain r (replicate k 0) x ++ R) × (zeros_next k c x ≡ before r (replicate k 0) x)
zeros-written zero r R c x e = (refl, refl)
zeros-written (suc k) r R c x e =
    let f : c - 1 ≡ r + k = omega (arith, e) in
    let i = zeros-written k r (words 64 x 0 0 0 0 ∷ R) (c - 1) (c - 1) f in
    let l = length-replicate {A = ℕ} k 0 in
    let g : c - 1 ≡ r + length (replicate {A = ℕ} k 0) = omega (arith, f, l) in
    let both = chain-both r (replicate k 0) (0 ∷ []) x in (
      i.0
          ∙ ap (λ m. chain r (replicate k 0) m ++ words 64 x 0 0 0 0 ∷ R) g
          ∙ sym (append_assoc (chain r (replicate k 0) (r + length (replicate {A = ℕ} k 0))) (words 64 x 0 0 0 0 ∷ []) R)
          ∙ ap (λ l. l ++ R) (sym both) ∙ ap (λ vs. chain r vs x ++ R) (sym (zeros-last k)),
      i.1 ∙ first_of k r (c - 1) f,
    )
  where
    first_of : (k r m : ℕ) → m ≡ r + k → before r (replicate k 0) m ≡ r
    first_of zero r m e = omega (arith, e)
    first_of (suc k) r m e = refl

step_back : (r : ℕ) → suc r - 1 ≡ r
step_back r = omega arith

module _ (ds : List Declaration) where
  abbrev all : Emission → List Instruction → Emission
  all = emit_all (declared_types ds)

  alone-emitted : (b : Bool) (t u k next r c : ℕ) (R : List Record) (S : List Slot) (C : List Instruction) → c - 1 ≡ r
      → all (emission R c S next) (cond b (match_type t) (match_one u k) ∷ C)
      ≡ all (emission (cond b (words 48 next t 0 0 0 ∷ []) (words 49 next u k 0 0 ∷ []) ++ R) r S 0) C
  alone-emitted true t u k next r c R S C f = ap (λ x. all (emission (words 48 next t 0 0 0 ∷ R) x S 0) C) f
  alone-emitted false t u k next r c R S C f = ap (λ x. all (emission (words 49 next u k 0 0 ∷ R) x S 0) C) f

  pattern-emitted : (m : SourcePattern) (next r c : ℕ) (R : List Record) (S : List Slot) (C : List Instruction) → c ≡ r + pattern_records m
      → all (emission R c S next) (pattern_in_order ds m C) ≡ all (emission (pattern_laid ds next r m ++ R) r S 0) C
  pattern-emitted (Alone n) next r c R S C e =
      alone-emitted (is_declared type_role (letters n) (after_all at_first ds)) (number_of_type ds (letters n)) (constructor_in ds (letters n)).type
      (constructor_in ds (letters n)).number next r c R S C (omega (arith, e))
  pattern-emitted (PatternPair m n) next r c R S C e =
      let b = suc r + pattern_records m in
      let P = pattern_laid ds 0 (suc r) m in
      let Q = pattern_laid ds 0 b n in
      pattern-emitted n 0 b c R (of_number next ∷ S) (next_part ∷ pattern_in_order ds m (open_parts ∷ C)) (omega (arith, e))
      ∙ pattern-emitted m 0 (suc r) b (Q ++ R) (of_number b ∷ of_number next ∷ S) (open_parts ∷ C) refl
      ∙ ap (λ x. all (emission (words 50 next (suc r) b 0 0 ∷ (P ++ (Q ++ R))) x S 0) C) (step_back r)
      ∙ ap (λ l. all (emission (words 50 next (suc r) b 0 0 ∷ l) r S 0) C) (sym (append_assoc P Q R))
  pattern-emitted (Either m n) next r c R S C e =
      let b = r + pattern_records m in
      let P = pattern_laid ds b r m in
      let Q = pattern_laid ds next b n in
      pattern-emitted n next b c R S (next_alternative ∷ pattern_in_order ds m C) (omega (arith, e))
      ∙ pattern-emitted m b r b (Q ++ R) S C refl
      ∙ ap (λ l. all (emission l r S 0) C) (sym (append_assoc P Q R))

  name-emitted : (b d : Bool) (k t n r c x : ℕ) (R : List Record) (S : List Slot) (C : List Instruction) → c ≡ r + cond b 1 (cond d 2 1)
      → all (emission R c S x) (cond b (use_name k) (cond d (use_constant t n) (use_name k)) ∷ C)
      ≡ all
      (completed (cond b (words 33 0 k 0 0 0 ∷ []) (cond d (words 32 0 t (suc r) 0 0 ∷ words 64 0 n 0 0 0 ∷ []) (words 33 0 k 0 0 0 ∷ [])) ++ R) r S) C
  name-emitted true d k t n r c x R S C e =
      let f : c - 1 ≡ r = omega (arith, e) in
      ap (λ y. all (completed (words 33 0 k 0 0 0 ∷ R) y S) C) f
  name-emitted false true k t n r c x R S C e =
      let f : c - 1 ≡ suc r = omega (arith, e) in
      let g : c - 2 ≡ r = omega (arith, e) in
      ap₂ (λ y z. all (completed (words 32 0 t y 0 0 ∷ words 64 0 n 0 0 0 ∷ R) z S) C) f g
  name-emitted false false k t n r c x R S C e =
      let f : c - 1 ≡ r = omega (arith, e) in
      ap (λ y. all (completed (words 33 0 k 0 0 0 ∷ R) y S) C) f

  -- the record of an expression before its two parts
  joined : (w : Record) (P Q R : List Record) (r : ℕ) (S : List Slot) (C : List Instruction)
      → all (completed (w ∷ (P ++ (Q ++ R))) (suc r - 1) S) C ≡ all (completed ((w ∷ (P ++ Q)) ++ R) r S) C
  joined w P Q R r S C =
      ap₂ (λ y l. all (completed (w ∷ l) y S) C) (step_back r) (sym (append_assoc P Q R))

  zeros-emitted : (d m r c : ℕ) (R : List Record) (S : List Slot) (C : List Instruction) → leaves_numbered (declared_types ds) d ≡ m
      → c ≡ r + (1 + m)
      → all (completed (words 32 0 d (c - leaves_numbered (declared_types ds) d) 0 0 ∷ zeros_written (leaves_numbered (declared_types ds) d) R c 0) (c - leaves_numbered (declared_types ds) d - 1) S) C
      ≡ all (completed ((words 32 0 d (suc r) 0 0 ∷ leaves_laid (suc r) (replicate m 0)) ++ R) r S) C
  zeros-emitted d m r c R S C q e =
      let f : c - m ≡ suc r = omega (arith, e) in
      let g : c - m - 1 ≡ r = omega (arith, e) in
      let z = (zeros-written m (suc r) R c 0 (omega (arith, e))).0 in
      ap (λ k. all (completed (words 32 0 d (c - k) 0 0 ∷ zeros_written k R c 0) (c - k - 1) S) C) q
      ∙ ap₂ (λ y u. all (completed (words 32 0 d y 0 0 ∷ zeros_written m R c 0) u S) C) f g
      ∙ ap (λ l. all (completed (words 32 0 d (suc r) 0 0 ∷ l) r S) C) (z ∙ ap (λ l. l ++ R) (chain-laid (suc r) (replicate m 0)))

module _ {s : List ℕ} {ds : List Declaration} (T : TablesMeant s ds) where
  constant-emitted : (k : SourceConstant) (r c x : ℕ) (R : List Record) (S : List Slot) (C : List Instruction)
      → AllPass (constant_names (after_all at_first ds) k) → c ≡ r + length (constant_values ds k)
      → all ds (emission R c S x) (constant_onto ds k C)
      ≡ all ds (emission (chain r (constant_values ds k) x ++ R) r S (before r (constant_values ds k) x)) C
  constant-emitted (OfConstructor n) r c x R S C h e =
      let f : c - 1 ≡ r = omega (arith, e) in
      ap (λ y. all ds (emission (words 64 x (constructor_in ds (letters n)).number 0 0 0 ∷ R) y S y) C) f
  constant-emitted (Undefined (identifier w p)) r c x R S C h e =
      let m = min 64 (leaves (type_meant (type_entries ds) w)) in
      let q : leaves_numbered (declared_types ds) (number_of_type ds w) ≡ m = leaves-numbered ds w ∙ T.leaf-counts w (passes h) in
      let l = length-replicate {A = ℕ} m 0 in
      let f : c ≡ r + m = omega (arith, e, l) in
      let g : c - m ≡ r = omega (arith, f) in
      let z = zeros-written m r R c x f in
      ap (λ k. all ds (emission (zeros_written k R c x) (c - k) S (zeros_next k c x)) C) q
      ∙ ap (λ y. all ds (emission (zeros_written m R c x) y S (zeros_next m c x)) C) g
      ∙ ap₂ (λ y u. all ds (emission y r S u) C) z.0 z.1
  constant-emitted (ConstantPair p k l) r c x R S C h e =
      let both = pass-both (constant_names (after_all at_first ds) k) (constant_names (after_all at_first ds) l) h in
      let vs = constant_values ds k in
      let ws = constant_values ds l in
      let a = length-append vs ws in
      let b = r + length vs in
      constant-emitted l b c x R S (constant_onto ds k C) both.1 (omega (arith, e, a))
      ∙ constant-emitted k r b (before b ws x) (chain b ws x ++ R) S C both.0 refl
      ∙ ap₂ (λ y u. all ds (emission y r S u) C)
      (sym (append_assoc (chain r vs (before b ws x)) (chain b ws x) R) ∙ ap (λ y. y ++ R) (sym (chain-both r vs ws x))) (sym (before-both r vs ws x))

  pub expression-emitted : (bound : List (List ℕ)) (e : Expression) (r c x : ℕ) (R : List Record) (S : List Slot) (C : List Instruction)
      → AllPass (expression_checks (after_all at_first ds) bound e) → c ≡ r + room_of ds bound e
      → all ds (emission R c S x) (expression_onto ds bound e C) ≡ all ds (completed (laid ds bound r e ++ R) r S) C
  expression-emitted bound (NameUse n) r c x R S C h q =
      name-emitted ds (is_among (letters n) bound) (is_declared constructor_role (letters n) (after_all at_first ds)) (distance (letters n) bound)
      (constructor_in ds (letters n)).type (constructor_in ds (letters n)).number r c x R S C q
  expression-emitted bound (UndefinedOf (identifier w p)) r c x R S C h q =
      zeros-emitted ds (number_of_type ds w) (leaf_count_of (leaf_counts [] ds) w) r c R S C (leaves-numbered ds w) q
  expression-emitted bound (PairExpression e f) r c x R S C h q =
      let both = pass-both (expression_checks (after_all at_first ds) bound e) (expression_checks (after_all at_first ds) bound f) h in
      let b = suc r + room_of ds bound e in
      let P = laid ds bound (suc r) e in
      let Q = laid ds bound b f in
      expression-emitted bound f b c 0 R (barrier ∷ S) (expression_onto ds bound e (open_pair ∷ C)) both.1 (omega (arith, q))
      ∙ expression-emitted bound e (suc r) b 0 (Q ++ R) (of_number b ∷ barrier ∷ S) (open_pair ∷ C) both.0 refl
      ∙ joined ds (words 34 0 (suc r) b 0 0) P Q R r S C
  expression-emitted bound (FirstOf e) r c x R S C h q =
      expression-emitted bound e (suc r) c x R (first_waits ∷ S) C h (omega (arith, q))
      ∙ ap (λ y. all ds (completed (words 35 0 (suc r) 0 0 0 ∷ (laid ds bound (suc r) e ++ R)) y S) C) (step_back r)
  expression-emitted bound (SecondOf e) r c x R S C h q =
      expression-emitted bound e (suc r) c x R (second_waits ∷ S) C h (omega (arith, q))
      ∙ ap (λ y. all ds (completed (words 36 0 (suc r) 0 0 0 ∷ (laid ds bound (suc r) e ++ R)) y S) C) (step_back r)
  expression-emitted bound (LetExpression n e f) r c x R S C h q =
      let both =
      pass-both (expression_checks (after_all at_first ds) bound e) (expression_checks (after_all at_first ds) (bind n bound) f) (after-new (after_all at_first ds) n h) in
      let b = suc r + room_of ds bound e in
      let P = laid ds bound (suc r) e in
      let Q = laid ds (bind n bound) b f in
      expression-emitted (bind n bound) f b c 0 R (barrier ∷ S) (expression_onto ds bound e (open_let ∷ C)) both.1 (omega (arith, q))
      ∙ expression-emitted bound e (suc r) b 0 (Q ++ R) (of_number b ∷ barrier ∷ S) (open_let ∷ C) both.0 refl
      ∙ joined ds (words 37 0 (suc r) b 0 0) P Q R r S C
  expression-emitted bound (LetRecExpression (identifier t p) n e f) r c x R S C h q =
      let both =
      pass-both (expression_checks (after_all at_first ds) (bind n bound) e) (expression_checks (after_all at_first ds) (bind n bound) f)
      (after-new (after_all at_first ds) n (pass-rest h)) in
      let b = suc r + room_of ds (bind n bound) e in
      let P = laid ds (bind n bound) (suc r) e in
      let Q = laid ds (bind n bound) b f in
      let i = open_rec (number_of_type ds t) in
      expression-emitted (bind n bound) f b c 0 R (barrier ∷ S) (expression_onto ds (bind n bound) e (i ∷ C)) both.1 (omega (arith, q))
      ∙ expression-emitted (bind n bound) e (suc r) b 0 (Q ++ R) (of_number b ∷ barrier ∷ S) (i ∷ C) both.0 refl
      ∙ joined ds (words 38 0 (number_of_type ds t) (suc r) b 0) P Q R r S C
  expression-emitted bound (IfExpression e m f g) r c x R S C h q =
      let D = after_all at_first ds in
      let one = pass-both ((expression_checks D bound e ++ pattern_checks D m) ++ expression_checks D bound f) (expression_checks D bound g) h in
      let two = pass-both (expression_checks D bound e ++ pattern_checks D m) (expression_checks D bound f) one.0 in
      let three = pass-both (expression_checks D bound e) (pattern_checks D m) two.0 in
      let t = suc r + room_of ds bound e in
      let o = t + room_of ds bound f in
      let a = o + room_of ds bound g in
      let L = laid ds bound (suc r) e in
      let M = laid ds bound t f in
      let N = laid ds bound o g in
      let P = pattern_laid ds 0 a m in
      let w = words 39 0 (suc r) t o a in
      let E = expression_onto ds bound e (open_if ∷ C) in
      let F = expression_onto ds bound f E in
      let Q = of_number a ∷ barrier ∷ S in
      pattern-emitted ds m 0 a c R (barrier ∷ S) (begin_pattern ∷ expression_onto ds bound g F) (omega (arith, q))
      ∙ expression-emitted bound g o a 0 (P ++ R) Q F one.1 refl
      ∙ expression-emitted bound f t o 0 (N ++ (P ++ R)) (of_number o ∷ Q) E two.1 refl
      ∙ expression-emitted bound e (suc r) t 0 (M ++ (N ++ (P ++ R))) (of_number t ∷ of_number o ∷ Q) (open_if ∷ C) three.0 refl
      ∙ ap (λ l. all ds (completed (w ∷ (L ++ (M ++ l))) (suc r - 1) S) C) (sym (append_assoc N P R))
      ∙ ap (λ l. all ds (completed (w ∷ (L ++ l)) (suc r - 1) S) C) (sym (append_assoc M (N ++ P) R))
      ∙ joined ds w L (M ++ (N ++ P)) R r S C
  expression-emitted bound (DelayExpression k e) r c x R S C h q =
      let both = pass-both (constant_names (after_all at_first ds) k) (expression_checks (after_all at_first ds) bound e) h in
      let vs = constant_values ds k in
      let l = constant-length T k both.0 in
      let b = suc r + constant_leaves (leaf_counts [] ds) k in
      let d = number_or (type_entries ds) (constant_type ds k) in
      let Q = laid ds bound b e in
      let w = words 40 0 d (suc r) b 0 in
      expression-emitted bound e b c 0 R (barrier ∷ S) (constant_has d ∷ constant_onto ds k (open_delay ∷ C)) both.1 (omega (arith, q))
      ∙ constant-emitted k (suc r) b 0 (Q ++ R) (of_number d ∷ of_number b ∷ barrier ∷ S) (open_delay ∷ C) both.0 (omega (arith, l))
      ∙ ap (λ y. all ds (completed (w ∷ (y ++ (Q ++ R))) (suc r - 1) S) C) (chain-laid (suc r) vs)
      ∙ joined ds w (leaves_laid (suc r) vs) Q R r S C
