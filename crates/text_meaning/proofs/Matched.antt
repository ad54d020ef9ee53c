-- Matching over names is 000's on constants: a constructor's name is the constructor of its number.
-- Assumes nothing.
use Prim.Native.Nat.{ℕ, zero, suc, ◌≤◌, ◌<◌}
use mathlib.Core.Path.{◌≡◌, refl, ap, ap₂, sym, subst, ◌∙◌}
use mathlib.Core.Bool.{Bool, true, false, cond}
use mathlib.Core.List.{List, [], ◌∷◌}
use native.Mathlib.Omega.{arith}
use lib.Dec.{eqb}
use lib.ListN.{length, get_or}
use Rattle.picoella.specs.Language.{Ty, Flat, TyTuple, HasType, p_whole, p_constructor, p_parts, p_bar}
use Rattle.picoella.specs.Language as Language
use Rattle.grammar.specs.Source.{Identifier, identifier, Declaration, SourcePattern, Alone, PatternPair, Either}
use Rattle.name_rules.specs.Declared.{same_name, DeclaredName, is_declared, type_role, constructor_role, pattern_roles, at_first}
use Rattle.name_rules.specs.Names.{after_all, pattern_checks}
use Rattle.meaning.specs.Decisions.{Decision, Yes, No, Undecided, decided, pair_decision, chain_decision}
use Rattle.meaning.specs.Constants.{
  ConstantTree,
  Cons,
  CoTuple,
  ConstantOf,
  of_cons,
  of_tuple,
  Bool3,
  tt3,
  ff3,
  uu3,
  answer3,
  and3,
  or3,
  bool3,
  match_constructor,
  match,
}
use Rattle.meaning.specs.Constants.{glb}
use Rattle.meaning.specs.Rules.{branch}
use Rattle.layout.specs.Resolved.{type_meant, type_entries, Meant, constructor_meant, constructor_entries}
use Rattle.layout.specs.Distances.{as_pattern, pattern_meant}
use Rattle.layout.proofs.ConstructorTables.{pass-both, passes, type-or-constructor}
use Rattle.name_rules.specs.Checks.{AllPass}
use Rattle.meaning.specs.Undecided.{undecided_constant}
use Rattle.text_meaning.specs.NamedValues.{NamedValue, constructor_on, matches_named, chosen_value, constructors_of, leaf_value}
use Rattle.text_meaning.proofs.Naming.{name_tree, Differ, KnownType, known-flat, known-pair, names_same, turned, both-next, agreed-named}

-- the constructor of this name is number k of type t
pub record IsNumber (ds : List Declaration) (w : List ℕ) (m : Meant) : Type 0 where
  pub before : ℕ
  pub number_is : m.number ≡ suc before
  pub many : length (constructors_of ds m.type) ≡ m.constructors
  pub within : suc before ≤ m.constructors
  pub name-is : get_or (constructors_of ds m.type) before [] ≡ w

pair-answer : (a b : Decision) → answer3 (pair_decision a b) ≡ and3 (answer3 a) (answer3 b)
pair-answer Yes Yes = refl
pair-answer Yes No = refl
pair-answer Yes Undecided = refl
pair-answer No b = refl
pair-answer Undecided Yes = refl
pair-answer Undecided No = refl
pair-answer Undecided Undecided = refl

chain-answer : (a b : Decision) → answer3 (chain_decision a b) ≡ or3 (answer3 a) (answer3 b)
chain-answer Yes b = refl
chain-answer No Yes = refl
chain-answer No No = refl
chain-answer No Undecided = refl
chain-answer Undecided Yes = refl
chain-answer Undecided No = refl
chain-answer Undecided Undecided = refl

decided-answer : (b : Bool) → answer3 (decided b) ≡ bool3 b
decided-answer true = refl
decided-answer false = refl

module _ (ds : List Declaration) where
  -- a name on the value that leaf i stands for
  leaf-matched : (w : List ℕ) (r n k i : ℕ) → length (constructors_of ds r) ≡ n → Differ (constructors_of ds r) → suc k ≤ n
      → get_or (constructors_of ds r) k [] ≡ w → i ≤ n
      → answer3 (constructor_on w (leaf_value ds r i)) ≡ match_constructor (suc k) i
  leaf-matched w r n k zero l d h e g = refl
  leaf-matched w r n k (suc i) l d h e g =
      let s = names_same d k i (omega arith) (omega arith) in
      rw (← e, s) (decided-answer (eqb k i) ∙ ap bool3 (turned i k ∙ sym (both-next i k)))

  -- a pattern that a constructor's name is
  module _ (numbered : (w : List ℕ) → is_declared constructor_role w (after_all at_first ds) ≡ true
      → IsNumber ds w (constructor_meant (constructor_entries ds) w)) where
    alone-matched : (w : List ℕ) (σ : Ty) {τ : Ty} {c : ConstantTree} (b : Bool)
        → (b ≡ false → is_declared constructor_role w (after_all at_first ds) ≡ true) → KnownType ds τ
        → HasType (cond b (Language.Whole σ) (as_pattern (constructor_meant (constructor_entries ds) w))) τ → ConstantOf τ c
        → answer3 (cond b Yes (constructor_on w (name_tree ds c)))
        ≡ match (cond b (Language.Whole σ) (as_pattern (constructor_meant (constructor_entries ds) w))) c
    alone-matched w σ true h known typed of = refl
    alone-matched w σ {c = c} false h (known-pair {τ = τ} _ _) typed of = elim typed [ ]
    alone-matched w σ false h (known-flat l d) p_constructor (of_cons {r} {n} {i} g) =
        let m = numbered w (h refl) in
        rw m.number_is (leaf-matched w r n m.before i l d m.within m.name-is g)

    pub pattern-matched : (m : SourcePattern) {τ : Ty} {c : ConstantTree} → AllPass (pattern_checks (after_all at_first ds) m) → KnownType ds τ
        → HasType (pattern_meant ds m) τ → ConstantOf τ c
        → answer3 (matches_named (after_all at_first ds) m (name_tree ds c)) ≡ match (pattern_meant ds m) c
    pattern-matched (Alone (identifier w p)) h known typed of =
        alone-matched w (type_meant (type_entries ds) w) (is_declared type_role w (after_all at_first ds))
        (type-or-constructor w (after_all at_first ds) (passes h)) known typed of
    pattern-matched (PatternPair m n) {c = c} h (known-flat {r = r} _ _) typed of = elim typed [ ]
    pattern-matched (PatternPair m n) h (known-pair x y) (p_parts s t) (of_tuple {c = c} {d = d} f g) =
        let both = pass-both (pattern_checks (after_all at_first ds) m) (pattern_checks (after_all at_first ds) n) h in
        pair-answer (matches_named (after_all at_first ds) m (name_tree ds c)) (matches_named (after_all at_first ds) n (name_tree ds d))
        ∙ ap₂ and3 (pattern-matched m both.0 x s f) (pattern-matched n both.1 y t g)
    pattern-matched (Either m n) {c = c} h known (p_bar s t) of =
        let both = pass-both (pattern_checks (after_all at_first ds) m) (pattern_checks (after_all at_first ds) n) h in
        chain-answer (matches_named (after_all at_first ds) m (name_tree ds c)) (matches_named (after_all at_first ds) n (name_tree ds c))
        ∙ ap₂ or3 (pattern-matched m both.0 known s of) (pattern-matched n both.1 known t of)

  -- what an IF gives, by the answer of its match
  pub branch-named : (a : Decision) {τ : Ty} {c d : ConstantTree} → KnownType ds τ → ConstantOf τ c → ConstantOf τ d
      → chosen_value a (name_tree ds c) (name_tree ds d) ≡ name_tree ds (branch undecided_constant (answer3 a) c d)
  unfolding undecided_constant
  branch-named Yes known h k = refl
  branch-named No known h k = refl
  branch-named Undecided known h k = sym (agreed-named ds known h k)
