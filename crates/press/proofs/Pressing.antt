-- One leaf of the input changed and put back; and the two searches for the lowest change.
-- Assumes nothing.
use Prim.Native.Nat.{ℕ, suc, ◌+◌, ◌≤◌, ◌<◌}
use native.Mathlib.Omega.{arith}
use native.Mathlib.Numerals.{add-one}
use mathlib.Core.Path.{◌≡◌, refl, sym, ap, ◌∙◌}
use mathlib.Core.Bool.{Bool, true, false, not}
use mathlib.Core.Logic.{◌≢◌}
use mathlib.Core.Option.{none, some}
use mathlib.Core.List.{List}
use mir.Val.{Fits}
use mir.Syntax.{w8, w64}
use lib.Dec.{eqb}
use lib.ListN.{length, get_or, set}
use lib.Seq.{set-set, set-get_or}
use borrow.Author.Tests.{eq-eqb, ne_eqb}
use Rattle.picoella.specs.Language.{bounds}
use Rattle.answers.specs.Answers.{is_some}
use Rattle.std.specs.Prelude.{Option, Some, None}
use Rattle.answers.specs.Searches.{found}
use Rattle.answers.proofs.Lowest.{lowest-is, lowest_none, lowest-some-passes}
use Rattle.records.proofs.Types.{leaves-of-bounds}
use Rattle.meaning.proofs.Order.{within-length}
use Rattle.stimulus.specs.Stimulus.{input_type, input_leaves}
use Rattle.probe.specs.OutputLeaf.{leaf_for}
use Rattle.press.specs.Press.{alters_to, constructor_for, leaf_found, one_press}
use Rattle.press.specs.Press.{Change, NoChange}
use Rattle.press.specs.Pressing.{Pressing}

module _ (s i : List ℕ) (l j c : ℕ) where
  -- its present value alters nothing
  pub same-value : c ≡ get_or i j 0 → false ≡ alters_to s i l j c
  same-value e = rw (eq-eqb c (get_or i j 0) e) refl

  pub other-value : c ≢ get_or i j 0 → {v p : ℕ} → v ≡ leaf_for s l (set i j c) → p ≡ leaf_for s l i → not (eqb v p) ≡ alters_to s i l j c
  other-value d e f = rw (ne_eqb c (get_or i j 0) d, e, f) refl

  pub put_back : set (set i j c) j (get_or i j 0) ≡ i
  put_back = set-set i j c (get_or i j 0) ∙ set-get_or i j 0

-- the constructors of a leaf
pub constructor-lowest : (s i : List ℕ) (l j k last : ℕ) → last ≡ get_or (bounds (input_type s)) j 0 → k < last → alters_to s i l j (k + 1) ≡ true
    → ((q : ℕ) → q < k → alters_to s i l j (suc q) ≡ false) → found (Some k) ≡ constructor_for s i l j
unfolding constructor_for
constructor-lowest s i l j k last e h a f =
    sym (lowest-is (λ q. alters_to s i l j (suc q)) (get_or (bounds (input_type s)) j 0) k (omega arith)
    (ap (alters_to s i l j) (sym (add-one k)) ∙ a) f)

pub constructor-none : (s i : List ℕ) (l j k last : ℕ) → last ≡ get_or (bounds (input_type s)) j 0 → last ≤ k
    → ((q : ℕ) → q < k → alters_to s i l j (suc q) ≡ false) → found None ≡ constructor_for s i l j
unfolding constructor_for
constructor-none s i l j k last e h f =
    sym (lowest_none (λ q. alters_to s i l j (suc q)) (get_or (bounds (input_type s)) j 0) (λ q g. f q (omega arith)))

-- the input was put back
pub pressing-again : {s : List ℕ} {leaf : ℕ} {input input' : List ℕ} {present : ℕ} → input' ≡ input → Pressing s leaf input present → Pressing s leaf input' present
pressing-again e p = rw e p

-- a test on the input as it is
pub told_of : (s : List ℕ) {i i' : List ℕ} (l j c : ℕ) {b : Bool} → i' ≡ i → b ≡ alters_to s i' l j c → alters_to s i l j c ≡ b
told_of s l j c e q = rw (← e) (sym q)

pub told-next : (s : List ℕ) {i i' : List ℕ} (l j k : ℕ) {b : Bool} → i' ≡ i → b ≡ alters_to s i' l j (k + 1) → alters_to s i l j (suc k) ≡ b
told-next s {i} l j k e q = ap (alters_to s i l j) (sym (add-one k)) ∙ told_of s l j (k + 1) e q

-- the leaves of the input
module _ (s i : List ℕ) (l j : ℕ) (before : (q : ℕ) → q < j → is_some (constructor_for s i l q) ≡ false) where
  pub press-lowest : j < input_leaves s → (k : ℕ) (f : Option ℕ) → f ≡ Some k → found f ≡ constructor_for s i l j → Change j (k + 1) ≡ one_press s i l
  unfolding one_press leaf_found
  press-lowest h k f e q =
      let c : constructor_for s i l j ≡ some k = sym q ∙ ap found e in
      let a : leaf_found s i l ≡ some j = lowest-is (λ q. is_some (constructor_for s i l q)) (input_leaves s) j h (ap is_some c) before in
      rw (a, c, add-one k) refl

  pub press-none : input_leaves s ≤ j → NoChange ≡ one_press s i l
  unfolding one_press leaf_found
  press-none h =
      let a : leaf_found s i l ≡ none = lowest_none (λ q. is_some (constructor_for s i l q)) (input_leaves s) (λ q g. before q (omega arith)) in
      rw a refl

  pub none_here : (f : Option ℕ) → f ≡ None → found f ≡ constructor_for s i l j → is_some (constructor_for s i l j) ≡ false
  none_here f e q = ap is_some (sym q ∙ ap found e)

-- what is found is a constructor, less 1, of a leaf whose count is a byte
pub constructor-small : (s i : List ℕ) (l j : ℕ) (counts : List ℕ) → counts ≡ bounds (input_type s) → ((q : ℕ) → Fits w8 (get_or counts q 0))
    → (f : Option ℕ) {k : ℕ} → f ≡ Some k → found f ≡ constructor_for s i l j → Fits w64 (k + 1)
unfolding constructor_for
constructor-small s i l j counts e b f {k} g q =
    let c : constructor_for s i l j ≡ some k = sym q ∙ ap found g in
    let h = (lowest-some-passes (λ r. alters_to s i l j (suc r)) (get_or (bounds (input_type s)) j 0) k c).0 in
    let y = b j in
    let z : get_or counts j 0 ≡ get_or (bounds (input_type s)) j 0 = ap (λ (x : List ℕ). get_or x j 0) e in
    record { fits = omega arith }

pub counts-as-many : (s counts : List ℕ) → counts ≡ bounds (input_type s) → length counts ≡ input_leaves s
counts-as-many s counts e = ap length e ∙ sym (leaves-of-bounds (input_type s))

pub typed-as-many : {s : List ℕ} {leaf : ℕ} {input : List ℕ} {present : ℕ} → Pressing s leaf input present → length input ≡ length (bounds (input_type s))
typed-as-many p = within-length p.typed
