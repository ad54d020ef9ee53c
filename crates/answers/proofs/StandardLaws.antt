-- What every call promises, from its list of checks: the answer of the list is that of the first
-- that applies, with its code; its place is that of a check before which none applies; and a slice
-- that holds what is computed only where the call is done is unaltered by a refusal.
-- Assumes nothing.
use Prim.Native.Nat.{ℕ, ◌<◌, ◌^◌}
use mathlib.Core.Logic.{◌↔◌, ◌≢◌}
use mathlib.Core.Bool.{Bool, true, false, ◌&&◌}
use mathlib.Core.List.{List, [], ◌∷◌, ◌++◌}
use mathlib.Core.Option.{Option, none, some}
use mathlib.Core.Path.{◌≡◌, refl, sym, ap, subst, ◌∙◌}
use native.Mathlib.Omega.{arith}
use lib.Dec.{ltb}
use borrow.Author.Tests.{ltb-true}
use Rattle.answers.specs.Answers.{code, place, packed, Check, or_refused, first_applying, NoneApplies, Refuses, SaysOf}
use Rattle.answers.specs.StandardLaws.{LentSlice, AllUnaltered, SaysOfCall, StandardLaws}
use Rattle.answers.specs.GivenSlices.{codes_above, SmallPlaces, GivenSlices, no_slice, one_slice}
use Rattle.answers.specs.Answers.{Answer}
use Rattle.answers.specs.Answers.{Done, Refused}
use Rattle.answers.proofs.First.{first_says, says_first, kept-bytes}

-- the place of the first that applies
pub first-place : (ks : List Check) (done : ℕ) → SmallPlaces ks done → place (first_applying ks (Done done)) < 2 ^ 32
first-place [] done h = h
first-place (k ∷ ks) done h = go k.found h.0 (λ e. first-place ks done (h.1 e))
  where
    go : (o : Option ℕ) → ((p : ℕ) → o ≡ some p → p < 2 ^ 32) → (o ≡ none → place (first_applying ks (Done done)) < 2 ^ 32)
        → place (or_refused k.number o (first_applying ks (Done done))) < 2 ^ 32
    go (some p) found rest = found p refl
    go none found rest = rest refl

all-unaltered : {a : Answer} {ls : List LentSlice} → GivenSlices a ls → code a ≢ 0 → AllUnaltered ls
all-unaltered no_slice f = tt
all-unaltered {a} (one_slice {entry} computed g) f = (kept-bytes a computed entry f, all-unaltered g f)

module _ (ks : List Check) {Formed : Type 0} (done : ℕ) (formed : NoneApplies ks ↔ Formed) where
  says-formed : (a : Answer) → SaysOf ks done a → SaysOfCall ks Formed done a
  says-formed (Done p) h = (formed.0 h.0, h.1)
  says-formed (Refused c p) h = h

  formed-says : (a : Answer) → SaysOfCall ks Formed done a → SaysOf ks done a
  formed-says (Done p) h = (formed.1 h.0, h.1)
  formed-says (Refused c p) h = h

-- the code of a check of the list
both_true : (a b : Bool) → (a && b) ≡ true → (a ≡ true) × (b ≡ true)
both_true true true e = (refl, refl)
both_true true false e = let z : ◌≡◌ {A = ℕ} 0 1 = cc in absurd (omega arith)
both_true false b e = let z : ◌≡◌ {A = ℕ} 0 1 = cc in absurd (omega arith)

code-above : (before : List Check) (k : Check) (after : List Check) → codes_above (before ++ (k ∷ after)) ≡ true → 0 < k.number
code-above [] k after e = ltb-true 0 k.number (both_true (ltb 0 k.number) (codes_above after) e).0
code-above (j ∷ js) k after e = code-above js k after (both_true (ltb 0 j.number) (codes_above (js ++ (k ∷ after))) e).1

refused-above : (ks : List Check) (c p : ℕ) → codes_above ks ≡ true → Refuses ks c p → 0 < c
refused-above ks c p e r =
    let h = code-above r.before r.applying r.after (subst (λ (l : List Check). codes_above l ≡ true) r.split e) in
    let m = r.numbered in
    omega arith

-- of an answer that is the list's
pub standard-laws : {ks : List Check} {Formed : Type 0} {done : ℕ} {a : Answer} {slices : List LentSlice}
    → NoneApplies ks ↔ Formed → codes_above ks ≡ true → a ≡ first_applying ks (Done done) → place a < 2 ^ 32 → GivenSlices a slices
    → StandardLaws ks Formed done a slices
standard-laws {ks} {Formed} {done} {a} {slices} formed above is small given =
    record {
      formed_where = formed;
      lowest_first = λ b. (
        λ e. says-formed ks done formed b (subst (λ (x : Answer). SaysOf ks done x) (sym is ∙ e) (first_says ks done)),
        λ h. is ∙ says_first ks done b (formed-says ks done formed b h),
      );
      refusal_coded = λ c p e. refused-above ks c p above (subst (λ (x : Answer). SaysOf ks done x) (sym is ∙ e) (first_says ks done));
      place_small = small;
      unaltered = all-unaltered given;
    }

-- a result of 0 is that of a call that is done
pub zero-done : {ks : List Check} {Formed : Type 0} {done : ℕ} {a : Answer} {slices : List LentSlice}
    → StandardLaws ks Formed done a slices → 0 ≡ packed a → a ≡ Done 0
zero-done {a} laws e = go a refl e
  where
    go : (b : Answer) → a ≡ b → 0 ≡ packed b → b ≡ Done 0
    go (Done p) q z = let y : p ≡ 0 = omega arith in ap Done y
    go (Refused c p) q z = let h = laws.refusal_coded c p q in absurd (omega arith)
