-- A call on one cycle that is lent one slice, whose length is checked last, by code c: what every call
-- promises, where the length needed is small, and what the check's answer and that of the stimulus say of it.
-- Assumes nothing.
use Prim.Native.Nat.{ℕ, ◌<◌, ◌^◌}
use mathlib.Core.Bool.{false, not}
use mathlib.Core.List.{List, [], ◌∷◌, ◌++◌}
use mathlib.Core.Logic.{◌≢◌}
use mathlib.Core.Option.{some}
use mathlib.Core.Path.{◌≡◌, refl, sym, ap, ◌∙◌}
use native.Mathlib.Omega.{arith}
use lib.ListN.{length}
use lib.Dec.{eqb}
use borrow.Author.Tests.{eq-eqb, ne_eqb, lt-ltb}
use Rattle.answers.specs.Answers.{on_done, lowest, Check, check, when, first_applying, NoneApplies, verdict_answer}
use Rattle.answers.specs.StandardLaws.{LentSlice, StandardLaws}
use Rattle.answers.specs.GivenSlices.{SmallPlaces, GivenSlices}
use Rattle.answers.specs.Answers.{Answer}
use Rattle.answers.specs.Answers.{Done, Refused}
use Rattle.answers.proofs.Lowest.{lowest-some-passes}
use Rattle.answers.proofs.First.{
  when-none,
  when-some,
  first-both,
  first_then,
  none-split,
  same-length-by,
  none_done,
}
use Rattle.verdict.specs.Verdict.{sheet_checks, output_type, verdict}
use Rattle.answers.specs.Answers.{Verdict}
use Rattle.answers.specs.Answers.{Accepted}
use Rattle.accepted.proofs.Calls.{accepted-output, sheet-accepted, refused-by-sheet, none-of-call, call-laws}
use Rattle.accepted.proofs.Laws.{first-accepted, Refusing}
use Rattle.stimulus.specs.Stimulus.{wrong_byte}
use Rattle.stimulus.specs.OneCycle.{not_one_cycle, one_cycle_checks}
use Rattle.stimulus.specs.Holding.{HeldToOne}
use Rattle.stimulus.specs.OneCycleCalls.{FormedOneCycle}
use Rattle.stimulus.proofs.Stimulus.{stimulus-whole}
use Rattle.stimulus.proofs.OneCycle.{one-cycle-whole, one-cycle-passes}

-- whatever checks stand last: their places, and the answer where the sheet is accepted
byte_small : (s stim : List ℕ) (i : ℕ) → not_one_cycle s stim ≡ false → lowest (wrong_byte s stim) (length stim) ≡ some i → i < 2 ^ 32
byte_small s stim i e f =
    let w = (stimulus-whole s stim (one-cycle-whole s stim e).0).0 in
    let l = (lowest-some-passes (wrong_byte s stim) (length stim) i f).0 in
    omega arith

pub after-cycle-small : (s stim : List ℕ) (last : List Check) → SmallPlaces last 0 → SmallPlaces (one_cycle_checks s stim ++ last) 0
after-cycle-small s stim last small = (
  λ p e. let z = when-some (not_one_cycle s stim) 0 p e in omega arith,
  λ e. (λ i f. byte_small s stim i (when-none (not_one_cycle s stim) 0 e) f, λ f. small),
)

pub by-cycle : {s stim : List ℕ} (last : List Check) {t : ℕ} → verdict s ≡ Accepted t → {a : Answer} → HeldToOne s stim a
    → first_applying (sheet_checks s ++ (one_cycle_checks s stim ++ last)) (Done 0) ≡ on_done a (λ k. first_applying last (Done 0))
by-cycle {s} {stim} last {t} v h =
    let rest : ℕ → Answer = λ k. first_applying last (Done 0) in
    sheet-accepted s (one_cycle_checks s stim ++ last) (Done 0) t v
    ∙ first-both (one_cycle_checks s stim) last (Done 0)
    ∙ first_then (one_cycle_checks s stim) 1 rest
    ∙ ap (λ (b : Answer). on_done b rest) (sym h.answered)

-- no signature here determines the sheet or the stimulus
module _ (c needed : ℕ) (s stim lent : List ℕ) where
  -- the check of the slice's length
  abbrev length_check : List Check
  length_check = check c (when (not (eqb (length lent) needed)) needed) ∷ []

  -- the checks after those of the sheet, and all of them
  abbrev own_checks : List Check
  own_checks = one_cycle_checks s stim ++ length_check

  abbrev all_checks : List Check
  all_checks = sheet_checks s ++ own_checks

  own-small : needed < 2 ^ 32 → SmallPlaces own_checks 0
  own-small small =
      after-cycle-small s stim length_check
      (λ p h. let z = when-some (not (eqb (length lent) needed)) needed p h in omega arith, λ h. omega arith)

  -- 1 to 7
  pub one-cycle-sheet : (w : Verdict) → w ≡ verdict s → Refusing w
      → (k : ℕ) × (p : ℕ) × (verdict_answer w ≡ Refused k p) × (first_applying all_checks (Done 0) ≡ Refused k p)
  one-cycle-sheet = refused-by-sheet s own_checks (Done 0)

module _ (c : ℕ) {needed : ℕ} {s stim lent : List ℕ} where
  one-cycle-formed : NoneApplies (all_checks c needed s stim lent) → FormedOneCycle s stim lent needed
  one-cycle-formed h =
      let p = none-split (sheet_checks s) (own_checks c needed s stim lent) h in
      record {
        accepted = first-accepted s p.0;
        one_cycle = when-none (not_one_cycle s stim) 0 p.1.0;
        fitting = p.1.1.0;
        room = same-length-by (length lent) needed needed p.1.1.1.0;
      }

  formed-none : FormedOneCycle s stim lent needed → NoneApplies (all_checks c needed s stim lent)
  formed-none h =
      none-of-call s (own_checks c needed s stim lent) (output_type s) h.accepted
      (rw h.one_cycle refl, (h.fitting, (rw (eq-eqb (length lent) needed h.room) refl, tt)))

  pub one-cycle-done : FormedOneCycle s stim lent needed → first_applying (all_checks c needed s stim lent) (Done 0) ≡ Done 0
  one-cycle-done h = none_done (all_checks c needed s stim lent) (Done 0) (formed-none h)

-- what every call promises, of a call on one cycle
pub one-cycle-laws : (c needed : ℕ) (s stim lent : List ℕ) {a : Answer} {slices : List LentSlice}
    → a ≡ first_applying (all_checks c needed s stim lent) (Done 0) → 0 < c
    → ((t : ℕ) → verdict s ≡ Accepted t → needed < 2 ^ 32) → GivenSlices a slices
    → StandardLaws (all_checks c needed s stim lent) (FormedOneCycle s stim lent needed) 0 a slices
one-cycle-laws c needed s stim lent is above small given =
    call-laws s (own_checks c needed s stim lent) (one-cycle-formed c, formed-none c) (rw (lt-ltb 0 c above) refl) is (λ t v. own-small c needed s stim lent (small t v)) given

module _ (c needed : ℕ) {s stim : List ℕ} (lent : List ℕ) {t : ℕ} (v : verdict s ≡ Accepted t) {a : Answer} (h : HeldToOne s stim a) where
  by_length : first_applying (all_checks c needed s stim lent) (Done 0)
      ≡ on_done a (λ k. first_applying (length_check c needed s stim lent) (Done 0))
  by_length = by-cycle (length_check c needed s stim lent) v h

  -- 8 and 9
  pub one-cycle-input : (k p : ℕ) → a ≡ Refused k p → first_applying (all_checks c needed s stim lent) (Done 0) ≡ Refused k p
  one-cycle-input k p e = by_length ∙ rw e refl

  -- the slice's length
  pub one-cycle-length : (k : ℕ) → a ≡ Done k → length lent ≢ needed
      → first_applying (all_checks c needed s stim lent) (Done 0) ≡ Refused c needed
  one-cycle-length k e d = by_length ∙ rw (e, ne_eqb (length lent) needed d) refl

module _ {needed : ℕ} {s stim lent : List ℕ} {t : ℕ} (v : verdict s ≡ Accepted t) {a : Answer} (h : HeldToOne s stim a) where
  -- and where none applies
  pub one-cycle-good : (k : ℕ) → a ≡ Done k → length lent ≡ needed → FormedOneCycle s stim lent needed
  one-cycle-good k e l =
      let passes = one-cycle-passes s stim h e in
      record {
        accepted = v ∙ ap Accepted (accepted-output s t v);
        one_cycle = when-none (not_one_cycle s stim) 0 passes.0;
        fitting = passes.1.0;
        room = l;
      }
