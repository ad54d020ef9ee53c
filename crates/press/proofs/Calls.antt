-- The call: the input in some room, and what each way out gives.
-- Assumes nothing.
use Prim.Native.Nat.{ℕ, ◌≤◌, ◌<◌}
use mathlib.Core.Path.{◌≡◌, refl, sym, ap, ◌∙◌}
use mathlib.Core.List.{List, [], ◌∷◌}
use native.Mathlib.Omega.{arith}
use borrow.Author.Tests.{le-leb, lt-leb}
use lib.ListN.{length, get_or}
use Rattle.picoella.specs.Language.{bounds}
use Rattle.records.specs.Words.{word_a, count}
use Rattle.records.proofs.Types.{leaves-of-bounds}
use Rattle.std.specs.Prelude.{Option, Result, Ok, Err, IsErrAnd}
use Rattle.answers.specs.Results.{code_number, refusal_of, answer_of, verdict_of}
use Rattle.answers.specs.declared.Code.TheVariants.{NoOutputLeaf}
use Rattle.answers.specs.declared.Refusal.{Refusal}
use Rattle.answers.specs.declared.Fault.{Fault}
use Rattle.press.specs.declared.Change as Told
use Rattle.press.specs.Changes.{press_told, answer_pressed, press_given, PressAnswered}
use Rattle.answers.specs.Answers.{packed, on_done, first_applying}
use Rattle.answers.specs.Answers.{Answer}
use Rattle.answers.specs.Answers.{Done, Refused}
use Rattle.verdict.specs.Verdict.{verdict}
use Rattle.answers.specs.Answers.{Accepted}
use Rattle.accepted.specs.Accepting.{Accepting}
use Rattle.accepted.proofs.Calls.{sheet-fault}
use Rattle.accepted.proofs.Laws.{written, exact}
use Rattle.records.proofs.TypeRecords.{input-type}
use Rattle.accepted.proofs.Small.{type-few}
use Rattle.meaning.proofs.Order.{within-length}
use Rattle.stimulus.specs.Stimulus.{input_type}
use Rattle.stimulus.specs.Holding.{HeldToOne}
use Rattle.stimulus.proofs.OneCycle.{one-cycle-passes, one-cycle-typed}
use Rattle.stimulus.proofs.OneCycleCalls.{by-cycle}
use Rattle.behaviour.specs.Run.{output_leaves}
use Rattle.probe.specs.OutputLeaf.{leaf_check}
use Rattle.preview.proofs.Showing.{output-needed}
use Rattle.press.specs.Press.{one_press, own_press_checks, press_answer, final_press, press_found, press_leaf, press_constructor, PressGiven}
use Rattle.press.specs.Pressing.{PressingAll}

pub stim-few : {s counts stim : List ℕ} → PressingAll s counts stim → length stim ≤ 64
stim-few {s} g =
    let e = within-length g.typed in
    let l = leaves-of-bounds (input_type s) in
    let f = type-few g.accepted (word_a s 0) (input-type (written ((exact s g.type).0 g.accepted).0)) in
    omega arith

-- refusals
press-refusal : (s stim : List ℕ) (l : ℕ) (e : Refusal) → Refused (code_number e.code) e.place ≡ press_answer s stim l → PressAnswered s stim l (Err e)
unfolding final_press
press-refusal s stim l e q = record { answer_is = q; press_is = rw (← q) refl }

-- 1 to 7
pub press-refused-sheet : (s stim : List ℕ) (l : ℕ) (r : Result (Option Told.Change) Refusal) (f : Fault) → IsErrAnd r (λ e. e ≡ refusal_of f)
    → verdict_of (Err f) ≡ verdict s → PressAnswered s stim l r
unfolding press_answer
press-refused-sheet s stim l (Ok x) f p q = absurd p
press-refused-sheet s stim l (Err x) f p q = press-refusal s stim l x (sheet-fault s (own_press_checks s stim l) (Done 0) (Err x) f p q)

-- the numbers of a call from its answer
pub press-numbers : (s stim : List ℕ) (l : ℕ) (r : Result (Option Told.Change) Refusal) → PressAnswered s stim l r → {result f j k : ℕ}
    → result ≡ packed (answer_pressed r) → f ≡ press_found (press_given r) → j ≡ press_leaf (press_given r) → k ≡ press_constructor (press_given r)
    → PressGiven s stim l result f j k
press-numbers s stim l r a q x y z =
    record {
      result_is = q ∙ ap packed a.answer_is;
      found_is = x ∙ ap press_found a.press_is;
      input_is = y ∙ ap press_leaf a.press_is;
      constructor_is = z ∙ ap press_constructor a.press_is;
    }

module _ {s W : List ℕ} {t : ℕ} (g : Accepting s (count s) W) (v : verdict s ≡ Accepted t) {stim : List ℕ} {a : Answer} (h : HeldToOne s stim a) (l : ℕ) where
  by-leaf : press_answer s stim l ≡ on_done a (λ k. first_applying (leaf_check s l ∷ []) (Done 0))
  unfolding press_answer
  by-leaf = by-cycle (leaf_check s l ∷ []) v h

  -- 8 and 9
  pub press-refused-input : (r : Result (Option Told.Change) Refusal) (e : Refusal) → IsErrAnd r (λ x. x ≡ e) → a ≡ answer_of (Err e) → PressAnswered s stim l r
  press-refused-input (Ok x) e p q = absurd p
  press-refused-input (Err x) e p q = rw p (press-refusal s stim l e (sym (by-leaf ∙ rw q refl)))

  module _ (m : ℕ) (e : a ≡ Done m) where
    -- 21
    pub press-refused-leaf : get_or W t 0 ≤ l → PressAnswered s stim l (Err (record { code = NoOutputLeaf; place = get_or W t 0 }))
    press-refused-leaf y =
        let d = output-needed g v in
        press-refusal s stim l _ (ap (Refused 21) d ∙ sym (by-leaf ∙ rw (e, le-leb (output_leaves s) l (omega arith)) refl))

    pub pressing-all : {counts : List ℕ} → counts ≡ bounds (input_type s) → PressingAll s counts stim
    pressing-all b = record {
      type = t;
      accepted = v;
      counts_are = b;
      typed = one-cycle-typed s stim (one-cycle-passes s stim h e);
    }

    pub leaf-below : l < get_or W t 0 → l < output_leaves s
    leaf-below y = let d = output-needed g v in omega arith

    pub press-done : l < get_or W t 0 → (p : Option Told.Change) → press_told p ≡ one_press s stim l → PressAnswered s stim l (Ok p)
    unfolding final_press
    press-done y p o =
        let d = output-needed g v in
        let r : press_answer s stim l ≡ Done 0 = by-leaf ∙ rw (e, lt-leb (output_leaves s) l (omega arith)) refl in
        record { answer_is = sym r; press_is = rw r o }
