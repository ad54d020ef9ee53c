-- The call: what the check's answer and the stimulus' say of it, what each way out gives, and that a shown cycle is a cycle from the
-- sheet as it is.
-- Assumes nothing.
use Prim.Native.Nat.{ℕ}
use mathlib.Core.List.{List}
use mathlib.Core.Path.{◌≡◌, refl, sym, ap, ◌∙◌}
use lib.ListN.{length, get_or}
use Rattle.picoella.specs.Language.{leaves}
use Rattle.records.specs.Trees.{type_at}
use Rattle.answers.specs.Answers.{Answer}
use Rattle.answers.specs.Answers.{Done, Refused}
use Rattle.verdict.specs.Verdict.{verdict}
use Rattle.std.specs.Prelude.{Result, Ok, Err, IsErrAnd}
use Rattle.answers.specs.Results.{refusal_of, answer_of, verdict_of}
use Rattle.answers.specs.declared.Refusal.{Refusal}
use Rattle.answers.specs.declared.Fault.{Fault}
use Rattle.answers.specs.Answers.{Accepted}
use Rattle.accepted.specs.Accepting.{Accepting}
use Rattle.accepted.proofs.Calls.{accepted-output, sheet-fault}
use Rattle.stimulus.specs.Holding.{HeldToOne}
use Rattle.stimulus.proofs.OneCycle.{one-cycle-passes, one-cycle-typed}
use Rattle.stimulus.proofs.OneCycleCalls.{
  one-cycle-done,
  one-cycle-input,
  one-cycle-length,
  one-cycle-good,
}
use Rattle.behaviour.specs.Cycle.{output}
use Rattle.stepper.specs.Cycling.{Cycling}
use Rattle.stepper.proofs.CallCycles.{output-width}
use Rattle.behaviour.specs.Run.{output_leaves}
use Rattle.preview.specs.Preview.{shown_checks, preview_answer, final_preview}
use Rattle.preview.specs.Showing.{Showing, PreviewAnswered}

previewed-refusal : (s stim out : List ℕ) (c p : ℕ) → Refused c p ≡ preview_answer s stim out → PreviewAnswered s stim out (Refused c p) out
unfolding final_preview
previewed-refusal s stim out c p e = record { answer_is = e; out_is = rw (← e) refl }

-- 1 to 7
pub preview-refused-sheet : (s stim out : List ℕ) (r : Result ℕ Refusal) (f : Fault) → IsErrAnd r (λ e. e ≡ refusal_of f)
    → verdict_of (Err f) ≡ verdict s → PreviewAnswered s stim out (answer_of r) out
unfolding preview_answer
preview-refused-sheet s stim out (Ok x) f p q = absurd p
preview-refused-sheet s stim out (Err x) f p q = previewed-refusal s stim out _ _ (sheet-fault s (shown_checks s stim out) (Done 0) (Err x) f p q)

module _ {s : List ℕ} {n : ℕ} {W : List ℕ} {t : ℕ} (g : Accepting s n W) (v : verdict s ≡ Accepted t) where
  pub output-needed : get_or W t 0 ≡ output_leaves s
  output-needed = output-width g v ∙ ap (λ (u : ℕ). leaves (type_at s u)) (accepted-output s t v)

  module _ (stim out : List ℕ) (a : Answer) (h : HeldToOne s stim a) where
    -- 8 and 9
    pub preview-refused-input : (c p : ℕ) → a ≡ Refused c p → PreviewAnswered s stim out a out
    unfolding preview_answer
    preview-refused-input c p e =
        rw e (previewed-refusal s stim out c p (sym (one-cycle-input 10 (output_leaves s) out v h c p e)))

    module _ (k : ℕ) (e : a ≡ Done k) where
      -- 10
      pub preview-refused-output : (length out ≡ get_or W t 0 → ⊥) → PreviewAnswered s stim out (Refused 10 (get_or W t 0)) out
      unfolding preview_answer
      preview-refused-output d =
          rw output-needed
          (previewed-refusal s stim out 10 (output_leaves s)
          (sym (one-cycle-length 10 (output_leaves s) out v h k e (λ y. d (y ∙ sym output-needed)))))

      module _ (y : length out ≡ get_or W t 0) where
        pub showing : Showing s n W stim out
        showing =
            record {
              accepting = g;
              type = t;
              accepted = v;
              typed = one-cycle-typed s stim (one-cycle-passes s stim h e);
              room = y ∙ output-width g v;
            }

        pub preview-done : (out' : List ℕ) → out' ≡ output s stim → PreviewAnswered s stim out (Done 0) out'
        unfolding final_preview preview_answer
        preview-done out' o =
            let f = one-cycle-good {lent = out} v h k e (y ∙ output-needed) in
            let d : preview_answer s stim out ≡ Done 0 = one-cycle-done 10 f in
            record { answer_is = sym d; out_is = rw (o, d) refl }

-- a cycle from the sheet that was checked
pub shown-cycling : {s : List ℕ} {n : ℕ} {W input out : List ℕ} → Showing s n W input out → (env held : List ℕ) → length env ≡ 4096 → length held ≡ 4096
    → Cycling s n W env held input s out
shown-cycling {s} {n} {W} {input} {out} g env held we lh =
    record {
      sized = g.accepting.sized;
      type = g.type;
      accepted = g.accepted;
      table = g.accepting.table;
      leaves_alone = record { length = refl; others = λ r f k h. refl; leaves = λ r k h f. refl; unlabelled = λ r f. refl };
      again = g.accepted;
      wide = we;
      long = lh;
      typed = g.typed;
      room = g.room;
    }
