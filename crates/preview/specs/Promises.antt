-- What is promised of the preview: each promise a named type, and at the end the list of them. One term of each stands in
-- `proofs/Kept.antt`; the list wants them all.
use Rattle.std.specs.Prelude.{ℕ, ◌≡◌, ◌↔◌, List, [], ◌∷◌, length}
use Rattle.picoella.specs.Language.{OfType}
use Rattle.records.specs.Trees.{type_at}
use Rattle.answers.specs.Answers.{on_done}
use Rattle.answers.specs.StandardLaws.{lent_slice, StandardLaws}
use Rattle.answers.specs.Answers.{Done, Refused}
use Rattle.verdict.specs.Verdict.{output_type}
use Rattle.stimulus.specs.Stimulus.{input_leaves}
use Rattle.stimulus.specs.OneCycleCalls.{FormedOneCycle}
use Rattle.behaviour.specs.Run.{output_leaves, answer, final_out}
use Rattle.behaviour.specs.Bench.{toggle}
use Rattle.preview.specs.Preview.{preview_checks, preview_answer, final_preview}

-- What every call promises (`StandardLaws` of `answers`).
abbrev pub PreviewLaws : Type 0
PreviewLaws =
    (s stim out : List ℕ)
    → StandardLaws (preview_checks s stim out) (FormedOneCycle s stim out (output_leaves s)) 0 (preview_answer s stim out)
    (lent_slice out (final_preview s stim out) ∷ [])

-- "These are the bytes that a run of this one cycle on a copy of the sheet gives" (docs/SHEETS.md, "The preview"): on every sheet and
-- every stimulus of exactly one cycle's bytes, the run with slices of the right lengths is answered as the preview with one of the
-- right length is, by the same code at the same place, and where the preview gives 0 by 0 and one cycle done; and then the outputs are
-- the same.
pub record AsRun (s stim shown out next : List ℕ) : Type 0 where
  pub answered : answer s stim out next ≡ on_done (preview_answer s stim shown) (λ p. Done 1)
  pub zero_where : preview_answer s stim shown ≡ Done 0 ↔ answer s stim out next ≡ Done 1
  pub outputs : preview_answer s stim shown ≡ Done 0 → final_preview s stim shown ≡ final_out s stim out next

abbrev pub PreviewAsRun : Type 0
PreviewAsRun =
    (s stim shown out next : List ℕ) → length stim ≡ input_leaves s
    → length shown ≡ output_leaves s → length out ≡ output_leaves s → length next ≡ length s
    → AsRun s stim shown out next

-- The outputs are of the output type.
abbrev pub PreviewTyped : Type 0
PreviewTyped =
    (s stim out : List ℕ) → preview_answer s stim out ≡ Done 0 → OfType (type_at s (output_type s)) (final_preview s stim out)

-- So it is with the sheet T, whose delay holds 2 and after the cycle 1: on 1 it shows 2. No input and two cycles are refused.
abbrev pub PreviewToggle : Type 0
PreviewToggle =
    (preview_answer toggle (1 ∷ []) (9 ∷ []) ≡ Done 0)
    × (final_preview toggle (1 ∷ []) (9 ∷ []) ≡ 2 ∷ [])
    × (preview_answer toggle [] (9 ∷ []) ≡ Refused 8 0)
    × (preview_answer toggle (1 ∷ 2 ∷ []) (9 ∷ []) ≡ Refused 8 0)
    × (preview_answer toggle (1 ∷ []) [] ≡ Refused 10 1)

-- all of them
pub record PreviewPromises : Type 0 where
  pub preview_laws : PreviewLaws
  pub as_run : PreviewAsRun
  pub typed : PreviewTyped
  pub toggle : PreviewToggle
