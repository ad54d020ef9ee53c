-- The run of an accepted sheet on bytes is the run of the meaning on its term: the same outputs, and the sheet after it is the sheet
-- with the values of the term after it. Each cycle's sheet reads as the term after the cycle before and is accepted again. By
-- induction on the inputs.
-- Assumes nothing.
use Prim.Native.Nat.{ℕ, zero, suc, ◌<◌}
use mathlib.Core.List.{List, [], ◌∷◌}
use mathlib.Core.Path.{◌≡◌, refl, sym, ap, ◌∙◌}
use native.Mathlib.Omega.{arith}
use lib.ListN.{length, get_or}
use Rattle.picoella.specs.Language.{OfType}
use Rattle.records.specs.Words.{word_a}
use Rattle.records.specs.Trees.{type_at}
use Rattle.verdict.specs.Verdict.{verdict}
use Rattle.answers.specs.Answers.{Accepted}
use Rattle.meaning.specs.Values.{AllOf, all_none, all_more}
use Rattle.meaning.specs.RuleLaws.{Lawful}
use Rattle.meaning.specs.Undecided.{undecided_rule}
use Rattle.meaning.specs.Evaluation.{next}
use Rattle.meaning.specs.Run.{outputs, after}
use Rattle.meaning.proofs.NextTyped.{After-frame}
use Rattle.behaviour.specs.Terms.{circuit_term}
use Rattle.behaviour.specs.Sheets.{write}
use Rattle.behaviour.specs.Afterwards.{Bytes, OnlyDelays}
use Rattle.behaviour.specs.Cycle.{output_by, after_by}
use Rattle.behaviour.proofs.Sheets.{write_own}
use Rattle.behaviour.proofs.OnlyDelays.{only-delays-same, only-delays-chain}
use Rattle.behaviour.proofs.Stores.{write_again}
use Rattle.behaviour.proofs.Cycle.{
  output-of-type,
  after-only-delays,
  after-term,
  after-accepted,
  after-types,
  after-input,
  after-bytes,
}
use Rattle.stimulus.specs.Stimulus.{input_type}
use Rattle.behaviour.specs.Run.{outputs_by, sheet_after}
use Rattle.behaviour.specs.Midway.{sheet_before}

-- the sheet before the cycle after the last is the sheet after the last
pub sheet-last : (s : List ℕ) (is : List (List ℕ)) → sheet_before undecided_rule s is (length is) ≡ sheet_after undecided_rule s is
sheet-last s [] = refl
sheet-last s (i ∷ is) = sheet-last (after_by undecided_rule s i) is

pub sheet-first : (s : List ℕ) (is : List (List ℕ)) → sheet_before undecided_rule s is 0 ≡ s
sheet-first s [] = refl
sheet-first s (i ∷ is) = refl

pub sheet-next : (s : List ℕ) (is : List (List ℕ)) (k : ℕ) → k < length is
    → sheet_before undecided_rule s is (suc k) ≡ after_by undecided_rule (sheet_before undecided_rule s is k) (get_or is k [])
sheet-next s [] k h = absurd (omega arith)
sheet-next s (i ∷ is) zero h = sheet-first (after_by undecided_rule s i) is
sheet-next s (i ∷ is) (suc k) h = sheet-next (after_by undecided_rule s i) is k (omega arith)

pub output-at : (s : List ℕ) (is : List (List ℕ)) (k : ℕ) → k < length is
    → get_or (outputs_by undecided_rule s is) k [] ≡ output_by undecided_rule (sheet_before undecided_rule s is k) (get_or is k [])
output-at s [] k h = absurd (omega arith)
output-at s (i ∷ is) zero h = refl
output-at s (i ∷ is) (suc k) h = output-at (after_by undecided_rule s i) is k (omega arith)

pub outputs-counted : (s : List ℕ) (is : List (List ℕ)) → length (outputs_by undecided_rule s is) ≡ length is
outputs-counted s [] = refl
outputs-counted s (i ∷ is) = ap suc (outputs-counted (after_by undecided_rule s i) is)

module _ {undecided : List ℕ → List ℕ → List ℕ} (law : Lawful undecided) where
  -- inputs of the sheet's type are of that of the sheet after a cycle
  given-again : (s : List ℕ) {t : ℕ} → verdict s ≡ Accepted t → {i : List ℕ} {is : List (List ℕ)}
      → OfType (input_type s) i → AllOf (input_type s) is → AllOf (input_type (after_by undecided s i)) is
  given-again s v h r =
      rw (after-input law s v h, after-types law s v h (word_a s 0)) r

  -- the run of the meaning
  pub run-outputs : (s : List ℕ) {t : ℕ} → verdict s ≡ Accepted t → {is : List (List ℕ)} → AllOf (input_type s) is
      → outputs_by undecided s is ≡ outputs undecided [] (circuit_term s) is
  unfolding outputs output_by
  run-outputs s v {is = []} all_none = refl
  run-outputs s {t} v {is = i ∷ is} (all_more h r) =
      ap (◌∷◌ (output_by undecided s i))
      (run-outputs (after_by undecided s i) (after-accepted law s v h ∙ v) (given-again s v h r)
      ∙ ap (λ e. outputs undecided [] e is) (after-term law s v h))

  pub run-sheet : (s : List ℕ) {t : ℕ} → verdict s ≡ Accepted t → {is : List (List ℕ)} → AllOf (input_type s) is
      → sheet_after undecided s is ≡ write s (after undecided [] (circuit_term s) is)
  unfolding after after_by
  run-sheet s v {is = []} all_none = sym (write_own s v)
  run-sheet s {t} v {is = i ∷ is} (all_more h r) =
      let e = next undecided (i ∷ []) (circuit_term s) in
      run-sheet (after_by undecided s i) (after-accepted law s v h ∙ v) (given-again s v h r)
      ∙ ap (λ u. write (after_by undecided s i) (after undecided [] u is)) (after-term law s v h)
      ∙ write_again s (after undecided [] e is) e (After-frame undecided [] e is)

  pub outputs_typed : (s : List ℕ) {t : ℕ} → verdict s ≡ Accepted t → {is : List (List ℕ)} → AllOf (input_type s) is
      → AllOf (type_at s t) (outputs_by undecided s is)
  outputs_typed s v {is = []} all_none = all_none
  outputs_typed s {t} v {is = i ∷ is} (all_more h r) =
      all_more (output-of-type law s v h)
      (rw (after-types law s v h t) at
      (outputs_typed (after_by undecided s i) (after-accepted law s v h ∙ v) (given-again s v h r)))

  -- each cycle's sheet is accepted with the same type
  pub accepted-before : (s : List ℕ) {t : ℕ} → verdict s ≡ Accepted t → {is : List (List ℕ)} → AllOf (input_type s) is
      → (k : ℕ) → verdict (sheet_before undecided s is k) ≡ verdict s
  accepted-before s v {is = []} all_none k = refl
  accepted-before s v {is = i ∷ is} (all_more h r) zero = refl
  accepted-before s {t} v {is = i ∷ is} (all_more h r) (suc k) =
      accepted-before (after_by undecided s i) (after-accepted law s v h ∙ v) (given-again s v h r) k
      ∙ after-accepted law s v h

  pub sheet-only-delays : (s : List ℕ) {t : ℕ} → verdict s ≡ Accepted t → {is : List (List ℕ)} → AllOf (input_type s) is
      → (k : ℕ) → OnlyDelays s (sheet_before undecided s is k)
  sheet-only-delays s v {is = []} all_none k = only-delays-same s
  sheet-only-delays s v {is = i ∷ is} (all_more h r) zero = only-delays-same s
  sheet-only-delays s {t} v {is = i ∷ is} (all_more h r) (suc k) =
      only-delays-chain v (after-only-delays law v h) (sheet-only-delays (after_by undecided s i) (after-accepted law s v h ∙ v) (given-again s v h r) k)

  -- each input is of the input type of the sheet that its cycle begins from
  pub input-at : (s : List ℕ) {t : ℕ} → verdict s ≡ Accepted t → {is : List (List ℕ)} → AllOf (input_type s) is
      → (k : ℕ) → k < length is → OfType (input_type (sheet_before undecided s is k)) (get_or is k [])
  input-at s v {is = []} all_none k b = absurd (omega arith)
  input-at s {t} v {is = i ∷ is} (all_more h r) zero b = h
  input-at s {t} v {is = i ∷ is} (all_more h r) (suc k) b =
      input-at (after_by undecided s i) (after-accepted law s v h ∙ v) (given-again s v h r) k (omega arith)

  -- a sheet of bytes stays one
  pub sheet-bytes : (s : List ℕ) {t : ℕ} → verdict s ≡ Accepted t → {is : List (List ℕ)} → AllOf (input_type s) is
      → Bytes s → (k : ℕ) → Bytes (sheet_before undecided s is k)
  sheet-bytes s v {is = []} all_none b k = b
  sheet-bytes s v {is = i ∷ is} (all_more h r) b zero = b
  sheet-bytes s {t} v {is = i ∷ is} (all_more h r) b (suc k) =
      sheet-bytes (after_by undecided s i) (after-accepted law s v h ∙ v) (given-again s v h r)
      (after-bytes law s v h b) k
