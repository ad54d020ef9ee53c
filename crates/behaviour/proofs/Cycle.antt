-- One cycle of an accepted sheet on an input of the input type, under every lawful rule for an undecided IF: the sheet after it reads
-- as the term after it, differs from the sheet in delay leaves alone, and is accepted with the same type; the output is of that
-- type. The term after a cycle has the frame and the type of the term before, so that it can be written and is read back.
-- Assumes nothing.
use Prim.Native.Nat.{ℕ}
use mathlib.Core.List.{List, [], ◌∷◌}
use mathlib.Core.Path.{◌≡◌}
use native.Mathlib.Omega.{arith}
use Rattle.picoella.specs.Language.{OfType}
use Rattle.records.specs.Words.{word_a}
use Rattle.records.specs.Trees.{type_at, Declared}
use Rattle.records.proofs.Rewritten.{same-type}
use Rattle.verdict.specs.Verdict.{verdict}
use Rattle.answers.specs.Answers.{Accepted}
use Rattle.meaning.specs.Values.{no_values, more_values}
use Rattle.meaning.specs.RuleLaws.{Lawful}
use Rattle.meaning.specs.Evaluation.{next}
use Rattle.meaning.proofs.EvaluationMonotone.{eval-typed}
use Rattle.meaning.proofs.NextTyped.{next-frame, next_typed}
use Rattle.behaviour.specs.Terms.{circuit_term}
use Rattle.behaviour.specs.Afterwards.{Bytes, OnlyDelays}
use Rattle.behaviour.specs.Writable.{Writable}
use Rattle.behaviour.specs.Cycle.{output_by, after_by}
use Rattle.behaviour.proofs.Terms.{circuit-typed}
use Rattle.behaviour.proofs.Sheets.{write-only-delays, only-leaves, header-same, accepted-written, write_read, write-accepted}
use Rattle.behaviour.proofs.Bytes.{write_bytes}

module _
    {undecided : List ℕ → List ℕ → List ℕ}
    (law : Lawful undecided)
    {s : List ℕ}
    {t : ℕ}
    (v : verdict s ≡ Accepted t)
    {i : List ℕ}
    (given : OfType (type_at s (word_a s 0)) i)
  where
    pub cycle-writable : Writable s t (next undecided (i ∷ []) (circuit_term s))
    cycle-writable = record {
      frame = next-frame undecided (i ∷ []) (circuit_term s);
      typed = next_typed law (circuit-typed s t v) (more_values given no_values);
    }

    pub after-only-delays : OnlyDelays s (after_by undecided s i)
    unfolding after_by
    after-only-delays = write-only-delays s (next undecided (i ∷ []) (circuit_term s)) cycle-writable.frame

-- the sheet stands only under functions here
module _
    {undecided : List ℕ → List ℕ → List ℕ}
    (law : Lawful undecided)
    (s : List ℕ)
    {t : ℕ}
    (v : verdict s ≡ Accepted t)
    {i : List ℕ}
    (given : OfType (type_at s (word_a s 0)) i)
  where
    pub output-of-type : OfType (type_at s t) (output_by undecided s i)
    unfolding output_by
    output-of-type = eval-typed undecided law (Declared s) (circuit-typed s t v) (more_values given no_values)

    pub after-term : circuit_term (after_by undecided s i) ≡ next undecided (i ∷ []) (circuit_term s)
    unfolding after_by
    after-term = write_read s v (cycle-writable law v given)

    pub after-accepted : verdict (after_by undecided s i) ≡ verdict s
    unfolding after_by
    after-accepted = write-accepted s v (cycle-writable law v given)

    -- types are read off the sheet after it as off the sheet
    pub after-types : (r : ℕ) → type_at (after_by undecided s i) r ≡ type_at s r
    after-types = same-type (only-leaves (accepted-written s v) (after-only-delays law v given))

    pub after-input : word_a (after_by undecided s i) 0 ≡ word_a s 0
    after-input = header-same (accepted-written s v) (after-only-delays law v given) 2 (omega arith)

    pub after-bytes : Bytes s → Bytes (after_by undecided s i)
    unfolding after_by
    after-bytes = write_bytes s t v (next undecided (i ∷ []) (circuit_term s)) (cycle-writable law v given)
