-- One cycle of a sheet. `first` is the sheet that was checked, `current` the one that the cycle begins from: the two differ in leaves
-- alone, or in labels too, and are accepted with the same type.
use Rattle.std.specs.Prelude.{ℕ, ◌≡◌, Bool, List, [], ◌∷◌, length}
use Rattle.records.specs.Limits.{most_records, environment_bytes}
use Rattle.picoella.specs.Language.{leaves, OfType}
use Rattle.records.specs.Words.{word_a, word_b}
use Rattle.records.specs.Sized.{Sized}
use Rattle.records.specs.Trees.{type_at}
use Rattle.records.specs.Written.{Written}
use Rattle.records.specs.Rewritten.{Rewritten}
use Rattle.verdict.specs.Verdict.{verdict}
use Rattle.verdict.specs.Scopes.{inputs}
use Rattle.verdict.specs.Widths.{Widths}
use Rattle.answers.specs.Answers.{Accepted}
use Rattle.meaning.specs.Undecided.{undecided_rule}
use Rattle.meaning.specs.Evaluation.{next}
use Rattle.behaviour.specs.Terms.{circuit_term}
use Rattle.behaviour.specs.Delays.{store}
use Rattle.behaviour.specs.Midway.{fired_at}
use Rattle.behaviour.specs.Cycle.{output, sheet_after_cycle}
use Rattle.evaluator.specs.Evaluating.{Wanted}

-- a table is copied to a sheet, along chains of the first one
pub record Copying (first : List ℕ) (n : ℕ) (current : List ℕ) : Type 0 where
  pub sized : Sized first n
  pub written : Written first
  pub long : length current ≡ length first

-- a cycle is run
pub record Cycling (first : List ℕ) (n : ℕ) (widths env held input current out : List ℕ) : Type 0 where
  pub sized : Sized first n
  pub type : ℕ
  pub accepted : verdict first ≡ Accepted type
  pub table : Widths first widths
  pub leaves_alone : Rewritten first current
  pub again : verdict current ≡ Accepted type
  pub wide : length env ≡ environment_bytes
  pub long : length held ≡ most_records
  pub typed : OfType (type_at first (word_a first 0)) input
  pub room : length out ≡ leaves (type_at first type)

-- the root is evaluated: the output and, where the whole is wanted, the delays' next values in their table and the numbers of the
-- IFs in theirs; the sheet is only read
pub record Looked (whole : Bool) (input current held fired env' held' fired' out' : List ℕ) : Type 0 where
  pub value : out' ≡ output current input
  pub stored : Wanted whole (store (next undecided_rule (input ∷ []) (circuit_term current))) held held'
  pub noted : Wanted whole (fired_at undecided_rule current (inputs current) (input ∷ []) (word_b current 0)) fired fired'
  pub wide : length env' ≡ environment_bytes
  pub long : length held' ≡ most_records
  pub same_size : length fired' ≡ length fired

-- and a whole cycle; the room stays as long as it was
pub record Cycled (input current env' held' current' out' : List ℕ) : Type 0 where
  pub value : out' ≡ output current input
  pub next : current' ≡ sheet_after_cycle current input
  pub wide : length env' ≡ environment_bytes
  pub long : length held' ≡ most_records
