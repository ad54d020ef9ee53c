-- What is promised of a text that one call translated and another ran. One term of each promise stands in `proofs/Kept.antt`.
use Rattle.std.specs.Prelude.{ℕ, ◌≡◌, ◌↔◌, List, map, take}
use Rattle.picoella.specs.Language.{leaves}
use Rattle.records.specs.Trees.{type_at}
use Rattle.answers.specs.Answers.{Done, Refused}
use Rattle.grammar.specs.Tokens.{Token}
use Rattle.grammar.specs.Source.{Text}
use Rattle.grammar.specs.Legal.{Reading, Keeps}
use Rattle.stimulus.specs.Stimulus.{input_type, cycle_count, cycles, pieces, end_to_end}
use Rattle.behaviour.specs.Run.{RunGiven}
use Rattle.behaviour.specs.Afterwards.{WellFormed}
use Rattle.name_rules.specs.Checks.{FirstFails}
use Rattle.name_rules.specs.Names.{text_checks}
use Rattle.layout.specs.Layout.{sheet_of_text}
use Rattle.translator.specs.Translated.{Translated}
use Rattle.text_passes.specs.Promises.{FittingText}
use Rattle.text_meaning.specs.NamedValues.{value_of}
use Rattle.text_runs.specs.RunRows.{TextsRun}
use Rattle.text_meaning.specs.Promises.{declarations, Means, CallsInTurn}

-- the text that the bytes are, and that over the stimulus, read as values, it means the outputs, read as values
pub record RanAsMeant (bytes sheet stim : List ℕ) (type : ℕ) (outputs : List ℕ) : Type 0 where
  pub tokens : List Token
  pub source : Text
  pub reading : Reading bytes tokens source
  pub meant :
      Means source
      (map (value_of (declarations source) (input_type sheet)) (cycles sheet stim))
      (map (value_of (declarations source) (type_at sheet type)) (pieces (leaves (type_at sheet type)) (cycle_count sheet stim) outputs))

-- "a run of the sheet puts out, cycle for cycle, what the text means over its names" (docs/SHEETS.md, "The sheet of a text"): a call
-- translated the bytes and gave 0 with length n, and whatever a well-formed call of the run on the first n bytes of the slice gave by
-- its contract, its outputs are the meaning's.
abbrev pub TranslatedRunMeans : Type 0
TranslatedRunMeans =
    (bytes entry : List ℕ) (n : ℕ) (exit : List ℕ) → Translated bytes entry (Done n) exit
    → (stim out next : List ℕ) (τ result : ℕ) (out' next' : List ℕ)
    → WellFormed (take n exit) stim out next τ → RunGiven (take n exit) stim out next result out' next'
    → RanAsMeant bytes (take n exit) stim τ out'

-- The same of any number of calls in turn, the first on those bytes and each other on the next sheet of
-- the one before: the outputs of all are the meaning's for the stimuli of all, both end to end.
abbrev pub TranslatedCallsMean : Type 0
TranslatedCallsMean =
    (bytes entry : List ℕ) (n : ℕ) (exit : List ℕ) → Translated bytes entry (Done n) exit
    → (τ : ℕ) (stims outs : List (List ℕ)) → CallsInTurn τ (take n exit) stims outs
    → RanAsMeant bytes (take n exit) (end_to_end stims) τ (end_to_end outs)

-- the text that the bytes are; it has good names and constants and a sheet that fits, and that is `sheet`
pub record SheetOfBytes (bytes sheet : List ℕ) : Type 0 where
  pub tokens : List Token
  pub source : Text
  pub reading : Reading bytes tokens source
  pub fitting : FittingText tokens source
  pub sheet_is : sheet ≡ sheet_of_text source

-- Where a call gives 0 with length n, the first n bytes of the slice are a sheet of which the promises on
-- the check's answers speak (`text_passes`).
abbrev pub TranslatedFits : Type 0
TranslatedFits =
    (bytes entry : List ℕ) (n : ℕ) (exit : List ℕ) → Translated bytes entry (Done n) exit → SheetOfBytes bytes (take n exit)

-- the bytes are a text, and p is the place of its first check that fails, all before it holding
pub record FailsAt (bytes : List ℕ) (p : ℕ) : Type 0 where
  pub keeps : Keeps bytes
  pub tokens : List Token
  pub source : Text
  pub reading : Reading bytes tokens source
  pub fails : FirstFails (text_checks source) p

-- 14 is answered with place p exactly there, and then the slice is as it was.
abbrev pub AnsweredFourteen : Type 0
AnsweredFourteen =
    (bytes entry : List ℕ) (p : ℕ) (exit : List ℕ)
    → Translated bytes entry (Refused 14 p) exit ↔ (FailsAt bytes p × (exit ≡ entry))

pub record TextCallPromises : Type 0 where
  pub translated_run_means : TranslatedRunMeans
  pub translated_calls_mean : TranslatedCallsMean
  pub translated_fits : TranslatedFits
  pub answered_fourteen : AnsweredFourteen
  pub texts_run : TextsRun
