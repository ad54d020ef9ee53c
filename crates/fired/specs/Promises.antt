-- What is promised of which alternative fired: each promise a named type, and at the end the list of them. One term of each stands in
-- `proofs/Kept.antt`; the list wants them all.
use Rattle.std.specs.Prelude.{ℕ, ◌<◌, ◌≡◌, List, [], ◌∷◌, length, replicate}
use Rattle.records.specs.Words.{count}
use Rattle.records.specs.Kinds.{expressions, patterns}
use Rattle.records.specs.Says.{sort_at}
use Rattle.answers.specs.StandardLaws.{lent_slice, StandardLaws}
use Rattle.answers.specs.Answers.{Done, Refused}
use Rattle.verdict.specs.Verdict.{verdict}
use Rattle.answers.specs.Answers.{Accepted}
use Rattle.stimulus.specs.OneCycleCalls.{FormedOneCycle}
use Rattle.behaviour.specs.Bench.{toggle}
use Rattle.behaviour.specs.Reaching.{Evaluates, EvaluatedOnce, FiredWords, TellsFirst}
use Rattle.fired.specs.Telling.{fired_checks, fired_answer, final_fired}

-- What every call promises (`StandardLaws` of `answers`).
abbrev pub FiredLaws : Type 0
FiredLaws =
    (s stim words : List ℕ)
    → StandardLaws (fired_checks s stim words) (FormedOneCycle s stim words (count s)) 0 (fired_answer s stim words)
    (lent_slice words (final_fired s stim words) ∷ [])

-- Every expression record of an accepted sheet is reached exactly once, in the evaluation of the root for an input with every feedback
-- at its settled value; and no other record is reached.
abbrev pub ReachedOnce : Type 0
ReachedOnce =
    (s : List ℕ) (t : ℕ) → verdict s ≡ Accepted t → (input : List ℕ) (r : ℕ) → r < count s → sort_at s r ≡ expressions
    → EvaluatedOnce s input r

abbrev pub ReachedExpressions : Type 0
ReachedExpressions =
    (s : List ℕ) (t : ℕ) → verdict s ≡ Accepted t → (input : List ℕ) (r : ℕ) (Γ : List ℕ) (ρ : List (List ℕ))
    → Evaluates s input r Γ ρ → (r < count s) × (sort_at s r ≡ expressions)

-- At each IF the word is what its chain tells on the value of its tested part where the IF is reached; 0 at every other record.
abbrev pub FiredWord : Type 0
FiredWord = (s : List ℕ) (t : ℕ) → verdict s ≡ Accepted t → (input : List ℕ) → FiredWords s input

-- So it is with the slice where the call gives 0.
abbrev pub FiredIn : Type 0
FiredIn =
    (s stim words : List ℕ) → fired_answer s stim words ≡ Done 0
    → (length (final_fired s stim words) ≡ count s) × (final_fired s stim words ≡ Rattle.behaviour.specs.Firing.fired s stim)

-- A chain tells 0 exactly where no alternative says yes, else the first that does; some number exactly where its pattern says yes.
abbrev pub FirstYesTells : Type 0
FirstYesTells =
    (s : List ℕ) (t : ℕ) → verdict s ≡ Accepted t → (d : ℕ) → d < count s → sort_at s d ≡ patterns → (v : List ℕ)
    → TellsFirst s d v

-- So it is with the sheet T, which has two IFs, at records 5 and 8: on 1 its input's alternative 7 and its bit's, 10. No input, two
-- cycles, and a slice of as many bytes as the words needed have, are refused.
abbrev pub FiredToggle : Type 0
FiredToggle =
    (fired_answer toggle (1 ∷ []) (replicate 17 9) ≡ Done 0)
    × (final_fired toggle (1 ∷ []) (replicate 17 9)
    ≡ 0 ∷ 0 ∷ 0 ∷ 0 ∷ 0 ∷ 7 ∷ 0 ∷ 0 ∷ 10 ∷ 0 ∷ 0 ∷ 0 ∷ 0 ∷ 0 ∷ 0 ∷ 0 ∷ 0 ∷ [])
    × (fired_answer toggle [] (replicate 17 9) ≡ Refused 8 0)
    × (fired_answer toggle (1 ∷ 2 ∷ []) (replicate 17 9) ≡ Refused 8 0)
    × (fired_answer toggle (3 ∷ []) (replicate 17 9) ≡ Refused 9 0)
    × (fired_answer toggle (1 ∷ []) (replicate 34 9) ≡ Refused 16 17)

-- all of them
pub record FiringPromises : Type 0 where
  pub fired_laws : FiredLaws
  pub reached_once : ReachedOnce
  pub reached_expressions : ReachedExpressions
  pub fired_word : FiredWord
  pub fired_in : FiredIn
  pub first_yes_tells : FirstYesTells
  pub toggle_fires : FiredToggle
