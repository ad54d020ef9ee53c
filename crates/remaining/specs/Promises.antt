-- What is promised of what can still happen: each promise a named type, and at the end the list of
-- them. One term of each stands in `proofs/Kept.antt`.
use Rattle.std.specs.Prelude.{ℕ, ◌≤◌, ◌≡◌, ◌≢◌, true, false, List, [], ◌∷◌, map, length, get_or, replicate}
use Rattle.std.proofs.Math.Option.{none}
use Rattle.picoella.specs.Language.{bounds, OfType}
use Rattle.records.specs.Words.{count}
use Rattle.records.specs.Trees.{type_at}
use Rattle.answers.specs.Answers.{lowest}
use Rattle.answers.specs.StandardLaws.{lent_slice, StandardLaws}
use Rattle.answers.specs.Answers.{Done, Refused}
use Rattle.verdict.specs.Verdict.{verdict, output_type}
use Rattle.answers.specs.Answers.{Accepted}
use Rattle.stimulus.specs.Stimulus.{input_type, wrong_byte}
use Rattle.stimulus.specs.OneCycle.{not_one_cycle}
use Rattle.meaning.specs.Values.{Both}
use Rattle.meaning.specs.Undecided.{undecided_rule}
use Rattle.meaning.specs.RuleLaws.{undefined_leaves}
use Rattle.behaviour.specs.Cycle.{output_by, output}
use Rattle.behaviour.specs.Run.{output_leaves}
use Rattle.behaviour.specs.Bench.{gate_and, either_bit, equal_bits, toggle}
use Rattle.preview.specs.Preview.{Previewed}
use Rattle.possibilities.specs.Sets.{ConstructorSet, only_one, members}
use Rattle.possibilities.specs.Filling.{Subset, LieIn, Full}
use Rattle.possibilities.specs.Promises.{WordOfSet}
use Rattle.possible.specs.Possible.{possible_sets, possible_counts, past_sets, possible_checks, possible_answer, final_counts, PossibleGiven}
use Rattle.possible.specs.Fillings.{SheetFilled, FullSheet, CallFilled}

-- What every call promises (`StandardLaws` of `answers`). A call is well formed where no check
-- applies.
pub record FormedPossible (sheet stimulus lent : List ℕ) : Type 0 where
  pub accepted : verdict sheet ≡ Accepted (output_type sheet)
  pub for_sets : lowest (past_sets sheet) (count sheet) ≡ none
  pub one_cycle : not_one_cycle sheet stimulus ≡ false
  pub fitting : lowest (wrong_byte sheet stimulus) (length stimulus) ≡ none
  pub room : length lent ≡ output_leaves sheet

abbrev pub PossibleLaws : Type 0
PossibleLaws =
    (s stim out : List ℕ)
    → StandardLaws (possible_checks s stim out) (FormedPossible s stim out) 0 (possible_answer s stim out)
    (lent_slice out (final_counts s stim out) ∷ [])

-- A set's word, for every set.
abbrev pub EachWord : Type 0
EachWord = (S : ConstructorSet) → WordOfSet S

-- calls that return 0, and what they leave in the slice that they are lent
abbrev pub CountsLeft : (sheet input counts : List ℕ) → Type 0
CountsLeft s i counts = (out : List ℕ) × PossibleGiven s i out 0 counts

abbrev pub PreviewLeft : (sheet input shown : List ℕ) → Type 0
PreviewLeft s i shown = (out : List ℕ) × Previewed s i out 0 shown

-- the second sheet and input are the first with undefined leaves filled, some or all
pub record LeavesFilled (s s' i i' : List ℕ) : Type 0 where
  pub sheet_filled : SheetFilled s s'
  pub input_filled : Both (bounds (input_type s)) i i'

-- The bytes are how many constructors are in each set, and each is 1 up to the constructors of its
-- leaf's type.
abbrev pub CountsOfSets : Type 0
CountsOfSets =
    (s i counts : List ℕ) → CountsLeft s i counts
    → (counts ≡ map members (possible_sets s i)) × Full (bounds (type_at s (output_type s))) counts

-- "in every way of filling the undefined leaves of input, constants and delays, the ordinary output
-- lies in the sets": what the preview shows on the filled sheet and input.
abbrev pub FilledShown : Type 0
FilledShown =
    (s s' i i' counts shown : List ℕ) → CountsLeft s i counts → PreviewLeft s' i' shown → LeavesFilled s s' i i'
    → FullSheet s' → Full (bounds (input_type s)) i' → LieIn shown (possible_sets s i)

-- An output leaf that the preview shows defined is alone in its set, and its count is 1.
abbrev pub ShownAlone : Type 0
ShownAlone =
    (s i counts shown : List ℕ) → CountsLeft s i counts → PreviewLeft s i shown → (k : ℕ) → get_or shown k 0 ≢ 0
    → (get_or (possible_sets s i) k [] ≡ only_one (get_or shown k 0)) × (get_or counts k 0 ≡ 1)

-- The more leaves are filled, the less is possible: no set grows, and no count rises.
abbrev pub FilledLess : Type 0
FilledLess =
    (s s' i i' counts counts' : List ℕ) → CountsLeft s i counts → CountsLeft s' i' counts' → LeavesFilled s s' i i' → (k : ℕ)
    → Subset (get_or (possible_sets s' i') k []) (get_or (possible_sets s i) k []) × (get_or counts' k 0 ≤ get_or counts k 0)

-- With everything defined every count is 1.
abbrev pub AllOnes : Type 0
AllOnes =
    (s i counts : List ℕ) → CountsLeft s i counts → FullSheet s → Full (bounds (input_type s)) i
    → counts ≡ replicate (output_leaves s) 1

-- The same of the outputs by a rule for an undecided IF, not only that in force.
pub record ByRule (rule : List ℕ → List ℕ → List ℕ) : Type 0 where
  pub lie_in : (s s' i i' : List ℕ) → CallFilled s s' i i' → FullSheet s' → Full (bounds (input_type s)) i'
      → LieIn (output_by rule s' i') (possible_sets s i)
  pub alone : (s i : List ℕ) (t : ℕ) → verdict s ≡ Accepted t → lowest (past_sets s) (count s) ≡ none → OfType (input_type s) i
      → (k : ℕ) → get_or (output_by rule s i) k 0 ≢ 0
      → (get_or (possible_sets s i) k [] ≡ only_one (get_or (output_by rule s i) k 0)) × (get_or (possible_counts s i) k 0 ≡ 1)
  pub defined : (s i : List ℕ) (t : ℕ) → verdict s ≡ Accepted t → lowest (past_sets s) (count s) ≡ none → FullSheet s
      → Full (bounds (input_type s)) i → Full (bounds (type_at s t)) (output_by rule s i)

-- the rule in force, and the one before it
abbrev pub UnderBothRules : Type 0
UnderBothRules = ByRule undecided_rule × ByRule undefined_leaves

-- Bench sheets. T has a feedback, record 2, and is refused before an empty stimulus is. In AND a part
-- that says no decides; else both branches are possible. 1|2 names every constructor: yes on
-- undefined, where the ordinary match is undecided and the output 0. (1,1)|(2,2) is undecided.
abbrev pub PossibleBench : Type 0
PossibleBench =
    (possible_answer toggle [] (9 ∷ []) ≡ Refused 22 2)
    × (possible_answer gate_and (2 ∷ 0 ∷ []) (9 ∷ []) ≡ Done 0)
    × (final_counts gate_and (2 ∷ 0 ∷ []) (9 ∷ []) ≡ 1 ∷ [])
    × (possible_sets gate_and (2 ∷ 0 ∷ []) ≡ (false ∷ true ∷ []) ∷ [])
    × (final_counts gate_and (1 ∷ 0 ∷ []) (9 ∷ []) ≡ 2 ∷ [])
    × (final_counts gate_and (1 ∷ 1 ∷ []) (9 ∷ []) ≡ 1 ∷ [])
    × (output either_bit (0 ∷ []) ≡ 0 ∷ [])
    × (possible_sets either_bit (0 ∷ []) ≡ (true ∷ []) ∷ [])
    × (final_counts equal_bits (0 ∷ 0 ∷ []) (9 ∷ []) ≡ 2 ∷ [])
    × (possible_answer gate_and [] (9 ∷ []) ≡ Refused 8 0)
    × (possible_answer gate_and (3 ∷ 0 ∷ []) (9 ∷ []) ≡ Refused 9 0)
    × (possible_answer gate_and (1 ∷ 0 ∷ []) [] ≡ Refused 10 1)

-- all of them
pub record PossiblePromises : Type 0 where
  pub possible_laws : PossibleLaws
  pub each_word : EachWord
  pub counts_of_sets : CountsOfSets
  pub filled_shown : FilledShown
  pub shown_alone : ShownAlone
  pub filled_less : FilledLess
  pub all_ones : AllOnes
  pub both_rules : UnderBothRules
  pub bench : PossibleBench
