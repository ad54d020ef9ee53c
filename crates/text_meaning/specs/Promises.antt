-- What is promised of the meaning of a text. One term of each promise stands in `proofs/Kept.antt`.
use Rattle.std.specs.Prelude.{ℕ, ◌≡◌, List, [], ◌∷◌, map}
use Rattle.picoella.specs.Language.{leaves, OfType}
use Rattle.records.specs.Trees.{type_at}
use Rattle.grammar.specs.Tokens.{Token}
use Rattle.grammar.specs.Source.{Declaration, Text, text}
use Rattle.grammar.specs.Grammar.{ReadsText}
use Rattle.name_rules.specs.Declared.{DeclaredName, at_first}
use Rattle.name_rules.specs.Checks.{AllPass}
use Rattle.name_rules.specs.Names.{after_all, text_checks}
use Rattle.stimulus.specs.Stimulus.{input_type, cycle_count, cycles, pieces, end_to_end}
use Rattle.behaviour.specs.Run.{RunGiven}
use Rattle.behaviour.specs.Afterwards.{WellFormed}
use Rattle.layout.specs.Resolved.{type_meant}
use Rattle.layout.specs.Layout.{sheet_of_text}
use Rattle.layout.specs.Promises.{types_of}
use Rattle.text_meaning.specs.NamedValues.{NamedValue, value_of}
use Rattle.text_meaning.specs.Circuits.{NamedCircuit, circuit_of}
use Rattle.text_meaning.specs.NamedRules as Rules

abbrev pub declarations : Text → List Declaration
declarations (text d ds t e) = d ∷ ds

abbrev pub names_of : Text → List DeclaredName
names_of t = after_all at_first (declarations t)

-- the circuit that a text begins as
abbrev pub text_circuit : Text → NamedCircuit
text_circuit (text d ds t e) = circuit_of (d ∷ ds) e

-- the meaning of a text over its names: over these inputs it gives these outputs, cycle for cycle
abbrev pub Means : Text → (inputs outputs : List NamedValue) → Type 0
Means t inputs outputs = (after : NamedCircuit) × Rules.GivesSeq (names_of t) (text_circuit t) inputs outputs after

-- 1. The meaning is unique for every text.
abbrev pub OneMeaning : Type 0
OneMeaning = (t : Text) (inputs outputs others : List NamedValue) → Means t inputs outputs → Means t inputs others → outputs ≡ others

-- 2. "a run of the sheet puts out, cycle for cycle, what the text means over its names" (docs/SHEETS.md, "The sheet of a text"):
-- whatever a well-formed call on the sheet of a text gave by the contract, its outputs are the meaning's for the stimulus, both read as
-- values.
abbrev pub RunGivesMeaning : Type 0
RunGivesMeaning =
    (ts : List Token) (t : Text) → ReadsText ts t → AllPass (text_checks t)
    → (stim out next : List ℕ) (τ result : ℕ) (out' next' : List ℕ)
    → WellFormed (sheet_of_text t) stim out next τ → RunGiven (sheet_of_text t) stim out next result out' next'
    → Means t (map (value_of (declarations t) (input_type (sheet_of_text t))) (cycles (sheet_of_text t) stim))
    (map (value_of (declarations t) (type_at (sheet_of_text t) τ))
    (pieces (leaves (type_at (sheet_of_text t) τ)) (cycle_count (sheet_of_text t) stim) out'))

-- 3. The meaning exists for every text whose sheet is accepted and every list of well-formed inputs.
abbrev pub MeaningExists : Type 0
MeaningExists =
    (ts : List Token) (t : Text) → ReadsText ts t → AllPass (text_checks t)
    → (stim out next : List ℕ) (τ : ℕ) → WellFormed (sheet_of_text t) stim out next τ
    → (outputs : List NamedValue) × Means t (map (value_of (declarations t) (input_type (sheet_of_text t))) (cycles (sheet_of_text t) stim)) outputs

-- calls of the run in turn, each on the next sheet of the one before: from a sheet whose output type
-- is that of record τ, the stimuli, and what the output slices hold afterwards
pub data CallsInTurn (τ : ℕ) : (sheet : List ℕ) (stimuli outputs : List (List ℕ)) → Type 0 where
  no_call_left : {s : List ℕ} → CallsInTurn τ s [] []
  one_call : {s stim out next out' next' : List ℕ} {result : ℕ} {stims outs : List (List ℕ)}
      → WellFormed s stim out next τ → RunGiven s stim out next result out' next' → CallsInTurn τ next' stims outs
      → CallsInTurn τ s (stim ∷ stims) (out' ∷ outs)

-- 4. The meaning goes on: whatever any number of calls gave, the first on the sheet of a text and each
-- other on the next sheet of the one before, the outputs of all, end to end, are the meaning's for the
-- stimuli, end to end.
abbrev pub CallsGiveMeaning : Type 0
CallsGiveMeaning =
    (ts : List Token) (t : Text) → ReadsText ts t → AllPass (text_checks t)
    → (τ : ℕ) (stims outs : List (List ℕ)) → CallsInTurn τ (sheet_of_text t) stims outs
    → Means t (map (value_of (declarations t) (input_type (sheet_of_text t))) (cycles (sheet_of_text t) (end_to_end stims)))
    (map (value_of (declarations t) (type_at (sheet_of_text t) τ))
    (pieces (leaves (type_at (sheet_of_text t) τ)) (cycle_count (sheet_of_text t) (end_to_end stims)) (end_to_end outs)))

-- 5. Bytes of a type that the text names stand for values one to one.
abbrev pub ValuesOneToOne : Type 0
ValuesOneToOne =
    (t : Text) → AllPass (text_checks t)
    → (name u v : List ℕ) → OfType (type_meant (types_of t) name) u → OfType (type_meant (types_of t) name) v
    → value_of (declarations t) (type_meant (types_of t) name) u ≡ value_of (declarations t) (type_meant (types_of t) name) v → u ≡ v

pub record TextPromises : Type 0 where
  pub one_meaning : OneMeaning
  pub run_gives_meaning : RunGivesMeaning
  pub meaning_exists : MeaningExists
  pub calls_give_meaning : CallsGiveMeaning
  pub values_one_to_one : ValuesOneToOne
