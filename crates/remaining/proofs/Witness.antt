-- Bench sheets, by computation. What the functions ask is not contradictory: the AND of two bits on 2
-- and undefined meets it, and so does a sheet of pairs.
-- Assumes nothing.
use Prim.Native.Nat.{ℕ, ◌-◌}
use mathlib.Core.Path.{◌≡◌, refl}
use mathlib.Core.List.{List, [], ◌∷◌, ◌++◌}
use mathlib.Core.Option.{none}
use native.Mathlib.Omega.{arith}
use lib.ListN.{length, get_or, take, drop, replicate}
use Rattle.picoella.specs.Language.{bounds, OfType}
use Rattle.records.specs.Words.{word, word_a, word_b, count}
use Rattle.records.specs.Kinds.{row_of, kind_of, ask_of, expression, ExpressionKind, constant, name, tuple, first, second, let_in, if_matches}
use Rattle.records.specs.Says.{well_said, namings, kind_at}
use Rattle.records.specs.Trees.{type_within, type_at, pair_of, chain_within, chain, alternatives_within, alternatives, tree_within, tree_at, circuit}
use Rattle.structure.specs.Rules.{ancestry_within, ancestry, depth, nesting, wrong_length, wrong_header, wrong_record, wrong_naming, wrong_type, too_deep, Passes}
use Rattle.answers.specs.Answers.{lowest}
use Rattle.verdict.specs.Verdict.{by_types, by_records, verdict}
use Rattle.verdict.specs.Scopes.{Scope, inputs, if_tested, if_then, let_defining, tuple_first, tuple_second}
use Rattle.answers.specs.Answers.{Accepted}
use Rattle.accepted.specs.Accepting.{Accepting}
use Rattle.accepted.proofs.Small.{accepted-passes, accepted-records}
use Rattle.accepted.proofs.Requirements as Requirements
use Rattle.accepted.proofs.PairWitness as PairWitness
use Rattle.stimulus.specs.Stimulus.{input_type, wrong_stimulus, wrong_byte}
use Rattle.stimulus.specs.OneCycle.{not_one_cycle}
use Rattle.stimulus.proofs.OneCycle.{one-cycle-typed}
use Rattle.meaning.specs.Undecided.{undecided_rule}
use Rattle.meaning.specs.Evaluation.{eval}
use Rattle.behaviour.specs.Terms.{circuit_term}
use Rattle.behaviour.specs.Cycle.{output_by}
use Rattle.behaviour.specs.Bench.{gate_and}
use Rattle.values.specs.Slots.{entered}
use Rattle.evaluator.proofs.Frames.{zeros-long}
use Rattle.possibilities.specs.Sets.{ConstructorSet, set_words}
use Rattle.possibilities.specs.SetEvaluation.{eval_sets}
use Rattle.possible.specs.Possible.{possible_sets, possible_counts, past_sets, possible_answer, final_counts}
use Rattle.possible.proofs.WithoutFeedback.{flat-few}
use Rattle.sets.specs.SetMatchings.{FlatFitting}
use Rattle.estimator.specs.Estimating.{EstimatingIn, SetsFilling}
use Rattle.estimator.proofs.SetParts.{set-room-ready}
use Rattle.remaining.specs.Remaining.{Counting, InputSets, input_sets}
use Rattle.remaining.specs.Promises.{PossibleBench}
use Rattle.remaining.proofs.Inputs.{input-filling, starting, root-sets-ready}

pub possible-bench : PossibleBench
unfolding possible_answer final_counts possible_counts possible_sets past_sets eval_sets not_one_cycle wrong_length wrong_header wrong_record wrong_naming wrong_type too_deep depth nesting ancestry ancestry_within circuit tree_at tree_within alternatives alternatives_within chain chain_within pair_of type_at type_within namings well_said ask_of kind_of row_of word count wrong_stimulus wrong_byte eval undecided_rule circuit_term output_by
possible-bench = (refl, refl, refl, refl, refl, refl, refl, refl, refl, refl, refl, refl)

-- the words of the sets that an input begins with, in room of 64
abbrev input_words : (s input : List ℕ) → List ℕ
input_words s input = take (length input - 0) (set_words (input_sets s input) ++ drop (length input - 0) (replicate 64 0))

-- an accepted sheet
module _ (s : List ℕ) {t : ℕ} (v : verdict s ≡ Accepted t) where
  passes : Passes s
  passes = accepted-passes v

  abbrev table : List ℕ
  table = (Requirements.widths passes (accepted-records s v)).0

  accepting : Accepting s (count s) table
  accepting =
      record {
        sized = Requirements.sized passes (accepted-records s v);
        type = t;
        accepted = v;
        table = (Requirements.widths passes (accepted-records s v)).1;
      }

  -- an expression of this kind is ready to be estimated
  abbrev EstimatedOf : ExpressionKind → Type 0
  EstimatedOf k =
      (env : List ℕ) × (names : ℕ) × (rec : ℕ) × (lent : List ℕ)
      × ((Γ : List ℕ) × (ρ : List (List ConstructorSet)) × EstimatingIn s (count s) table env names rec lent Γ ρ)
      × (kind_at s rec ≡ expression k)

  module _ {env : List ℕ} {names rec : ℕ} {lent Γ : List ℕ} {ρ : List (List ConstructorSet)}
      (r : EstimatingIn s (count s) table env names rec lent Γ ρ) where
    ready_of : (k : ExpressionKind) → kind_at s rec ≡ expression k → EstimatedOf k
    ready_of k e = (env, names, rec, lent, (Γ, ρ, r), e)

    ready-part : {x : ℕ} → Scope s x Γ → EstimatingIn s (count s) table env names x (take (get_or table x 0 - 0) (replicate 64 0)) Γ ρ
    ready-part c = set-room-ready r c refl refl

  -- with one cycle of input
  module _ {input out : List ℕ} (g : Counting s (count s) table input out) where
    root-ready : EstimatingIn s (count s) table (entered 0 (input_words s input) (replicate 4096 0)) 1 (word s 0 3) out (inputs s) (input_sets s input ∷ [])
    root-ready = root-sets-ready g {R = replicate 64 0} refl {o = set_words (input_sets s input)} refl (replicate 4096 0) (zeros-long 4096) refl refl

    -- an IF that tests a name and has a constant for its then branch
    branches : (kind_at s (word s 0 3) ≡ expression if_matches) → (kind_at s (word_a s (word s 0 3)) ≡ expression name)
        → (kind_at s (word_b s (word s 0 3)) ≡ expression constant) → EstimatedOf if_matches × EstimatedOf name × EstimatedOf constant
    branches e f c =
        let r = root-ready in (
          ready_of r if_matches e,
          ready_of (ready-part r (if_tested e r.at_hand.scope)) name f,
          ready_of (ready-part r (if_then e r.at_hand.scope)) constant c,
        )

    -- a LET of a pair of a first and a second part
    parts : (kind_at s (word s 0 3) ≡ expression let_in) → (kind_at s (word_a s (word s 0 3)) ≡ expression tuple)
        → (kind_at s (word_a s (word_a s (word s 0 3))) ≡ expression first) → (kind_at s (word_b s (word_a s (word s 0 3))) ≡ expression second)
        → EstimatedOf let_in × EstimatedOf tuple × EstimatedOf first × EstimatedOf second
    parts e f a b =
        let r = root-ready in
        let d = ready-part r (let_defining e r.at_hand.scope) in (
          ready_of r let_in e,
          ready_of d tuple f,
          ready_of (ready-part d (tuple_first f d.at_hand.scope)) first a,
          ready_of (ready-part d (tuple_second f d.at_hand.scope)) second b,
        )

-- the AND
and-accepted : verdict gate_and ≡ Accepted 1
unfolding verdict by_records by_types wrong_length wrong_header wrong_record wrong_naming wrong_type too_deep depth nesting ancestry ancestry_within circuit tree_at tree_within alternatives alternatives_within chain chain_within pair_of type_at type_within namings well_said ask_of kind_of row_of word count
and-accepted = refl

and-free : lowest (past_sets gate_and) (count gate_and) ≡ none
unfolding past_sets kind_of row_of word count
and-free = refl

and-typed : OfType (input_type gate_and) (2 ∷ 0 ∷ [])
unfolding not_one_cycle wrong_stimulus wrong_byte type_at type_within kind_of row_of word
and-typed = one-cycle-typed gate_and (2 ∷ 0 ∷ []) (refl, (refl, tt))

abbrev and_table : List ℕ
and_table = table gate_and and-accepted

and-counting : Counting gate_and (count gate_and) and_table (2 ∷ 0 ∷ []) (9 ∷ [])
unfolding type_at type_within kind_of row_of word
and-counting =
    record {
      accepting = accepting gate_and and-accepted;
      type = 1;
      accepted = and-accepted;
      for_sets = and-free;
      typed = and-typed;
      room = refl;
    }

and-starting : InputSets gate_and (count gate_and) and_table (2 ∷ 0 ∷ []) (0 ∷ 0 ∷ [])
and-starting = starting and-counting (0 ∷ 0 ∷ []) refl

and-filling : SetsFilling (take (2 - 0) (bounds (type_at gate_and (word gate_and 0 2)) ++ drop (2 - 0) (replicate 64 0))) (2 ∷ 0 ∷ []) (0 ∷ 0 ∷ [])
and-filling = input-filling and-starting {R = replicate 64 0} refl refl refl

and-flat : FlatFitting gate_and (count gate_and) 10 1
unfolding count word kind_of row_of alternatives alternatives_within type_at type_within
and-flat =
    record {
      against = record {
        sized = Requirements.sized (accepted-passes and-accepted) (accepted-records gate_and and-accepted);
        passes = accepted-passes and-accepted;
        there = omega arith;
        sort = refl;
        typed = record { past = omega arith; there = omega arith; sort = refl };
      };
      flat_kind = refl;
      fits = refl;
      few = flat-few gate_and and-free;
    }

and-branches : EstimatedOf gate_and and-accepted if_matches × EstimatedOf gate_and and-accepted name × EstimatedOf gate_and and-accepted constant
unfolding word kind_of row_of
and-branches = branches gate_and and-accepted and-counting refl refl refl

-- the sheet of pairs
abbrev pairs : List ℕ
pairs = PairWitness.sheet

pairs-free : lowest (past_sets pairs) (count pairs) ≡ none
unfolding past_sets kind_of row_of word count
pairs-free = refl

pairs-typed : OfType (input_type pairs) (1 ∷ 2 ∷ [])
unfolding not_one_cycle wrong_stimulus wrong_byte type_at type_within kind_of row_of word
pairs-typed = one-cycle-typed pairs (1 ∷ 2 ∷ []) (refl, (refl, tt))

pairs-counting : Counting pairs (count pairs) (table pairs PairWitness.accepted) (1 ∷ 2 ∷ []) (9 ∷ 9 ∷ [])
unfolding type_at type_within kind_of row_of word
pairs-counting =
    record {
      accepting = accepting pairs PairWitness.accepted;
      type = 3;
      accepted = PairWitness.accepted;
      for_sets = pairs-free;
      typed = pairs-typed;
      room = refl;
    }

pairs-parts : EstimatedOf pairs PairWitness.accepted let_in × EstimatedOf pairs PairWitness.accepted tuple
    × EstimatedOf pairs PairWitness.accepted first × EstimatedOf pairs PairWitness.accepted second
unfolding word kind_of row_of
pairs-parts = parts pairs PairWitness.accepted pairs-counting refl refl refl refl
