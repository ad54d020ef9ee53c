-- What sets are estimated from, and what comes of it. Γ lists the type records of the names in scope and ρ their sets, the innermost
-- first; the words of the sets stand in the slots of the environment, the outermost in the first.
use Rattle.std.specs.Prelude.{ℕ, ◌*◌, ◌≤◌, ◌<◌, ◌≡◌, List, [], ◌∷◌, map, length, get_or, take}
use Rattle.std.proofs.Math.Option.{none}
use Rattle.picoella.specs.Language.{Ty, leaves}
use Rattle.records.specs.Limits.{environment_bytes}
use Rattle.records.specs.Words.{count}
use Rattle.records.specs.Trees.{type_at, tree_at, alternatives}
use Rattle.answers.specs.Answers.{lowest}
use Rattle.behaviour.specs.Terms.{term}
use Rattle.values.specs.Slots.{frames}
use Rattle.evaluator.specs.Evaluating.{Ready}
use Rattle.possibilities.specs.Sets.{ConstructorSet, set_word, set_of, set_words}
use Rattle.possibilities.specs.SetEvaluation.{choose_sets, eval_sets}
use Rattle.possibilities.specs.SetMatching.{set_matches, pattern_type}
use Rattle.records.specs.Kinds.{Kind, expression, constant, delay}
use Rattle.records.specs.Decoding.{pattern_of}
use Rattle.possible.specs.Possible.{past_sets}

-- the sets of the expression at a record
unfoldable pub sets_at : (sheet Γ : List ℕ) (ρ : List (List ConstructorSet)) → ℕ → List ConstructorSet
sets_at s Γ ρ r = eval_sets ρ (term s Γ (tree_at s r))

-- as many sets as each name's type has leaves
pub data SetLengths : List Ty → List (List ConstructorSet) → Type 0 where
  no_lengths : SetLengths [] []
  more_lengths : {τ : Ty} {Γ : List Ty} {Ss : List ConstructorSet} {ρ : List (List ConstructorSet)}
      → length Ss ≡ leaves τ → SetLengths Γ ρ → SetLengths (τ ∷ Γ) (Ss ∷ ρ)

-- the sets of an expression at hand are estimated, in a sheet without feedback: the words of the names' sets stand in the environment
pub record EstimatingIn (s : List ℕ) (n : ℕ) (widths env : List ℕ) (names rec : ℕ) (out Γ : List ℕ) (ρ : List (List ConstructorSet)) : Type 0 where
  pub at_hand : Ready s n widths env names rec out Γ
  pub for_sets : lowest (past_sets s) (count s) ≡ none
  pub sets : frames s Γ env ≡ map set_words ρ
  pub lengths : SetLengths (map (type_at s) Γ) ρ

pub record EstimatedIn (s Γ : List ℕ) (ρ : List (List ConstructorSet)) (env : List ℕ) (names rec : ℕ) (env' out' : List ℕ) : Type 0 where
  pub value : out' ≡ set_words (sets_at s Γ ρ rec)
  pub wide : length env' ≡ environment_bytes
  pub kept : take (64 * names) env' ≡ take (64 * names) env

-- the contract: for every list of names in scope and sets with which the call is ready
pub record Estimated (s : List ℕ) (n : ℕ) (widths env : List ℕ) (names rec : ℕ) (out env' out' : List ℕ) : Type 0 where
  pub done : (Γ : List ℕ) (ρ : List (List ConstructorSet)) → EstimatingIn s n widths env names rec out Γ ρ → EstimatedIn s Γ ρ env names rec env' out'

-- the words of leaves, from their counts
abbrev pub leaf_words : (counts value : List ℕ) → List ℕ
leaf_words [] v = []
leaf_words (n ∷ ns) [] = []
leaf_words (n ∷ ns) (v ∷ vs) = set_word (set_of n v) ∷ leaf_words ns vs

-- a kind of record whose word b begins leaves
pub data HoldsLeaves : Kind → Type 0 where
  holds_constant : HoldsLeaves (expression constant)
  holds_delay : HoldsLeaves (expression delay)

-- leaves to be filled in, each at most its count, of which there are 1 to 64
pub record SetsFilling (counts value out : List ℕ) : Type 0 where
  pub as_many : length value ≡ length counts
  pub room : length out ≡ length counts
  pub few : length counts ≤ 64
  pub small : (i : ℕ) → i < length counts → (1 ≤ get_or counts i 0) × (get_or counts i 0 ≤ 64) × (get_or value i 0 ≤ get_or counts i 0)

-- the sets of an IF
pub record SetsChosen (s : List ℕ) (p : ℕ) (tested otherwise then chosen : List ℕ) : Type 0 where
  pub chosen_are : (Ss Ts Us : List ConstructorSet) → tested ≡ set_words Ss → then ≡ set_words Ts → otherwise ≡ set_words Us
      → chosen ≡ set_words (choose_sets (set_matches (pattern_type (pattern_of s (alternatives s p))) (pattern_of s (alternatives s p)) Ss) Ts Us)
