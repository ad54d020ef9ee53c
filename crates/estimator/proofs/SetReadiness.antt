-- What is known of an expression whose sets are estimated, beside what is known of every expression at hand.
-- Assumes nothing.
use Prim.Native.Nat.{ℕ, ◌*◌}
use mathlib.Core.List.{List, map}
use mathlib.Core.Path.{◌≡◌, sym, ◌∙◌}
use lib.ListN.{length, get_or, take, length-map}
use Rattle.records.specs.Trees.{type_at}
use Rattle.verdict.specs.Scopes.{Scope}
use Rattle.values.specs.Slots.{frames}
use Rattle.evaluator.proofs.Readiness.{ready_at, elaborated, entry-is, same-frames}
use Rattle.possibilities.specs.Sets.{ConstructorSet, set_word, set_words}
use Rattle.possible.proofs.WithoutFeedback.{flat-few}
use Rattle.sets.specs.SetMatchings.{FewConstructors}
use Rattle.estimator.specs.Estimating.{EstimatingIn, sets_at, SetLengths}
use Rattle.estimator.proofs.SetsAt.{words_at, sets-length}

module _ {s : List ℕ} {n : ℕ} {W env : List ℕ} {names rec : ℕ} {out Γ : List ℕ} {ρ : List (List ConstructorSet)}
    (r : EstimatingIn s n W env names rec out Γ ρ) where
  pub few-for-sets : FewConstructors s
  few-for-sets = flat-few s r.for_sets

  module _ {x : ℕ} {Δ : List ℕ} (c : Scope s x Δ) {π : List (List ConstructorSet)} (l : SetLengths (map (type_at s) Δ) π) where
    pub sets-long : length (words_at s Δ π x) ≡ get_or W x 0
    unfolding sets_at
    sets-long = length-map (sets_at s Δ π x) set_word ∙ sets-length (elaborated r.at_hand c) l ∙ sym (entry-is r.at_hand c)

    pub estimating-at : (env' : List ℕ) (names' : ℕ) (out' : List ℕ) → length Δ ≡ names' → length env' ≡ 4096
        → length out' ≡ get_or W x 0 → frames s Δ env' ≡ map set_words π → EstimatingIn s n W env' names' x out' Δ π
    estimating-at env' names' out' many wide room sets =
        record {
          at_hand = ready_at r.at_hand c env' names' out' many wide room;
          for_sets = r.for_sets;
          sets = sets;
          lengths = l;
        }

  pub sets-again : (env' : List ℕ) → take (64 * names) env' ≡ take (64 * names) env → frames s Γ env' ≡ map set_words ρ
  sets-again env' kept = same-frames r.at_hand env' kept ∙ r.sets
