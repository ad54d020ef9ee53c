-- Which alternative fired, by the kind of a record, from what its parts enter: a law a kind.
-- Assumes nothing.
use Prim.Native.Nat.{ℕ, ◌<◌}
use mathlib.Core.List.{List, ◌∷◌}
use mathlib.Core.Path.{◌≡◌, refl, ◌∙◌}
use lib.ListN.{length, set, length-set}
use Rattle.records.specs.Words.{count, word_a, word_b, word_c, word_d}
use Rattle.records.specs.Kinds.{
  expression,
  constant,
  name,
  tuple,
  first,
  second,
  let_in,
  feedback,
  if_matches,
  delay,
}
use Rattle.records.specs.Says.{kind_at}
use Rattle.records.specs.Trees.{alternatives, tree_at, type_record_of}
use Rattle.records.specs.Written.{Written}
use Rattle.records.proofs.Trees.{tree-of}
use Rattle.meaning.specs.Undecided.{undecided_rule}
use Rattle.behaviour.specs.Entries.{enter}
use Rattle.behaviour.specs.Evaluated.{value_at}
use Rattle.behaviour.specs.Firing.{first_yes, firings}
use Rattle.behaviour.specs.Midway.{fired_at}
use Rattle.behaviour.proofs.Entries.{put-append, put-leaves}
use Rattle.behaviour.proofs.Evaluated.{settled_at}

pub fired-long : (s Γ : List ℕ) (ρ : List (List ℕ)) (r : ℕ) (f : List ℕ) → length (fired_at undecided_rule s Γ ρ r f) ≡ length f
unfolding fired_at
fired-long s Γ ρ r f = put-leaves enter length (firings undecided_rule s Γ ρ (tree_at s r)) (λ l m v a. length-set a l v) f

module _ {s : List ℕ} (w : Written s) (Γ : List ℕ) (ρ : List (List ℕ)) {r : ℕ} (b : r < count s) where
  pub constant-fired : kind_at s r ≡ expression constant → (f : List ℕ) → fired_at undecided_rule s Γ ρ r f ≡ f
  unfolding fired_at
  constant-fired e f = rw (tree-of w r b (expression constant) e) refl

  pub name-fired : kind_at s r ≡ expression name → (f : List ℕ) → fired_at undecided_rule s Γ ρ r f ≡ f
  unfolding fired_at
  name-fired e f = rw (tree-of w r b (expression name) e) refl

  pub tuple-fired : kind_at s r ≡ expression tuple → (f : List ℕ)
      → fired_at undecided_rule s Γ ρ r f ≡ fired_at undecided_rule s Γ ρ (word_b s r) (fired_at undecided_rule s Γ ρ (word_a s r) f)
  unfolding fired_at
  tuple-fired e f =
      rw (tree-of w r b (expression tuple) e) (put-append enter (firings undecided_rule s Γ ρ (tree_at s (word_a s r))) _ f)

  pub first-fired : kind_at s r ≡ expression first → (f : List ℕ) → fired_at undecided_rule s Γ ρ r f ≡ fired_at undecided_rule s Γ ρ (word_a s r) f
  unfolding fired_at
  first-fired e f = rw (tree-of w r b (expression first) e) refl

  pub second-fired : kind_at s r ≡ expression second → (f : List ℕ)
      → fired_at undecided_rule s Γ ρ r f ≡ fired_at undecided_rule s Γ ρ (word_a s r) f
  unfolding fired_at
  second-fired e f = rw (tree-of w r b (expression second) e) refl

  pub let-fired : kind_at s r ≡ expression let_in → (f : List ℕ)
      → fired_at undecided_rule s Γ ρ r f
      ≡ fired_at undecided_rule s (type_record_of s Γ (tree_at s (word_a s r)) ∷ Γ) (value_at undecided_rule s Γ ρ (word_a s r) ∷ ρ) (word_b s r)
      (fired_at undecided_rule s Γ ρ (word_a s r) f)
  unfolding fired_at value_at
  let-fired e f =
      rw (tree-of w r b (expression let_in) e) (put-append enter (firings undecided_rule s Γ ρ (tree_at s (word_a s r))) _ f)

  pub feedback-fired : kind_at s r ≡ expression feedback → (f : List ℕ)
      → fired_at undecided_rule s Γ ρ r f
      ≡ fired_at undecided_rule s (word_a s r ∷ Γ) (settled_at s Γ ρ r ∷ ρ) (word_c s r)
      (fired_at undecided_rule s (word_a s r ∷ Γ) (settled_at s Γ ρ r ∷ ρ) (word_b s r) f)
  unfolding fired_at
  feedback-fired e f =
      rw (tree-of w r b (expression feedback) e)
      (put-append enter (firings undecided_rule s (word_a s r ∷ Γ) (settled_at s Γ ρ r ∷ ρ) (tree_at s (word_b s r))) _ f)

  pub if-fired : kind_at s r ≡ expression if_matches → (f : List ℕ)
      → fired_at undecided_rule s Γ ρ r f
      ≡ set (fired_at undecided_rule s Γ ρ (word_c s r) (fired_at undecided_rule s Γ ρ (word_b s r) (fired_at undecided_rule s Γ ρ (word_a s r) f))) r
      (first_yes s (alternatives s (word_d s r)) (value_at undecided_rule s Γ ρ (word_a s r)))
  unfolding fired_at value_at
  if-fired e f =
      rw (tree-of w r b (expression if_matches) e)
      (put-append enter (firings undecided_rule s Γ ρ (tree_at s (word_a s r))) _ f
      ∙ put-append enter (firings undecided_rule s Γ ρ (tree_at s (word_b s r))) _ _
      ∙ put-append enter (firings undecided_rule s Γ ρ (tree_at s (word_c s r))) _ _)

  pub delay-fired : kind_at s r ≡ expression delay → (f : List ℕ) → fired_at undecided_rule s Γ ρ r f ≡ fired_at undecided_rule s Γ ρ (word_c s r) f
  unfolding fired_at
  delay-fired e f = rw (tree-of w r b (expression delay) e) refl
