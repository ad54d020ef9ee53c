-- What evaluating a record gives, by its kind, from what evaluating its parts gives: a law a kind, for the value and for the table.
-- And the circuit's value and table are those of the root.
-- Assumes nothing.
use Prim.Native.Nat.{ℕ, ◌<◌}
use mathlib.Core.List.{List, [], ◌∷◌, ◌++◌}
use mathlib.Core.Path.{◌≡◌, refl, ◌∙◌}
use lib.ListN.{get_or, take, drop}
use Rattle.picoella.specs.Language.{leaves}
use Rattle.records.specs.Words.{count, word_a, word_b, word_c, word_d}
use Rattle.records.specs.Kinds.{expression, constant, name, tuple, first, second, let_in, feedback, if_matches, delay}
use Rattle.records.specs.Says.{kind_at}
use Rattle.records.specs.Trees.{type_at, chain, alternatives, tree_at, circuit, type_record_of}
use Rattle.records.specs.Decoding.{leaf_values, pattern_of}
use Rattle.records.specs.Written.{Written}
use Rattle.records.proofs.Trees.{tree-of}
use Rattle.verdict.specs.Scopes.{inputs}
use Rattle.meaning.specs.Undecided.{undecided_rule}
use Rattle.meaning.specs.Matching.{matches}
use Rattle.meaning.specs.Evaluation.{choose, eval, settled, next}
use Rattle.behaviour.specs.Terms.{term, circuit_term}
use Rattle.behaviour.specs.Delays.{entries, store}
use Rattle.behaviour.specs.Entries.{assigned, put_all, enter}
use Rattle.behaviour.specs.Cycle.{output_by}
use Rattle.behaviour.specs.Evaluated.{value_at}
use Rattle.behaviour.specs.Midway.{stored_at}
use Rattle.behaviour.proofs.Entries.{put-append}
use Rattle.behaviour.proofs.Stores.{store_both, store-delay}

-- the root
pub root-value : (s i : List ℕ) → output_by undecided_rule s i ≡ value_at undecided_rule s (inputs s) (i ∷ []) (word_b s 0)
unfolding output_by value_at circuit_term circuit
root-value s i = refl

pub root-stored : (s i h : List ℕ)
    → store (next undecided_rule (i ∷ []) (circuit_term s)) h ≡ stored_at undecided_rule s (inputs s) (i ∷ []) (word_b s 0) h
unfolding stored_at circuit_term circuit
root-stored s i h = refl

-- the value of a feedback's name
abbrev pub settled_at : (sheet Γ : List ℕ) (ρ : List (List ℕ)) → ℕ → List ℕ
settled_at s Γ ρ r = settled undecided_rule ρ (type_at s (word_a s r)) (term s (word_a s r ∷ Γ) (tree_at s (word_b s r)))

module _ {s : List ℕ} (w : Written s) (Γ : List ℕ) (ρ : List (List ℕ)) {r : ℕ} (b : r < count s) where
  pub constant-value : kind_at s r ≡ expression constant → value_at undecided_rule s Γ ρ r ≡ leaf_values s (chain s (word_b s r))
  unfolding value_at eval
  constant-value e = rw (tree-of w r b (expression constant) e)

  pub constant-stored : kind_at s r ≡ expression constant → (h : List ℕ) → stored_at undecided_rule s Γ ρ r h ≡ h
  unfolding stored_at next
  constant-stored e h = rw (tree-of w r b (expression constant) e)

  pub name-value : kind_at s r ≡ expression name → value_at undecided_rule s Γ ρ r ≡ get_or ρ (word_a s r) []
  unfolding value_at eval
  name-value e = rw (tree-of w r b (expression name) e)

  pub name-stored : kind_at s r ≡ expression name → (h : List ℕ) → stored_at undecided_rule s Γ ρ r h ≡ h
  unfolding stored_at next
  name-stored e h = rw (tree-of w r b (expression name) e)

  pub tuple-value : kind_at s r ≡ expression tuple
      → value_at undecided_rule s Γ ρ r ≡ value_at undecided_rule s Γ ρ (word_a s r) ++ value_at undecided_rule s Γ ρ (word_b s r)
  unfolding value_at eval
  tuple-value e = rw (tree-of w r b (expression tuple) e)

  pub tuple-stored : kind_at s r ≡ expression tuple → (h : List ℕ)
      → stored_at undecided_rule s Γ ρ r h ≡ stored_at undecided_rule s Γ ρ (word_b s r) (stored_at undecided_rule s Γ ρ (word_a s r) h)
  unfolding stored_at next
  tuple-stored e h =
      rw (tree-of w r b (expression tuple) e)
      (store_both (next undecided_rule ρ (term s Γ (tree_at s (word_a s r)))) (next undecided_rule ρ (term s Γ (tree_at s (word_b s r)))) h)

  pub first-value : kind_at s r ≡ expression first
      → value_at undecided_rule s Γ ρ r
      ≡ take (leaves (type_at s (word_a s (type_record_of s Γ (tree_at s (word_a s r)))))) (value_at undecided_rule s Γ ρ (word_a s r))
  unfolding value_at eval
  first-value e = rw (tree-of w r b (expression first) e)

  pub first-stored : kind_at s r ≡ expression first → (h : List ℕ)
      → stored_at undecided_rule s Γ ρ r h ≡ stored_at undecided_rule s Γ ρ (word_a s r) h
  unfolding stored_at next
  first-stored e h = rw (tree-of w r b (expression first) e)

  pub second-value : kind_at s r ≡ expression second
      → value_at undecided_rule s Γ ρ r
      ≡ drop (leaves (type_at s (word_a s (type_record_of s Γ (tree_at s (word_a s r)))))) (value_at undecided_rule s Γ ρ (word_a s r))
  unfolding value_at eval
  second-value e = rw (tree-of w r b (expression second) e)

  pub second-stored : kind_at s r ≡ expression second → (h : List ℕ)
      → stored_at undecided_rule s Γ ρ r h ≡ stored_at undecided_rule s Γ ρ (word_a s r) h
  unfolding stored_at next
  second-stored e h = rw (tree-of w r b (expression second) e)

  pub let-value : kind_at s r ≡ expression let_in
      → value_at undecided_rule s Γ ρ r
      ≡ value_at undecided_rule s (type_record_of s Γ (tree_at s (word_a s r)) ∷ Γ) (value_at undecided_rule s Γ ρ (word_a s r) ∷ ρ) (word_b s r)
  unfolding value_at eval
  let-value e = rw (tree-of w r b (expression let_in) e)

  pub let-stored : kind_at s r ≡ expression let_in → (h : List ℕ)
      → stored_at undecided_rule s Γ ρ r h
      ≡ stored_at undecided_rule s (type_record_of s Γ (tree_at s (word_a s r)) ∷ Γ) (value_at undecided_rule s Γ ρ (word_a s r) ∷ ρ) (word_b s r)
      (stored_at undecided_rule s Γ ρ (word_a s r) h)
  unfolding stored_at value_at next
  let-stored e h =
      rw (tree-of w r b (expression let_in) e)
      (put-append enter (entries (next undecided_rule ρ (term s Γ (tree_at s (word_a s r))))) _ h)

  pub feedback-value : kind_at s r ≡ expression feedback
      → value_at undecided_rule s Γ ρ r ≡ value_at undecided_rule s (word_a s r ∷ Γ) (settled_at s Γ ρ r ∷ ρ) (word_c s r)
  unfolding value_at eval
  feedback-value e = rw (tree-of w r b (expression feedback) e)

  pub feedback-stored : kind_at s r ≡ expression feedback → (h : List ℕ)
      → stored_at undecided_rule s Γ ρ r h
      ≡ stored_at undecided_rule s (word_a s r ∷ Γ) (settled_at s Γ ρ r ∷ ρ) (word_c s r)
      (stored_at undecided_rule s (word_a s r ∷ Γ) (settled_at s Γ ρ r ∷ ρ) (word_b s r) h)
  unfolding stored_at next
  feedback-stored e h =
      rw (tree-of w r b (expression feedback) e)
      (put-append enter (entries (next undecided_rule (settled_at s Γ ρ r ∷ ρ) (term s (word_a s r ∷ Γ) (tree_at s (word_b s r))))) _ h)

  pub if_value : kind_at s r ≡ expression if_matches
      → value_at undecided_rule s Γ ρ r
      ≡ choose undecided_rule (matches (pattern_of s (alternatives s (word_d s r))) (value_at undecided_rule s Γ ρ (word_a s r)))
      (value_at undecided_rule s Γ ρ (word_b s r)) (value_at undecided_rule s Γ ρ (word_c s r))
  unfolding value_at eval
  if_value e = rw (tree-of w r b (expression if_matches) e)

  pub if-stored : kind_at s r ≡ expression if_matches → (h : List ℕ)
      → stored_at undecided_rule s Γ ρ r h
      ≡ stored_at undecided_rule s Γ ρ (word_c s r) (stored_at undecided_rule s Γ ρ (word_b s r) (stored_at undecided_rule s Γ ρ (word_a s r) h))
  unfolding stored_at next
  if-stored e h =
      let ta = next undecided_rule ρ (term s Γ (tree_at s (word_a s r))) in
      let tb = next undecided_rule ρ (term s Γ (tree_at s (word_b s r))) in
      let tc = next undecided_rule ρ (term s Γ (tree_at s (word_c s r))) in
      rw (tree-of w r b (expression if_matches) e)
      (put-append enter (entries ta) (entries tb ++ entries tc) h ∙ store_both tb tc (store ta h))

  pub delay-value : kind_at s r ≡ expression delay → value_at undecided_rule s Γ ρ r ≡ leaf_values s (chain s (word_b s r))
  unfolding value_at eval
  delay-value e = rw (tree-of w r b (expression delay) e)

  pub delay-stored : kind_at s r ≡ expression delay → (h : List ℕ)
      → stored_at undecided_rule s Γ ρ r h
      ≡ put_all enter (assigned (chain s (word_b s r)) (value_at undecided_rule s Γ ρ (word_c s r))) (stored_at undecided_rule s Γ ρ (word_c s r) h)
  unfolding stored_at value_at next
  delay-stored e h =
      rw (tree-of w r b (expression delay) e)
      (store-delay (next undecided_rule ρ (term s Γ (tree_at s (word_c s r)))) (chain s (word_b s r))
      (eval undecided_rule ρ (term s Γ (tree_at s (word_c s r)))) h)
