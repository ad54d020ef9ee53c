-- Chains of first and second parts: the value of `e[1][2]..` is a part of the value of `e`, from some leaf on.
use Rattle.std.specs.Prelude.{ℕ, ◌+◌, ◌≤◌, ◌≡◌, Bool, List, length, get_or, take, drop}
use Rattle.verdict.specs.Scopes.{Scope}
use Rattle.meaning.specs.Undecided.{undecided_rule}
use Rattle.behaviour.specs.Evaluated.{value_at}
use Rattle.behaviour.specs.Midway.{stored_at, fired_at}
use Rattle.values.specs.Slots.{frames}
use Rattle.evaluator.specs.Evaluating.{EvaluatingIn, EvaluatedIn}

-- the leaves of the value at record rec from `from` on are those of the value at record `end` from `to` on; what the two enter in
-- the tables is the same
pub record ChainIn (s widths Γ : List ℕ) (ρ : List (List ℕ)) (rec from end to : ℕ) : Type 0 where
  pub higher : rec ≤ end
  pub scope : Scope s end Γ
  pub inside : (m : ℕ) → from + m ≤ get_or widths rec 0 → to + m ≤ get_or widths end 0
  pub stands : (m : ℕ) → from + m ≤ get_or widths rec 0
      → take m (drop from (value_at undecided_rule s Γ ρ rec)) ≡ take m (drop to (value_at undecided_rule s Γ ρ end))
  pub stored : (h : List ℕ) → stored_at undecided_rule s Γ ρ rec h ≡ stored_at undecided_rule s Γ ρ end h
  pub noted : (f : List ℕ) → fired_at undecided_rule s Γ ρ rec f ≡ fired_at undecided_rule s Γ ρ end f

-- an expression is evaluated for a part of its value, from the leaf `from` on and as long as a slice
pub record PartEvaluatingIn (s : List ℕ) (n : ℕ) (widths env : List ℕ) (names rec from : ℕ) (out Γ : List ℕ) : Type 0 where
  pub value_room : List ℕ
  pub evaluating : EvaluatingIn s n widths env names rec value_room Γ
  pub fits : from + length out ≤ get_or widths rec 0

-- what comes of it
pub record PartEvaluatedIn
    (whole : Bool)
    (s Γ env : List ℕ)
    (names rec from : ℕ)
    (held fired out env' held' fired' out' : List ℕ)
    : Type 0
  where
    pub value : List ℕ
    pub evaluated : EvaluatedIn whole s Γ env names rec held fired env' held' fired' value
    pub part : out' ≡ take (length out) (drop from value)

-- The contracts: for every list of names in scope with which the call is ready.
pub record ChainEnded (s : List ℕ) (n : ℕ) (widths : List ℕ) (rec from end to : ℕ) : Type 0 where
  pub ended : (env : List ℕ) (names : ℕ) (out Γ : List ℕ) → EvaluatingIn s n widths env names rec out Γ
      → ChainIn s widths Γ (frames s Γ env) rec from end to

pub record PartEvaluated
    (whole : Bool)
    (s : List ℕ)
    (n : ℕ)
    (widths env : List ℕ)
    (names rec from : ℕ)
    (held fired out env' held' fired' out' : List ℕ)
    : Type 0
  where
    pub done : (Γ : List ℕ) → PartEvaluatingIn s n widths env names rec from out Γ
        → PartEvaluatedIn whole s Γ env names rec from held fired out env' held' fired' out'
