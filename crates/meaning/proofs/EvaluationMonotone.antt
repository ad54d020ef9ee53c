-- Evaluation is monotone in the environment, under every lawful rule for an undecided IF: the order of evaluation of two terms
-- under two rules, at one term and one rule. That evaluation keeps types is the diagonal in the environment too.
-- Assumes nothing.
use Prim.Native.Nat.{ℕ}
use mathlib.Core.List.{List}
use Rattle.picoella.specs.Language.{Ty, bounds, OfType}
use Rattle.meaning.specs.Values.{
  Both,
  ValuesOf,
  no_values,
  more_values,
  BothValues,
  both_no_values,
  both_more_values,
}
use Rattle.meaning.specs.Elaboration.{Term, Elaborated}
use Rattle.meaning.specs.RuleLaws.{Lawful}
use Rattle.meaning.specs.Evaluation.{eval}
use Rattle.meaning.proofs.Order.{both-lower, both_refl}
use Rattle.meaning.proofs.EvaluationOrdered.{ordered-refl, rule-below-itself, eval-ordered}

pub values-refl : {Γ : List Ty} {ρ : List (List ℕ)} → ValuesOf Γ ρ → BothValues Γ ρ ρ
values-refl no_values = both_no_values
values-refl (more_values h r) = both_more_values (both_refl h) (values-refl r)

module _ (undecided : List ℕ → List ℕ → List ℕ) (law : Lawful undecided) (Declared : Ty → Type 0) where
  pub eval-monotone
      : {Γ : List Ty} {t : Term} {τ : Ty} {ρ π : List (List ℕ)}
      → Elaborated Declared Γ t τ → BothValues Γ ρ π → Both (bounds τ) (eval undecided ρ t) (eval undecided π t)
  eval-monotone t r = eval-ordered undecided undecided law (rule-below-itself law) Declared (ordered-refl t) r

  pub eval-typed
      : {Γ : List Ty} {t : Term} {τ : Ty} {ρ : List (List ℕ)}
      → Elaborated Declared Γ t τ → ValuesOf Γ ρ → OfType τ (eval undecided ρ t)
  eval-typed t r = both-lower (eval-monotone t (values-refl r))
