-- A well-typed feedback, whatever values of their types the names around it hold: the chain from undefined rises, stands still
-- after at most as many applications as the type has leaves, and ends at the least value that the defining part gives back
-- unchanged; the count of the applications that reach it, and the equations of 000's `iterate`.
-- Assumes nothing.
use Prim.Native.Nat.{ℕ, suc, ◌≤◌, ◌<◌}
use native.Mathlib.Omega.{arith}
use mathlib.Core.Path.{◌≡◌, sym, ap, ◌∙◌}
use mathlib.Core.Logic.{◌⊎◌, inl, inr, ◌≢◌}
use mathlib.Core.List.{List, ◌∷◌}
use Rattle.picoella.specs.Language.{Ty, bounds, leaves, OfType}
use Rattle.meaning.specs.Values.{undefined, Both, ValuesOf, both_more_values}
use Rattle.meaning.proofs.Order.{zeros}
use Rattle.meaning.specs.Elaboration.{Term, Elaborated}
use Rattle.meaning.specs.RuleLaws.{Lawful}
use Rattle.meaning.specs.Evaluation.{iter, application, iterate, settled, applications}
use Rattle.meaning.proofs.Order.{
  both-lower,
  both-upper,
  both_refl,
  value-length,
  zeros-length,
  undefined-typed,
  undefined-below,
}
use Rattle.meaning.proofs.EvaluationMonotone.{values-refl, eval-monotone}
use Rattle.meaning.proofs.FixedPoint.{
  same-or-fewer,
  iter-inside,
  iter-fixed,
  iter-stays,
  chain-rises,
  chain-stable,
  chain-least,
  counted-most,
  counted-reaches,
  counted-changes,
}

module _
    {undecided : List ℕ → List ℕ → List ℕ}
    (law : Lawful undecided)
    {Declared : Ty → Type 0}
    {Γ : List Ty}
    {ρ : List (List ℕ)}
    {σ : Ty}
    {t : Term}
    (typed : Elaborated Declared (σ ∷ Γ) t σ)
    (env : ValuesOf Γ ρ)
  where
    -- one application is monotone and keeps the type
    pub application-monotone
        : (v w : List ℕ) → Both (bounds σ) v w → Both (bounds σ) (application undecided ρ t v) (application undecided ρ t w)
    application-monotone v w r = eval-monotone undecided law Declared typed (both_more_values r (values-refl env))

    pub application-typed : {v : List ℕ} → OfType σ v → OfType σ (application undecided ρ t v)
    application-typed h = both-upper (application-monotone _ _ (both_refl h))

    pub undefined-rises : Both (bounds σ) (undefined σ) (application undecided ρ t (undefined σ))
    undefined-rises =
        undefined-below σ (application-typed (undefined-typed σ))

    -- a value of the type has no more undefined leaves than the type has leaves
    zeros-most : {v : List ℕ} → OfType σ v → zeros v ≤ leaves σ
    zeros-most {v} h = omega (arith, zeros-length v, value-length σ h)

    pub feedback-rises
        : (k : ℕ)
        → Both (bounds σ) (iter (application undecided ρ t) k (undefined σ))
        (iter (application undecided ρ t) (suc k) (undefined σ))
    feedback-rises k = chain-rises _ application-monotone k undefined-rises

    pub iterate_fixed
        : {v : List ℕ} → Both (bounds σ) v (application undecided ρ t v)
        → application undecided ρ t (iterate undecided ρ σ t v) ≡ iterate undecided ρ σ t v
    iterate_fixed r = chain-stable _ application-monotone (leaves σ) r (zeros-most (both-lower r))

    pub feedback-typed : OfType σ (settled undecided ρ σ t)
    feedback-typed = both-lower (feedback-rises (leaves σ))

    pub feedback-fixed : application undecided ρ t (settled undecided ρ σ t) ≡ settled undecided ρ σ t
    feedback-fixed = iterate_fixed undefined-rises

    pub feedback-stable : (k : ℕ) → leaves σ ≤ k → iter (application undecided ρ t) k (undefined σ) ≡ settled undecided ρ σ t
    feedback-stable k h = iter-stays (application undecided ρ t) (leaves σ) (undefined σ) feedback-fixed k h

    pub feedback_least
        : {w : List ℕ} → OfType σ w → application undecided ρ t w ≡ w → Both (bounds σ) (settled undecided ρ σ t) w
    feedback_least h p = chain-least _ application-monotone (leaves σ) (undefined-below σ h) p

    -- the count of docs/SHEETS.md, "After a run"
    pub applications-most : applications undecided ρ σ t ≤ leaves σ
    applications-most = counted-most _ (leaves σ) (undefined σ)

    pub applications-reach
        : iter (application undecided ρ t) (applications undecided ρ σ t) (undefined σ) ≡ settled undecided ρ σ t
    applications-reach = counted-reaches _ (leaves σ) (undefined σ)

    pub applications-fewest
        : (j : ℕ) → j < applications undecided ρ σ t
        → iter (application undecided ρ t) j (undefined σ) ≢ settled undecided ρ σ t
    applications-fewest j h p =
        counted-changes _ (leaves σ) (undefined σ) j h (ap (application undecided ρ t) p ∙ feedback-fixed ∙ sym p)

    -- the equations of `iterate`: unchanged, and again
    pub iterate-unchanged : {v : List ℕ} → application undecided ρ t v ≡ v → iterate undecided ρ σ t v ≡ v
    iterate-unchanged p = iter-fixed (application undecided ρ t) (leaves σ) p

    pub iterate-again
        : {v : List ℕ} → Both (bounds σ) v (application undecided ρ t v)
        → iterate undecided ρ σ t v ≡ iterate undecided ρ σ t (application undecided ρ t v)
    iterate-again {v} r = sym (iter-inside (application undecided ρ t) (leaves σ) v ∙ iterate_fixed r)

    -- an application that changes the value leaves fewer undefined leaves
    pub application-falls
        : {v : List ℕ} → Both (bounds σ) v (application undecided ρ t v) → application undecided ρ t v ≢ v
        → zeros (application undecided ρ t v) < zeros v
    application-falls {v} r differs = go (same-or-fewer r)
      where
        go
            : (v ≡ application undecided ρ t v) ⊎ (zeros (application undecided ρ t v) < zeros v)
            → zeros (application undecided ρ t v) < zeros v
        go (inl p) = absurd (differs (sym p))
        go (inr h) = h
