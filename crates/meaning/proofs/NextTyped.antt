-- The term after a cycle: it has the type that the term had, and differs from it in delay values alone; so has and does the
-- term after a run, whose outputs are of the term's type.
-- Assumes nothing.
use Prim.Native.Nat.{ℕ}
use mathlib.Core.Path.{◌≡◌, refl, ap, ap₂, ◌∙◌}
use mathlib.Core.List.{List, [], ◌∷◌}
use Rattle.picoella.specs.Language.{Ty}
use Rattle.meaning.specs.Values.{ValuesOf, more_values, AllOf, all_none, all_more}
use Rattle.meaning.specs.Elaboration.{
  Term,
  Constant,
  Name,
  Pair,
  First,
  Second,
  LetIn,
  Feedback,
  IfThenElse,
  Delayed,
  Elaborated,
  e_constant,
  e_name,
  e_pair,
  e_first,
  e_second,
  e_let,
  e_feedback,
  e_if,
  e_delay,
  frame,
}
use Rattle.meaning.specs.RuleLaws.{Lawful}
use Rattle.meaning.specs.Evaluation.{eval, settled, next}
use Rattle.meaning.specs.Run.{outputs, after}
use Rattle.meaning.proofs.EvaluationMonotone.{eval-typed}
use Rattle.meaning.proofs.FeedbackLeast.{feedback-typed}

-- in any environment, for any rule and for ill-typed terms too
pub next-frame
    : (undecided : List ℕ → List ℕ → List ℕ) (ρ : List (List ℕ)) (t : Term) → frame (next undecided ρ t) ≡ frame t
unfolding next
next-frame u ρ (Constant τ v) = refl
next-frame u ρ (Name n) = refl
next-frame u ρ (Pair t s) = ap₂ Pair (next-frame u ρ t) (next-frame u ρ s)
next-frame u ρ (First σ t) = ap (First σ) (next-frame u ρ t)
next-frame u ρ (Second σ t) = ap (Second σ) (next-frame u ρ t)
next-frame u ρ (LetIn t s) = ap₂ LetIn (next-frame u ρ t) (next-frame u (eval u ρ t ∷ ρ) s)
next-frame u ρ (Feedback σ t s) =
    ap₂ (Feedback σ) (next-frame u (settled u ρ σ t ∷ ρ) t) (next-frame u (settled u ρ σ t ∷ ρ) s)
next-frame u ρ (IfThenElse t p s r) =
    λ i. IfThenElse (next-frame u ρ t i) p (next-frame u ρ s i) (next-frame u ρ r i)
next-frame u ρ (Delayed places τ v t) = ap (Delayed places τ []) (next-frame u ρ t)

pub After-frame
    : (undecided : List ℕ → List ℕ → List ℕ) (ρ : List (List ℕ)) (t : Term) (inputs : List (List ℕ))
    → frame (after undecided ρ t inputs) ≡ frame t
unfolding after
After-frame u ρ t [] = refl
After-frame u ρ t (v ∷ vs) = After-frame u ρ (next u (v ∷ ρ) t) vs ∙ next-frame u (v ∷ ρ) t

module _ {undecided : List ℕ → List ℕ → List ℕ} (law : Lawful undecided) {Declared : Ty → Type 0} where
  pub next_typed
      : {Γ : List Ty} {t : Term} {τ : Ty} {ρ : List (List ℕ)}
      → Elaborated Declared Γ t τ → ValuesOf Γ ρ → Elaborated Declared Γ (next undecided ρ t) τ
  unfolding next
  next_typed (e_constant h) r = e_constant h
  next_typed (e_name n) r = e_name n
  next_typed (e_pair t s d) r = e_pair (next_typed t r) (next_typed s r) d
  next_typed (e_first t) r = e_first (next_typed t r)
  next_typed (e_second t) r = e_second (next_typed t r)
  next_typed (e_let t s) r =
      e_let (next_typed t r) (next_typed s (more_values (eval-typed undecided law Declared t r) r))
  next_typed (e_feedback t s) r =
      e_feedback (next_typed t (more_values (feedback-typed law t r) r))
      (next_typed s (more_values (feedback-typed law t r) r))
  next_typed (e_if t p s e) r = e_if (next_typed t r) p (next_typed s r) (next_typed e r)
  next_typed (e_delay h t) r = e_delay (eval-typed undecided law Declared t r) (next_typed t r)

  -- a run, its inputs of the type of the innermost name
  pub outputs_typed
      : {Γ : List Ty} {t : Term} {σ τ : Ty} {ρ inputs : List (List ℕ)}
      → Elaborated Declared (σ ∷ Γ) t τ → ValuesOf Γ ρ → AllOf σ inputs → AllOf τ (outputs undecided ρ t inputs)
  unfolding outputs
  outputs_typed t r all_none = all_none
  outputs_typed {t = u} {ρ = ρ} t r (all_more {v = v} h k) =
      all_more (eval-typed undecided law Declared t (more_values h r))
      (outputs_typed {t = next undecided (v ∷ ρ) u} (next_typed t (more_values h r)) r k)

  pub after-typed
      : {Γ : List Ty} {t : Term} {σ τ : Ty} {ρ inputs : List (List ℕ)}
      → Elaborated Declared (σ ∷ Γ) t τ → ValuesOf Γ ρ → AllOf σ inputs
      → Elaborated Declared (σ ∷ Γ) (after undecided ρ t inputs) τ
  unfolding after
  after-typed t r all_none = t
  after-typed {t = u} {ρ = ρ} t r (all_more {v = v} h k) =
      after-typed {t = next undecided (v ∷ ρ) u} (next_typed t (more_values h r)) r k
