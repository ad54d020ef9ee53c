-- The order of values carried to rules, to terms and to runs: of two rules for an undecided IF the first gives at or below what
-- the second gives; of two terms, alike but for the values that their delays hold, each delay of the first holds a value at or
-- below that of the second; and so two lists of values of one type, as the inputs and the outputs of two runs.
use Rattle.std.specs.Prelude.{ℕ, List, [], ◌∷◌}
use Rattle.picoella.specs.Language.{Ty, TyTuple, bounds, Within, OfType, Pattern, HasType, Named}
use Rattle.meaning.specs.Values.{Both}
use Rattle.meaning.specs.Elaboration.{
  Term,
  Constant,
  Name,
  Pair,
  First,
  Second,
  LetIn,
  Feedback,
  IfThenElse,
  Delayed,
}

-- one rule is at or below another: on the same two branches it gives a value at or below the other's
pub record RuleBelow (rule other : List ℕ → List ℕ → List ℕ) : Type 0 where
  pub gives_below : {b v w : List ℕ} → Within b v → Within b w → Both b (rule v w) (other v w)

-- two terms of one type, alike but for what their delays hold: each of the first at or below that of the second
pub data Ordered (Declared : Ty → Type 0) : List Ty → Term → Term → Ty → Type 0 where
  o_constant : {Γ : List Ty} {τ : Ty} {v : List ℕ} → OfType τ v → Ordered Declared Γ (Constant τ v) (Constant τ v) τ
  o_name : {Γ : List Ty} {τ : Ty} {n : ℕ} → Named Γ n τ → Ordered Declared Γ (Name n) (Name n) τ
  o_pair : {Γ : List Ty} {σ τ : Ty} {t s t' s' : Term}
      → Ordered Declared Γ t t' σ → Ordered Declared Γ s s' τ → Declared (TyTuple σ τ)
      → Ordered Declared Γ (Pair t s) (Pair t' s') (TyTuple σ τ)
  o_first : {Γ : List Ty} {σ τ : Ty} {t t' : Term}
      → Ordered Declared Γ t t' (TyTuple σ τ) → Ordered Declared Γ (First σ t) (First σ t') σ
  o_second : {Γ : List Ty} {σ τ : Ty} {t t' : Term}
      → Ordered Declared Γ t t' (TyTuple σ τ) → Ordered Declared Γ (Second σ t) (Second σ t') τ
  o_let : {Γ : List Ty} {σ τ : Ty} {t s t' s' : Term}
      → Ordered Declared Γ t t' σ → Ordered Declared (σ ∷ Γ) s s' τ → Ordered Declared Γ (LetIn t s) (LetIn t' s') τ
  o_feedback : {Γ : List Ty} {σ τ : Ty} {t s t' s' : Term}
      → Ordered Declared (σ ∷ Γ) t t' σ → Ordered Declared (σ ∷ Γ) s s' τ
      → Ordered Declared Γ (Feedback σ t s) (Feedback σ t' s') τ
  o_if : {Γ : List Ty} {σ τ : Ty} {t s r t' s' r' : Term} {p : Pattern}
      → Ordered Declared Γ t t' σ → HasType p σ → Ordered Declared Γ s s' τ → Ordered Declared Γ r r' τ
      → Ordered Declared Γ (IfThenElse t p s r) (IfThenElse t' p s' r') τ
  o_delay : {Γ : List Ty} {τ : Ty} {places v w : List ℕ} {t t' : Term}
      → Both (bounds τ) v w → Ordered Declared Γ t t' τ → Ordered Declared Γ (Delayed places τ v t) (Delayed places τ w t') τ

-- two lists of values of one type, as long, each of the first at or below that of the second
pub data AllBoth : Ty → List (List ℕ) → List (List ℕ) → Type 0 where
  both_all_none : {τ : Ty} → AllBoth τ [] []
  both_all_more : {τ : Ty} {v w : List ℕ} {vs ws : List (List ℕ)}
      → Both (bounds τ) v w → AllBoth τ vs ws → AllBoth τ (v ∷ vs) (w ∷ ws)
