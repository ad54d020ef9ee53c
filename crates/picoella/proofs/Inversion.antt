-- Typing read backwards: each form of expression and of pattern has one rule, so a derivation for it is that rule with
-- derivations for its parts. By the cases of the derivation.
-- Assumes nothing.
use mathlib.Core.List.{List, ◌∷◌}
use mathlib.Core.Path.{◌≡◌, refl}
use Rattle.picoella.specs.Language.{
  Ty,
  Flat,
  TyTuple,
  OfType,
  Pattern,
  Whole,
  Constructor,
  Parts,
  Bar,
  HasType,
  p_whole,
  p_constructor,
  p_parts,
  p_bar,
  Expr,
  Const,
  Var,
  Tuple,
  Index1,
  Index2,
  Let,
  LetRec,
  If,
  Delay,
  Named,
  Typed,
  t_const,
  t_var,
  t_tuple,
  t_index1,
  t_index2,
  t_let,
  t_letrec,
  t_if,
  t_delay,
}

-- what a derivation for this pattern is made of
abbrev pub PatternPremises : Pattern → Ty → Type 0
PatternPremises (Whole σ) τ = τ ≡ σ
PatternPremises (Constructor r n k) τ = τ ≡ Flat r n
PatternPremises (Parts p q) τ = (σ : Ty) × (ρ : Ty) × (τ ≡ TyTuple σ ρ) × HasType p σ × HasType q ρ
PatternPremises (Bar p q) τ = HasType p τ × HasType q τ

pub pattern-premises : {p : Pattern} {τ : Ty} → HasType p τ → PatternPremises p τ
pattern-premises p_whole = refl
pattern-premises p_constructor = refl
pattern-premises (p_parts {σ = σ} {τ = τ} d f) = (σ, τ, refl, d, f)
pattern-premises (p_bar d f) = (d, f)

-- what a derivation for this expression is made of
abbrev pub Premises : (Ty → Type 0) → List Ty → Expr → Ty → Type 0
Premises D Γ (Const σ v) τ = (τ ≡ σ) × OfType σ v
Premises D Γ (Var n) τ = Named Γ n τ
Premises D Γ (Tuple e f) τ =
    (σ : Ty) × (ρ : Ty) × (τ ≡ TyTuple σ ρ) × Typed D Γ e σ × Typed D Γ f ρ × D (TyTuple σ ρ)
Premises D Γ (Index1 e) τ = (ρ : Ty) × Typed D Γ e (TyTuple τ ρ)
Premises D Γ (Index2 e) τ = (σ : Ty) × Typed D Γ e (TyTuple σ τ)
Premises D Γ (Let e f) τ = (σ : Ty) × Typed D Γ e σ × Typed D (σ ∷ Γ) f τ
Premises D Γ (LetRec σ e f) τ = Typed D (σ ∷ Γ) e σ × Typed D (σ ∷ Γ) f τ
Premises D Γ (If e p f g) τ = (σ : Ty) × Typed D Γ e σ × HasType p σ × Typed D Γ f τ × Typed D Γ g τ
Premises D Γ (Delay places σ v e) τ = (τ ≡ σ) × OfType σ v × Typed D Γ e σ

pub premises : {D : Ty → Type 0} {Γ : List Ty} {e : Expr} {τ : Ty} → Typed D Γ e τ → Premises D Γ e τ
premises (t_const v) = (refl, v)
premises (t_var n) = n
premises (t_tuple {σ = σ} {τ = τ} d f h) = (σ, τ, refl, d, f, h)
premises (t_index1 {τ = τ} d) = (τ, d)
premises (t_index2 {σ = σ} d) = (σ, d)
premises (t_let {σ = σ} d f) = (σ, d, f)
premises (t_letrec d f) = (d, f)
premises (t_if {σ = σ} d h f g) = (σ, d, h, f, g)
premises (t_delay v d) = (refl, v, d)
