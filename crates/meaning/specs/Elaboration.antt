-- Elaborated expressions: an expression of the language whose first and second parts say the type of the first part of what
-- they take apart, so that flat leaves can be cut (docs/SHEETS.md: a value is its leaves; 000 cuts a pair by its constructor).
-- Erasure takes that type away again. The typing is that of the language (000, §3.3.2), one constructor a form; every
-- well-typed expression has exactly one elaboration. `on_delays` says which parts of a delay may differ: its annotation, on
-- which no meaning depends, and the value it holds, which alone changes from cycle to cycle.
use Rattle.std.specs.Prelude.{ℕ, List, [], ◌∷◌}
use Rattle.picoella.specs.Language.{Ty, TyTuple, OfType, Pattern, HasType, Expr, Const, Var, Tuple, Index1, Index2, Let, LetRec, If, Delay, Named}

pub data Term : Type 0 where
  Constant : Ty → List ℕ → Term
  Name : ℕ → Term
  Pair : Term → Term → Term
  First : (first : Ty) → Term → Term
  Second : (first : Ty) → Term → Term
  LetIn : Term → Term → Term
  Feedback : Ty → Term → Term → Term
  IfThenElse : Term → Pattern → Term → Term → Term
  Delayed : (places : List ℕ) → Ty → List ℕ → Term → Term

abbrev pub erase : Term → Expr
erase (Constant τ v) = Const τ v
erase (Name n) = Var n
erase (Pair t s) = Tuple (erase t) (erase s)
erase (First σ t) = Index1 (erase t)
erase (Second σ t) = Index2 (erase t)
erase (LetIn t s) = Let (erase t) (erase s)
erase (Feedback τ t s) = LetRec τ (erase t) (erase s)
erase (IfThenElse t p s r) = If (erase t) p (erase s) (erase r)
erase (Delayed places τ v t) = Delay places τ v (erase t)

pub data Elaborated (Declared : Ty → Type 0) : List Ty → Term → Ty → Type 0 where
  e_constant : {Γ : List Ty} {τ : Ty} {v : List ℕ} → OfType τ v → Elaborated Declared Γ (Constant τ v) τ
  e_name : {Γ : List Ty} {τ : Ty} {n : ℕ} → Named Γ n τ → Elaborated Declared Γ (Name n) τ
  e_pair : {Γ : List Ty} {σ τ : Ty} {t s : Term}
      → Elaborated Declared Γ t σ → Elaborated Declared Γ s τ → Declared (TyTuple σ τ)
      → Elaborated Declared Γ (Pair t s) (TyTuple σ τ)
  e_first : {Γ : List Ty} {σ τ : Ty} {t : Term}
      → Elaborated Declared Γ t (TyTuple σ τ) → Elaborated Declared Γ (First σ t) σ
  e_second : {Γ : List Ty} {σ τ : Ty} {t : Term}
      → Elaborated Declared Γ t (TyTuple σ τ) → Elaborated Declared Γ (Second σ t) τ
  e_let : {Γ : List Ty} {σ τ : Ty} {t s : Term}
      → Elaborated Declared Γ t σ → Elaborated Declared (σ ∷ Γ) s τ → Elaborated Declared Γ (LetIn t s) τ
  e_feedback : {Γ : List Ty} {σ τ : Ty} {t s : Term}
      → Elaborated Declared (σ ∷ Γ) t σ → Elaborated Declared (σ ∷ Γ) s τ → Elaborated Declared Γ (Feedback σ t s) τ
  e_if : {Γ : List Ty} {σ τ : Ty} {t s r : Term} {p : Pattern}
      → Elaborated Declared Γ t σ → HasType p σ → Elaborated Declared Γ s τ → Elaborated Declared Γ r τ
      → Elaborated Declared Γ (IfThenElse t p s r) τ
  e_delay : {Γ : List Ty} {τ : Ty} {places v : List ℕ} {t : Term}
      → OfType τ v → Elaborated Declared Γ t τ → Elaborated Declared Γ (Delayed places τ v t) τ

-- a term with the places and the value of each delay changed by two functions
abbrev pub on_delays : (places value : List ℕ → List ℕ) → Term → Term
on_delays f g (Constant τ v) = Constant τ v
on_delays f g (Name n) = Name n
on_delays f g (Pair t s) = Pair (on_delays f g t) (on_delays f g s)
on_delays f g (First σ t) = First σ (on_delays f g t)
on_delays f g (Second σ t) = Second σ (on_delays f g t)
on_delays f g (LetIn t s) = LetIn (on_delays f g t) (on_delays f g s)
on_delays f g (Feedback τ t s) = Feedback τ (on_delays f g t) (on_delays f g s)
on_delays f g (IfThenElse t p s r) = IfThenElse (on_delays f g t) p (on_delays f g s) (on_delays f g r)
on_delays f g (Delayed places τ v t) = Delayed (f places) τ (g v) (on_delays f g t)

-- a term with other places on its delays
abbrev pub moved : (List ℕ → List ℕ) → Term → Term
moved places t = on_delays places (λ v. v) t

-- what is left of a term without the values that its delays hold: two terms alike here differ in delay values alone
abbrev pub frame : Term → Term
frame t = on_delays (λ places. places) (λ v. []) t
