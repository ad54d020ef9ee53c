-- The language picoELLA on an abstract tree: types, patterns, expressions, and the static semantics. Nothing here knows of bytes or
-- records beyond the numbers that flat types, constructor patterns and delays carry.
use Rattle.std.specs.Prelude.{ℕ, ◌+◌, ◌≤◌, zero, suc, List, [], ◌∷◌, ◌++◌}

-- Types of picoELLA (000, §4.2.1: `tpe`), with what docs/SHEETS.md adds: a flat type carries its record's number and the number
-- of its constructors. Two flat types are the same only as the same record, so equality of trees is that of records: no two
-- pair types of a sheet have the same two parts.

pub data Ty : Type 0 where
  Flat : (number constructors : ℕ) → Ty
  TyTuple : Ty → Ty → Ty

-- the leaves' constructor counts: one for a flat type, for a pair those of its first part and then those of its second
abbrev pub bounds : Ty → List ℕ
bounds (Flat r n) = n ∷ []
bounds (TyTuple σ τ) = bounds σ ++ bounds τ

-- the number of leaves
abbrev pub leaves : Ty → ℕ
leaves (Flat r n) = 1
leaves (TyTuple σ τ) = leaves σ + leaves τ

-- A value is its leaves. It is of a type when it has as many leaves as the type, each no greater than its flat type's count;
-- 0 is undefined.
pub data Within : List ℕ → List ℕ → Type 0 where
  within_none : Within [] []
  within_leaf : {n v : ℕ} {ns vs : List ℕ} → v ≤ n → Within ns vs → Within (n ∷ ns) (v ∷ vs)

abbrev pub OfType : Ty → List ℕ → Type 0
OfType τ v = Within (bounds τ) v

-- Patterns (000, §4.2.2: `chooser`): a whole type, one constructor of a flat type, a pair of patterns, one pattern or another.
-- A constructor pattern carries its flat type's record and count.

pub data Pattern : Type 0 where
  Whole : Ty → Pattern
  Constructor : (number constructors constructor : ℕ) → Pattern
  Parts : Pattern → Pattern → Pattern
  Bar : Pattern → Pattern → Pattern

-- the static semantics of patterns (000, rules 3.19 to 3.22)
pub data HasType : Pattern → Ty → Type 0 where
  p_whole : {τ : Ty} → HasType (Whole τ) τ
  p_constructor : {r n k : ℕ} → HasType (Constructor r n k) (Flat r n)
  p_parts : {p q : Pattern} {σ τ : Ty} → HasType p σ → HasType q τ → HasType (Parts p q) (TyTuple σ τ)
  p_bar : {p q : Pattern} {τ : Ty} → HasType p τ → HasType q τ → HasType (Bar p q) τ

-- Expressions (000, §4.2.2: `expr`), with names by distance, 0 the innermost. First and second part are bare, as in 000: they
-- do not say the type of what they take apart. A constant is its type and its leaves. A feedback carries its type alone: its
-- initial value is always undefined.
-- A delay alone is annotated: by the places of its leaves where it was decoded from a sheet, by nothing where it comes from
-- elsewhere. No meaning depends on the annotation.

pub data Expr : Type 0 where
  Const : Ty → List ℕ → Expr
  Var : ℕ → Expr
  Tuple : Expr → Expr → Expr
  Index1 : Expr → Expr
  Index2 : Expr → Expr
  Let : Expr → Expr → Expr
  LetRec : Ty → Expr → Expr → Expr
  If : Expr → Pattern → Expr → Expr → Expr
  Delay : (places : List ℕ) → Ty → List ℕ → Expr → Expr

-- The static semantics of expressions (000, §3.3.2 rules 3.9 to 3.19, §4.2.3 `typeOfExpr`), one constructor a rule, with the
-- premises that docs/SHEETS.md adds: the type of a pair is declared, and a constant's constructors are at most
-- their type's count. `Declared` says which types are; a context lists the types of the names in scope, the innermost first.

-- the name at this distance has this type (000: `elem`)
pub data Named : List Ty → ℕ → Ty → Type 0 where
  here : {Γ : List Ty} {τ : Ty} → Named (τ ∷ Γ) zero τ
  there : {Γ : List Ty} {σ τ : Ty} {n : ℕ} → Named Γ n τ → Named (σ ∷ Γ) (suc n) τ

pub data Typed (Declared : Ty → Type 0) : List Ty → Expr → Ty → Type 0 where
  t_const : {Γ : List Ty} {τ : Ty} {v : List ℕ} → OfType τ v → Typed Declared Γ (Const τ v) τ
  t_var : {Γ : List Ty} {τ : Ty} {n : ℕ} → Named Γ n τ → Typed Declared Γ (Var n) τ
  t_tuple : {Γ : List Ty} {σ τ : Ty} {e f : Expr}
      → Typed Declared Γ e σ → Typed Declared Γ f τ → Declared (TyTuple σ τ) → Typed Declared Γ (Tuple e f) (TyTuple σ τ)
  t_index1 : {Γ : List Ty} {σ τ : Ty} {e : Expr} → Typed Declared Γ e (TyTuple σ τ) → Typed Declared Γ (Index1 e) σ
  t_index2 : {Γ : List Ty} {σ τ : Ty} {e : Expr} → Typed Declared Γ e (TyTuple σ τ) → Typed Declared Γ (Index2 e) τ
  t_let : {Γ : List Ty} {σ τ : Ty} {e f : Expr}
      → Typed Declared Γ e σ → Typed Declared (σ ∷ Γ) f τ → Typed Declared Γ (Let e f) τ
  t_letrec : {Γ : List Ty} {σ τ : Ty} {e f : Expr}
      → Typed Declared (σ ∷ Γ) e σ → Typed Declared (σ ∷ Γ) f τ → Typed Declared Γ (LetRec σ e f) τ
  t_if : {Γ : List Ty} {σ τ : Ty} {e f g : Expr} {p : Pattern}
      → Typed Declared Γ e σ → HasType p σ → Typed Declared Γ f τ → Typed Declared Γ g τ → Typed Declared Γ (If e p f g) τ
  t_delay : {Γ : List Ty} {τ : Ty} {places v : List ℕ} {e : Expr}
      → OfType τ v → Typed Declared Γ e τ → Typed Declared Γ (Delay places τ v e) τ
