-- A circuit over names beside its form with distances: the names in scope, what a constant stands for, and what follows of a reduction.
-- Assumes nothing.
use Prim.Native.Nat.{ℕ, suc}
use mathlib.Core.Path.{◌≡◌}
use mathlib.Core.Bool.{true, false}
use mathlib.Core.List.{List, [], ◌∷◌}
use Rattle.picoella.specs.Language.{Ty, Pattern, Expr, Const, Var, Tuple, Index1, Index2, Let, LetRec, If, Delay, Typed}
use Rattle.grammar.specs.Source.{Declaration, SourcePattern}
use Rattle.name_rules.specs.Declared.{same_name, input, is_declared, constructor_role, at_first}
use Rattle.name_rules.specs.Checks.{AllPass}
use Rattle.name_rules.specs.Names.{after_all, pattern_checks}
use Rattle.meaning.specs.Constants.{ConstantTree, ConstantOf, flatten, bottom_of_type}
use Rattle.layout.specs.Distances.{pattern_meant}
use Rattle.text_meaning.specs.NamedValues.{NamedValue, Made}
use Rattle.text_meaning.specs.Circuits.{
  NamedCircuit,
  Uses,
  Always,
  Pairs,
  FirstPart,
  SecondPart,
  Binds,
  FeedsBack,
  Chooses,
  Delays,
}
use Rattle.text_meaning.specs.NamedRules.{Binding, binding, CircuitGives, ComesTo}
use Rattle.text_meaning.proofs.Naming.{name_tree, KnownType}

-- the names in scope, the nearest first, with their constants; the last is `input`
pub data Scoped (ds : List Declaration) : List (List ℕ) → List ConstantTree → List Binding → Type 0 where
  scoped-input : {c : ConstantTree} → Scoped ds [] (c ∷ []) (binding input (name_tree ds c) ∷ [])
  scoped-name : {w : List ℕ} {bound : List (List ℕ)} {c : ConstantTree} {l : List ConstantTree} {ρ : List Binding}
      → Scoped ds bound l ρ → Scoped ds (w ∷ bound) (c ∷ l) (binding w (name_tree ds c) ∷ ρ)

-- a name is in scope at this distance
pub data BoundAt : List (List ℕ) → List ℕ → ℕ → Type 0 where
  at-input : {w : List ℕ} → same_name w input ≡ true → BoundAt [] w 0
  at_here : {w v : List ℕ} {bound : List (List ℕ)} → same_name w v ≡ true → BoundAt (v ∷ bound) w 0
  at_there : {w v : List ℕ} {bound : List (List ℕ)} {k : ℕ} → same_name w v ≡ false → BoundAt bound w k → BoundAt (v ∷ bound) w (suc k)

-- a name is not in scope
pub data NotIn : List (List ℕ) → List ℕ → Type 0 where
  not-input : {w : List ℕ} → same_name w input ≡ false → NotIn [] w
  not-here : {w v : List ℕ} {bound : List (List ℕ)} → same_name w v ≡ false → NotIn bound w → NotIn (v ∷ bound) w

-- all constants of this type with these leaves have this value
pub record StandsFor (ds : List Declaration) (τ : Ty) (v : List ℕ) (x : NamedValue) : Type 0 where
  pub value : (c : ConstantTree) → ConstantOf τ c → flatten c ≡ v → name_tree ds c ≡ x
  pub known : KnownType ds τ

-- a circuit over names, and its form with distances
pub data Related (ds : List Declaration) : List (List ℕ) → Expr → NamedCircuit → Type 0 where
  related-name : {bound : List (List ℕ)} {w : List ℕ} {k : ℕ} → BoundAt bound w k → Related ds bound (Var k) (Uses w)
  related-constructor : {bound : List (List ℕ)} {w v : List ℕ} {τ : Ty}
      → NotIn bound w → is_declared constructor_role w (after_all at_first ds) ≡ true → StandsFor ds τ v (Made w)
      → Related ds bound (Const τ v) (Uses w)
  related-always : {bound : List (List ℕ)} {v : List ℕ} {τ : Ty} {x : NamedValue}
      → StandsFor ds τ v x → Related ds bound (Const τ v) (Always x)
  related-pair : {bound : List (List ℕ)} {e f : Expr} {c d : NamedCircuit}
      → Related ds bound e c → Related ds bound f d → Related ds bound (Tuple e f) (Pairs c d)
  related-first : {bound : List (List ℕ)} {e : Expr} {c : NamedCircuit} → Related ds bound e c → Related ds bound (Index1 e) (FirstPart c)
  related-second : {bound : List (List ℕ)} {e : Expr} {c : NamedCircuit} → Related ds bound e c → Related ds bound (Index2 e) (SecondPart c)
  related-let : {bound : List (List ℕ)} {w : List ℕ} {e f : Expr} {c d : NamedCircuit}
      → Related ds bound e c → Related ds (w ∷ bound) f d → Related ds bound (Let e f) (Binds w c d)
  related-feedback : {bound : List (List ℕ)} {w : List ℕ} {σ : Ty} {i : NamedValue} {e f : Expr} {c d : NamedCircuit}
      → KnownType ds σ → name_tree ds (bottom_of_type σ) ≡ i → Related ds (w ∷ bound) e c → Related ds (w ∷ bound) f d
      → Related ds bound (LetRec σ e f) (FeedsBack i w c d)
  related-if : {bound : List (List ℕ)} {m : SourcePattern} {p : Pattern} {e f g : Expr} {c d b : NamedCircuit}
      → p ≡ pattern_meant ds m → Related ds bound e c → AllPass (pattern_checks (after_all at_first ds) m) → Related ds bound f d → Related ds bound g b
      → Related ds bound (If e p f g) (Chooses c m d b)
  related-delay : {bound : List (List ℕ)} {places v : List ℕ} {τ : Ty} {x : NamedValue} {e : Expr} {c : NamedCircuit}
      → StandsFor ds τ v x → Related ds bound e c → Related ds bound (Delay places τ v e) (Delays x c)

-- the types of the names are known
pub data AllKnown (ds : List Declaration) : List Ty → Type 0 where
  none-known : AllKnown ds []
  one_known : {τ : Ty} {Γ : List Ty} → KnownType ds τ → AllKnown ds Γ → AllKnown ds (τ ∷ Γ)

-- what follows a reduction to a constant
pub record Followed
    (ds : List Declaration)
    (Declared : Ty → Type 0)
    (Γ : List Ty)
    (bound : List (List ℕ))
    (ρ : List Binding)
    (c : NamedCircuit)
    (τ : Ty)
    (k : ConstantTree)
    (f : Expr)
    : Type 0
  where
    pub of_type : ConstantOf τ k
    pub known : KnownType ds τ
    pub typed : Typed Declared Γ f τ
    pub after : NamedCircuit
    pub gives : CircuitGives (after_all at_first ds) ρ c (name_tree ds k) after
    pub related : Related ds bound f after

-- and an iteration
pub record FeedbackFollowed
    (ds : List Declaration)
    (Declared : Ty → Type 0)
    (Γ : List Ty)
    (bound : List (List ℕ))
    (ρ : List Binding)
    (w : List ℕ)
    (c : NamedCircuit)
    (σ : Ty)
    (j k : ConstantTree)
    (f : Expr)
    : Type 0
  where
    pub of_type : ConstantOf σ k
    pub typed : Typed Declared Γ f σ
    pub after : NamedCircuit
    pub comes : ComesTo (after_all at_first ds) ρ w c (name_tree ds j) (name_tree ds k) after
    pub related : Related ds bound f after
