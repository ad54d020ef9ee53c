-- The static semantics of a text over its names, one constructor a rule: a type is the name that a
-- declaration gives it, an environment lists the names in scope with their types, and the nearest
-- is meant. A name that is not in scope is a constructor.
use Rattle.std.specs.Prelude.{ℕ, ◌≡◌, true, cond, List, [], ◌∷◌}
use Rattle.std.proofs.Math.Option.{Option, none, some}
use Rattle.grammar.specs.Source.{identifier, Declaration, Constructors, PairOf, SourceConstant, SourcePattern, Alone, PatternPair, Either, Text, text}
use Rattle.grammar.specs.Source.{
  Expression,
  NameUse,
  UndefinedOf,
  PairExpression,
  FirstOf,
  SecondOf,
  LetExpression,
  LetRecExpression,
  IfExpression,
  DelayExpression,
}
use Rattle.name_rules.specs.Declared.{same_name, input, is_declared, type_role, constructor_role, at_first}
use Rattle.name_rules.specs.Constants.{letters, type_of_constructor, constant_type}
use Rattle.name_rules.specs.Names.{after_all}
use Rattle.text_passes.specs.RefusedTypes.{declaration_at}

pub data TypedName : Type 0 where
  typed_name : (letters type : List ℕ) → TypedName

-- "A nearer name hides a farther one"
abbrev pub nearest_type : List TypedName → List ℕ → Option (List ℕ)
nearest_type [] w = none
nearest_type (typed_name v t ∷ Γ) w = cond (same_name w v) (some t) (nearest_type Γ w)

-- t is declared as a pair type of u and v
pub data PairDeclared : List Declaration → (t u v : List ℕ) → Type 0 where
  declared_here : {t u v : List ℕ} {p q r : ℕ} {ds : List Declaration}
      → PairDeclared (PairOf (identifier t p) (identifier u q) (identifier v r) ∷ ds) t u v
  declared_later : {t u v : List ℕ} {d : Declaration} {ds : List Declaration} → PairDeclared ds t u v → PairDeclared (d ∷ ds) t u v

module _ (ds : List Declaration) where
  -- a pattern of a type: a whole type's name, a constructor of it, patterns of its parts, one
  -- pattern or another
  pub data PatternTyped : SourcePattern → List ℕ → Type 0 where
    whole_name_typed : {t : List ℕ} {p : ℕ} → is_declared type_role t (after_all at_first ds) ≡ true → PatternTyped (Alone (identifier t p)) t
    one_typed : {w t : List ℕ} {p : ℕ}
        → is_declared constructor_role w (after_all at_first ds) ≡ true → type_of_constructor ds w ≡ some t → PatternTyped (Alone (identifier w p)) t
    parts_typed : {t u v : List ℕ} {m n : SourcePattern}
        → PairDeclared ds t u v → PatternTyped m u → PatternTyped n v → PatternTyped (PatternPair m n) t
    either_typed : {t : List ℕ} {m n : SourcePattern} → PatternTyped m t → PatternTyped n t → PatternTyped (Either m n) t

  pub data NameTyped : List TypedName → Expression → List ℕ → Type 0 where
    bound_typed : {Γ : List TypedName} {w t : List ℕ} {p : ℕ} → nearest_type Γ w ≡ some t → NameTyped Γ (NameUse (identifier w p)) t
    made_typed : {Γ : List TypedName} {w t : List ℕ} {p : ℕ}
        → nearest_type Γ w ≡ none → is_declared constructor_role w (after_all at_first ds) ≡ true → type_of_constructor ds w ≡ some t
        → NameTyped Γ (NameUse (identifier w p)) t
    unknown_typed : {Γ : List TypedName} {t : List ℕ} {p : ℕ} → NameTyped Γ (UndefinedOf (identifier t p)) t
    couple_typed : {Γ : List TypedName} {t u v : List ℕ} {e f : Expression}
        → NameTyped Γ e u → NameTyped Γ f v → PairDeclared ds t u v → NameTyped Γ (PairExpression e f) t
    first_part_typed : {Γ : List TypedName} {t u v : List ℕ} {e : Expression} → NameTyped Γ e t → PairDeclared ds t u v → NameTyped Γ (FirstOf e) u
    second_part_typed : {Γ : List TypedName} {t u v : List ℕ} {e : Expression} → NameTyped Γ e t → PairDeclared ds t u v → NameTyped Γ (SecondOf e) v
    let_typed : {Γ : List TypedName} {t u w : List ℕ} {p : ℕ} {e f : Expression}
        → NameTyped Γ e u → NameTyped (typed_name w u ∷ Γ) f t → NameTyped Γ (LetExpression (identifier w p) e f) t
    rec_typed : {Γ : List TypedName} {t u w : List ℕ} {p q : ℕ} {e f : Expression}
        → NameTyped (typed_name w u ∷ Γ) e u → NameTyped (typed_name w u ∷ Γ) f t
        → NameTyped Γ (LetRecExpression (identifier u q) (identifier w p) e f) t
    if_typed : {Γ : List TypedName} {t u : List ℕ} {m : SourcePattern} {e f g : Expression}
        → NameTyped Γ e u → PatternTyped m u → NameTyped Γ f t → NameTyped Γ g t → NameTyped Γ (IfExpression e m f g) t
    delay_typed : {Γ : List TypedName} {t : List ℕ} {c : SourceConstant} {e : Expression}
        → constant_type ds c ≡ some t → NameTyped Γ e t → NameTyped Γ (DelayExpression c e) t

-- the name of the type that a declaration declares
abbrev pub type_name_of : Declaration → List ℕ
type_name_of (Constructors t c cs) = letters t
type_name_of (PairOf t a b) = letters t

-- a text's expression has, over its names, the type that declaration number τ declares; `input` has
-- the type that the text says
pub data NameTypedText : Text → ℕ → Type 0 where
  name_typed_text : {d c : Declaration} {ds : List Declaration} {t : List ℕ} {p τ : ℕ} {e : Expression}
      → declaration_at (d ∷ ds) τ ≡ some c → NameTyped (d ∷ ds) (typed_name input t ∷ []) e (type_name_of c)
      → NameTypedText (text d ds (identifier t p) e) τ
