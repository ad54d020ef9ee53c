-- The names that a text declares before its expression (docs/SHEETS.md, "Names"): "Type names, constructor names and `input` are all
-- different, and each is declared once. No LET takes one of them."
use Rattle.std.specs.Prelude.{ℕ, Bool, true, false, cond, List, [], ◌∷◌, eqb}

-- what a declared name stands for
pub data Role : Type 0 where
  a_type a_constructor the_input : Role

pub data DeclaredName : Type 0 where
  declared_as : (letters : List ℕ) → Role → DeclaredName

abbrev pub same_name : List ℕ → List ℕ → Bool
same_name [] [] = true
same_name [] (c ∷ w) = false
same_name (b ∷ v) [] = false
same_name (b ∷ v) (c ∷ w) = cond (eqb b c) (same_name v w) false

abbrev pub is_among : List ℕ → List (List ℕ) → Bool
is_among w [] = false
is_among w (v ∷ more) = cond (same_name w v) true (is_among w more)

-- `input` names the stimulus
abbrev pub input : List ℕ
input = 105 ∷ 110 ∷ 112 ∷ 117 ∷ 116 ∷ []

abbrev pub at_first : List DeclaredName
at_first = declared_as input the_input ∷ []

abbrev pub is_taken : List ℕ → List DeclaredName → Bool
is_taken w [] = false
is_taken w (declared_as v s ∷ more) = cond (same_name w v) true (is_taken w more)

-- declared in one of some roles
abbrev pub is_declared : (Role → Bool) → List ℕ → List DeclaredName → Bool
is_declared roles w [] = false
is_declared roles w (declared_as v s ∷ more) = cond (same_name w v) (roles s) (is_declared roles w more)

abbrev pub type_role : Role → Bool
type_role a_type = true
type_role a_constructor = false
type_role the_input = false

abbrev pub constructor_role : Role → Bool
constructor_role a_type = false
constructor_role a_constructor = true
constructor_role the_input = false

-- in a pattern: a type or a constructor
abbrev pub pattern_roles : Role → Bool
pattern_roles a_type = true
pattern_roles a_constructor = true
pattern_roles the_input = false

-- in an expression: a constructor or `input`, beside the names that LETs bind
abbrev pub value_roles : Role → Bool
value_roles a_type = false
value_roles a_constructor = true
value_roles the_input = true
