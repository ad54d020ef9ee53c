-- The checks on the names of a text, one for each name, declaring and using alike, in text order.
use Rattle.std.specs.Prelude.{ℕ, Bool, true, cond, not, List, [], ◌∷◌, ◌++◌}
use Rattle.grammar.specs.Source.{Identifier, identifier, Declaration, Constructors, PairOf, SourceConstant, OfConstructor, Undefined, ConstantPair}
use Rattle.grammar.specs.Source.{SourcePattern, Alone, PatternPair, Either, Text, text}
use Rattle.grammar.specs.Source.{Expression, NameUse, UndefinedOf, PairExpression, FirstOf, SecondOf, LetExpression, LetRecExpression, IfExpression, DelayExpression}
use Rattle.name_rules.specs.Declared.{Role, a_type, a_constructor, DeclaredName, declared_as, is_among, at_first, is_taken, is_declared}
use Rattle.name_rules.specs.Declared.{type_role, constructor_role, pattern_roles, value_roles}
use Rattle.name_rules.specs.Checks.{PlacedCheck, check_at}
use Rattle.name_rules.specs.Constants.{constants_of_text}

-- a name that is declared here is new
abbrev pub is_new : List DeclaredName → Identifier → PlacedCheck
is_new D (identifier w p) = check_at p (not (is_taken w D))

-- a name that is used here is declared in one of some roles
abbrev pub is_one : (Role → Bool) → List DeclaredName → Identifier → PlacedCheck
is_one roles D (identifier w p) = check_at p (is_declared roles w D)

abbrev pub add : Role → Identifier → List DeclaredName → List DeclaredName
add s (identifier w p) D = declared_as w s ∷ D

-- constructors, each declared by its place
abbrev pub constructor_checks : List DeclaredName → List Identifier → List PlacedCheck
constructor_checks D [] = []
constructor_checks D (n ∷ ns) = is_new D n ∷ constructor_checks (add a_constructor n D) ns

abbrev pub add_all : List Identifier → List DeclaredName → List DeclaredName
add_all [] D = D
add_all (n ∷ ns) D = add_all ns (add a_constructor n D)

-- a type's name is taken from its place on, and is a type from its IN on: the second c of TYPE c = (a, c) IN is bad
abbrev pub declaration_checks : List DeclaredName → Declaration → List PlacedCheck
declaration_checks D (Constructors t c cs) = is_new D t ∷ constructor_checks (add a_type t D) (c ∷ cs)
declaration_checks D (PairOf t a b) = is_new D t ∷ is_one type_role D a ∷ is_one type_role D b ∷ []

abbrev pub after_declaration : List DeclaredName → Declaration → List DeclaredName
after_declaration D (Constructors t c cs) = add_all (c ∷ cs) (add a_type t D)
after_declaration D (PairOf t a b) = add a_type t D

abbrev pub declarations_checks : List DeclaredName → List Declaration → List PlacedCheck
declarations_checks D [] = []
declarations_checks D (d ∷ ds) = declaration_checks D d ++ declarations_checks (after_declaration D d) ds

abbrev pub after_all : List DeclaredName → List Declaration → List DeclaredName
after_all D [] = D
after_all D (d ∷ ds) = after_all (after_declaration D d) ds

abbrev pub pattern_checks : List DeclaredName → SourcePattern → List PlacedCheck
pattern_checks D (Alone n) = is_one pattern_roles D n ∷ []
pattern_checks D (PatternPair m n) = pattern_checks D m ++ pattern_checks D n
pattern_checks D (Either m n) = pattern_checks D m ++ pattern_checks D n

abbrev pub constant_names : List DeclaredName → SourceConstant → List PlacedCheck
constant_names D (OfConstructor n) = is_one constructor_role D n ∷ []
constant_names D (Undefined t) = is_one type_role D t ∷ []
constant_names D (ConstantPair p c d) = constant_names D c ++ constant_names D d

-- a name in an expression: bound by a LET around it, or declared as a value
abbrev pub is_value : List DeclaredName → List (List ℕ) → Identifier → PlacedCheck
is_value D bound (identifier w p) = check_at p (cond (is_among w bound) true (is_declared value_roles w D))

abbrev pub bind : Identifier → List (List ℕ) → List (List ℕ)
bind (identifier w p) bound = w ∷ bound

-- "A nearer name hides a farther one"; a LET's name is known in its second part, a LET REC's in both
abbrev pub expression_checks : List DeclaredName → List (List ℕ) → Expression → List PlacedCheck
expression_checks D bound (NameUse n) = is_value D bound n ∷ []
expression_checks D bound (UndefinedOf t) = is_one type_role D t ∷ []
expression_checks D bound (PairExpression e f) = expression_checks D bound e ++ expression_checks D bound f
expression_checks D bound (FirstOf e) = expression_checks D bound e
expression_checks D bound (SecondOf e) = expression_checks D bound e
expression_checks D bound (LetExpression n e f) = is_new D n ∷ expression_checks D bound e ++ expression_checks D (bind n bound) f
expression_checks D bound (LetRecExpression t n e f) =
    is_one type_role D t ∷ is_new D n ∷ expression_checks D (bind n bound) e ++ expression_checks D (bind n bound) f
expression_checks D bound (IfExpression e m f g) =
    expression_checks D bound e ++ pattern_checks D m ++ expression_checks D bound f ++ expression_checks D bound g
expression_checks D bound (DelayExpression c e) = constant_names D c ++ expression_checks D bound e

abbrev pub name_checks : Text → List PlacedCheck
name_checks (text d ds t e) =
    declarations_checks at_first (d ∷ ds) ++ is_one type_role (after_all at_first (d ∷ ds)) t ∷ expression_checks (after_all at_first (d ∷ ds)) [] e

-- code 14 "looks at all names first, by their places in the text", and with no wrong one at the constants of DELAYs
abbrev pub text_checks : Text → List PlacedCheck
text_checks t = name_checks t ++ constants_of_text t
