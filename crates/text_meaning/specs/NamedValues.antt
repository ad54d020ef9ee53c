-- The values of a text: a constructor by its name, undefined, or a pair. Matching on them (docs/SHEETS.md, "One cycle"), and what an
-- undecided IF gives: where both branches agree, that, and else undefined (000: `glb`). Where a pair meets a name or undefined, which no text
-- has whose sheet is accepted, a match is undecided and an IF undefined.
-- A byte of a run stands for a value by `value_of`: c for the c-th constructor of its declaration, 0 for undefined, and pairs leaf by leaf.
use Rattle.std.specs.Prelude.{ℕ, zero, suc, Bool, cond, List, [], ◌∷◌, get_or, take, drop}
use Rattle.picoella.specs.Language.{Ty, Flat, TyTuple, leaves}
use Rattle.grammar.specs.Source.{Identifier, Declaration, Constructors, PairOf, SourcePattern, Alone, PatternPair, Either}
use Rattle.name_rules.specs.Declared.{same_name, DeclaredName, is_declared, type_role}
use Rattle.name_rules.specs.Constants.{letters, all_letters}
use Rattle.meaning.specs.Decisions.{Decision, Yes, No, Undecided, decided, pair_decision, chain_decision}

pub data NamedValue : Type 0 where
  Unknown : NamedValue
  Made : (constructor : List ℕ) → NamedValue
  Couple : NamedValue → NamedValue → NamedValue

-- a constructor's name on a value
abbrev pub constructor_on : List ℕ → NamedValue → Decision
constructor_on w Unknown = Undecided
constructor_on w (Made u) = decided (same_name w u)
constructor_on w (Couple u v) = Undecided

-- a name on a value: of a type, yes; of a constructor, as that says
abbrev pub name_on : List DeclaredName → List ℕ → NamedValue → Decision
name_on D w v = cond (is_declared type_role w D) Yes (constructor_on w v)

abbrev pub couple_on : (NamedValue → Decision) → (NamedValue → Decision) → NamedValue → Decision
couple_on f g Unknown = Undecided
couple_on f g (Made u) = Undecided
couple_on f g (Couple u v) = pair_decision (f u) (g v)

abbrev pub matches_named : List DeclaredName → SourcePattern → NamedValue → Decision
matches_named D (Alone n) v = name_on D (letters n) v
matches_named D (PatternPair m n) v = couple_on (matches_named D m) (matches_named D n) v
matches_named D (Either m n) v = chain_decision (matches_named D m v) (matches_named D n v)

abbrev pub agreed_value : NamedValue → NamedValue → NamedValue
agreed_value Unknown w = Unknown
agreed_value (Made u) Unknown = Unknown
agreed_value (Made u) (Made w) = cond (same_name u w) (Made u) Unknown
agreed_value (Made u) (Couple v w) = Unknown
agreed_value (Couple t u) Unknown = Unknown
agreed_value (Couple t u) (Made w) = Unknown
agreed_value (Couple t u) (Couple v w) = Couple (agreed_value t v) (agreed_value u w)

abbrev pub chosen_value : Decision → NamedValue → NamedValue → NamedValue
chosen_value Yes v w = v
chosen_value No v w = w
chosen_value Undecided v w = agreed_value v w

-- the constructors that declaration number t, from 1, declares
abbrev pub constructors_of : List Declaration → ℕ → List (List ℕ)
constructors_of [] t = []
constructors_of (d ∷ ds) zero = []
constructors_of (Constructors n c cs ∷ ds) (suc zero) = all_letters (c ∷ cs)
constructors_of (PairOf n a b ∷ ds) (suc zero) = []
constructors_of (d ∷ ds) (suc (suc t)) = constructors_of ds (suc t)

-- the value that a byte stands for at a leaf of type number t
abbrev pub leaf_value : List Declaration → (t leaf : ℕ) → NamedValue
leaf_value ds t zero = Unknown
leaf_value ds t (suc c) = Made (get_or (constructors_of ds t) c [])

-- the value of a type that bytes stand for
abbrev pub value_of : List Declaration → Ty → List ℕ → NamedValue
value_of ds (Flat t n) bytes = leaf_value ds t (get_or bytes 0 0)
value_of ds (TyTuple σ τ) bytes = Couple (value_of ds σ (take (leaves σ) bytes)) (value_of ds τ (drop (leaves σ) bytes))
