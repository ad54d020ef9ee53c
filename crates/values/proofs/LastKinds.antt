-- A kind of the code by what it stands for: the kind that is left where others are ruled out.
-- Assumes nothing.
use mathlib.Core.Path.{◌≡◌, refl, sym, ap, ◌∙◌}
use Rattle.records.specs.declared.kinds.Kind.{Kind}
use Rattle.records.specs.declared.kinds.Kind.TheVariants as Coded
use Rattle.records.specs.Kinds as Table
use Rattle.records.specs.Kinds.{sort_of, PatternKind, ExpressionKind, pattern, expression, patterns, expressions}
use Rattle.records.specs.Kinded.{kind_meant}
use Rattle.records.proofs.Table.{kind-of-sort}

-- the kind of the code that stands for one of the table
abbrev code_of : Table.Kind → Kind
code_of Table.unknown = Coded.Unknown
code_of Table.header = Coded.Header
code_of (Table.type_of Table.flat) = Coded.FlatType
code_of (Table.type_of Table.pair) = Coded.PairType
code_of (Table.expression Table.constant) = Coded.Constant
code_of (Table.expression Table.name) = Coded.Name
code_of (Table.expression Table.tuple) = Coded.Pair
code_of (Table.expression Table.first) = Coded.First
code_of (Table.expression Table.second) = Coded.Second
code_of (Table.expression Table.let_in) = Coded.Let
code_of (Table.expression Table.feedback) = Coded.Feedback
code_of (Table.expression Table.if_matches) = Coded.If
code_of (Table.expression Table.delay) = Coded.Delay
code_of (Table.pattern Table.whole) = Coded.WholePattern
code_of (Table.pattern Table.constructor) = Coded.ConstructorPattern
code_of (Table.pattern Table.parts) = Coded.PairPattern
code_of Table.leaf = Coded.Leaf

code-again : (k : Kind) → code_of (kind_meant k) ≡ k
code-again Coded.Unknown = refl
code-again Coded.Header = refl
code-again Coded.FlatType = refl
code-again Coded.PairType = refl
code-again Coded.Constant = refl
code-again Coded.Name = refl
code-again Coded.Pair = refl
code-again Coded.First = refl
code-again Coded.Second = refl
code-again Coded.Let = refl
code-again Coded.Feedback = refl
code-again Coded.If = refl
code-again Coded.Delay = refl
code-again Coded.WholePattern = refl
code-again Coded.ConstructorPattern = refl
code-again Coded.PairPattern = refl
code-again Coded.Leaf = refl

stands-for : (k : Kind) (K : Table.Kind) → kind_meant k ≡ K → k ≡ code_of K
stands-for k K e = sym (code-again k) ∙ ap code_of e

-- a pattern that is neither of the first two kinds is a pair pattern
pub last-pattern : (k : Kind) (K : Table.Kind) → kind_meant k ≡ K → sort_of K ≡ patterns
    → (k ≡ Coded.WholePattern → ⊥) → (k ≡ Coded.ConstructorPattern → ⊥) → K ≡ pattern Table.parts
last-pattern k K e sort a b = let q = kind-of-sort patterns K sort in go q.0 q.1
  where
    go : (q : PatternKind) → K ≡ pattern q → K ≡ pattern Table.parts
    go Table.whole f = absurd (a (stands-for k (pattern Table.whole) (e ∙ f)))
    go Table.constructor f = absurd (b (stands-for k (pattern Table.constructor) (e ∙ f)))
    go Table.parts f = f

-- an expression of none of the first eight kinds is a delay
pub last-expression : (k : Kind) (K : Table.Kind) → kind_meant k ≡ K → sort_of K ≡ expressions
    → (k ≡ Coded.Constant → ⊥) → (k ≡ Coded.Name → ⊥) → (k ≡ Coded.Pair → ⊥) → (k ≡ Coded.First → ⊥) → (k ≡ Coded.Second → ⊥)
    → (k ≡ Coded.Let → ⊥) → (k ≡ Coded.Feedback → ⊥) → (k ≡ Coded.If → ⊥) → K ≡ expression Table.delay
last-expression k K e sort a b c d f g h i = let q = kind-of-sort expressions K sort in go q.0 q.1
  where
    go : (q : ExpressionKind) → K ≡ expression q → K ≡ expression Table.delay
    go Table.constant j = absurd (a (stands-for k (expression Table.constant) (e ∙ j)))
    go Table.name j = absurd (b (stands-for k (expression Table.name) (e ∙ j)))
    go Table.tuple j = absurd (c (stands-for k (expression Table.tuple) (e ∙ j)))
    go Table.first j = absurd (d (stands-for k (expression Table.first) (e ∙ j)))
    go Table.second j = absurd (f (stands-for k (expression Table.second) (e ∙ j)))
    go Table.let_in j = absurd (g (stands-for k (expression Table.let_in) (e ∙ j)))
    go Table.feedback j = absurd (h (stands-for k (expression Table.feedback) (e ∙ j)))
    go Table.if_matches j = absurd (i (stands-for k (expression Table.if_matches) (e ∙ j)))
    go Table.delay j = j
