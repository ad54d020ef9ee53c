-- Patterns have the kinds 48, 49 and 50, and no other record has one of them: a test for each that antt computes over the table.
-- Assumes nothing.
use mathlib.Core.Path.{◌≡◌, refl, sym, ap, ◌∙◌}
use mathlib.Core.Bool.{Bool, true, false}
use mathlib.Core.List.{List}
use Prim.Native.Nat.{ℕ}
use native.Mathlib.Omega.{arith}
use borrow.Author.Tests.{eqb-true}
use lib.Dec.{eqb}
use Rattle.records.specs.Words.{word}
use Rattle.records.specs.Kinds.{
  Kind,
  header,
  type_of,
  expression,
  pattern,
  leaf,
  unknown,
  PatternKind,
  whole,
  constructor,
  parts,
  patterns,
  kind_of,
}
use Rattle.records.specs.Says.{kind_at, sort_at}
use Rattle.records.proofs.Table.{kind-of-sort}
use Rattle.records.proofs.CodeTable.{only-kind}
use Rattle.typing.proofs.KindNumbers.{numbered}

abbrev pub number_of_pattern : PatternKind → ℕ
number_of_pattern whole = 48
number_of_pattern constructor = 49
number_of_pattern parts = 50

-- the kind is that of these patterns
abbrev is_pattern : PatternKind → Kind → Bool
is_pattern q header = false
is_pattern q (type_of k) = false
is_pattern q (expression k) = false
is_pattern q (pattern k) = eqb (number_of_pattern q) (number_of_pattern k)
is_pattern q leaf = false
is_pattern q unknown = false

pattern_number : (q : PatternKind) (k : ℕ) → is_pattern q (kind_of k) ≡ eqb k (number_of_pattern q)
unfolding kind_of
pattern_number whole = only-kind (is_pattern whole) 48 refl (omega arith) tt
pattern_number constructor = only-kind (is_pattern constructor) 49 refl (omega arith) tt
pattern_number parts = only-kind (is_pattern parts) 50 refl (omega arith) tt

itself : (q : PatternKind) → is_pattern q (pattern q) ≡ true
itself whole = refl
itself constructor = refl
itself parts = refl

module _ (s : List ℕ) (r k : ℕ) (ek : k ≡ word s r 0) where
  -- the kind by the number
  pub pattern-kind : (q : PatternKind) → k ≡ number_of_pattern q → kind_at s r ≡ pattern q
  unfolding kind_of
  pattern-kind whole e = numbered s r k 48 (pattern whole) ek e refl
  pattern-kind constructor e = numbered s r k 49 (pattern constructor) ek e refl
  pattern-kind parts e = numbered s r k 50 (pattern parts) ek e refl

  -- the number by the kind
  pub number-of-pattern : (q : PatternKind) → kind_at s r ≡ pattern q → k ≡ number_of_pattern q
  number-of-pattern q e =
      ek ∙ eqb-true (word s r 0) (number_of_pattern q) (sym (pattern_number q (word s r 0)) ∙ ap (is_pattern q) e ∙ itself q)

  -- a record of another number is no pattern
  pub no-pattern : (k ≡ 48 → ⊥) → (k ≡ 49 → ⊥) → (k ≡ 50 → ⊥) → sort_at s r ≡ patterns → ⊥
  no-pattern a b c e = let q = kind-of-sort patterns (kind_at s r) e in go q.0 (number-of-pattern q.0 q.1)
    where
      go : (q : PatternKind) → k ≡ number_of_pattern q → ⊥
      go whole = a
      go constructor = b
      go parts = c
