-- The term of a sheet with only leaves rewritten is that of the sheet before with each delay holding what now stands at its places,
-- where the constants' leaves stayed: types, patterns and the tree do not change. By induction on the tree.
-- Assumes nothing.
use Prim.Native.Nat.{ℕ, ◌<◌}
use mathlib.Core.Bool.{true, false}
use mathlib.Core.List.Memᴰ
use mathlib.Core.List.{
  List,
  [],
  ◌∷◌,
  ◌++◌,
  map,
  Memᴰ,
}
use mathlib.Core.Path.{◌≡◌, refl, ap, ap₂, ◌∙◌}
use native.Mathlib.Omega.{arith}
use Rattle.picoella.specs.Language.{Whole, Constructor, Parts}
use Rattle.records.specs.Words.{word, word_a}
use Rattle.records.specs.Kinds.{leafs, sort_of}
use Rattle.records.specs.Says.{sort_at}
use Rattle.records.specs.Trees.{
  type_at,
  pair_of,
  TypeRecord,
  Alternatives,
  end,
  no_pattern,
  whole_type,
  one_constructor,
  pair_of_patterns,
  Tree,
  no_expression,
  constant_of,
  name_of,
  tuple_of,
  first_of,
  second_of,
  let_of,
  feedback_of,
  if_of,
  delay_of,
  held,
  type_record_of,
}
use Rattle.records.specs.Decoding.{leaf_values, or_else, pattern_of}
use Rattle.records.specs.Rewritten.{Rewritten}
use Rattle.records.specs.Written.{Written}
use Rattle.records.proofs.Rewritten.{same-type, same-pair-of}
use Rattle.records.proofs.Grown.{Alternative, Grown}
use Rattle.typing.specs.Judging.{Context}
use Rattle.accepted.proofs.Laws.{RulesHold}
use Rattle.accepted.proofs.Laws.{type-of-record}
use Rattle.meaning.specs.Elaboration.{Constant, Pair, First, Second, LetIn, Feedback, IfThenElse, Delayed}
use Rattle.behaviour.specs.Terms.{term}
use Rattle.behaviour.proofs.Frames.{fill}

pub same-values : (s s' ls : List ℕ) → ((x : ℕ) → Memᴰ x ls → word_a s' x ≡ word_a s x) → leaf_values s' ls ≡ leaf_values s ls
same-values s s' [] same = refl
same-values s s' (l ∷ ls) same = ap₂ ◌∷◌ (same l (Memᴰ.head refl)) (same-values s s' ls (λ x m. same x (Memᴰ.tail m)))

module _ {s s' : List ℕ} (o : Rewritten s s') (w : Written s) where
  -- the words of a type record
  type-words : (t : ℕ) → TypeRecord s t → (k : ℕ) → k < 5 → word s' t k ≡ word s t k
  type-words t u k h =
      o.others t
      (λ e. let f : sort_at s t ≡ leafs = ap sort_of e in let g = u.sort in let z : ◌≡◌ {A = ℕ} 0 1 = cc in omega arith) k h

  pub pattern-same : (E : Type 0) (m : Alternatives) → Alternative s E m → pattern_of s' m ≡ pattern_of s m
  pattern-same E end g = refl
  pattern-same E no_pattern g = refl
  pattern-same E (whole_type r t m) g =
      ap₂ (λ p q. or_else p m q) (ap Whole (same-type o t)) (pattern-same (Unit {0}) m g.1)
  pattern-same E (one_constructor r t k m) g =
      ap₂ (λ p q. or_else p m q) (ap (λ n. Constructor t n k) (type-words t g.0.type 2 (omega arith)))
      (pattern-same (Unit {0}) m g.1)
  pattern-same E (pair_of_patterns r a b m) g =
      ap₂ (λ p q. or_else p m q) (ap₂ Parts (pattern-same ⊥ a g.0) (pattern-same ⊥ b g.1))
      (pattern-same (Unit {0}) m g.2)

  pub type-of-same : (Γ : List ℕ) (e : Tree) → Grown s e → Context s Γ → RulesHold s Γ e → type_record_of s' Γ e ≡ type_record_of s Γ e
  type-of-same Γ no_expression g c j = refl
  type-of-same Γ (constant_of r t ls) g c j = refl
  type-of-same Γ (name_of r k) g c j = refl
  type-of-same Γ (tuple_of r a b) g c j =
      ap₂ (pair_of s') (type-of-same Γ a g.0 c j.0) (type-of-same Γ b g.1 c j.1)
      ∙ same-pair-of o (type_record_of s Γ a) (type_record_of s Γ b)
  type-of-same Γ (first_of r a) g c j =
      ap (word_a s') (type-of-same Γ a g c j.0) ∙ type-words (type_record_of s Γ a) (type-of-record w Γ a g c j.0) 2 (omega arith)
  type-of-same Γ (second_of r a) g c j =
      ap (λ t. word s' t 3) (type-of-same Γ a g c j.0) ∙ type-words (type_record_of s Γ a) (type-of-record w Γ a g c j.0) 3 (omega arith)
  type-of-same Γ (let_of r a b) g c j =
      ap (λ t. type_record_of s' (t ∷ Γ) b) (type-of-same Γ a g.0 c j.0)
      ∙ type-of-same (type_record_of s Γ a ∷ Γ) b g.1 (type-of-record w Γ a g.0 c j.0, c) j.1
  type-of-same Γ (feedback_of r t a b) g c j = type-of-same (t ∷ Γ) b g.2 (g.0, c) j.1
  type-of-same Γ (if_of r a p b d) g c j = type-of-same Γ b g.2 c j.2
  type-of-same Γ (delay_of r t ls a) g c j = refl

  -- the type of the first part of a pair
  pub first-same : (Γ : List ℕ) (a : Tree) → Grown s a → Context s Γ → RulesHold s Γ a
      → type_at s' (word_a s' (type_record_of s' Γ a)) ≡ type_at s (word_a s (type_record_of s Γ a))
  first-same Γ a g c j =
      same-type o (word_a s' (type_record_of s' Γ a))
      ∙ ap (type_at s) (ap (word_a s') (type-of-same Γ a g c j) ∙ type-words (type_record_of s Γ a) (type-of-record w Γ a g c j) 2 (omega arith))

  -- the constants' leaves of a tree stayed
  abbrev pub Stayed : Tree → Type 0
  Stayed e = (x : ℕ) → Memᴰ x (held false true false e) → word_a s' x ≡ word_a s x

  pub term-again : (Γ : List ℕ) (e : Tree) → Grown s e → Context s Γ → RulesHold s Γ e
      → Stayed e → term s' Γ e ≡ fill (leaf_values s') (term s Γ e)
  term-again Γ no_expression g c j k = refl
  term-again Γ (constant_of r t ls) g c j k = ap₂ Constant (same-type o t) (same-values s s' ls k)
  term-again Γ (name_of r n) g c j k = refl
  term-again Γ (tuple_of r a b) g c j k =
      ap₂ Pair (term-again Γ a g.0 c j.0 (λ x m. k x (Memᴰ.append_left _ m)))
      (term-again Γ b g.1 c j.1 (λ x m. k x (Memᴰ.append_right (held false true false a) m)))
  term-again Γ (first_of r a) g c j k = ap₂ First (first-same Γ a g c j.0) (term-again Γ a g c j.0 k)
  term-again Γ (second_of r a) g c j k = ap₂ Second (first-same Γ a g c j.0) (term-again Γ a g c j.0 k)
  term-again Γ (let_of r a b) g c j k =
      ap₂ LetIn (term-again Γ a g.0 c j.0 (λ x m. k x (Memᴰ.append_left _ m)))
      (ap (λ t. term s' (t ∷ Γ) b) (type-of-same Γ a g.0 c j.0)
      ∙ term-again (type_record_of s Γ a ∷ Γ) b g.1 (type-of-record w Γ a g.0 c j.0, c) j.1
      (λ x m. k x (Memᴰ.append_right (held false true false a) m)))
  term-again Γ (feedback_of r t a b) g c j k =
      let ta = term-again (t ∷ Γ) a g.1 (g.0, c) j.0 (λ x m. k x (Memᴰ.append_left _ m)) in
      let tb = term-again (t ∷ Γ) b g.2 (g.0, c) j.1 (λ x m. k x (Memᴰ.append_right (held false true false a) m)) in
      λ i. Feedback (same-type o t i) (ta i) (tb i)
  term-again Γ (if_of r a p b d) g c j k =
      let ca = held false true false a in
      let ta = term-again Γ a g.0 c j.0 (λ x m. k x (Memᴰ.append_left (held false true false b ++ held false true false d) m)) in
      let tb = term-again Γ b g.2 c j.2
      (λ x m. k x (Memᴰ.append_right ca (Memᴰ.append_left (held false true false d) m))) in
      let td = term-again Γ d g.3 c j.3 (λ x m. k x (Memᴰ.append_right ca (Memᴰ.append_right (held false true false b) m))) in
      λ i. IfThenElse (ta i) (pattern-same ⊥ p g.1 i) (tb i) (td i)
  term-again Γ (delay_of r t ls a) g c j k =
      let ta = term-again Γ a g.1 c j.0 k in λ i. Delayed ls (same-type o t i) (leaf_values s' ls) (ta i)
