-- What the tree of a written sheet is made of: each part is there, its types are type records, a constructor pattern's type is a
-- flat one, and each pattern has an alternative. By induction on the records, from the highest down.
-- Assumes nothing.
use Prim.Native.Nat.{ℕ, zero, suc, ◌<◌}
use mathlib.Core.Bool.{true, ◌&&◌}
use mathlib.Core.List.{List}
use mathlib.Core.Path.{◌≡◌, refl}
use native.Mathlib.Omega.{arith}
use lib.Dec.{ltb}
use Rattle.records.specs.Words.{word, count, next_word, word_a, word_b}
use Rattle.records.specs.Kinds.{
  Kind,
  type_of,
  flat,
  expression,
  pattern,
  ExpressionKind,
  constant,
  name,
  tuple,
  first,
  second,
  let_in,
  feedback,
  if_matches,
  delay,
  PatternKind,
  whole,
  constructor,
  parts,
  expressions,
  patterns,
  part,
  next_of,
  lower_type,
  lower_flat,
}
use Rattle.records.specs.Says.{kind_at, sort_at}
use Rattle.records.specs.Trees.{
  TypeRecord,
  Alternatives,
  end,
  no_pattern,
  whole_type,
  one_constructor,
  pair_of_patterns,
  Tree,
  no_expression,
  constant_of,
  name_of,
  tuple_of,
  first_of,
  second_of,
  let_of,
  feedback_of,
  if_of,
  delay_of,
  follow,
  alternative_step,
  alternatives,
  tree_step,
  tree_at,
  circuit,
}
use Rattle.records.specs.Written.{Written}
use Rattle.records.proofs.Table.{ask_of_kind, kind-of-sort}
use Rattle.records.proofs.Asked.{as-kind-asks, part-of-kind, next-of-kind, root_is}
use Rattle.records.proofs.Trees.{from-above, alternatives-of, tree-of}
use Rattle.records.proofs.TypeRecords.{type-record, type-word}

-- a flat type's record
pub record FlatRecord (s : List ℕ) (t : ℕ) : Type 0 where
  pub type : TypeRecord s t
  pub kind : kind_at s t ≡ type_of flat

-- alternatives as a written sheet has them, where their end is as `E` says
abbrev pub Alternative : List ℕ → Type 0 → Alternatives → Type 0
Alternative s E end = E
Alternative s E no_pattern = ⊥
Alternative s E (whole_type r t m) = TypeRecord s t × Alternative s (Unit {0}) m
Alternative s E (one_constructor r t k m) = FlatRecord s t × Alternative s (Unit {0}) m
Alternative s E (pair_of_patterns r a b m) = Alternative s ⊥ a × Alternative s ⊥ b × Alternative s (Unit {0}) m

-- a pattern has an alternative
abbrev pub GrownPattern : List ℕ → Alternatives → Type 0
GrownPattern s p = Alternative s ⊥ p

abbrev pub Grown : List ℕ → Tree → Type 0
Grown s no_expression = ⊥
Grown s (constant_of r t ls) = TypeRecord s t
Grown s (name_of r k) = Unit {0}
Grown s (tuple_of r a b) = Grown s a × Grown s b
Grown s (first_of r a) = Grown s a
Grown s (second_of r a) = Grown s a
Grown s (let_of r a b) = Grown s a × Grown s b
Grown s (feedback_of r t a b) = TypeRecord s t × Grown s a × Grown s b
Grown s (if_of r a p b c) = Grown s a × GrownPattern s p × Grown s b × Grown s c
Grown s (delay_of r t ls a) = TypeRecord s t × Grown s a

-- alternatives that may end are those of a pattern, or the end
may-end : (s : List ℕ) (m : Alternatives) → GrownPattern s m → Alternative s (Unit {0}) m
may-end s end g = absurd g
may-end s no_pattern g = absurd g
may-end s (whole_type r t m) g = g
may-end s (one_constructor r t k m) g = g
may-end s (pair_of_patterns r a b m) g = g

followed : (s : List ℕ) (n : ℕ) → (0 < n → GrownPattern s (alternatives s n))
    → Alternative s (Unit {0}) (follow end (alternatives s) n)
followed s zero grown = tt
followed s (suc n) grown = may-end s (alternatives s (suc n)) (grown (omega arith))

pattern-step : (s : List ℕ) (k : PatternKind) (r n a b : ℕ)
    → (ask_of_kind (pattern k) 1 ≡ next_of patterns → 0 < n → GrownPattern s (alternatives s n))
    → (ask_of_kind (pattern k) 2 ≡ part patterns → GrownPattern s (alternatives s a))
    → (ask_of_kind (pattern k) 3 ≡ part patterns → GrownPattern s (alternatives s b))
    → (ask_of_kind (pattern k) 2 ≡ lower_type → TypeRecord s a)
    → (ask_of_kind (pattern k) 2 ≡ lower_flat → FlatRecord s a)
    → GrownPattern s (alternative_step (alternatives s) (pattern k) r n a b)
pattern-step s whole r n a b at_next at_a at_b type flat_type =
    (type (unfold ask_of_kind in refl), followed s n (at_next (unfold ask_of_kind in refl)))
pattern-step s constructor r n a b at_next at_a at_b type flat_type =
    (flat_type (unfold ask_of_kind in refl), followed s n (at_next (unfold ask_of_kind in refl)))
pattern-step s parts r n a b at_next at_a at_b type flat_type =
    (at_a (unfold ask_of_kind in refl), at_b (unfold ask_of_kind in refl), followed s n (at_next (unfold ask_of_kind in refl)))

-- the type word of a constructor pattern
flat_word : {s : List ℕ} → Written s → (r : ℕ) (k : Kind) → r < count s → kind_at s r ≡ k → ask_of_kind k 2 ≡ lower_flat
    → FlatRecord s (word_a s r)
flat_word {s} w r k h e a =
    let f : (word_a s r < r) × (kind_at s (word_a s r) ≡ type_of flat) = rw a at (as-kind-asks w r k h e 2 refl) in
    record { type = type-record w (word_a s r) (omega arith) (rw f.1); kind = f.1 }

pub grown-pattern : {s : List ℕ} → Written s → (r : ℕ) → r < count s → sort_at s r ≡ patterns → GrownPattern s (alternatives s r)
grown-pattern {s} w = from-above (count s) (λ r. sort_at s r ≡ patterns → GrownPattern s (alternatives s r)) step
  where
    step : (r : ℕ) → r < count s → ((q : ℕ) → r < q → q < count s → sort_at s q ≡ patterns → GrownPattern s (alternatives s q))
        → sort_at s r ≡ patterns → GrownPattern s (alternatives s r)
    step r h above e =
        let k = kind-of-sort patterns (kind_at s r) e in
        rw (alternatives-of w r h (pattern k.0) k.1)
        (pattern-step s k.0 r (next_word s r) (word_a s r) (word_b s r)
        (λ a some. let p = next-of-kind w r (pattern k.0) patterns h k.1 a some in above (next_word s r) p.0 p.1 p.2)
        (λ a. let p = part-of-kind w r (pattern k.0) patterns h k.1 2 refl a in above (word_a s r) p.0 p.1 p.2)
        (λ a. let p = part-of-kind w r (pattern k.0) patterns h k.1 3 refl a in above (word_b s r) p.0 p.1 p.2)
        (λ a. type-word w r (pattern k.0) h k.1 2 refl a)
        (λ a. flat_word w r (pattern k.0) h k.1 a))

tree-step : (s : List ℕ) (k : ExpressionKind) (r : ℕ) (words : ℕ → ℕ)
    → ((j : ℕ) → (ltb 0 j && ltb j 6) ≡ true → ask_of_kind (expression k) j ≡ part expressions → Grown s (tree_at s (words j)))
    → (ask_of_kind (expression k) 5 ≡ part patterns → GrownPattern s (alternatives s (words 5)))
    → (ask_of_kind (expression k) 2 ≡ lower_type → TypeRecord s (words 2))
    → Grown s (tree_step s (tree_at s) (expression k) r (words 2) (words 3) (words 4) (words 5))
tree-step s constant r words grown fits type = type (unfold ask_of_kind in refl)
tree-step s name r words grown fits type = tt
tree-step s tuple r words grown fits type = (grown 2 refl (unfold ask_of_kind in refl), grown 3 refl (unfold ask_of_kind in refl))
tree-step s first r words grown fits type = grown 2 refl (unfold ask_of_kind in refl)
tree-step s second r words grown fits type = grown 2 refl (unfold ask_of_kind in refl)
tree-step s let_in r words grown fits type = (grown 2 refl (unfold ask_of_kind in refl), grown 3 refl (unfold ask_of_kind in refl))
tree-step s feedback r words grown fits type =
    (type (unfold ask_of_kind in refl), grown 3 refl (unfold ask_of_kind in refl), grown 4 refl (unfold ask_of_kind in refl))
tree-step s if_matches r words grown fits type = (
  grown 2 refl (unfold ask_of_kind in refl),
  fits (unfold ask_of_kind in refl),
  grown 3 refl (unfold ask_of_kind in refl),
  grown 4 refl (unfold ask_of_kind in refl),
)
tree-step s delay r words grown fits type = (type (unfold ask_of_kind in refl), grown 4 refl (unfold ask_of_kind in refl))

pub grown-tree : {s : List ℕ} → Written s → (r : ℕ) → r < count s → sort_at s r ≡ expressions → Grown s (tree_at s r)
grown-tree {s} w = from-above (count s) (λ r. sort_at s r ≡ expressions → Grown s (tree_at s r)) step
  where
    step : (r : ℕ) → r < count s → ((q : ℕ) → r < q → q < count s → sort_at s q ≡ expressions → Grown s (tree_at s q))
        → sort_at s r ≡ expressions → Grown s (tree_at s r)
    step r h above e =
        let k = kind-of-sort expressions (kind_at s r) e in
        rw (tree-of w r h (expression k.0) k.1)
        (tree-step s k.0 r (word s r)
        (λ j t a. let p = part-of-kind w r (expression k.0) expressions h k.1 j t a in
        above (word s r j) p.0 p.1 p.2)
        (λ a. let p = part-of-kind w r (expression k.0) patterns h k.1 5 refl a in
        grown-pattern w (word s r 5) p.1 p.2)
        (λ a. type-word w r (expression k.0) h k.1 2 refl a))

pub grown-circuit : {s : List ℕ} → Written s → Grown s (circuit s)
unfolding circuit
grown-circuit {s} w = let p = root_is w in grown-tree w (word_b s 0) p.1 p.2
