-- The chain, the alternatives and the tree of a record, with no steps counted: each is its record's kind and words, with
-- those of the parts. Parts and nexts of a written record have higher numbers, so as many steps as records are left above are
-- enough, and how many more there are does not matter.
-- Assumes nothing.
use Prim.Native.Nat.{ℕ, zero, suc, ◌+◌, ◌≤◌, ◌<◌}
use mathlib.Core.Bool.{true, ◌&&◌}
use mathlib.Core.List.{List, [], ◌∷◌}
use mathlib.Core.Path.{◌≡◌, refl, ap, ap₂, ◌∙◌}
use native.Mathlib.Omega.{arith}
use lib.Dec.{ltb}
use Rattle.records.specs.Words.{word, count, next_word, word_a, word_b, word_c, word_d}
use Rattle.records.specs.Kinds.{
  Kind,
  header,
  type_of,
  expression,
  pattern,
  leaf,
  unknown,
  constant,
  name,
  tuple,
  first,
  second,
  let_in,
  feedback,
  if_matches,
  delay,
  whole,
  constructor,
  parts,
  expressions,
  patterns,
  leafs,
  part,
  next_of,
}
use Rattle.records.specs.Says.{kind_at, sort_at}
use Rattle.records.specs.Trees.{
  Alternatives,
  end,
  whole_type,
  one_constructor,
  pair_of_patterns,
  Tree,
  tuple_of,
  first_of,
  second_of,
  let_of,
  feedback_of,
  if_of,
  delay_of,
  follow,
  chain_within,
  chain,
  alternative_step,
  alternatives_within,
  alternatives,
  tree_step,
  tree_within,
  tree_at,
}
use Rattle.records.specs.Written.{Written}
use Rattle.records.proofs.Table.{ask_of_kind, kind-of-sort}
use Rattle.records.proofs.Asked.{part-of-kind, next-of-kind}

-- what holds of a record where it holds of all higher ones holds of all records
pub from-above : (n : ℕ) (P : ℕ → Type 0) → ((r : ℕ) → r < n → ((q : ℕ) → r < q → q < n → P q) → P r) → (r : ℕ) → r < n → P r
from-above n P step r h = go n r h (omega arith)
  where
    go : (m r : ℕ) → r < n → n ≤ m + r → P r
    go zero r h enough = absurd (omega arith)
    go (suc m) r h enough = step r h (λ q above below. go m q below (omega arith))

-- what follows a next is by what the next leads to
pub follow-agrees {ℓ} :
    {A : Type ℓ} (stop : A) (go other : ℕ → A) (n : ℕ) → (0 < n → go n ≡ other n) → follow stop go n ≡ follow stop other n
follow-agrees stop go other zero agree = refl
follow-agrees stop go other (suc n) agree = agree (omega arith)

-- the next of a leaf is a leaf
pub next-leaf : {s : List ℕ} → Written s → (r : ℕ) → r < count s → sort_at s r ≡ leafs → 0 < next_word s r
    → (r < next_word s r) × (next_word s r < count s) × (sort_at s (next_word s r) ≡ leafs)
next-leaf {s} w r h e = next-of-kind w r leaf leafs h (kind-of-sort leafs (kind_at s r) e) (unfold ask_of_kind in refl)

chain_steps : {s : List ℕ} → Written s → (m n r : ℕ) → r < count s → sort_at s r ≡ leafs → count s ≤ m + r → count s ≤ n + r
    → chain_within s m r ≡ chain_within s n r
unfolding chain_within
chain_steps {s} w zero n r h e hm hn = absurd (omega arith)
chain_steps {s} w (suc m) zero r h e hm hn = absurd (omega arith)
chain_steps {s} w (suc m) (suc n) r h e hm hn =
    ap (◌∷◌ r)
    (follow-agrees [] (chain_within s m) (chain_within s n) (next_word s r)
    (λ some. let p = next-leaf w r h e some in chain_steps w m n (next_word s r) p.1 p.2 (omega arith) (omega arith)))

-- a chain is its first record and the chain of the next
pub chain-of : {s : List ℕ} → Written s → (r : ℕ) → r < count s → sort_at s r ≡ leafs
    → chain s r ≡ r ∷ follow [] (chain s) (next_word s r)
unfolding chain chain_within
chain-of {s} w r h e = chain_steps w (count s) (suc (count s)) r h e (omega arith) (omega arith)

alternative-agrees : (go other : ℕ → Alternatives) (k : Kind) (r n a b : ℕ)
    → (ask_of_kind k 1 ≡ next_of patterns → 0 < n → go n ≡ other n)
    → (ask_of_kind k 2 ≡ part patterns → go a ≡ other a)
    → (ask_of_kind k 3 ≡ part patterns → go b ≡ other b)
    → alternative_step go k r n a b ≡ alternative_step other k r n a b
alternative-agrees go other header r n a b at_next at_a at_b = refl
alternative-agrees go other (type_of k) r n a b at_next at_a at_b = refl
alternative-agrees go other (expression k) r n a b at_next at_a at_b = refl
alternative-agrees go other (pattern whole) r n a b at_next at_a at_b =
    ap (whole_type r a) (follow-agrees end go other n (at_next (unfold ask_of_kind in refl)))
alternative-agrees go other (pattern constructor) r n a b at_next at_a at_b =
    ap (one_constructor r a b) (follow-agrees end go other n (at_next (unfold ask_of_kind in refl)))
alternative-agrees go other (pattern parts) r n a b at_next at_a at_b =
    rw (at_a (unfold ask_of_kind in refl), at_b (unfold ask_of_kind in refl))
    (ap (pair_of_patterns r (other a) (other b)) (follow-agrees end go other n (at_next (unfold ask_of_kind in refl))))
alternative-agrees go other leaf r n a b at_next at_a at_b = refl
alternative-agrees go other unknown r n a b at_next at_a at_b = refl

alternatives-steps : {s : List ℕ} → Written s → (m n r : ℕ) → r < count s → count s ≤ m + r → count s ≤ n + r
    → alternatives_within s m r ≡ alternatives_within s n r
unfolding alternatives_within
alternatives-steps {s} w zero n r h hm hn = absurd (omega arith)
alternatives-steps {s} w (suc m) zero r h hm hn = absurd (omega arith)
alternatives-steps {s} w (suc m) (suc n) r h hm hn =
    alternative-agrees (alternatives_within s m) (alternatives_within s n) (kind_at s r) r (next_word s r) (word_a s r) (word_b s r)
    (λ a some. let p = next-of-kind w r (kind_at s r) patterns h refl a some in
    alternatives-steps w m n (next_word s r) p.1 (omega arith) (omega arith))
    (λ a. let p = part-of-kind w r (kind_at s r) patterns h refl 2 refl a in
    alternatives-steps w m n (word_a s r) p.1 (omega arith) (omega arith))
    (λ a. let p = part-of-kind w r (kind_at s r) patterns h refl 3 refl a in
    alternatives-steps w m n (word_b s r) p.1 (omega arith) (omega arith))

-- the alternatives from a record are by its kind, with those of its parts and its next; at a kind this computes
pub alternatives-of : {s : List ℕ} → Written s → (r : ℕ) → r < count s → (k : Kind) → kind_at s r ≡ k
    → alternatives s r ≡ alternative_step (alternatives s) k r (next_word s r) (word_a s r) (word_b s r)
unfolding alternatives alternatives_within
alternatives-of {s} w r h k e =
    alternatives-steps w (count s) (suc (count s)) r h (omega arith) (omega arith)
    ∙ ap (λ k. alternative_step (alternatives_within s (count s)) k r (next_word s r) (word_a s r) (word_b s r)) e

tree-agrees : (s : List ℕ) (go other : ℕ → Tree) (k : Kind) (r : ℕ) (words : ℕ → ℕ)
    → ((j : ℕ) → (ltb 0 j && ltb j 6) ≡ true → ask_of_kind k j ≡ part expressions → go (words j) ≡ other (words j))
    → tree_step s go k r (words 2) (words 3) (words 4) (words 5) ≡ tree_step s other k r (words 2) (words 3) (words 4) (words 5)
tree-agrees s go other header r words agree = refl
tree-agrees s go other (type_of k) r words agree = refl
tree-agrees s go other (expression constant) r words agree = refl
tree-agrees s go other (expression name) r words agree = refl
tree-agrees s go other (expression tuple) r words agree =
    ap₂ (tuple_of r) (agree 2 refl (unfold ask_of_kind in refl)) (agree 3 refl (unfold ask_of_kind in refl))
tree-agrees s go other (expression first) r words agree = ap (first_of r) (agree 2 refl (unfold ask_of_kind in refl))
tree-agrees s go other (expression second) r words agree = ap (second_of r) (agree 2 refl (unfold ask_of_kind in refl))
tree-agrees s go other (expression let_in) r words agree =
    ap₂ (let_of r) (agree 2 refl (unfold ask_of_kind in refl)) (agree 3 refl (unfold ask_of_kind in refl))
tree-agrees s go other (expression feedback) r words agree =
    ap₂ (feedback_of r (words 2)) (agree 3 refl (unfold ask_of_kind in refl)) (agree 4 refl (unfold ask_of_kind in refl))
tree-agrees s go other (expression if_matches) r words agree =
    rw (agree 2 refl (unfold ask_of_kind in refl))
    (ap₂ (if_of r (other (words 2)) (alternatives s (words 5))) (agree 3 refl (unfold ask_of_kind in refl))
    (agree 4 refl (unfold ask_of_kind in refl)))
tree-agrees s go other (expression delay) r words agree =
    ap (delay_of r (words 2) (chain s (words 3))) (agree 4 refl (unfold ask_of_kind in refl))
tree-agrees s go other (pattern k) r words agree = refl
tree-agrees s go other leaf r words agree = refl
tree-agrees s go other unknown r words agree = refl

tree-steps : {s : List ℕ} → Written s → (m n r : ℕ) → r < count s → count s ≤ m + r → count s ≤ n + r
    → tree_within s m r ≡ tree_within s n r
unfolding tree_within
tree-steps {s} w zero n r h hm hn = absurd (omega arith)
tree-steps {s} w (suc m) zero r h hm hn = absurd (omega arith)
tree-steps {s} w (suc m) (suc n) r h hm hn =
    tree-agrees s (tree_within s m) (tree_within s n) (kind_at s r) r (word s r)
    (λ j t a. let p = part-of-kind w r (kind_at s r) expressions h refl j t a in
    tree-steps w m n (word s r j) p.1 (omega arith) (omega arith))

-- the tree of a record is by its kind, with the trees of its parts; at a kind this computes
pub tree-of : {s : List ℕ} → Written s → (r : ℕ) → r < count s → (k : Kind) → kind_at s r ≡ k
    → tree_at s r ≡ tree_step s (tree_at s) k r (word_a s r) (word_b s r) (word_c s r) (word_d s r)
unfolding tree_at tree_within
tree-of {s} w r h k e =
    tree-steps w (count s) (suc (count s)) r h (omega arith) (omega arith)
    ∙ ap (λ k. tree_step s (tree_within s (count s)) k r (word_a s r) (word_b s r) (word_c s r) (word_d s r)) e
