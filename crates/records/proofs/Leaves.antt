-- The records of a leaf chain are leaf records of the sheet, and so are all that the constants and delays of a tree hold. By
-- induction on the records, from the highest down.
-- Assumes nothing.
use Prim.Native.Nat.{ℕ, zero, suc, ◌<◌}
use mathlib.Core.Bool.{Bool, true, false, ◌&&◌}
use mathlib.Core.List.Memᴰ
use mathlib.Core.List.{
  List,
  [],
  ◌∷◌,
  ◌++◌,
  Memᴰ,
}
use mathlib.Core.Path.{◌≡◌, refl}
use mathlib.Core.Logic.{◌⊎◌, inl, inr}
use native.Mathlib.Omega.{arith}
use lib.Dec.{ltb}
use Rattle.records.specs.Words.{word, count, next_word, word_b}
use Rattle.records.specs.Kinds.{
  expression,
  ExpressionKind,
  constant,
  name,
  tuple,
  first,
  second,
  let_in,
  feedback,
  if_matches,
  delay,
  expressions,
  leafs,
  part,
}
use Rattle.records.specs.Says.{kind_at, sort_at}
use Rattle.records.specs.Trees.{follow, chain, tree_step, tree_at, circuit, listed, held}
use Rattle.records.specs.Written.{Written}
use Rattle.records.proofs.Table.{ask_of_kind, kind-of-sort}
use Rattle.records.proofs.Asked.{part-of-kind, root_is}
use Rattle.records.proofs.Trees.{from-above, next-leaf, chain-of, tree-of}

-- x is a leaf record of the sheet
pub record LeafRecord (s : List ℕ) (x : ℕ) : Type 0 where
  pub there : x < count s
  pub sort : sort_at s x ≡ leafs

abbrev pub AllLeaves : List ℕ → List ℕ → Type 0
AllLeaves s rs = (x : ℕ) → Memᴰ x rs → LeafRecord s x

all_both : (s rs ls : List ℕ) → AllLeaves s rs → AllLeaves s ls → AllLeaves s (rs ++ ls)
all_both s rs ls a b = λ x m. go x (Memᴰ.append_cases rs m)
  where
    go : (x : ℕ) → Memᴰ x rs ⊎ Memᴰ x ls → LeafRecord s x
    go x (inl m) = a x m
    go x (inr m) = b x m

all_listed : (s : List ℕ) (b : Bool) (rs : List ℕ) → AllLeaves s rs → AllLeaves s (listed b rs)
all_listed s true rs a = a
all_listed s false rs a = λ x m. elim m [ ]

followed : (s : List ℕ) (n : ℕ) → (0 < n → AllLeaves s (chain s n)) → AllLeaves s (follow [] (chain s) n)
followed s zero a = λ x m. elim m [ ]
followed s (suc n) a = a (omega arith)

all_cons : (s : List ℕ) (r : ℕ) (rs : List ℕ) → LeafRecord s r → AllLeaves s rs → AllLeaves s (r ∷ rs)
all_cons s r rs h a x (Memᴰ.head e) = rw e h
all_cons s r rs h a x (Memᴰ.tail m) = a x m

pub chain-leaves : {s : List ℕ} → Written s → (r : ℕ) → r < count s → sort_at s r ≡ leafs → AllLeaves s (chain s r)
chain-leaves {s} w = from-above (count s) (λ r. sort_at s r ≡ leafs → AllLeaves s (chain s r)) step
  where
    step : (r : ℕ) → r < count s → ((q : ℕ) → r < q → q < count s → sort_at s q ≡ leafs → AllLeaves s (chain s q))
        → sort_at s r ≡ leafs → AllLeaves s (chain s r)
    step r h above e =
        rw (chain-of w r h e)
        (all_cons s r (follow [] (chain s) (next_word s r)) (record { there = h; sort = e })
        (followed s (next_word s r) (λ some. let p = next-leaf w r h e some in above (next_word s r) p.0 p.1 p.2)))

node-leaves : {s : List ℕ} (c d : Bool) (k : ExpressionKind) (r : ℕ) (words : ℕ → ℕ)
    → ((j : ℕ) → (ltb 0 j && ltb j 6) ≡ true → ask_of_kind (expression k) j ≡ part expressions
    → AllLeaves s (held false c d (tree_at s (words j))))
    → (ask_of_kind (expression k) 3 ≡ part leafs → AllLeaves s (chain s (words 3)))
    → AllLeaves s (held false c d (tree_step s (tree_at s) (expression k) r (words 2) (words 3) (words 4) (words 5)))
node-leaves {s} c d constant r words at leaves = all_listed s c (chain s (words 3)) (leaves (unfold ask_of_kind in refl))
node-leaves {s} c d name r words at leaves = λ x m. elim m [ ]
node-leaves {s} c d tuple r words at leaves =
    all_both s (held false c d (tree_at s (words 2))) (held false c d (tree_at s (words 3)))
    (at 2 refl (unfold ask_of_kind in refl)) (at 3 refl (unfold ask_of_kind in refl))
node-leaves {s} c d first r words at leaves = at 2 refl (unfold ask_of_kind in refl)
node-leaves {s} c d second r words at leaves = at 2 refl (unfold ask_of_kind in refl)
node-leaves {s} c d let_in r words at leaves =
    all_both s (held false c d (tree_at s (words 2))) (held false c d (tree_at s (words 3)))
    (at 2 refl (unfold ask_of_kind in refl)) (at 3 refl (unfold ask_of_kind in refl))
node-leaves {s} c d feedback r words at leaves =
    all_both s (held false c d (tree_at s (words 3))) (held false c d (tree_at s (words 4)))
    (at 3 refl (unfold ask_of_kind in refl)) (at 4 refl (unfold ask_of_kind in refl))
node-leaves {s} c d if_matches r words at leaves =
    all_both s (held false c d (tree_at s (words 2))) (held false c d (tree_at s (words 3)) ++ held false c d (tree_at s (words 4)))
    (at 2 refl (unfold ask_of_kind in refl))
    (all_both s (held false c d (tree_at s (words 3))) (held false c d (tree_at s (words 4)))
    (at 3 refl (unfold ask_of_kind in refl)) (at 4 refl (unfold ask_of_kind in refl)))
node-leaves {s} c d delay r words at leaves =
    all_both s (listed d (chain s (words 3))) (held false c d (tree_at s (words 4)))
    (all_listed s d (chain s (words 3)) (leaves (unfold ask_of_kind in refl))) (at 4 refl (unfold ask_of_kind in refl))

pub tree-leaves : {s : List ℕ} → Written s → (c d : Bool) (r : ℕ) → r < count s → sort_at s r ≡ expressions
    → AllLeaves s (held false c d (tree_at s r))
tree-leaves {s} w c d = from-above (count s) (λ r. sort_at s r ≡ expressions → AllLeaves s (held false c d (tree_at s r))) step
  where
    step : (r : ℕ) → r < count s
        → ((q : ℕ) → r < q → q < count s → sort_at s q ≡ expressions → AllLeaves s (held false c d (tree_at s q)))
        → sort_at s r ≡ expressions → AllLeaves s (held false c d (tree_at s r))
    step r h above e =
        let k = kind-of-sort expressions (kind_at s r) e in
        rw (tree-of w r h (expression k.0) k.1)
        (node-leaves c d k.0 r (word s r)
        (λ j t a. let p = part-of-kind w r (expression k.0) expressions h k.1 j t a in above (word s r j) p.0 p.1 p.2)
        (λ a. let p = part-of-kind w r (expression k.0) leafs h k.1 3 refl a in chain-leaves w (word_b s r) p.1 p.2))

pub circuit-leaves : {s : List ℕ} → Written s → (c d : Bool) → AllLeaves s (held false c d (circuit s))
unfolding circuit
circuit-leaves {s} w c d = let p = root_is w in tree-leaves w c d (word_b s 0) p.1 p.2
