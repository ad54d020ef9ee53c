-- No expression record and no leaf record stands twice in the tree of a record: what a part holds lies under that part, and
-- nothing lies under two parts of a record; nor is the record itself under its parts, which are higher. By induction on the
-- records, from the highest down.
-- Assumes nothing.
use Prim.Native.Nat.{ℕ, zero, suc, ◌<◌}
use mathlib.Core.Bool.{Bool, true, false, ◌&&◌}
use mathlib.Core.List.Memᴰ
use mathlib.Core.List.{
  List,
  [],
  ◌∷◌,
  ◌++◌,
  Memᴰ,
}
use mathlib.Core.Path.{◌≡◌, refl}
use mathlib.Core.Logic.{◌⊎◌, inl, inr}
use native.Mathlib.Omega.{arith}
use lib.Dec.{ltb}
use Rattle.records.specs.Words.{word, count, next_word, word_a, word_b, word_c, word_d}
use Rattle.records.specs.Kinds.{
  expression,
  ExpressionKind,
  constant,
  name,
  tuple,
  first,
  second,
  let_in,
  feedback,
  if_matches,
  delay,
  leaf,
  expressions,
  leafs,
  part,
}
use Rattle.records.specs.Says.{kind_at, sort_at}
use Rattle.records.specs.Trees.{follow, chain, tree_step, tree_at, circuit, listed, held}
use Rattle.records.specs.Written.{Distinct, Written, WellNamed}
use Rattle.records.proofs.Table.{ask_of_kind, kind-of-sort}
use Rattle.records.proofs.Asked.{part-of-kind, root_is}
use Rattle.records.proofs.Trees.{from-above, next-leaf, chain-of, tree-of}
use Rattle.records.proofs.Namings.{Names, part-names, next-names, part-word-other}
use Rattle.records.proofs.Under.{Under, under-itself, down, under-higher, under-under, parts-apart}

-- distinct records, all with this property
pub record Only (P : ℕ → Type 0) (rs : List ℕ) : Type 0 where
  pub distinct : Distinct rs
  pub all : (x : ℕ) → Memᴰ x rs → P x

Apart : List ℕ → List ℕ → Type 0
Apart rs ls = (x : ℕ) → Memᴰ x rs → Memᴰ x ls → ⊥

distinct-both : (rs ls : List ℕ) → Distinct rs → Distinct ls → Apart rs ls → Distinct (rs ++ ls)
unfolding Apart
distinct-both [] ls d e apart = e
distinct-both (r ∷ rs) ls d e apart = (
  λ m. go (Memᴰ.append_cases rs m),
  distinct-both rs ls d.1 e (λ x m n. apart x (Memᴰ.tail m) n),
)
  where
    go : Memᴰ r rs ⊎ Memᴰ r ls → ⊥
    go (inl m) = d.0 m
    go (inr m) = apart r (Memᴰ.head refl) m

only-both : {P : ℕ → Type 0} (rs ls : List ℕ) → Only P rs → Only P ls → Apart rs ls → Only P (rs ++ ls)
only-both {P} rs ls o u apart = record {
  distinct = distinct-both rs ls o.distinct u.distinct apart;
  all = λ x m. go x (Memᴰ.append_cases rs m);
}
  where
    go : (x : ℕ) → Memᴰ x rs ⊎ Memᴰ x ls → P x
    go x (inl m) = o.all x m
    go x (inr m) = u.all x m

only_one : {P : ℕ → Type 0} (b : Bool) (r : ℕ) → P r → Only P (listed b (r ∷ []))
only_one {P} true r p = record { distinct = (λ m. elim m [ ], tt); all = one }
  where
    one : (x : ℕ) → Memᴰ x (r ∷ []) → P x
    one x (Memᴰ.head e) = rw e p
    one x (Memᴰ.tail m) = elim m [ ]
only_one {P} false r p = record { distinct = tt; all = λ x m. elim m [ ] }

only-listed : {P : ℕ → Type 0} (b : Bool) (rs : List ℕ) → Only P rs → Only P (listed b rs)
only-listed true rs o = o
only-listed false rs o = record { distinct = tt; all = λ x m. elim m [ ] }

only-weaker : {P Q : ℕ → Type 0} (rs : List ℕ) → ((x : ℕ) → P x → Q x) → Only P rs → Only Q rs
only-weaker rs f o = record { distinct = o.distinct; all = λ x m. f x (o.all x m) }

-- records under the part of record r that its word j, which is not d, names
record Piece (s : List ℕ) (r j : ℕ) (rs : List ℕ) : Type 0 where
  other : j < 5
  named : Names s (word s r j) (record { by = r; at = j })
  higher : r < word s r j
  only : Only (Under s (word s r j)) rs

-- records under record r other than itself
abbrev Below : List ℕ → ℕ → List ℕ → Type 0
Below s r rs = Only (λ x. (r < x) × Under s r x) rs

piece-below : {s : List ℕ} {r j : ℕ} {rs : List ℕ} → Written s → Piece s r j rs → Below s r rs
piece-below {s} {r} {j} {rs} w p =
    only-weaker rs
    (λ x u. let h = under-higher w u in let l = p.higher in
    (omega arith, under-under (down (record { by = r; at = j }) under-itself (omega arith) p.other p.named) u))
    p.only

pieces-apart : {s : List ℕ} {r j k : ℕ} {rs ls : List ℕ} → Written s → WellNamed s → (j ≡ k → ⊥) → Piece s r j rs
    → Piece s r k ls → Apart rs ls
unfolding Apart
pieces-apart {s} {r} {j} {k} w well differ p q =
    let hp = p.higher in
    let hq = q.higher in
    λ x m n. parts-apart s w well r j k (word s r j) (word s r k) x differ p.other q.other (omega arith) (omega arith) p.named q.named
    (p.only.all x m) (q.only.all x n)

with-own : {s : List ℕ} {r : ℕ} (b : Bool) (rs : List ℕ) → Below s r rs → Only (Under s r) (listed b (r ∷ []) ++ rs)
unfolding Apart
with-own {s} {r} b rs o =
    only-both (listed b (r ∷ [])) rs (only_one b r under-itself) (only-weaker rs (λ x p. p.1) o)
    (λ x m n. let e : x ≡ r = (only_one {P = λ y. y ≡ r} b r refl).all x m in let h = (o.all x n).0 in omega arith)

below_both : {s : List ℕ} {r : ℕ} (rs ls : List ℕ) → Below s r rs → Below s r ls → Apart rs ls → Below s r (rs ++ ls)
below_both rs ls o u apart = only-both rs ls o u apart

apart-both : (rs ls ks : List ℕ) → Apart rs ls → Apart rs ks → Apart rs (ls ++ ks)
unfolding Apart
apart-both rs ls ks a b = λ x m n. go x m (Memᴰ.append_cases ls n)
  where
    go : (x : ℕ) → Memᴰ x rs → Memᴰ x ls ⊎ Memᴰ x ks → ⊥
    go x m (inl n) = a x m n
    go x m (inr n) = b x m n

-- the rest of a chain
rest-piece : {s : List ℕ} → Written s → (r : ℕ) → r < count s → sort_at s r ≡ leafs
    → ((q : ℕ) → r < q → q < count s → sort_at s q ≡ leafs → Only (Under s q) (chain s q))
    → Below s r (follow [] (chain s) (next_word s r))
rest-piece {s} w r h e above = go (next_word s r) refl
  where
    go : (n : ℕ) → next_word s r ≡ n → Below s r (follow [] (chain s) n)
    go zero q = record { distinct = tt; all = λ x m. elim m [ ] }
    go (suc n) q =
        let p = next-leaf w r h e (rw q (omega arith)) in
        rw (← q)
        (piece-below {j = 1} w
        (record {
          other = omega arith;
          named = next-names s r leaf leafs h (kind-of-sort leafs (kind_at s r) e) (unfold ask_of_kind in refl);
          higher = p.0;
          only = above (next_word s r) p.0 p.1 p.2;
        }))

pub chain-only : {s : List ℕ} → Written s → (r : ℕ) → r < count s → sort_at s r ≡ leafs → Only (Under s r) (chain s r)
chain-only {s} w = from-above (count s) (λ r. sort_at s r ≡ leafs → Only (Under s r) (chain s r)) step
  where
    step : (r : ℕ) → r < count s → ((q : ℕ) → r < q → q < count s → sort_at s q ≡ leafs → Only (Under s q) (chain s q))
        → sort_at s r ≡ leafs → Only (Under s r) (chain s r)
    step r h above e = rw (chain-of w r h e) (with-own true (follow [] (chain s) (next_word s r)) (rest-piece w r h e above))

-- a record with two pieces
two : {s : List ℕ} {r j k : ℕ} {rs ls : List ℕ} → Written s → WellNamed s → (x : Bool) → Piece s r j rs → Piece s r k ls
    → (j ≡ k → ⊥)
    → Only (Under s r) (listed x (r ∷ []) ++ (rs ++ ls))
two {rs = rs} {ls = ls} w well x p q differ =
    with-own x (rs ++ ls) (below_both rs ls (piece-below w p) (piece-below w q) (pieces-apart w well differ p q))

-- what the tree of a record of this kind holds, from what its parts hold
node-only : {s : List ℕ} → Written s → WellNamed s → (x c d : Bool) (k : ExpressionKind) (r : ℕ)
    → ((j : ℕ) → (ltb 0 j && ltb j 6) ≡ true → ask_of_kind (expression k) j ≡ part expressions
    → Piece s r j (held x c d (tree_at s (word s r j))))
    → (ask_of_kind (expression k) 3 ≡ part leafs → (b : Bool) → Piece s r 3 (listed b (chain s (word_b s r))))
    → Only (Under s r) (held x c d (tree_step s (tree_at s) (expression k) r (word_a s r) (word_b s r) (word_c s r) (word_d s r)))
node-only {s} w well x c d constant r at leaves =
    with-own x (listed c (chain s (word_b s r))) (piece-below w (leaves (unfold ask_of_kind in refl) c))
node-only {s} w well x c d name r at leaves = only_one x r under-itself
node-only {s} w well x c d tuple r at leaves =
    two w well x (at 2 refl (unfold ask_of_kind in refl)) (at 3 refl (unfold ask_of_kind in refl)) (λ e. omega arith)
node-only {s} w well x c d first r at leaves =
    with-own x (held x c d (tree_at s (word_a s r))) (piece-below w (at 2 refl (unfold ask_of_kind in refl)))
node-only {s} w well x c d second r at leaves =
    with-own x (held x c d (tree_at s (word_a s r))) (piece-below w (at 2 refl (unfold ask_of_kind in refl)))
node-only {s} w well x c d let_in r at leaves =
    two w well x (at 2 refl (unfold ask_of_kind in refl)) (at 3 refl (unfold ask_of_kind in refl)) (λ e. omega arith)
node-only {s} w well x c d feedback r at leaves =
    two w well x (at 3 refl (unfold ask_of_kind in refl)) (at 4 refl (unfold ask_of_kind in refl)) (λ e. omega arith)
node-only {s} w well x c d if_matches r at leaves =
    let p = at 2 refl (unfold ask_of_kind in refl) in
    let q = at 3 refl (unfold ask_of_kind in refl) in
    let o = at 4 refl (unfold ask_of_kind in refl) in
    let a = held x c d (tree_at s (word_a s r)) in
    let b = held x c d (tree_at s (word_b s r)) in
    let e = held x c d (tree_at s (word_c s r)) in
    with-own x (a ++ (b ++ e))
    (below_both a (b ++ e) (piece-below w p)
    (below_both b e (piece-below w q) (piece-below w o) (pieces-apart w well (λ z. omega arith) q o))
    (apart-both a b e (pieces-apart w well (λ z. omega arith) p q) (pieces-apart w well (λ z. omega arith) p o)))
node-only {s} w well x c d delay r at leaves =
    two w well x (leaves (unfold ask_of_kind in refl) d) (at 4 refl (unfold ask_of_kind in refl)) (λ e. omega arith)

pub tree-only : {s : List ℕ} → Written s → WellNamed s → (x c d : Bool) (r : ℕ) → r < count s → sort_at s r ≡ expressions
    → Only (Under s r) (held x c d (tree_at s r))
tree-only {s} w well x c d =
    from-above (count s) (λ r. sort_at s r ≡ expressions → Only (Under s r) (held x c d (tree_at s r))) step
  where
    step : (r : ℕ) → r < count s
        → ((q : ℕ) → r < q → q < count s → sort_at s q ≡ expressions → Only (Under s q) (held x c d (tree_at s q)))
        → sort_at s r ≡ expressions → Only (Under s r) (held x c d (tree_at s r))
    step r h above e =
        let k = kind-of-sort expressions (kind_at s r) e in
        rw (tree-of w r h (expression k.0) k.1)
        (node-only w well x c d k.0 r
        (λ j t a. let p = part-of-kind w r (expression k.0) expressions h k.1 j t a in record {
          other = part-word-other (expression k.0) expressions j a t refl;
          named = part-names s r (expression k.0) expressions h k.1 j t a;
          higher = p.0;
          only = above (word s r j) p.0 p.1 p.2;
        })
        (λ a b. let p = part-of-kind w r (expression k.0) leafs h k.1 3 refl a in record {
          other = omega arith;
          named = part-names s r (expression k.0) leafs h k.1 3 refl a;
          higher = p.0;
          only = only-listed b (chain s (word_b s r)) (chain-only w (word_b s r) p.1 p.2);
        }))

-- no expression record, no leaf record and no delay's leaf twice in the circuit
pub circuit-distinct : {s : List ℕ} → Written s → WellNamed s → (x c d : Bool) → Distinct (held x c d (circuit s))
unfolding circuit
circuit-distinct {s} w well x c d = let p = root_is w in (tree-only w well x c d (word_b s 0) p.1 p.2).distinct
