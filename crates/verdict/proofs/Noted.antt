-- The records of a tree are expression records of the sheet; and at each expression of the circuit judging stores the leaf count
-- of its type, with the names in scope there. The first by induction on the records, from the highest down, the second on the
-- way down from the root: what a part stores is among what the whole stores.
-- Assumes nothing.
use Prim.Native.Nat.{ℕ, ◌<◌}
use mathlib.Core.Bool.{true, false, ◌&&◌}
use mathlib.Core.List.Memᴰ
use mathlib.Core.List.{
  List,
  [],
  ◌∷◌,
  ◌++◌,
  Memᴰ,
}
use mathlib.Core.Path.{◌≡◌, refl}
use mathlib.Core.Logic.{◌⊎◌, inl, inr}
use native.Mathlib.Omega.{arith}
use lib.Dec.{ltb}
use lib.ListN.{length}
use Rattle.records.specs.Words.{word, count, word_a, word_b, word_c, word_d}
use Rattle.records.specs.Kinds.{
  expression,
  ExpressionKind,
  constant,
  name,
  tuple,
  first,
  second,
  let_in,
  feedback,
  if_matches,
  delay,
  expressions,
  part,
}
use Rattle.records.specs.Says.{kind_at, sort_at}
use Rattle.records.specs.Trees.{Tree, tree_step, tree_at, circuit, type_record_of}
use Rattle.records.specs.Written.{expression_records, Written, WellNamed}
use Rattle.records.proofs.Table.{ask_of_kind, kind-of-sort}
use Rattle.records.proofs.Asked.{part-of-kind, root_is}
use Rattle.records.proofs.Trees.{from-above, tree-of}
use Rattle.records.proofs.Distinct.{circuit-distinct}
use Rattle.typing.specs.Judging.{noted}
use Rattle.typing.specs.ExpressionWidth.{width}
use Rattle.verdict.specs.Scopes.{inputs, Scope, root, tuple_first, tuple_second, of-first, of-second, let_defining, let_body, feedback_defining, feedback_body, if_tested, if_then, if_else, of-delay}
use Rattle.verdict.proofs.Stores.{Note, notes, Stored, noted-stored}

-- x is an expression record of the sheet
pub record ExpressionRecord (s : List ℕ) (x : ℕ) : Type 0 where
  pub there : x < count s
  pub sort : sort_at s x ≡ expressions

abbrev pub AllExpressions : List ℕ → List ℕ → Type 0
AllExpressions s rs = (x : ℕ) → Memᴰ x rs → ExpressionRecord s x

all_both : (s rs ls : List ℕ) → AllExpressions s rs → AllExpressions s ls → AllExpressions s (rs ++ ls)
all_both s rs ls a b = λ x m. go x (Memᴰ.append_cases rs m)
  where
    go : (x : ℕ) → Memᴰ x rs ⊎ Memᴰ x ls → ExpressionRecord s x
    go x (inl m) = a x m
    go x (inr m) = b x m

all_cons : (s : List ℕ) (r : ℕ) (rs : List ℕ) → ExpressionRecord s r → AllExpressions s rs → AllExpressions s (r ∷ rs)
all_cons s r rs h a x (Memᴰ.head e) = rw e h
all_cons s r rs h a x (Memᴰ.tail m) = a x m

-- the records of a tree, from those of its parts
node-expressions : {s : List ℕ} (k : ExpressionKind) (r : ℕ) (words : ℕ → ℕ) → ExpressionRecord s r
    → ((j : ℕ) → (ltb 0 j && ltb j 6) ≡ true → ask_of_kind (expression k) j ≡ part expressions
    → AllExpressions s (expression_records (tree_at s (words j))))
    → AllExpressions s (expression_records (tree_step s (tree_at s) (expression k) r (words 2) (words 3) (words 4) (words 5)))
node-expressions {s} k r words own at = go k at
  where
    of : ℕ → List ℕ
    of j = expression_records (tree_at s (words j))

    alone : AllExpressions s (r ∷ [])
    alone = all_cons s r [] own (λ x m. elim m [ ])

    with_two : (j i : ℕ) → AllExpressions s (of j) → AllExpressions s (of i) → AllExpressions s (r ∷ (of j ++ of i))
    with_two j i a b = all_cons s r (of j ++ of i) own (all_both s (of j) (of i) a b)

    go : (k : ExpressionKind)
        → ((j : ℕ) → (ltb 0 j && ltb j 6) ≡ true → ask_of_kind (expression k) j ≡ part expressions → AllExpressions s (of j))
        → AllExpressions s (expression_records (tree_step s (tree_at s) (expression k) r (words 2) (words 3) (words 4) (words 5)))
    go constant at = alone
    go name at = alone
    go tuple at = with_two 2 3 (at 2 refl (unfold ask_of_kind in refl)) (at 3 refl (unfold ask_of_kind in refl))
    go first at = all_cons s r (of 2) own (at 2 refl (unfold ask_of_kind in refl))
    go second at = all_cons s r (of 2) own (at 2 refl (unfold ask_of_kind in refl))
    go let_in at = with_two 2 3 (at 2 refl (unfold ask_of_kind in refl)) (at 3 refl (unfold ask_of_kind in refl))
    go feedback at = with_two 3 4 (at 3 refl (unfold ask_of_kind in refl)) (at 4 refl (unfold ask_of_kind in refl))
    go if_matches at =
        all_cons s r (of 2 ++ (of 3 ++ of 4)) own
        (all_both s (of 2) (of 3 ++ of 4) (at 2 refl (unfold ask_of_kind in refl))
        (all_both s (of 3) (of 4) (at 3 refl (unfold ask_of_kind in refl)) (at 4 refl (unfold ask_of_kind in refl))))
    go delay at = all_cons s r (of 4) own (at 4 refl (unfold ask_of_kind in refl))

pub tree-expressions : {s : List ℕ} → Written s → (r : ℕ) → r < count s → sort_at s r ≡ expressions
    → AllExpressions s (expression_records (tree_at s r))
tree-expressions {s} w =
    from-above (count s) (λ r. sort_at s r ≡ expressions → AllExpressions s (expression_records (tree_at s r))) step
  where
    step : (r : ℕ) → r < count s
        → ((q : ℕ) → r < q → q < count s → sort_at s q ≡ expressions → AllExpressions s (expression_records (tree_at s q)))
        → sort_at s r ≡ expressions → AllExpressions s (expression_records (tree_at s r))
    step r h above e =
        let k = kind-of-sort expressions (kind_at s r) e in
        rw (tree-of w r h (expression k.0) k.1)
        (node-expressions k.0 r (word s r) (record { there = h; sort = e })
        (λ j t a. let p = part-of-kind w r (expression k.0) expressions h k.1 j t a in above (word s r j) p.0 p.1 p.2))

pub circuit-expressions : {s : List ℕ} → Written s → AllExpressions s (expression_records (circuit s))
unfolding circuit
circuit-expressions {s} w = let p = root_is w in tree-expressions w (word_b s 0) p.1 p.2

-- an expression record whose tree stores, with these names in scope, only what the circuit stores
pub record Noting (s : List ℕ) (q : ℕ) (Γ : List ℕ) : Type 0 where
  pub own : ExpressionRecord s q
  pub within : (n : Note) → Memᴰ n (notes s Γ (tree_at s q)) → Memᴰ n (notes s (inputs s) (circuit s))

-- the tree of record q, by its kind
abbrev tree_of : List ℕ → ExpressionKind → ℕ → Tree
tree_of s k q = tree_step s (tree_at s) (expression k) q (word_a s q) (word_b s q) (word_c s q) (word_d s q)

part-noting : {s : List ℕ} {q : ℕ} {Γ : List ℕ} → Written s → Noting s q Γ → (k : ExpressionKind) → kind_at s q ≡ expression k
    → (j : ℕ) → (ltb 0 j && ltb j 6) ≡ true → ask_of_kind (expression k) j ≡ part expressions → (Δ : List ℕ)
    → ((n : Note) → Memᴰ n (notes s Δ (tree_at s (word s q j))) → Memᴰ n (notes s Γ (tree_of s k q)))
    → Noting s (word s q j) Δ
part-noting {s} {q} {Γ} w o k e j t a Δ among =
    let f = part-of-kind w q (expression k) expressions o.own.there e j t a in
    record {
      own = record { there = f.1; sort = f.2 };
      within = λ n m. o.within n (rw (tree-of w q o.own.there (expression k) e) (among n m));
    }

pub scope-noting : {s : List ℕ} {q : ℕ} {Γ : List ℕ} → Written s → Scope s q Γ → Noting s q Γ
unfolding circuit
scope-noting {s} w root =
    let p = root_is w in record { own = record { there = p.1; sort = p.2 }; within = λ n m. m }
scope-noting {s} w (tuple_first {q = q} {Γ = Γ} e c) =
    part-noting w (scope-noting w c) tuple e 2 refl (unfold ask_of_kind in refl) Γ
    (λ n m. Memᴰ.tail (Memᴰ.append_left (notes s Γ (tree_at s (word_b s q))) m))
scope-noting {s} w (tuple_second {q = q} {Γ = Γ} e c) =
    part-noting w (scope-noting w c) tuple e 3 refl (unfold ask_of_kind in refl) Γ
    (λ n m. Memᴰ.tail (Memᴰ.append_right (notes s Γ (tree_at s (word_a s q))) m))
scope-noting {s} w (of-first {Γ = Γ} e c) =
    part-noting w (scope-noting w c) first e 2 refl (unfold ask_of_kind in refl) Γ (λ n m. Memᴰ.tail m)
scope-noting {s} w (of-second {Γ = Γ} e c) =
    part-noting w (scope-noting w c) second e 2 refl (unfold ask_of_kind in refl) Γ (λ n m. Memᴰ.tail m)
scope-noting {s} w (let_defining {q = q} {Γ = Γ} e c) =
    part-noting w (scope-noting w c) let_in e 2 refl (unfold ask_of_kind in refl) Γ
    (λ n m. Memᴰ.tail
    (Memᴰ.append_left (notes s (type_record_of s Γ (tree_at s (word_a s q)) ∷ Γ) (tree_at s (word_b s q))) m))
scope-noting {s} w (let_body {q = q} {Γ = Γ} e c) =
    part-noting w (scope-noting w c) let_in e 3 refl (unfold ask_of_kind in refl) (type_record_of s Γ (tree_at s (word_a s q)) ∷ Γ)
    (λ n m. Memᴰ.tail (Memᴰ.append_right (notes s Γ (tree_at s (word_a s q))) m))
scope-noting {s} w (feedback_defining {q = q} {Γ = Γ} e c) =
    part-noting w (scope-noting w c) feedback e 3 refl (unfold ask_of_kind in refl) (word_a s q ∷ Γ)
    (λ n m. Memᴰ.tail (Memᴰ.append_left (notes s (word_a s q ∷ Γ) (tree_at s (word_c s q))) m))
scope-noting {s} w (feedback_body {q = q} {Γ = Γ} e c) =
    part-noting w (scope-noting w c) feedback e 4 refl (unfold ask_of_kind in refl) (word_a s q ∷ Γ)
    (λ n m. Memᴰ.tail (Memᴰ.append_right (notes s (word_a s q ∷ Γ) (tree_at s (word_b s q))) m))
scope-noting {s} w (if_tested {q = q} {Γ = Γ} e c) =
    part-noting w (scope-noting w c) if_matches e 2 refl (unfold ask_of_kind in refl) Γ
    (λ n m. Memᴰ.tail
    (Memᴰ.append_left (notes s Γ (tree_at s (word_b s q)) ++ notes s Γ (tree_at s (word_c s q))) m))
scope-noting {s} w (if_then {q = q} {Γ = Γ} e c) =
    part-noting w (scope-noting w c) if_matches e 3 refl (unfold ask_of_kind in refl) Γ
    (λ n m. Memᴰ.tail
    (Memᴰ.append_right (notes s Γ (tree_at s (word_a s q))) (Memᴰ.append_left (notes s Γ (tree_at s (word_c s q))) m)))
scope-noting {s} w (if_else {q = q} {Γ = Γ} e c) =
    part-noting w (scope-noting w c) if_matches e 4 refl (unfold ask_of_kind in refl) Γ
    (λ n m. Memᴰ.tail
    (Memᴰ.append_right (notes s Γ (tree_at s (word_a s q))) (Memᴰ.append_right (notes s Γ (tree_at s (word_b s q))) m)))
scope-noting {s} w (of-delay {Γ = Γ} e c) =
    part-noting w (scope-noting w c) delay e 4 refl (unfold ask_of_kind in refl) Γ (λ n m. Memᴰ.tail m)

-- the width of a tree is among what it stores, at its own record
own-noted : (s Γ : List ℕ) (k : ExpressionKind) (q : ℕ)
    → Memᴰ (record { at = q; leaves = width s Γ (tree_of s k q) }) (notes s Γ (tree_of s k q))
own-noted s Γ constant q = Memᴰ.head refl
own-noted s Γ name q = Memᴰ.head refl
own-noted s Γ tuple q = Memᴰ.head refl
own-noted s Γ first q = Memᴰ.head refl
own-noted s Γ second q = Memᴰ.head refl
own-noted s Γ let_in q = Memᴰ.head refl
own-noted s Γ feedback q = Memᴰ.head refl
own-noted s Γ if_matches q = Memᴰ.head refl
own-noted s Γ delay q = Memᴰ.head refl

pub scope-noted : {s : List ℕ} {q : ℕ} {Γ : List ℕ} → Written s → Scope s q Γ
    → Memᴰ (record { at = q; leaves = width s Γ (tree_at s q) }) (notes s (inputs s) (circuit s))
scope-noted {s} {q} {Γ} w c =
    let o = scope-noting w c in
    let k = kind-of-sort expressions (kind_at s q) o.own.sort in
    o.within (record { at = q; leaves = width s Γ (tree_at s q) })
    (rw (tree-of w q o.own.there (expression k.0) k.1) (own-noted s Γ k.0 q))

-- what judging the circuit stores
pub circuit-stored : {s : List ℕ} → Written s → WellNamed s → (w : List ℕ) → length w ≡ 4096
    → Stored (expression_records (circuit s)) (notes s (inputs s) (circuit s)) w (noted s (inputs s) (circuit s) w)
circuit-stored {s} p well w l =
    noted-stored s (inputs s) (circuit s) w (circuit-distinct p well true false false)
    (λ x m. let h = (circuit-expressions p x m).there in let f = p.few in omega arith)
