-- The delays' leaves of an accepted circuit are the leaves of the sheet's delay records, chain by chain: every delay record is an
-- expression of the circuit, and a delay of the circuit is a delay record. So what is written is the table copied there. By
-- induction on the way down from the root, and on the records, from the highest down.
-- Assumes nothing.
use Prim.Native.Nat.{ℕ, zero, suc, ◌<◌}
use mathlib.Core.Bool.{true, ◌&&◌}
use mathlib.Core.List.Memᴰ
use mathlib.Core.List.{
  List,
  [],
  ◌∷◌,
  ◌++◌,
  Memᴰ,
}
use mathlib.Core.Path.{◌≡◌, refl, subst}
use native.Mathlib.Omega.{arith}
use native.Mathlib.Decide.{ℕ_discrete}
use lib.Dec.{ltb}
use lib.ListN.{length}
use Rattle.records.specs.Words.{word, count, word_a, word_b, word_c, word_d}
use Rattle.records.specs.Kinds.{
  Kind,
  header,
  type_of,
  expression,
  pattern,
  leaf,
  unknown,
  ExpressionKind,
  constant,
  name,
  tuple,
  first,
  second,
  let_in,
  feedback,
  if_matches,
  delay,
  expressions,
  part,
}
use Rattle.records.specs.Says.{kind_at, sort_at}
use Rattle.records.specs.Trees.{chain, tree_step, tree_at, circuit, delay_leaves}
use Rattle.records.specs.Written.{Written}
use Rattle.records.proofs.Table.{ask_of_kind, kind-of-sort}
use Rattle.records.proofs.Asked.{part-of-kind, root_is, past-header}
use Rattle.records.proofs.Trees.{from-above, tree-of}
use Rattle.structure.specs.Rules.{Passes}
use Rattle.accepted.proofs.Laws.{written, well-named}
use Rattle.verdict.specs.Verdict.{verdict}
use Rattle.verdict.specs.Scopes.{
  Scope,
  root,
  tuple_first,
  tuple_second,
  of-first,
  of-second,
  let_defining,
  let_body,
  feedback_defining,
  feedback_body,
  if_tested,
  if_then,
  if_else,
  of-delay,
}
use Rattle.answers.specs.Answers.{Accepted}
use Rattle.accepted.proofs.Laws.{accepted-by-types}
use Rattle.accepted.proofs.Scopes.{scope-checked}
use Rattle.meaning.specs.Elaboration.{Term}
use Rattle.behaviour.specs.Delays.{store}
use Rattle.behaviour.specs.Sheets.{write}
use Rattle.behaviour.specs.Writable.{Writable}
use Rattle.behaviour.specs.Copies.{copied, leaves_by_kind, delay_chains}
use Rattle.behaviour.proofs.Members.{either, Among}
use Rattle.behaviour.proofs.Scoped.{every-expression}
use Rattle.behaviour.proofs.Stores.{write-copied}

-- l is a leaf of a delay record
pub record DelayLeaf (s : List ℕ) (l : ℕ) : Type 0 where
  pub of : ℕ
  pub there : of < count s
  pub kind : kind_at s of ≡ expression delay
  pub leaf : Memᴰ l (chain s (word_b s of))

-- what the tree of a record of this kind holds
node-leaves : {s : List ℕ} (l : ℕ) (k : ExpressionKind) (r : ℕ) → r < count s → kind_at s r ≡ expression k
    → ((j : ℕ) → (ltb 0 j && ltb j 6) ≡ true → ask_of_kind (expression k) j ≡ part expressions
    → Memᴰ l (delay_leaves (tree_at s (word s r j))) → DelayLeaf s l)
    → Memᴰ l (delay_leaves (tree_step s (tree_at s) (expression k) r (word_a s r) (word_b s r) (word_c s r) (word_d s r)))
    → DelayLeaf s l
node-leaves {s} l constant r h e at m = elim m [ ]
node-leaves {s} l name r h e at m = elim m [ ]
node-leaves {s} l tuple r h e at m =
    either (delay_leaves (tree_at s (word_a s r))) (delay_leaves (tree_at s (word_b s r)))
    (at 2 refl (unfold ask_of_kind in refl)) (at 3 refl (unfold ask_of_kind in refl)) m
node-leaves {s} l first r h e at m = at 2 refl (unfold ask_of_kind in refl) m
node-leaves {s} l second r h e at m = at 2 refl (unfold ask_of_kind in refl) m
node-leaves {s} l let_in r h e at m =
    either (delay_leaves (tree_at s (word_a s r))) (delay_leaves (tree_at s (word_b s r)))
    (at 2 refl (unfold ask_of_kind in refl)) (at 3 refl (unfold ask_of_kind in refl)) m
node-leaves {s} l feedback r h e at m =
    either (delay_leaves (tree_at s (word_b s r))) (delay_leaves (tree_at s (word_c s r)))
    (at 3 refl (unfold ask_of_kind in refl)) (at 4 refl (unfold ask_of_kind in refl)) m
node-leaves {s} l if_matches r h e at m =
    either (delay_leaves (tree_at s (word_a s r))) (delay_leaves (tree_at s (word_b s r)) ++ delay_leaves (tree_at s (word_c s r)))
    (at 2 refl (unfold ask_of_kind in refl))
    (either (delay_leaves (tree_at s (word_b s r))) (delay_leaves (tree_at s (word_c s r)))
    (at 3 refl (unfold ask_of_kind in refl)) (at 4 refl (unfold ask_of_kind in refl))) m
node-leaves {s} l delay r h e at m =
    either (chain s (word_b s r)) (delay_leaves (tree_at s (word_c s r)))
    (λ n. record { of = r; there = h; kind = e; leaf = n }) (at 4 refl (unfold ask_of_kind in refl)) m

tree-leaves : {s : List ℕ} → Written s → (l r : ℕ) → r < count s → sort_at s r ≡ expressions
    → Memᴰ l (delay_leaves (tree_at s r)) → DelayLeaf s l
tree-leaves {s} w l =
    from-above (count s) (λ r. sort_at s r ≡ expressions → Memᴰ l (delay_leaves (tree_at s r)) → DelayLeaf s l) step
  where
    step : (r : ℕ) → r < count s
        → ((q : ℕ) → r < q → q < count s → sort_at s q ≡ expressions → Memᴰ l (delay_leaves (tree_at s q)) → DelayLeaf s l)
        → sort_at s r ≡ expressions → Memᴰ l (delay_leaves (tree_at s r)) → DelayLeaf s l
    step r h above e m =
        let k = kind-of-sort expressions (kind_at s r) e in
        node-leaves l k.0 r h k.1
        (λ j t a. let p = part-of-kind w r (expression k.0) expressions h k.1 j t a in above (word s r j) p.0 p.1 p.2)
        (rw (tree-of w r h (expression k.0) k.1) at m)

-- a leaf of a delay of the circuit is a leaf of a delay record
pub circuit-delay-leaf : {s : List ℕ} → Written s → (l : ℕ) → Memᴰ l (delay_leaves (circuit s)) → DelayLeaf s l
unfolding circuit
circuit-delay-leaf {s} w l m = let p = root_is w in tree-leaves w l (word_b s 0) p.1 p.2 m

module _ {s : List ℕ} {t : ℕ} (v : verdict s ≡ Accepted t) where
  passes : Passes s
  passes = ((accepted-by-types s t).0 v).0

  -- the tree of an expression of the circuit, by its kind
  tree-by-kind : {q : ℕ} {Γ : List ℕ} → Scope s q Γ → (k : ExpressionKind) → kind_at s q ≡ expression k
      → tree_at s q ≡ tree_step s (tree_at s) (expression k) q (word_a s q) (word_b s q) (word_c s q) (word_d s q)
  tree-by-kind {q} c k e = tree-of (written passes) q (scope-checked t passes v c).there (expression k) e

  -- the delays of an expression of the circuit are delays of the circuit
  scope-leaves : {q : ℕ} {Γ : List ℕ} → Scope s q Γ → Among (delay_leaves (tree_at s q)) (delay_leaves (circuit s))
  unfolding circuit
  scope-leaves root x m = m
  scope-leaves (tuple_first e c) x m = scope-leaves c x (rw (tree-by-kind c tuple e) (Memᴰ.append_left _ m))
  scope-leaves (tuple_second {q = q} e c) x m =
      scope-leaves c x (rw (tree-by-kind c tuple e) (Memᴰ.append_right (delay_leaves (tree_at s (word_a s q))) m))
  scope-leaves (of-first e c) x m = scope-leaves c x (rw (tree-by-kind c first e) m)
  scope-leaves (of-second e c) x m = scope-leaves c x (rw (tree-by-kind c second e) m)
  scope-leaves (let_defining e c) x m = scope-leaves c x (rw (tree-by-kind c let_in e) (Memᴰ.append_left _ m))
  scope-leaves (let_body {q = q} e c) x m =
      scope-leaves c x (rw (tree-by-kind c let_in e) (Memᴰ.append_right (delay_leaves (tree_at s (word_a s q))) m))
  scope-leaves (feedback_defining e c) x m = scope-leaves c x (rw (tree-by-kind c feedback e) (Memᴰ.append_left _ m))
  scope-leaves (feedback_body {q = q} e c) x m =
      scope-leaves c x (rw (tree-by-kind c feedback e) (Memᴰ.append_right (delay_leaves (tree_at s (word_b s q))) m))
  scope-leaves (if_tested e c) x m = scope-leaves c x (rw (tree-by-kind c if_matches e) (Memᴰ.append_left _ m))
  scope-leaves (if_then {q = q} e c) x m =
      scope-leaves c x
      (rw (tree-by-kind c if_matches e) (Memᴰ.append_right (delay_leaves (tree_at s (word_a s q))) (Memᴰ.append_left _ m)))
  scope-leaves (if_else {q = q} e c) x m =
      scope-leaves c x
      (rw (tree-by-kind c if_matches e)
      (Memᴰ.append_right (delay_leaves (tree_at s (word_a s q))) (Memᴰ.append_right (delay_leaves (tree_at s (word_b s q))) m)))
  scope-leaves (of-delay {q = q} e c) x m =
      scope-leaves c x (rw (tree-by-kind c delay e) (Memᴰ.append_right (chain s (word_b s q)) m))

  -- a leaf of a delay record is a leaf of a delay of the circuit
  pub record-delay-leaf : (l : ℕ) → DelayLeaf s l → Memᴰ l (delay_leaves (circuit s))
  record-delay-leaf l d =
      let q = d.of in
      let e = d.kind in
      let c = every-expression (written passes) (well-named passes) q (past-header (written passes) q (rw e)) d.there (rw e) in
      scope-leaves c.1 l (rw (tree-by-kind c.1 delay e) (Memᴰ.append_left _ d.leaf))

  -- the records' chains have the delays' leaves and no others
  chains-leaf : (n l : ℕ) → Memᴰ l (delay_chains s n) → n < suc (count s) → DelayLeaf s l
  chains-leaf zero l m h = elim m [ ]
  chains-leaf (suc r) l m h =
      either (delay_chains s r) (leaves_by_kind (kind_at s r) (chain s (word_b s r))) (λ n. chains-leaf r l n (omega arith))
      (λ n. at (kind_at s r) refl n) m
    where
      at : (k : Kind) → kind_at s r ≡ k → Memᴰ l (leaves_by_kind k (chain s (word_b s r))) → DelayLeaf s l
      at header e n = elim n [ ]
      at (type_of k) e n = elim n [ ]
      at (expression constant) e n = elim n [ ]
      at (expression name) e n = elim n [ ]
      at (expression tuple) e n = elim n [ ]
      at (expression first) e n = elim n [ ]
      at (expression second) e n = elim n [ ]
      at (expression let_in) e n = elim n [ ]
      at (expression feedback) e n = elim n [ ]
      at (expression if_matches) e n = elim n [ ]
      at (expression delay) e n = record { of = r; there = omega arith; kind = e; leaf = n }
      at (pattern k) e n = elim n [ ]
      at leaf e n = elim n [ ]
      at unknown e n = elim n [ ]

  leaf-in-chains : (n l : ℕ) (d : DelayLeaf s l) → d.of < n → Memᴰ l (delay_chains s n)
  leaf-in-chains zero l d h = absurd (omega arith)
  leaf-in-chains (suc r) l d h = go (ℕ_discrete d.of r) (leaf-in-chains r l d)
    where
      go : Dec (d.of ≡ r) → (d.of < r → Memᴰ l (delay_chains s r)) → Memᴰ l (delay_chains s (suc r))
      go (yes e) rest =
          Memᴰ.append_right (delay_chains s r)
          (subst (λ q. Memᴰ l (leaves_by_kind (kind_at s q) (chain s (word_b s q)))) e (rw d.kind d.leaf))
      go (no f) rest = Memᴰ.append_left (leaves_by_kind (kind_at s r) (chain s (word_b s r))) (rest (omega arith))

  -- what is written is the table copied along the chains of the sheet's delay records
  pub write-copied-chains : (e : Term) → Writable s t e → (table : List ℕ)
      → ((l : ℕ) → Memᴰ l (delay_leaves (circuit s)) → l < length table)
      → write s e ≡ copied (store e table) (delay_chains s (count s)) s
  write-copied-chains e h table room =
      write-copied v h table (delay_chains s (count s)) room
      (λ l m. let d = circuit-delay-leaf (written passes) l m in leaf-in-chains (count s) l d d.there)
      (λ l m n. absurd (n (record-delay-leaf l (chains-leaf (count s) l m (omega arith)))))
