-- The carried sheet is accepted with the new sheet's type: its leaves are bytes, and those of each constant and each delay still fit
-- their type, as what a delay takes is of a type of the same shape. By induction on the records, from the highest down.
-- Assumes nothing.
use Prim.Native.Nat.{ℕ, ◌≤◌, ◌<◌}
use mathlib.Core.Bool.{true, ◌&&◌}
use mathlib.Core.List.{List, [], ◌∷◌, map, Memᴰ}
use mathlib.Core.Option.{Option, none, some}
use mathlib.Core.Path.{◌≡◌, refl, sym, subst, ◌∙◌}
use mathlib.Core.Logic.{◌⊎◌, inl, inr}
use native.Mathlib.Omega.{arith}
use lib.Dec.{ltb}
use Rattle.picoella.specs.Language.{Within, OfType}
use Rattle.records.specs.Words.{count, word, word_a, word_b, word_c, word_d}
use Rattle.records.specs.Kinds.{
  ExpressionKind,
  expression,
  constant,
  name,
  tuple,
  first,
  second,
  let_in,
  feedback,
  if_matches,
  delay,
  expressions,
  leaf,
  leafs,
  part,
}
use Rattle.records.specs.Says.{kind_at, sort_at}
use Rattle.records.specs.Trees.{type_at, chain, tree_step, tree_at, circuit}
use Rattle.records.specs.Decoding.{leaf_values}
use Rattle.records.specs.Written.{Written}
use Rattle.records.proofs.Table.{ask_of_kind, kind-of-sort}
use Rattle.records.proofs.Asked.{part-of-kind, root_is, past-header}
use Rattle.records.proofs.Trees.{from-above, tree-of}
use Rattle.records.proofs.Leaves.{chain-leaves}
use Rattle.records.proofs.Rewritten.{same-type}
use Rattle.verdict.specs.Verdict.{verdict}
use Rattle.answers.specs.Answers.{Accepted}
use Rattle.accepted.proofs.Small.{accepted-passes}
use Rattle.accepted.proofs.AcceptedAgain.{ValuesFit, accepted-again}
use Rattle.accepted.proofs.Scopes.{scope-checked, constant-fits}
use Rattle.behaviour.specs.Entries.{Entry, assigned}
use Rattle.behaviour.proofs.Entries.{places_of, put-elsewhere}
use Rattle.behaviour.proofs.Cells.{sheet-cells}
use Rattle.behaviour.proofs.Members.{member-or-not}
use Rattle.behaviour.proofs.Scoped.{every-expression}
use Rattle.behaviour.proofs.Sheets.{entry-at, leaf-small}
use Rattle.carry.specs.Labels.{label, delay_type}
use Rattle.carry.specs.Carried.{leaves_at, held_at, giver, taken_from, taken_below, carried}
use Rattle.carry.proofs.ApartChains.{first_leaf}
use Rattle.carry.proofs.Shapes.{shape-bounds}
use Rattle.carry.proofs.Delays.{is-written, is-well-named, delay-holds}
use Rattle.carry.proofs.Takes.{bearer-delay}
use Rattle.carry.proofs.Entered.{
  giver-some,
  delay-chain,
  source,
  reads-carried,
  carried-rewritten,
  holds_same,
  holds-taken,
}

-- the leaves of each constant and each delay fit, where they do record by record
module _ (s s' : List ℕ) (w : Written s)
    (constants : (r : ℕ) → r < count s → kind_at s r ≡ expression constant → OfType (type_at s' (word_a s r)) (leaf_values s' (chain s (word_b s r))))
    (delays : (r : ℕ) → r < count s → kind_at s r ≡ expression delay → OfType (type_at s' (word_a s r)) (leaf_values s' (chain s (word_b s r)))) where
  node-fitting : (k : ExpressionKind) (r : ℕ) → r < count s → kind_at s r ≡ expression k
      → ((j : ℕ) → (ltb 0 j && ltb j 6) ≡ true → ask_of_kind (expression k) j ≡ part expressions → ValuesFit s' (tree_at s (word s r j)))
      → ValuesFit s' (tree_step s (tree_at s) (expression k) r (word_a s r) (word_b s r) (word_c s r) (word_d s r))
  node-fitting constant r h e at = constants r h e
  node-fitting name r h e at = tt
  node-fitting tuple r h e at = (at 2 refl (unfold ask_of_kind in refl), at 3 refl (unfold ask_of_kind in refl))
  node-fitting first r h e at = at 2 refl (unfold ask_of_kind in refl)
  node-fitting second r h e at = at 2 refl (unfold ask_of_kind in refl)
  node-fitting let_in r h e at = (at 2 refl (unfold ask_of_kind in refl), at 3 refl (unfold ask_of_kind in refl))
  node-fitting feedback r h e at = (at 3 refl (unfold ask_of_kind in refl), at 4 refl (unfold ask_of_kind in refl))
  node-fitting if_matches r h e at =
      (at 2 refl (unfold ask_of_kind in refl), at 3 refl (unfold ask_of_kind in refl), at 4 refl (unfold ask_of_kind in refl))
  node-fitting delay r h e at = (delays r h e, at 4 refl (unfold ask_of_kind in refl))

  tree-fitting : (r : ℕ) → r < count s → sort_at s r ≡ expressions → ValuesFit s' (tree_at s r)
  tree-fitting = from-above (count s) (λ r. sort_at s r ≡ expressions → ValuesFit s' (tree_at s r)) step
    where
      step : (r : ℕ) → r < count s → ((q : ℕ) → r < q → q < count s → sort_at s q ≡ expressions → ValuesFit s' (tree_at s q))
          → sort_at s r ≡ expressions → ValuesFit s' (tree_at s r)
      step r h above e =
          let k = kind-of-sort expressions (kind_at s r) e in
          rw (tree-of w r h (expression k.0) k.1)
          (node-fitting k.0 r h k.1
          (λ j t a. let p = part-of-kind w r (expression k.0) expressions h k.1 j t a in above (word s r j) p.0 p.1 p.2))

  circuit-fitting : ValuesFit s' (circuit s)
  unfolding circuit
  circuit-fitting = let p = root_is w in tree-fitting (word_b s 0) p.1 p.2

-- values of bytes are bytes
mapped-small : (f : ℕ → ℕ) (xs : List ℕ) → ((x : ℕ) → Memᴰ x xs → f x ≤ 255) → (v : ℕ) → Memᴰ v (map f xs) → v ≤ 255
mapped-small f [] small v m = elim m [ ]
mapped-small f (x ∷ xs) small v (Memᴰ.head p) = rw p (small x (Memᴰ.head refl))
mapped-small f (x ∷ xs) small v (Memᴰ.tail m) = mapped-small f xs (λ y n. small y (Memᴰ.tail n)) v m

assigned-small : (ls vs : List ℕ) → ((v : ℕ) → Memᴰ v vs → v ≤ 255) → (e : Entry) → Memᴰ e (assigned ls vs) → e.value ≤ 255
assigned-small [] vs small e m = elim m [ ]
assigned-small (l ∷ ls) [] small e (Memᴰ.head p) = rw p (omega arith)
assigned-small (l ∷ ls) [] small e (Memᴰ.tail m) = assigned-small ls [] small e m
assigned-small (l ∷ ls) (v ∷ vs) small e (Memᴰ.head p) = rw p (small v (Memᴰ.head refl))
assigned-small (l ∷ ls) (v ∷ vs) small e (Memᴰ.tail m) = assigned-small ls vs (λ x n. small x (Memᴰ.tail n)) e m

module _ (old new : List ℕ) {t' t : ℕ} (v' : verdict old ≡ Accepted t') (v : verdict new ≡ Accepted t) where
  w : Written new
  w = is-written v

  -- what is taken is bytes
  taken-small : (r : ℕ) (e : Entry) → Memᴰ e (taken_from old new r (giver old new r)) → e.value ≤ 255
  taken-small r e m = go (giver old new r) refl m
    where
      go : (o : Option ℕ) → giver old new r ≡ o → Memᴰ e (taken_from old new r o) → e.value ≤ 255
      go none z m = elim m [ ]
      go (some q) z m =
          let d = bearer-delay old (label new r) q (giver-some old new q r z).bears in
          let wo = is-written v' in
          let f = first_leaf wo (is-well-named old v') q d.0 (expression delay) d.3 delay-chain in
          assigned-small (leaves_at new r) (held_at old q)
          (mapped-small (word_a old) (leaves_at old q)
          (λ x n. let l = chain-leaves wo (word_b old q) f.0 f.1 x n in
          leaf-small wo x l.there (kind-of-sort leafs (kind_at old x) l.sort))) e m

  leaves-small : (r : ℕ) → r < count new → kind_at new r ≡ leaf → word_a (carried old new) r ≤ 255
  unfolding carried
  leaves-small r h k = go (member-or-not r (places_of (taken_below old new (count new))))
    where
      go : Memᴰ r (places_of (taken_below old new (count new))) ⊎ (Memᴰ r (places_of (taken_below old new (count new))) → ⊥)
          → word_a (carried old new) r ≤ 255
      go (inl m) =
          let f = entry-at r (taken_below old new (count new)) m in
          let s = source old new v (count new) (omega arith) f.0 f.1 in
          let z = f.2 in
          subst (λ x. word_a (carried old new) x ≤ 255) z
          (rw (reads-carried old new v s.at s.there f.0 s.member) (taken-small s.at f.0 s.member))
      go (inr n) =
          rw (put-elsewhere sheet-cells (taken_below old new (count new)) r new n) (leaf-small w r h k)

  -- a constant takes nothing
  constant-keeps : (r : ℕ) → kind_at new r ≡ expression constant → giver old new r ≡ none
  constant-keeps r e = go (giver old new r) refl
    where
      go : (o : Option ℕ) → giver old new r ≡ o → o ≡ none
      go none z = refl
      go (some q) z = let d = (giver-some old new q r z).taking in let y : ◌≡◌ {A = ℕ} 0 1 = cc in absurd (omega arith)

  constants-fit : (r : ℕ) → r < count new → kind_at new r ≡ expression constant
      → OfType (type_at (carried old new) (word_a new r)) (leaf_values (carried old new) (leaves_at new r))
  constants-fit r h e =
      let p = accepted-passes v in
      let c = every-expression w (is-well-named new v) r (past-header w r (rw e refl)) h (rw e refl) in
      rw (
        same-type (carried-rewritten old new v) (word_a new r),
        holds_same old new v r h (expression constant) e (unfold ask_of_kind in refl) (constant-keeps r e),
      )
      (constant-fits p (scope-checked t p v c.1) e)

  delays-fit : (r : ℕ) → r < count new → kind_at new r ≡ expression delay
      → OfType (type_at (carried old new) (word_a new r)) (leaf_values (carried old new) (leaves_at new r))
  delays-fit r h e = go (giver old new r) refl
    where
      types : type_at (carried old new) (word_a new r) ≡ delay_type new r
      types = same-type (carried-rewritten old new v) (word_a new r)

      go : (o : Option ℕ) → giver old new r ≡ o → OfType (type_at (carried old new) (word_a new r)) (leaf_values (carried old new) (leaves_at new r))
      go none z = rw (types, holds_same old new v r h (expression delay) e delay-chain z) (delay-holds new v r h e)
      go (some q) z =
          let g = giver-some old new q r z in
          let d = bearer-delay old (label new r) q g.bears in
          rw (types, holds-taken old new v t' v' q r h z)
          (subst (λ b. Within b (held_at old q)) (shape-bounds (delay_type old q) (delay_type new r) g.shape) (delay-holds old v' q d.0 d.3))

  pub carried-again : verdict (carried old new) ≡ verdict new
  carried-again =
      accepted-again (carried-rewritten old new v) t v leaves-small
      (circuit-fitting new (carried old new) w constants-fit delays-fit)
      ∙ sym v
