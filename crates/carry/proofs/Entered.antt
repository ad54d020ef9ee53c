-- What the carried sheet holds: each entry stands in the chain of a delay of the new sheet that takes; no leaf stands in two chains,
-- so a leaf that takes holds what it took, and every other leaf what it held.
-- Assumes nothing.
use Prim.Native.Nat.{ℕ, zero, suc, ◌≤◌, ◌<◌}
use mathlib.Core.Bool.{Bool, true, false}
use mathlib.Core.List.{List, [], Memᴰ}
use mathlib.Core.Option.{Option, none, some}
use mathlib.Core.Path.{◌≡◌, refl, sym, ap, subst, ◌∙◌}
use native.Mathlib.Omega.{arith}
use native.Mathlib.Decide.{ℕ_discrete}
use lib.ListN.{length, get_or, length-map}
use Rattle.records.specs.Words.{count, word_a, word_b}
use Rattle.records.specs.Kinds.{Kind, expression, delay, leafs, part}
use Rattle.records.specs.Says.{kind_at}
use Rattle.records.specs.Trees.{chain, circuit, delay_leaves}
use Rattle.records.specs.Written.{Distinct, Written, WellNamed}
use Rattle.records.specs.Decoding.{leaf_values}
use Rattle.records.specs.Rewritten.{Rewritten}
use Rattle.records.proofs.Table.{ask_of_kind}
use Rattle.records.proofs.Leaves.{chain-leaves}
use Rattle.records.proofs.Distinct.{chain-only}
use Rattle.records.proofs.Rewritten.{same-chain}
use Rattle.answers.specs.Answers.{when}
use Rattle.verdict.specs.Verdict.{verdict}
use Rattle.answers.specs.Answers.{Accepted}
use Rattle.behaviour.specs.Entries.{Entry, put_all, put_word}
use Rattle.behaviour.specs.Afterwards.{OnlyDelays}
use Rattle.behaviour.proofs.Entries.{places_of, place-of-member, put-append, put-leaves, put-elsewhere, put-read}
use Rattle.behaviour.proofs.Cells.{InSheet, put-length, put_byte, sheet-cells}
use Rattle.behaviour.proofs.Members.{either}
use Rattle.behaviour.proofs.Frames.{assigned-places, Reads, read-assigned}
use Rattle.behaviour.proofs.Sheets.{entry-at, only-leaves, leaf-in-sheet, accepted-written}
use Rattle.behaviour.proofs.DelayRecords.{record-delay-leaf}
use Rattle.behaviour.proofs.TermsAgain.{same-values}
use Rattle.carry.specs.Labels.{label, bearer, delay_type, same_shape}
use Rattle.carry.specs.Carried.{leaves_at, held_at, of_same_shape, giver, taken_from, taken_below, carried}
use Rattle.carry.proofs.Bearing.{labelled-delay}
use Rattle.carry.proofs.ApartChains.{first_leaf, one-chain}
use Rattle.carry.proofs.Delays.{is-written, is-well-named, delay-many}
use Rattle.carry.proofs.Takes.{bearer-delay, shape-leaves}

-- a delay that takes, and the one that gives
pub record TakesFrom (old new : List ℕ) (q r : ℕ) : Type 0 where
  pub bears : bearer old (label new r) ≡ some q
  pub shape : same_shape (delay_type old q) (delay_type new r) ≡ true
  pub taking : kind_at new r ≡ expression delay

when_true : (b : Bool) (p q : ℕ) → when b p ≡ some q → (b ≡ true) × (p ≡ q)
when_true true p q e = (refl, cc)
when_true false p q e = let z : ◌≡◌ {A = ℕ} 0 1 = cc in absurd (omega arith)

pub giver-some : (old new : List ℕ) (q r : ℕ) → giver old new r ≡ some q → TakesFrom old new q r
unfolding giver
giver-some old new q r e = go (bearer old (label new r)) refl e
  where
    go : (o : Option ℕ) → bearer old (label new r) ≡ o → of_same_shape old new r o ≡ some q → TakesFrom old new q r
    go none b e = let z : ◌≡◌ {A = ℕ} 0 1 = cc in absurd (omega arith)
    go (some p) b e =
        let f = when_true (same_shape (delay_type old p) (delay_type new r)) p q e in
        let y = f.1 in
        record {
          bears = rw (← y) b;
          shape = rw (← y) f.0;
          taking = labelled-delay new r (bearer-delay old (label new r) p b).1;
        }

abbrev pub leaf_chain : Kind → Type 0
leaf_chain k = ask_of_kind k 3 ≡ part leafs

pub delay-chain : leaf_chain (expression delay)
delay-chain = unfold ask_of_kind in refl

module _ (old new : List ℕ) {t : ℕ} (v : verdict new ≡ Accepted t) where
  w : Written new
  w = is-written v

  once : WellNamed new
  once = is-well-named new v

  abbrev pub taken_at : ℕ → List Entry
  taken_at r = taken_from old new r (giver old new r)

  -- the places that a record takes at are those of its chain, and it is a delay
  taken-place : (r l : ℕ) → Memᴰ l (places_of (taken_at r)) → (kind_at new r ≡ expression delay) × Memᴰ l (leaves_at new r)
  taken-place r l m = go (giver old new r) refl m
    where
      go : (o : Option ℕ) → giver old new r ≡ o → Memᴰ l (places_of (taken_from old new r o)) → (kind_at new r ≡ expression delay) × Memᴰ l (leaves_at new r)
      go none e m = elim m [ ]
      go (some q) e m = ((giver-some old new q r e).taking, rw (assigned-places (leaves_at new r) (held_at old q)) at m)

  -- where an entry comes from
  pub record Source (e : Entry) : Type 0 where
    pub at : ℕ
    pub there : at < count new
    pub member : Memᴰ e (taken_at at)

  pub source : (k : ℕ) → k ≤ count new → (e : Entry) → Memᴰ e (taken_below old new k) → Source e
  unfolding taken_below
  source zero h e m = elim m [ ]
  source (suc k) h e m =
      either (taken_below old new k) (taken_at k) (source k (omega arith) e) (λ n. record { at = k; there = omega arith; member = n }) m

  -- a leaf of another record's chain is not among them
  pub apart : (r : ℕ) → r < count new → (k : Kind) → kind_at new r ≡ k → leaf_chain k → (q : ℕ) → q < count new → (q ≡ r → ⊥)
      → (l : ℕ) → Memᴰ l (leaves_at new r) → Memᴰ l (places_of (taken_at q)) → ⊥
  apart r hr k e a q hq f l m n =
      let p = taken-place q l n in
      f (one-chain w once q hq (expression delay) p.0 delay-chain r hr k e a l p.1 m)

  -- so a record that takes nothing keeps its leaves
  pub leaf-stays : (r : ℕ) → r < count new → (k : Kind) → kind_at new r ≡ k → leaf_chain k → giver old new r ≡ none
      → (l : ℕ) → Memᴰ l (leaves_at new r) → word_a (carried old new) l ≡ word_a new l
  unfolding carried
  leaf-stays r hr k e a z l m =
      put-elsewhere sheet-cells (taken_below old new (count new)) l new other
    where
      other : Memᴰ l (places_of (taken_below old new (count new))) → ⊥
      other n = go (entry-at l (taken_below old new (count new)) n)
        where
          go : ((e : Entry) × Memᴰ e (taken_below old new (count new)) × (e.place ≡ l)) → ⊥
          go f =
              let s = source (count new) (omega arith) f.0 f.1 in
              let p = f.2 in
              at s (subst (λ x. Memᴰ x (places_of (taken_at s.at))) p (place-of-member f.0 (taken_at s.at) s.member))
              (ℕ_discrete s.at r)
            where
              at : (s : Source f.0) → Memᴰ l (places_of (taken_at s.at)) → Dec (s.at ≡ r) → ⊥
              at s n (no g) = apart r hr k e a s.at s.there g l m n
              at s n (yes g) =
                  let none-there : taken_at r ≡ [] = rw z refl in
                  elim (subst (λ es. Memᴰ l (places_of es)) none-there (rw g at n)) [ ]

  in-sheet : (a : List ℕ) → length a ≡ length new → (r l : ℕ) → Memᴰ l (places_of (taken_at r)) → r < count new → InSheet l a
  in-sheet a long r l m h =
      let p = taken-place r l m in
      let f = first_leaf w once r h (expression delay) p.0 delay-chain in
      let x = chain-leaves w (word_b new r) f.0 f.1 l p.1 in
      rw (← long) at (leaf-in-sheet new l x.there)

  taken-distinct : (r : ℕ) → r < count new → Distinct (places_of (taken_at r))
  taken-distinct r h = go (giver old new r) refl
    where
      go : (o : Option ℕ) → giver old new r ≡ o → Distinct (places_of (taken_from old new r o))
      go none e = tt
      go (some q) e =
          let f = first_leaf w once r h (expression delay) (giver-some old new q r e).taking delay-chain in
          rw (assigned-places (leaves_at new r) (held_at old q)) (chain-only w (word_b new r) f.0 f.1).distinct

  below-long : (k : ℕ) → length (put_all put_word (taken_below old new k) new) ≡ length new
  below-long k = put-leaves put_word length (taken_below old new k) (λ l m v a. put-length l v a) new

  -- and one that takes holds what it took
  reads-below : (k : ℕ) → k ≤ count new → (r : ℕ) → r < k → Reads (word_a (put_all put_word (taken_below old new k) new)) (taken_at r)
  unfolding taken_below
  reads-below zero h r i e m = absurd (omega arith)
  reads-below (suc k) h r i e m =
      rw (put-append put_word (taken_below old new k) (taken_at k) new)
      (go (ℕ_discrete r k) (λ j. reads-below k (omega arith) r j e m))
    where
      base : List ℕ
      base = put_all put_word (taken_below old new k) new

      go : Dec (r ≡ k) → (r < k → word_a (put_all put_word (taken_below old new k) new) e.place ≡ e.value)
          → word_a (put_all put_word (taken_at k) (put_all put_word (taken_below old new k) new)) e.place ≡ e.value
      go (yes z) ih =
          put-read sheet-cells (taken_at k) (put_all put_word (taken_below old new k) new) (taken-distinct k (omega arith))
          (λ l n. in-sheet (put_all put_word (taken_below old new k) new) (below-long k) k l n (omega arith)) e (rw z at m)
      go (no f) ih =
          let p = taken-place r e.place (place-of-member e (taken_at r) m) in
          put-elsewhere sheet-cells (taken_at k) e.place (put_all put_word (taken_below old new k) new)
          (apart r (omega arith) (expression delay) p.0 delay-chain k (omega arith) (λ z. f (sym z)) e.place p.1)
          ∙ ih (omega arith)

  pub reads-carried : (r : ℕ) → r < count new → Reads (word_a (carried old new)) (taken_from old new r (giver old new r))
  unfolding carried
  reads-carried r h = reads-below (count new) (omega arith) r h

  -- only delay leaves change
  pub carried-only-delays : OnlyDelays new (carried old new)
  unfolding carried
  carried-only-delays = record {
    length = below-long (count new);
    bytes = λ i other. put-leaves put_word (λ a. get_or a i 0) (taken_below old new (count new))
        (λ l m v a. let o = other l (delay-leaf l m) in put_byte i l v a o.0 o.1) new;
  }
    where
      delay-leaf : (l : ℕ) → Memᴰ l (places_of (taken_below old new (count new))) → Memᴰ l (delay_leaves (circuit new))
      delay-leaf l m =
          let f = entry-at l (taken_below old new (count new)) m in
          let s = source (count new) (omega arith) f.0 f.1 in
          let z = f.2 in
          let p = taken-place s.at f.0.place (place-of-member f.0 (taken_at s.at) s.member) in
          record-delay-leaf v l (record { of = s.at; there = s.there; kind = p.0; leaf = rw z at p.1 })

  pub carried-rewritten : Rewritten new (carried old new)
  carried-rewritten = only-leaves (accepted-written new v) carried-only-delays

  -- the leaves of a record are those that they were
  pub leaves-same : (r : ℕ) → leaves_at (carried old new) r ≡ leaves_at new r
  leaves-same r =
      ap (chain (carried old new)) (carried-rewritten.leaves r 3 (omega arith) (λ e. omega arith))
      ∙ same-chain carried-rewritten (word_b new r)

  pub holds_same : (r : ℕ) → r < count new → (k : Kind) → kind_at new r ≡ k → leaf_chain k → giver old new r ≡ none
      → leaf_values (carried old new) (leaves_at new r) ≡ held_at new r
  holds_same r h k e a z = same-values new (carried old new) (leaves_at new r) (leaf-stays r h k e a z)

  module _ (t' : ℕ) (v' : verdict old ≡ Accepted t') where
    pub holds-taken : (q r : ℕ) → r < count new → giver old new r ≡ some q → leaf_values (carried old new) (leaves_at new r) ≡ held_at old q
    unfolding carried
    holds-taken q r h e =
        let g = giver-some old new q r e in
        let d = bearer-delay old (label new r) q g.bears in
        let many : length (leaves_at new r) ≡ length (held_at old q) =
        delay-many new v r h g.taking
        ∙ sym (shape-leaves old new q r g.shape)
        ∙ sym (delay-many old v' q d.0 d.3)
        ∙ sym (length-map (leaves_at old q) (word_a old)) in
        read-assigned (word_a (carried old new)) (leaves_at new r) (held_at old q) many
        (λ x m. reads-carried r h x (rw e m))
