-- A table copied along a chain leaf by leaf, and along the chains of the delays record by record.
-- Assumes nothing.
use Prim.Native.Nat.{ℕ, zero, suc, ◌+◌, ◌*◌, ◌≤◌, ◌<◌}
use mathlib.Core.List.{List, [], ◌∷◌, ◌++◌}
use mathlib.Core.Path.{◌≡◌, refl, sym, ap, ◌∙◌}
use native.Mathlib.Omega.{arith}
use native.Mathlib.Numerals.{add-one}
use lib.ListN.{length, get_or, set, length-set}
use Rattle.records.specs.Words.{count, next_word, word, word_b}
use Rattle.records.specs.Kinds.{expression, delay, leafs}
use Rattle.records.specs.Says.{kind_at, sort_at}
use Rattle.records.specs.Trees.{chain, follow}
use Rattle.records.proofs.Trees.{chain-of, next-leaf}
use Rattle.records.proofs.Table.{ask_of_kind}
use Rattle.records.proofs.Asked.{past-header, part-of-kind}
use Rattle.values.proofs.Gathering.{left, left-falls}
use Rattle.behaviour.specs.Entries.{put_word}
use Rattle.behaviour.specs.Copies.{copied, leaves_by_kind, delay_chains}
use Rattle.stepper.specs.Cycling.{Copying}

-- the leaves from l are still to be copied to
pub record Left (first : List ℕ) (h : List ℕ) (all : List ℕ) (before : List ℕ) (l : ℕ) (now : List ℕ) : Type 0 where
  pub long : length now ≡ length before
  pub there : l < count first
  pub sort : (l ≡ 0 → ⊥) → sort_at first l ≡ leafs
  pub rest : copied h (follow [] (chain first) l) now ≡ copied h all before

module _ {s : List ℕ} {n : ℕ} {before : List ℕ} (h : List ℕ) (g : Copying s n before) where
  follows : (x : ℕ) → (x ≡ 0 → ⊥) → follow [] (chain s) x ≡ chain s x
  follows zero f = absurd (f refl)
  follows (suc x) f = refl

  -- no leaf is the header
  not-header : (x : ℕ) → sort_at s x ≡ leafs → x ≡ 0 → ⊥
  not-header x e z = let h = past-header g.written x (rw e) in omega arith

  module _ {all : List ℕ} {l : ℕ} {now : List ℕ} (r : Left s h all before l now) (f : l ≡ 0 → ⊥) where
    pub copied-leaf-there : l < n
    copied-leaf-there = let t = r.there in let c = g.sized.counted in omega arith

    pub next-left : {x : ℕ} → x ≡ next_word s l
        → Left s h all before x (set (set now (12 * l + 4) (get_or h l 0)) (12 * l + 4 + 1) 0)
    next-left ex =
        record {
          long = length-set (set now (12 * l + 4) (get_or h l 0)) (12 * l + 4 + 1) 0 ∙ length-set now (12 * l + 4) (get_or h l 0) ∙ r.long;
          there = rw ex (go (next_word s l) refl).0;
          sort = λ z. rw ex ((go (next_word s l) refl).1 (λ y. z (ex ∙ y)));
          rest =
              rw (high l, ex)
              (ap (λ ls. copied h ls now) (sym (chain-of g.written l r.there (r.sort f)) ∙ sym (follows l f)) ∙ r.rest);
        }
      where
        high : (l : ℕ) → 12 * l + 4 + 1 ≡ 12 * l + 5
        high l = omega arith

        go : (y : ℕ) → y ≡ next_word s l → (next_word s l < count s) × ((next_word s l ≡ 0 → ⊥) → sort_at s (next_word s l) ≡ leafs)
        go zero e = (let t = r.there in omega arith, λ z. absurd (z (sym e)))
        go (suc y) e = let p = next-leaf g.written l r.there (r.sort f) (omega arith) in (p.1, λ _. p.2)

    pub next-falls : {x : ℕ} → x ≡ next_word s l → left n x < left n l
    next-falls {x} ex = left-falls n l x f copied-leaf-there (λ z. higher (λ y. z (ex ∙ y)))
      where
        higher : (next_word s l ≡ 0 → ⊥) → (l < x) × (x < n)
        higher z =
            let p = next-leaf g.written l r.there (r.sort f) (positive (next_word s l) z) in
            let c = g.sized.counted in
            (rw ex p.0, omega (arith, p.1, ex))
          where
            positive : (y : ℕ) → (y ≡ 0 → ⊥) → 0 < y
            positive y k = omega arith

module _ {s : List ℕ} {n : ℕ} {before : List ℕ} (g : Copying s n before) where
  pub delay-first-leaf : (r : ℕ) → r < n → kind_at s r ≡ expression delay → {x : ℕ} → x ≡ word s r 3 → (x < n) × (sort_at s x ≡ leafs)
  delay-first-leaf r k e ex =
      let c = g.sized.counted in
      let p = part-of-kind g.written r (expression delay) leafs (omega arith) e 3 refl (unfold ask_of_kind in refl) in
      (omega (arith, p.1, ex), rw ex p.2)

copied-both : (h ls ms s : List ℕ) → copied h (ls ++ ms) s ≡ copied h ms (copied h ls s)
copied-both h [] ms s = refl
copied-both h (l ∷ ls) ms s = copied-both h ls ms (put_word l (get_or h l 0) s)

pub copied-long : (h ls s : List ℕ) → length (copied h ls s) ≡ length s
copied-long h [] s = refl
copied-long h (l ∷ ls) s =
    copied-long h ls (put_word l (get_or h l 0) s) ∙ length-set (set s (12 * l + 4) (get_or h l 0)) (12 * l + 5) 0 ∙ length-set s (12 * l + 4) (get_or h l 0)

-- the records below r are copied to
pub record Below (first h before : List ℕ) (n r : ℕ) (now : List ℕ) : Type 0 where
  pub few : r ≤ n
  pub so_far : now ≡ copied h (delay_chains first r) before

module _ {s h before : List ℕ} {n : ℕ} where
  module _ {r : ℕ} {now : List ℕ} (b : Below s h before n r now) where
    pub below-long : length now ≡ length before
    below-long = rw b.so_far (copied-long h (delay_chains s r) before)

    pub below_next : r < n → {now' : List ℕ} → now' ≡ copied h (leaves_by_kind (kind_at s r) (chain s (word_b s r))) now
        → Below s h before n (r + 1) now'
    below_next k e =
        record {
          few = omega arith;
          so_far =
              e
              ∙ rw (b.so_far, add-one r)
              (sym (copied-both h (delay_chains s r) (leaves_by_kind (kind_at s r) (chain s (word_b s r))) before));
        }
