-- The leaves of one chain put along another that is as long, leaf by leaf.
-- Assumes nothing.
use Prim.Native.Nat.{ℕ, zero, suc, ◌+◌, ◌*◌, ◌≤◌, ◌<◌}
use mathlib.Core.List.{List, [], ◌∷◌}
use mathlib.Core.Path.{◌≡◌, refl, sym, ◌∙◌}
use native.Mathlib.Omega.{arith}
use lib.ListN.{length, set, length-set}
use lib.Seq.{lt-length-set}
use Rattle.records.specs.Words.{count, next_word, word_a}
use Rattle.records.specs.Kinds.{leaf, leafs}
use Rattle.records.specs.Says.{kind_at, sort_at}
use Rattle.records.specs.Trees.{chain, follow}
use Rattle.records.specs.Decoding.{leaf_values}
use Rattle.records.specs.Written.{Written}
use Rattle.records.proofs.Table.{ask_of_kind, kind-of-sort}
use Rattle.records.proofs.Asked.{as-kind-asks, past-header}
use Rattle.records.proofs.Trees.{chain-of, next-leaf}
use Rattle.values.proofs.Gathering.{left, left-falls}
use Rattle.behaviour.specs.Entries.{Entry, assigned, put_all, put_word}
use Rattle.carry.specs.Carrying.{OfLeaves, Taking}

-- from here on a chain of leaves, or its end
pub record GivingLeaf (s : List ℕ) (x : ℕ) : Type 0 where
  pub there : x < count s
  pub sort : (x ≡ 0 → ⊥) → sort_at s x ≡ leafs

abbrev rest : List ℕ → ℕ → List ℕ
rest s x = follow [] (chain s) x

rest_of : (s : List ℕ) (x : ℕ) → (x ≡ 0 → ⊥) → rest s x ≡ chain s x
rest_of s zero f = absurd (f refl)
rest_of s (suc x) f = refl

positive : (x : ℕ) → (x ≡ 0 → ⊥) → 0 < x
positive x f = omega arith

-- the chain's first leaf and those after it
rest-cons : {s : List ℕ} → Written s → (x : ℕ) → GivingLeaf s x → (x ≡ 0 → ⊥) → rest s x ≡ x ∷ rest s (next_word s x)
rest-cons {s} w x o f = rest_of s x f ∙ chain-of w x o.there (o.sort f)

next-from : {s : List ℕ} → Written s → (x : ℕ) → GivingLeaf s x → (x ≡ 0 → ⊥) → GivingLeaf s (next_word s x)
next-from {s} w x o f = record { there = (go (next_word s x) refl).0; sort = (go (next_word s x) refl).1 }
  where
    go : (y : ℕ) → y ≡ next_word s x → (next_word s x < count s) × ((next_word s x ≡ 0 → ⊥) → sort_at s (next_word s x) ≡ leafs)
    go zero e = (let t = o.there in omega arith, λ z. absurd (z (sym e)))
    go (suc y) e = let p = next-leaf w x o.there (o.sort f) (omega arith) in (p.1, λ _. p.2)

-- a chain that has leaves left is not at its end
some_left : (s : List ℕ) (x : ℕ) → 0 < length (rest s x) → x ≡ 0 → ⊥
some_left s zero h e = omega arith
some_left s (suc x) h e = omega arith

begins : {s : List ℕ} {n x : ℕ} → OfLeaves s n x → GivingLeaf s x × (x ≡ 0 → ⊥)
begins {s} {n} {x} g =
    let c = g.sized.counted in
    let h = g.there in
    let p = past-header g.written x (rw g.sort refl) in
    (record { there = omega arith; sort = λ _. g.sort }, λ z. omega arith)

-- the leaves from `taking` are still to take those from `giving`
pub record LeavesRemaining (old new : List ℕ) (all : List Entry) (before : List ℕ) (giving taking : ℕ) (now : List ℕ) : Type 0 where
  pub long : length now ≡ length before
  pub to : GivingLeaf new taking
  pub by : GivingLeaf old giving
  pub many : length (rest old giving) ≡ length (rest new taking)
  pub left : put_all put_word (assigned (rest new taking) (leaf_values old (rest old giving))) now ≡ put_all put_word all before

module _ {old : List ℕ} {n from : ℕ} {new : List ℕ} {m to : ℕ} {before : List ℕ} (g : Taking old n from new m to before) where
  abbrev pub all_taken : List Entry
  all_taken = assigned (chain new to) (leaf_values old (chain old from))

  pub all-remain : LeavesRemaining old new all_taken before from to before
  all-remain =
      let p = begins g.before in
      let q = begins g.after in
      let eo = rest_of old from p.1 in
      let en = rest_of new to q.1 in
      record {
        long = refl;
        to = q.0;
        by = p.0;
        many = rw (eo, en) g.many;
        left = rw (eo, en) refl;
      }

  module _ {all : List Entry} {giving taking : ℕ} {now : List ℕ} (r : LeavesRemaining old new all before giving taking now) (f : taking ≡ 0 → ⊥) where
    giving-left : giving ≡ 0 → ⊥
    giving-left =
        let e = rest-cons g.after.written taking r.to f in
        some_left old giving (rw (r.many, e) (omega arith))

    pub taking-in : taking < m
    taking-in = let h = r.to.there in let c = g.after.sized.counted in omega arith

    pub giving-in : giving < n
    giving-in = let h = r.by.there in let c = g.before.sized.counted in omega arith

    -- a leaf is a byte
    pub giving-byte : word_a old giving ≤ 255
    giving-byte =
        unfold ask_of_kind in
        as-kind-asks g.before.written giving leaf r.by.there
        (kind-of-sort leafs (kind_at old giving) (r.by.sort giving-left)) 2 refl

    pub taking-bytes : 12 * taking + 4 + 1 < length now
    taking-bytes =
        let t = taking-in in
        let w = g.after.sized.whole in
        let a = r.long in
        let b = g.long in
        omega arith

    pub high-byte : (v : ℕ) → 12 * taking + 4 + 1 < length (set now (12 * taking + 4) v)
    high-byte v = lt-length-set now (12 * taking + 4) v taking-bytes

    pub next-remain : (v : ℕ) → v ≡ word_a old giving → (x : ℕ) → x ≡ next_word old giving → (y : ℕ) → y ≡ next_word new taking
        → LeavesRemaining old new all before x y (set (set now (12 * taking + 4) v) (12 * taking + 4 + 1) 0)
    next-remain v ev x ex y ey =
        let eo = rest-cons g.before.written giving r.by giving-left in
        let en = rest-cons g.after.written taking r.to f in
        record {
          long = length-set (set now (12 * taking + 4) v) (12 * taking + 4 + 1) 0 ∙ length-set now (12 * taking + 4) v ∙ r.long;
          to = rw ey (next-from g.after.written taking r.to f);
          by = rw ex (next-from g.before.written giving r.by giving-left);
          many = rw (ex, ey) (let z : suc (length (rest old (next_word old giving))) ≡ suc (length (rest new (next_word new taking))) =
              rw (eo, en) at r.many in omega arith);
          left = rw (ex, ey, ev, high taking) (rw (eo, en) at r.left);
        }
      where
        high : (l : ℕ) → 12 * l + 4 + 1 ≡ 12 * l + 5
        high l = omega arith

    pub remaining-falls : (y : ℕ) → y ≡ next_word new taking → left m y < left m taking
    remaining-falls y ey = left-falls m taking y f taking-in (λ z. higher (λ k. z (ey ∙ k)))
      where
        higher : (next_word new taking ≡ 0 → ⊥) → (taking < y) × (y < m)
        higher z =
            let p = next-leaf g.after.written taking r.to.there (r.to.sort f) (positive (next_word new taking) z) in
            let c = g.after.sized.counted in
            (rw ey p.0, omega (arith, p.1, ey))

  pub none-remain : {all : List Entry} {giving taking : ℕ} {now : List ℕ} → LeavesRemaining old new all before giving taking now → taking ≡ 0
      → now ≡ put_all put_word all before
  none-remain {all} {giving} {taking} {now} r e = rw e at r.left
