-- The index of pair types as records are added to it. A search ends at one slot. A record put into the empty slot at which the
-- search for its parts ended is found there, and a search for other parts that comes to it goes on to its own slots, which are
-- empty, so it still finds nothing. Assumes nothing.
use mathlib.Core.Path.{◌≡◌, refl, sym, ◌∙◌, ap}
use mathlib.Core.Bool.{Bool, true, false, cond, false≢true}
use mathlib.Core.List.{List}
use Rattle.std.specs.Prelude.{None, is_some}
use Prim.Native.Nat.{ℕ, zero, suc, ◌+◌, ◌*◌, ◌/◌, ◌%◌, ◌≤◌, ◌<◌}
use native.Mathlib.Numerals.{add-one}
use native.Mathlib.Omega.{arith}
use native.Mathlib.Decide.{ℕ_discrete, dec_lt}
use borrow.Author.Tests.{ne_eqb}
use lib.ListN.{get_or, set, replicate, length-set, length-replicate}
use lib.Seq.{get_or-set_same, get_or-set_other, set-get_or}
use Rattle.records.specs.Words.{word, word_a, word_b}
use Rattle.records.specs.Trees.{is_pair_of, pair_below}
use Rattle.records.specs.Kinds.{is_pair}
use Rattle.records.specs.Says.{kind_at}
use Rattle.records.proofs.Pairs.{pair-with-parts}
use Rattle.structure.specs.PairIndex.{another, onwards, Ends, SlotFound, Linked, Indexed, lower_pair, some_record}

-- no slot holds anything
empty : (n i : ℕ) → ◌≡◌ {A = ℕ} (get_or (replicate n 0) i 0) 0
empty zero i = refl
empty (suc n) zero = refl
empty (suc n) (suc i) = empty n i

pub no-pairs-indexed : (s : List ℕ) → Indexed s 0 (replicate 12288 0)
no-pairs-indexed s = record {
  linked = record {
    long = length-replicate {A = ℕ} 12288 0;
    lower = λ slot h. let e = empty 12288 slot in absurd (omega arith);
    later = λ slot h. let e = empty 12288 slot in absurd (omega arith);
  };
  unused = λ slot h. empty 12288 slot;
  finds = λ a b end r. empty 12288 end;
}

pub linked-more : {m n : ℕ} {index : List ℕ} → m ≤ n → Linked m index → Linked n index
linked-more h l = record {
  long = l.long;
  lower = λ slot p. let q = l.lower slot p in omega arith;
  later = l.later;
}

pub slot-low : {m : ℕ} {index : List ℕ} → Linked m index → (slot : ℕ) → get_or index slot 0 ≤ m
slot-low {m} {index} links slot = go (dec_lt 0 (get_or index slot 0))
  where
    go : Dec (0 < get_or index slot 0) → get_or index slot 0 ≤ m
    go (yes h) = let l = links.lower slot h in omega arith
    go (no h) = omega arith

module _ (s index : List ℕ) (a b : ℕ) where
  -- a slot that holds another pair type is not empty
  another-some : (slot : ℕ) → another s index a b slot ≡ true → 0 < get_or index slot 0
  another-some slot e = go (get_or index slot 0) refl
    where
      go : (q : ℕ) → get_or index slot 0 ≡ q → 0 < q
      go zero z = absurd (false≢true (rw z at e))
      go (suc q) z = omega arith

  -- a search that goes on comes to a later slot
  pub goes_on : {m slot q : ℕ} → Linked m index → m ≤ 4096 → (bits : ℕ) → another s index a b slot ≡ true → q ≡ get_or index slot 0
      → (q < m) × (slot < 4096 + 2 * q + bits % 2) × (4096 + 2 * q + bits % 2 < 12288)
      × (4096 + 2 * q + bits % 2 ≡ onwards index slot bits)
  goes_on {slot = slot} links few bits on e =
      let low = links.lower slot (another-some slot on) in
      let later = links.later slot (another-some slot on) in
      (omega arith, omega arith, omega arith, rw e)

  same_end : (k l slot bits e f : ℕ) → Ends s index a b k slot bits e → Ends s index a b l slot bits f → e ≡ f
  same_end zero zero slot bits e f p q = sym p.1 ∙ q.1
  same_end zero (suc l) slot bits e f p q = absurd (false≢true (sym p.0 ∙ q.0))
  same_end (suc k) zero slot bits e f p q = absurd (false≢true (sym q.0 ∙ p.0))
  same_end (suc k) (suc l) slot bits e f p q = same_end k l (onwards index slot bits) (bits / 2) e f p.1 q.1

  end_low : {m : ℕ} → Linked m index → (k slot bits e : ℕ) → slot < 4096 + 2 * m → Ends s index a b k slot bits e
      → e < 4096 + 2 * m
  end_low links zero slot bits e h p = rw (← p.1) h
  end_low links (suc k) slot bits e h p =
      let q = links.lower slot (another-some slot p.0) in
      end_low links k (onwards index slot bits) (bits / 2) e (omega arith) p.1

-- a record that is no pair type of these parts, or has the parts of a lower one, changes nothing
next-pair : (s : List ℕ) (a b r : ℕ) → (is_pair_of s a b r ≡ true → 0 < pair_below s a b r)
    → pair_below s a b (suc r) ≡ pair_below s a b r
next-pair s a b r f = go (pair_below s a b r) (is_pair_of s a b r) refl refl
  where
    go : (v : ℕ) (t : Bool) → pair_below s a b r ≡ v → is_pair_of s a b r ≡ t → pair_below s a b (suc r) ≡ pair_below s a b r
    go (suc v) t e d = rw e
    go zero true e d = let h = f d in absurd (omega arith)
    go zero false e d = rw (e, d)

indexed-more : {s index : List ℕ} {r : ℕ} → Indexed s r index
    → ((a b : ℕ) → pair_below s a b (suc r) ≡ pair_below s a b r) → Indexed s (r + 1) index
indexed-more ix same = record {
  linked = linked-more (omega arith) ix.linked;
  unused = λ slot h. ix.unused slot (omega arith);
  finds = λ a b end p. ix.finds a b end p ∙ sym (rw add-one (same a b));
}

-- Record r goes into the slot `end`, which is empty and at which the search for the parts of r ended.
module _ {s index : List ℕ} {r end : ℕ} (ix : Indexed s r index) (few : r < 4096) (past : 0 < r)
    (reached : SlotFound s index (word_a s r) (word_b s r) end) (free : get_or index end 0 ≡ 0) where
  abbrev after : List ℕ
  after = set index end r

  low : end < 4096 + 2 * r
  low = let m : word_a s r % 4096 < 4096 = omega arith in
      end_low s index (word_a s r) (word_b s r) ix.linked reached.steps (word_a s r % 4096) (word_b s r) end (omega arith) reached.ends

  at_end : get_or after end 0 ≡ r
  at_end = let l = ix.linked.long in let h = low in get_or-set_same index end r 0 (omega arith)

  elsewhere : (slot : ℕ) → (slot ≡ end → ⊥) → get_or after slot 0 ≡ get_or index slot 0
  elsewhere slot d = get_or-set_other index end slot r 0 d

  -- a search ends where it did, and that is not at r, or it ended at the slot that holds r now
  data Changed (a b slot bits f : ℕ) : Type 0 where
    as_before : (k : ℕ) → Ends s index a b k slot bits f → (f ≡ end → ⊥) → Changed a b slot bits f
    at_new : (k : ℕ) → Ends s index a b k slot bits end → get_or after f 0 ≡ cond (is_pair_of s a b r) r 0
        → Changed a b slot bits f

  module _ (a b : ℕ) where
    stopped : another s index a b end ≡ false
    stopped = rw free

    -- at the slot of r
    new-slot : (k bits f : ℕ) (t : Bool) → is_pair_of s a b r ≡ t → Ends s after a b k end bits f → Changed a b end bits f
    new-slot zero bits f true e p = at_new 0 (stopped, refl) (rw (e, ← p.1) at_end)
    new-slot zero bits f false e p =
        absurd (false≢true (sym p.0 ∙ rw (at_end, ne_eqb r 0 (λ z. omega arith), e)))
    new-slot (suc k) bits f true e p =
        absurd (false≢true (rw (at_end, ne_eqb r 0 (λ z. omega arith), e) at p.0))
    new-slot (suc k) bits f false e p = go k p.1
      where
        vacant : get_or after (onwards after end bits) 0 ≡ 0
        vacant =
            let h = low in
            let m = at_end in
            elsewhere (onwards after end bits) (λ q. omega arith) ∙ ix.unused (onwards after end bits) (omega arith)

        go : (k : ℕ) → Ends s after a b k (onwards after end bits) (bits / 2) f → Changed a b end bits f
        go zero q = at_new 0 (stopped, refl) (rw (e, ← q.1) vacant)
        go (suc k) q = absurd (false≢true (rw vacant at q.0))

    walk : (k slot bits f : ℕ) → Ends s after a b k slot bits f → Changed a b slot bits f
    walk zero slot bits f p = go (ℕ_discrete slot end)
      where
        go : Dec (slot ≡ end) → Changed a b slot bits f
        go (yes d) = rw d (new-slot zero bits f (is_pair_of s a b r) refl (rw d at p))
        go (no d) = as_before 0 (rw (elsewhere slot d) at p.0, p.1) (λ e. d (p.1 ∙ e))
    walk (suc k) slot bits f p = go (walk k (onwards after slot bits) (bits / 2) f p.1) (ℕ_discrete slot end)
      where
        on : (slot ≡ end → ⊥) → another s index a b slot ≡ true
        on d = rw (elsewhere slot d) at p.0

        go : Changed a b (onwards after slot bits) (bits / 2) f → Dec (slot ≡ end) → Changed a b slot bits f
        go rest (yes d) = rw d (new-slot (suc k) bits f (is_pair_of s a b r) refl (rw d at p))
        go (as_before l q g) (no d) = as_before (suc l) (on d, rw (elsewhere slot d) at q) g
        go (at_new l q v) (no d) = at_new (suc l) (on d, rw (elsewhere slot d) at q) v

    found-now : (f : ℕ) → SlotFound s after a b f → get_or after f 0 ≡ pair_below s a b (suc r)
    found-now f p = go (walk p.steps (a % 4096) b f p.ends)
      where
        go : Changed a b (a % 4096) b f → get_or after f 0 ≡ pair_below s a b (suc r)
        go (at_new k q v) = v ∙ sym (rw (sym (ix.finds a b end (record { steps = k; ends = q })) ∙ free))
        go (as_before k q g) =
            elsewhere f g ∙ ix.finds a b f (record { steps = k; ends = q })
            ∙ sym (next-pair s a b r (λ e. absurd (g (same e))))
          where
            same : is_pair_of s a b r ≡ true → f ≡ end
            same e =
                let w = pair-with-parts s a b r e in
                same_end s index a b k reached.steps (a % 4096) b f end q (rw (w.1, w.2) at reached.ends)

  noted-past : Indexed s (r + 1) (set index end r)
  noted-past = record {
    linked = record {
      long = length-set index end r ∙ ix.linked.long;
      lower = λ slot h. lower slot h (ℕ_discrete slot end);
      later = λ slot h. later slot h (ℕ_discrete slot end);
    };
    unused = λ slot h. let l = low in elsewhere slot (λ q. omega arith) ∙ ix.unused slot (omega arith);
    finds = λ a b f p. rw add-one (found-now a b f p);
  }
    where
      lower : (slot : ℕ) → 0 < get_or after slot 0 → Dec (slot ≡ end) → get_or after slot 0 < r + 1
      lower slot h (yes d) = let e = at_end in rw d (omega arith)
      lower slot h (no d) =
          let e = elsewhere slot d in
          let l = ix.linked.lower slot (omega arith) in
          omega arith

      later : (slot : ℕ) → 0 < get_or after slot 0 → Dec (slot ≡ end) → slot < 4096 + 2 * get_or after slot 0
      later slot h (yes d) = let e = at_end in let l = low in rw d (omega arith)
      later slot h (no d) =
          let e = elsewhere slot d in
          let l = ix.linked.later slot (omega arith) in
          omega arith

-- the header goes into no slot
header-pair : (s : List ℕ) (a b : ℕ) → pair_below s a b 1 ≡ 0
header-pair s a b = go (is_pair_of s a b 0)
  where
    go : (t : Bool) → cond t 0 0 ≡ zero
    go true = refl
    go false = refl

module _ {s index : List ℕ} {r : ℕ} (ix : Indexed s r index) where
  pub no-pair-noted : is_pair (kind_at s r) ≡ false → (None ≡ some_record (lower_pair s r)) × Indexed s (r + 1) index
  no-pair-noted f = (
    rw f,
    indexed-more ix (λ a b. next-pair s a b r (λ e. let z : is_pair_of s a b r ≡ false = rw f in absurd (false≢true (sym z ∙ e)))),
  )

  module _ (e : is_pair (kind_at s r) ≡ true) {x y end : ℕ} (ex : x ≡ word s r 2) (ey : y ≡ word s r 3) (reached : SlotFound s index x y end) where
    lower-found : get_or index end 0 ≡ lower_pair s r
    lower-found = ix.finds x y end reached ∙ rw (ex, ey, e)

    pub lower-noted : (get_or index end 0 ≡ 0 → ⊥)
        → (some_record (get_or index end 0) ≡ some_record (lower_pair s r)) × Indexed s (r + 1) index
    lower-noted f = (ap some_record lower-found, indexed-more ix (λ a b. next-pair s a b r (some a b)))
      where
        some : (a b : ℕ) → is_pair_of s a b r ≡ true → 0 < pair_below s a b r
        some a b t =
            let w = pair-with-parts s a b r t in
            let v : get_or index end 0 ≡ pair_below s a b r = ix.finds x y end reached ∙ rw (ex, ey, w.1, w.2) in
            omega arith

    pub pair-noted : r < 4096 → get_or index end 0 ≡ 0
        → (some_record (get_or index end 0) ≡ some_record (lower_pair s r)) × Indexed s (r + 1) (set index end r)
    pair-noted few free = (ap some_record lower-found, go r refl)
      where
        go : (q : ℕ) → r ≡ q → Indexed s (r + 1) (set index end r)
        go zero z =
            rw (z, ← free, set-get_or) (rw z at (indexed-more ix (λ a b. rw z (header-pair s a b))))
        go (suc q) z = noted-past ix few (omega arith) (rw (ex, ey) at reached) free

-- what is given is 0 exactly where there is none
pub none-given : (v : ℕ) → is_some (some_record v) ≡ false → v ≡ 0
none-given zero e = refl
none-given (suc v) e = absurd (false≢true (sym e))

pub some-given : (v : ℕ) → is_some (some_record v) ≡ true → v ≡ 0 → ⊥
some-given zero e z = false≢true e
some-given (suc v) e z = omega arith
