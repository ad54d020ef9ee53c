-- The pairs: those at which a change stands, each once, by their cycles and then by their leaves.
-- Assumes nothing.
use Prim.Native.Nat.{ℕ, zero, suc, ◌+◌, ◌*◌, ◌-◌, ◌/◌, ◌≤◌, ◌<◌}
use mathlib.Core.Bool.{Bool, true, false}
use mathlib.Core.List.Memᴰ
use mathlib.Core.List.{List, [], ◌∷◌, ◌++◌, Memᴰ}
use mathlib.Core.Logic.{◌≢◌, ⊎_elim}
use mathlib.Core.Path.{◌≡◌, refl, sym, ap, ◌∙◌}
use native.Mathlib.Omega.{arith}
use native.Mathlib.Decide.{ℕ_discrete, dec_lt}
use lib.ListN.{length, get_or, drop, length-append, get_or-append}
use lib.Seq.{get_or-append-add, get_or-take, get_or-drop}
use lib.Dec.{eqb}
use borrow.Author.Tests.{eqb-false, ne_eqb, not-true}
use Rattle.changes.specs.Changes.{leaf_of_cycle, change_at, Change, if_changed, changes_in, changes_up_to}
use Rattle.changes.specs.Promises.{part_of, ChangesExactly, NoneInFirst, EachChangeOnce}

abbrev pair : (k l : ℕ) → Change
pair k l = record { cycle = k; leaf = l }

-- one pair
if-member : (b : Bool) (k l : ℕ) (c : Change) → Memᴰ c (if_changed b k l) → (c ≡ pair k l) × (b ≡ true)
if-member true k l c m = (Memᴰ.eq_of_singleton m, refl)
if-member false k l c m = absurd (Memᴰ.not-nil m)

member-if : (b : Bool) (k l : ℕ) → b ≡ true → Memᴰ (pair k l) (if_changed b k l)
member-if true k l e = Memᴰ.head refl
member-if false k l e = let z : ◌≡◌ {A = ℕ} 0 1 = cc in absurd (omega arith)

module _ (w : ℕ) (outputs : List ℕ) where
  -- of one cycle
  in-member : (k n : ℕ) (c : Change) → Memᴰ c (changes_in w outputs k n)
      → (c.cycle ≡ k) × (c.leaf < n) × (change_at w outputs c.cycle c.leaf ≡ true)
  in-member k zero c m = absurd (Memᴰ.not-nil m)
  in-member k (suc l) c m =
      ⊎_elim
      (λ a. let r = in-member k l c a in (r.0, (let h = r.1 in omega arith), r.2))
      (λ b. let r = if-member (change_at w outputs k l) k l c b in
      let ek : c.cycle ≡ k = ap (λ (x : Change). x.cycle) r.0 in
      let el : c.leaf ≡ l = ap (λ (x : Change). x.leaf) r.0 in
      (ek, omega arith, rw (ek, el) r.1))
      (Memᴰ.append_cases (changes_in w outputs k l) m)

  member-in : (k n l : ℕ) → l < n → change_at w outputs k l ≡ true → Memᴰ (pair k l) (changes_in w outputs k n)
  member-in k zero l h e = absurd (omega arith)
  member-in k (suc n) l h e = go (λ b. member-in k n l b e) (ℕ_discrete n l)
    where
      go : (l < n → Memᴰ (pair k l) (changes_in w outputs k n)) → Dec (n ≡ l)
          → Memᴰ (pair k l) (changes_in w outputs k n ++ if_changed (change_at w outputs k n) k n)
      go before (yes z) = Memᴰ.append_right (changes_in w outputs k n) (rw z (member-if (change_at w outputs k l) k l e))
      go before (no f) = Memᴰ.append_left (if_changed (change_at w outputs k n) k n) (before (omega arith))

  -- of the first so many cycles
  up-to-member : (n : ℕ) (c : Change) → Memᴰ c (changes_up_to w outputs n)
      → (c.cycle < n) × (c.leaf < w) × (change_at w outputs c.cycle c.leaf ≡ true)
  up-to-member zero c m = absurd (Memᴰ.not-nil m)
  up-to-member (suc n) c m =
      ⊎_elim
      (λ a. let r = up-to-member n c a in ((let h = r.0 in omega arith), r.1, r.2))
      (λ b. let r = in-member n w c b in ((let h = r.0 in omega arith), r.1, r.2))
      (Memᴰ.append_cases (changes_up_to w outputs n) m)

  member-up-to : (n k l : ℕ) → k < n → l < w → change_at w outputs k l ≡ true → Memᴰ (pair k l) (changes_up_to w outputs n)
  member-up-to zero k l h b e = absurd (omega arith)
  member-up-to (suc n) k l h b e = go (λ a. member-up-to n k l a b e) (ℕ_discrete n k)
    where
      go : (k < n → Memᴰ (pair k l) (changes_up_to w outputs n)) → Dec (n ≡ k)
          → Memᴰ (pair k l) (changes_up_to w outputs n ++ changes_in w outputs n w)
      go before (yes z) = Memᴰ.append_right (changes_up_to w outputs n) (rw z (member-in k w l b e))
      go before (no f) = Memᴰ.append_left (changes_in w outputs n w) (before (omega arith))

  -- a leaf of a cycle's part
  leaf-of-part : (k l : ℕ) → l < w → get_or (part_of w outputs k) l 0 ≡ leaf_of_cycle w outputs k l
  leaf-of-part k l h = get_or-take w (drop (k * w) outputs) l 0 h ∙ get_or-drop (k * w) outputs l 0

pub changes_exactly : ChangesExactly
changes_exactly w outputs k l = (
  λ m. let r = up-to-member w outputs (length outputs / w) (pair (suc k) l) m in (
    r.0,
    r.1,
    λ z.
        eqb-false (leaf_of_cycle w outputs k l) (leaf_of_cycle w outputs (suc k) l)
        (not-true (eqb (leaf_of_cycle w outputs k l) (leaf_of_cycle w outputs (suc k) l)) r.2)
        (sym (leaf-of-part w outputs k l r.1) ∙ z ∙ leaf-of-part w outputs (suc k) l r.1),
  ),
  λ r. member-up-to w outputs (length outputs / w) (suc k) l r.0 r.1
      (rw (ne_eqb (leaf_of_cycle w outputs k l) (leaf_of_cycle w outputs (suc k) l)
      (λ z. r.2 (leaf-of-part w outputs k l r.1 ∙ z ∙ sym (leaf-of-part w outputs (suc k) l r.1)))) refl),
)

pub none_in_first : NoneInFirst
none_in_first w outputs l m =
    let r = up-to-member w outputs (length outputs / w) (pair 0 l) m in
    let z : ◌≡◌ {A = ℕ} 0 1 = cc in omega arith

-- each once
abbrev Once : List Change → Type 0
Once xs = (d : Change) (i j : ℕ) → i < j → j < length xs → get_or xs i d ≢ get_or xs j d

at-member : (xs : List Change) (i : ℕ) (d : Change) → i < length xs → Memᴰ (get_or xs i d) xs
at-member [] i d h = absurd (omega arith)
at-member (x ∷ xs) zero d h = Memᴰ.head refl
at-member (x ∷ xs) (suc i) d h = Memᴰ.tail (at-member xs i d (omega arith))

module _ (xs ys : List Change) (apart : (c : Change) → Memᴰ c xs → Memᴰ c ys → ⊥) where
  second_at : (i : ℕ) (d : Change) → length xs ≤ i → get_or (xs ++ ys) i d ≡ get_or ys (i - length xs) d
  second_at i d h =
      let e : length xs + (i - length xs) ≡ i = omega arith in
      ap (λ (n : ℕ). get_or (xs ++ ys) n d) (sym e) ∙ get_or-append-add xs ys (i - length xs) d

  once-both : Once xs → Once ys → Once (xs ++ ys)
  once-both ox oy d i j h b e = go (dec_lt i (length xs)) (dec_lt j (length xs))
    where
      long : length (xs ++ ys) ≡ length xs + length ys
      long = length-append xs ys

      go : Dec (i < length xs) → Dec (j < length xs) → ⊥
      go (yes p) (yes q) = ox d i j h q (sym (get_or-append xs ys d i p) ∙ e ∙ get_or-append xs ys d j q)
      go (yes p) (no q) =
          let f : get_or xs i d ≡ get_or ys (j - length xs) d = sym (get_or-append xs ys d i p) ∙ e ∙ second_at j d (omega arith) in
          apart (get_or xs i d) (at-member xs i d p)
          (rw f (at-member ys (j - length xs) d (let l = long in omega arith)))
      go (no p) (yes q) = omega arith
      go (no p) (no q) =
          oy d (i - length xs) (j - length xs) (omega arith) (let l = long in omega arith)
          (sym (second_at i d (omega arith)) ∙ e ∙ second_at j d (omega arith))

if-once : (b : Bool) (k l : ℕ) → Once (if_changed b k l)
if-once true k l d i j h b e = omega arith
if-once false k l d i j h b e = omega arith

module _ (w : ℕ) (outputs : List ℕ) where
  in-once : (k n : ℕ) → Once (changes_in w outputs k n)
  in-once k zero = λ d i j h b e. omega arith
  in-once k (suc l) =
      once-both (changes_in w outputs k l) (if_changed (change_at w outputs k l) k l)
      (λ c m q.
      let r = in-member w outputs k l c m in
      let s = if-member (change_at w outputs k l) k l c q in
      let f : c.leaf ≡ l = ap (λ (x : Change). x.leaf) s.0 in
      let g = r.1 in
      omega arith)
      (in-once k l) (if-once (change_at w outputs k l) k l)

  up-to-once : (n : ℕ) → Once (changes_up_to w outputs n)
  up-to-once zero = λ d i j h b e. omega arith
  up-to-once (suc n) =
      once-both (changes_up_to w outputs n) (changes_in w outputs n w)
      (λ c m q.
      let r = up-to-member w outputs n c m in
      let s = in-member w outputs n w c q in
      let f = r.0 in
      let g = s.0 in
      omega arith)
      (up-to-once n) (in-once n w)

pub each_change_once : EachChangeOnce
each_change_once w outputs d i j h b = up-to-once w outputs (length outputs / w) d i j h b
