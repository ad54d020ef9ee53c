-- The names' bytes as a stack: what lies below a slot keeps the values of the names there, and a value entered is that of the name
-- whose slot it is. Parts of a lent slice, as they come back.
-- Assumes nothing.
use Prim.Native.Nat.{ℕ, zero, suc, ◌+◌, ◌-◌, ◌*◌, ◌≤◌, ◌<◌, suc-le-suc}
use mathlib.Core.List.{List, [], ◌∷◌, ◌++◌, append-nil}
use mathlib.Core.Path.{◌≡◌, refl, sym, ap, ap₂, ◌∙◌}
use native.Mathlib.Nat.{zero-add, suc-add}
use native.Mathlib.Omega.{arith}
use lib.ListN.{length, get_or, take, drop, replicate, length-append, length-drop}
use lib.Seq.{take-nil, drop-nil, take-append-le, drop-append-le, take-take, take_at, drop_at, drop-length, length-take-le}
use Rattle.picoella.specs.Language.{leaves}
use Rattle.records.specs.Trees.{type_at}
use Rattle.values.specs.Slots.{slot, entered, frames}

pub middle : (a w : ℕ) (l : List ℕ) → take w (drop a l) ≡ drop a (take (a + w) l)
middle zero w l = rw zero-add refl
middle (suc a) w [] = rw suc-add (take-nil w)
middle (suc a) w (x ∷ l) = rw suc-add (middle a w l)

pub front_kept : (m n : ℕ) (x y : List ℕ) → m ≤ n → take n x ≡ take n y → take m x ≡ take m y
front_kept m n x y h e = sym (take-take m n x h) ∙ ap (take m) e ∙ take-take m n y h

-- what lies below b keeps the slots there
pub slot_kept : (level w b : ℕ) (x y : List ℕ) → 64 * level + w ≤ b → take b x ≡ take b y → slot level w x ≡ slot level w y
slot_kept level w b x y h e =
    middle (64 * level) w x ∙ ap (drop (64 * level)) (front_kept (64 * level + w) b x y h e) ∙ sym (middle (64 * level) w y)

-- each name has at most 64 leaves
abbrev pub Small : (s Γ : List ℕ) → Type 0
Small s Γ = (k : ℕ) → k < length Γ → leaves (type_at s (get_or Γ k 0)) ≤ 64

pub frames-kept : (s Γ x y : List ℕ) → Small s Γ → take (64 * length Γ) x ≡ take (64 * length Γ) y → frames s Γ x ≡ frames s Γ y
frames-kept s [] x y small e = refl
frames-kept s (t ∷ Γ) x y small e =
    let m = small 0 (omega arith) in
    ap₂ ◌∷◌ (slot_kept (length Γ) (leaves (type_at s t)) (64 * suc (length Γ)) x y (omega arith) e)
    (frames-kept s Γ x y (λ k h. small (suc k) (suc-le-suc h))
    (front_kept (64 * length Γ) (64 * suc (length Γ)) x y (omega arith) e))

-- the value of the name k names out
pub frame_at : (s Γ env : List ℕ) (k : ℕ) → k < length Γ
    → get_or (frames s Γ env) k [] ≡ slot (length Γ - 1 - k) (leaves (type_at s (get_or Γ k 0))) env
frame_at s [] env k h = absurd (omega arith)
frame_at s (t ∷ Γ) env zero h = rw (innermost (length Γ)) refl
  where
    innermost : (m : ℕ) → suc m - 1 - 0 ≡ m
    innermost m = omega arith
frame_at s (t ∷ Γ) env (suc k) h = rw (outer (length Γ) k (omega arith)) (frame_at s Γ env k (omega arith))
  where
    outer : (m k : ℕ) → k < m → suc m - 1 - suc k ≡ m - 1 - k
    outer m k h = omega arith

module _ (level : ℕ) (v env : List ℕ) (h : 64 * level ≤ length env) where
  pub entered-kept : take (64 * level) (entered level v env) ≡ take (64 * level) env
  entered-kept =
      take_at (take (64 * level) env) (v ++ drop (length v) (drop (64 * level) env)) (64 * level) (length-take-le (64 * level) env h)

  pub entered-slot : slot level (length v) (entered level v env) ≡ v
  entered-slot =
      rw (drop_at (take (64 * level) env) (v ++ drop (length v) (drop (64 * level) env)) (64 * level) (length-take-le (64 * level) env h))
      (take_at v (drop (length v) (drop (64 * level) env)) (length v) refl)

  pub entered-long : 64 * level + length v ≤ length env → length (entered level v env) ≡ length env
  entered-long g =
      let a = length-append (take (64 * level) env) (v ++ drop (length v) (drop (64 * level) env)) in
      let b = length-append v (drop (length v) (drop (64 * level) env)) in
      let c = length-drop (length v) (drop (64 * level) env) in
      let d = length-drop (64 * level) env in
      let e = length-take-le (64 * level) env h in
      omega arith

pub from_zero : (k : ℕ) → 0 ≤ k
from_zero k = omega arith

pub to_the_end : (k : ℕ) → k ≤ k
to_the_end k = omega arith

-- a slice lent up to w, as it comes back with o there
module _ {w : ℕ} (out o : List ℕ) (l : length o ≡ w) (h : w ≤ length out) where
  from_front : w - 0 ≡ w
  from_front = omega arith

  abbrev back : List ℕ
  back = o ++ drop (w - 0) out

  pub back_long : length back ≡ length out
  back_long =
      let a = length-append o (drop (w - 0) out) in
      let b = length-drop (w - 0) out in
      omega arith

  pub back-front : take w back ≡ o
  back-front = take_at o (drop (w - 0) out) w l

  pub back-part : take (w - 0) back ≡ o
  back-part = take_at o (drop (w - 0) out) (w - 0) (l ∙ sym from_front)

  -- and then from w on
  pub rest-long : length (take (length back - w) (drop w back)) ≡ length out - w
  rest-long =
      let a = length-drop w back in
      let b = back_long in
      length-take-le (length back - w) (drop w back) (omega arith) ∙ omega arith

  pub both-back : (p : List ℕ) → take w back ++ (p ++ drop (length back - w) (drop w back)) ≡ o ++ p
  both-back p = rw (back-front, ← length-drop w back, drop-length (drop w back), append-nil p) refl

pub lent-long : (w : ℕ) (out : List ℕ) → w ≤ length out → length (take (w - 0) out) ≡ w
lent-long w out h = length-take-le (w - 0) out (omega arith) ∙ omega arith

-- room for a value, undefined in every leaf
pub zeros-long : (n : ℕ) → length {A = ℕ} (replicate n 0) ≡ n
zeros-long zero = refl
zeros-long (suc n) = ap suc (zeros-long n)

pub zeros-front : (w n : ℕ) → w ≤ n → take {A = ℕ} w (replicate n 0) ≡ replicate w 0
zeros-front zero n h = refl
zeros-front (suc w) zero h = absurd (omega arith)
zeros-front (suc w) (suc n) h = ap (λ l. 0 ∷ l) (zeros-front w n (omega arith))

-- the front and the end of a value, by their lengths
pub front-own : (n : ℕ) (v : List ℕ) → take (length (take n v)) v ≡ take n v
front-own zero v = refl
front-own (suc n) [] = refl
front-own (suc n) (x ∷ v) = ap (λ l. x ∷ l) (front-own n v)

pub front-few : (n : ℕ) (v : List ℕ) → length (take n v) ≤ length v
front-few zero v = omega arith
front-few (suc n) [] = omega arith
front-few (suc n) (x ∷ v) = suc-le-suc (front-few n v)

pub end-few : (n : ℕ) (v : List ℕ) → length (drop n v) ≤ length v
end-few n v = let l = length-drop n v in omega arith

pub end-own : (n : ℕ) (v : List ℕ) → drop (length v - length (drop n v)) v ≡ drop n v
end-own zero v = rw (none (length v)) refl
  where
    none : (k : ℕ) → k - k ≡ 0
    none k = omega arith
end-own (suc n) [] = rw (drop-nil (0 - 0)) refl
end-own (suc n) (x ∷ v) = rw (one-off (length v) (length (drop n v)) (end-few n v)) (end-own n v)
  where
    one-off : (a b : ℕ) → b ≤ a → suc a - b ≡ suc (a - b)
    one-off a b h = omega arith

-- a value in the front of some room, and a part of it copied to a slice of the part's length
module _ {w : ℕ} (room o : List ℕ) (l : length o ≡ w) (m : ℕ) (h : m ≤ w) where
  pub front-of-back : take (m - 0) (o ++ drop (w - 0) room) ≡ take m o
  front-of-back = rw (same m) (take-append-le m o (drop (w - 0) room) (omega arith))
    where
      same : (m : ℕ) → m - 0 ≡ m
      same m = omega arith

  pub end-of-back : take (w - (w - m)) (drop (w - m) (o ++ drop (w - 0) room)) ≡ drop (w - m) o
  end-of-back =
      rw (drop-append-le (w - m) o (drop (w - 0) room) (omega arith))
      (take_at (drop (w - m) o) (drop (w - 0) room) (w - (w - m)) (let d = length-drop (w - m) o in omega arith))

pub put_whole : (v out out' : List ℕ) → length v ≡ length out → out' ≡ v ++ drop (length v) out → out' ≡ v
put_whole v out out' l e = e ∙ rw (l, drop-length out) (append-nil v)
