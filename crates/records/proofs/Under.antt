-- A record lies under another when namings by words other than d lead down to it: expressions and leaves do, and the patterns of IFs
-- are left out, as several IFs may share one. What lies under a record is no lower. Where each record is well named, the records
-- above one lie in a line; so nothing lies under two different parts of one record.
-- Assumes nothing.
use Prim.Native.Nat.{ℕ, ◌≤◌, ◌<◌}
use mathlib.Core.List.{List}
use mathlib.Core.Path.{◌≡◌, sym, ap}
use mathlib.Core.Logic.{◌⊎◌, inl, inr}
use native.Mathlib.Omega.{arith}
use Rattle.records.specs.Says.{Naming}
use Rattle.records.specs.Written.{Written, WellNamed}
use Rattle.records.proofs.Namings.{Names, only-naming, namer-lower}

-- record x lies under record a
pub data Under (s : List ℕ) (a : ℕ) : ℕ → Type 0 where
  under-itself : Under s a a
  down : {x : ℕ} (n : Naming) → Under s a n.by → 0 < x → n.at < 5 → Names s x n → Under s a x

pub under-higher : {s : List ℕ} {a x : ℕ} → Written s → Under s a x → a ≤ x
under-higher w under-itself = omega arith
under-higher {s} {a} {x} w (down n u h d m) = let l = namer-lower w x n h m in omega (arith, under-higher w u)

-- two namings of one record are one
same-naming : (s : List ℕ) → Written s → WellNamed s → (x : ℕ) (n m : Naming) → 0 < x → n.at < 5 → m.at < 5
    → Names s x n → Names s x m → n ≡ m
same-naming s w well x n m h d f p q =
    let l = namer-lower w x n h p in
    let e = only-naming s well x n h l.1 d p in
    let g = only-naming s well x m h l.1 f q in
    cc

-- of two records above one, one lies under the other
in-a-line : (s : List ℕ) → Written s → WellNamed s → (a b x : ℕ) → Under s a x → Under s b x → Under s a b ⊎ Under s b a
in-a-line s w well a b x under-itself v = inr v
in-a-line s w well a b x (down n u h d p) under-itself = inl (down n u h d p)
in-a-line s w well a b x (down n u h d p) (down m v k f q) =
    in-a-line s w well a b n.by u (rw (same-naming s w well x n m h d f p q) v)

-- of two parts of one record that different words name, neither lies under the other
not-under : (s : List ℕ) → Written s → WellNamed s → (q j k a b : ℕ) → (j ≡ k → ⊥) → j < 5 → k < 5 → 0 < a
    → Names s a (record { by = q; at = j }) → Names s b (record { by = q; at = k }) → Under s a b → ⊥
not-under s w well q j k a b differ lj lk h p m under-itself =
    differ (ap (λ n. n.at) (same-naming s w well a (record { by = q; at = j }) (record { by = q; at = k }) h lj lk p m))
not-under s w well q j k a b differ lj lk h p m (down n u l d f) =
    let e : n.by ≡ q = ap (λ n. n.by) (same-naming s w well b n (record { by = q; at = k }) l d lk f m) in
    let low = (namer-lower w a (record { by = q; at = j }) h p).0 in
    let high = under-higher w u in
    omega arith

-- nothing lies under both
pub parts-apart : (s : List ℕ) → Written s → WellNamed s → (q j k a b x : ℕ) → (j ≡ k → ⊥) → j < 5 → k < 5 → 0 < a → 0 < b
    → Names s a (record { by = q; at = j }) → Names s b (record { by = q; at = k }) → Under s a x → Under s b x → ⊥
parts-apart s w well q j k a b x differ lj lk ha hb na nb u v = go (in-a-line s w well a b x u v)
  where
    go : Under s a b ⊎ Under s b a → ⊥
    go (inl u) = not-under s w well q j k a b differ lj lk ha na nb u
    go (inr v) = not-under s w well q k j b a (λ e. differ (sym e)) lk lj hb nb na v

pub under-under : {s : List ℕ} {a b x : ℕ} → Under s a b → Under s b x → Under s a x
under-under u under-itself = u
under-under u (down n v h d m) = down n (under-under u v) h d m
