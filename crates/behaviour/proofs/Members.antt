-- Membership and distinctness of lists of records: in two lists laid end to end, and in a list rearranged. By induction on the list.
-- Assumes nothing.
use Prim.Native.Nat.{ℕ}
use mathlib.Core.List.Memᴰ
use mathlib.Core.List.{
  List,
  [],
  ◌∷◌,
  ◌++◌,
  Memᴰ,
}
use mathlib.Core.Path.{◌≡◌, refl}
use mathlib.Core.Logic.{◌⊎◌, inl, inr}
use native.Mathlib.Decide.{ℕ_discrete}
use Rattle.records.specs.Written.{Distinct}

-- a member of two lists laid end to end is one of either
pub either {ℓ} : {A : Type ℓ} {B : Type 0} {x : A} (rs ls : List A)
    → (Memᴰ x rs → B) → (Memᴰ x ls → B) → Memᴰ x (rs ++ ls) → B
either {A} {B} {x} rs ls f g m = go (Memᴰ.append_cases rs m)
  where
    go : Memᴰ x rs ⊎ Memᴰ x ls → B
    go (inl n) = f n
    go (inr n) = g n

pub member-or-not : (x : ℕ) (rs : List ℕ) → Memᴰ x rs ⊎ (Memᴰ x rs → ⊥)
member-or-not x [] = inr (λ m. elim m [ ])
member-or-not x (r ∷ rs) = go (ℕ_discrete x r) (member-or-not x rs)
  where
    neither : (x ≡ r → ⊥) → (Memᴰ x rs → ⊥) → Memᴰ x (r ∷ rs) → ⊥
    neither f g (Memᴰ.head e) = f e
    neither f g (Memᴰ.tail m) = g m

    go : Dec (x ≡ r) → Memᴰ x rs ⊎ (Memᴰ x rs → ⊥) → Memᴰ x (r ∷ rs) ⊎ (Memᴰ x (r ∷ rs) → ⊥)
    go (yes e) d = inl (Memᴰ.head e)
    go (no f) (inl m) = inl (Memᴰ.tail m)
    go (no f) (inr g) = inr (neither f g)

-- each record of the one is a record of the other
abbrev pub Among : List ℕ → List ℕ → Type 0
Among rs ls = (x : ℕ) → Memᴰ x rs → Memᴰ x ls

pub among-both : (rs ls rs' ls' : List ℕ) → Among rs rs' → Among ls ls' → Among (rs ++ ls) (rs' ++ ls')
among-both rs ls rs' ls' a b x =
    either rs ls (λ m. Memᴰ.append_left ls' (a x m)) (λ m. Memᴰ.append_right rs' (b x m))

among-swapped : (rs ls : List ℕ) → Among (rs ++ ls) (ls ++ rs)
among-swapped rs ls x = either rs ls (Memᴰ.append_right ls) (Memᴰ.append_left rs)

-- no record of the one is a record of the other
abbrev pub Apart : List ℕ → List ℕ → Type 0
Apart rs ls = (x : ℕ) → Memᴰ x rs → Memᴰ x ls → ⊥

distinct-both : (rs ls : List ℕ) → Distinct rs → Distinct ls → Apart rs ls → Distinct (rs ++ ls)
distinct-both [] ls d e apart = e
distinct-both (r ∷ rs) ls d e apart = (
  either rs ls d.0 (apart r (Memᴰ.head refl)),
  distinct-both rs ls d.1 e (λ x m n. apart x (Memᴰ.tail m) n),
)

pub distinct-parts : (rs ls : List ℕ) → Distinct (rs ++ ls) → Distinct rs × Distinct ls × Apart rs ls
distinct-parts [] ls d = (tt, d, λ x m n. elim m [ ])
distinct-parts (r ∷ rs) ls d =
    let p = distinct-parts rs ls d.1 in ((λ m. d.0 (Memᴰ.append_left ls m), p.0), p.1, apart p.2)
  where
    apart : Apart rs ls → Apart (r ∷ rs) ls
    apart f x (Memᴰ.head e) n = d.0 (Memᴰ.append_right rs (rw e at n))
    apart f x (Memᴰ.tail m) n = f x m n

-- the same records in another order
pub record Rearranged (rs ls : List ℕ) : Type 0 where
  pub there : Among rs ls
  pub back : Among ls rs
  pub distinct : Distinct rs → Distinct ls

pub rearranged-same : (rs : List ℕ) → Rearranged rs rs
rearranged-same rs = record { there = λ x m. m; back = λ x m. m; distinct = λ d. d }

pub rearranged-both : (rs ls rs' ls' : List ℕ) → Rearranged rs rs' → Rearranged ls ls' → Rearranged (rs ++ ls) (rs' ++ ls')
rearranged-both rs ls rs' ls' a b = record {
  there = among-both rs ls rs' ls' a.there b.there;
  back = among-both rs' ls' rs ls a.back b.back;
  distinct = λ d. let p = distinct-parts rs ls d in
      distinct-both rs' ls' (a.distinct p.0) (b.distinct p.1) (λ x m n. p.2 x (a.back x m) (b.back x n));
}

pub rearranged-swapped : (rs ls rs' ls' : List ℕ) → Rearranged rs rs' → Rearranged ls ls' → Rearranged (rs ++ ls) (ls' ++ rs')
rearranged-swapped rs ls rs' ls' a b = record {
  there = λ x m. among-swapped rs' ls' x (among-both rs ls rs' ls' a.there b.there x m);
  back = λ x m. among-both rs' ls' rs ls a.back b.back x (among-swapped ls' rs' x m);
  distinct = λ d. let p = distinct-parts rs ls d in
      distinct-both ls' rs' (b.distinct p.1) (a.distinct p.0) (λ x m n. p.2 x (a.back x n) (b.back x m));
}
