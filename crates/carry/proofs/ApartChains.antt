-- No leaf stands in the chains of two constants or delays: a leaf of a chain is its first, which the record names, or another leaf of
-- the chain names it; and it is named once. By induction on the chain, from the highest leaf down, and on the leaf's number.
-- Assumes nothing.
use Prim.Native.Nat.{ℕ, zero, suc, ◌<◌}
use mathlib.Core.List.{List, [], ◌∷◌, Memᴰ}
use mathlib.Core.Path.{◌≡◌, refl, sym, ap, subst}
use mathlib.Core.Logic.{◌⊎◌, inl, inr}
use native.Mathlib.Omega.{arith}
use Rattle.records.specs.Words.{count, next_word, word_b}
use Rattle.records.specs.Kinds.{Kind, leaf, leafs, part}
use Rattle.records.specs.Says.{kind_at, sort_at, Naming}
use Rattle.records.specs.Trees.{chain, follow}
use Rattle.records.specs.Written.{Written, WellNamed}
use Rattle.records.proofs.Table.{ask_of_kind, kind-of-sort}
use Rattle.records.proofs.Asked.{part-of-kind, past-header}
use Rattle.records.proofs.Trees.{from-above, next-leaf, chain-of}
use Rattle.records.proofs.Leaves.{chain-leaves}
use Rattle.records.proofs.Namings.{Names, only-naming, part-names, next-names}

-- a leaf of the chain from a whose next is x
record Preceded (s : List ℕ) (a x : ℕ) : Type 0 where
  by : ℕ
  member : Memᴰ by (chain s a)
  names : Names s x (record { by = by; at = 1 })
  lower : by < x

first-or-preceded : {s : List ℕ} → Written s → (a : ℕ) → a < count s → sort_at s a ≡ leafs → (x : ℕ) → Memᴰ x (chain s a)
    → (x ≡ a) ⊎ Preceded s a x
first-or-preceded {s} w =
    from-above (count s) (λ a. sort_at s a ≡ leafs → (x : ℕ) → Memᴰ x (chain s a) → (x ≡ a) ⊎ Preceded s a x) step
  where
    step : (a : ℕ) → a < count s
        → ((b : ℕ) → a < b → b < count s → sort_at s b ≡ leafs → (x : ℕ) → Memᴰ x (chain s b) → (x ≡ b) ⊎ Preceded s b x)
        → sort_at s a ≡ leafs → (x : ℕ) → Memᴰ x (chain s a) → (x ≡ a) ⊎ Preceded s a x
    step a h above e x m = at (rw chain-is at m)
      where
        chain-is : chain s a ≡ a ∷ follow [] (chain s) (next_word s a)
        chain-is = chain-of w a h e

        by_next : Names s (next_word s a) (record { by = a; at = 1 })
        by_next = next-names s a leaf leafs h (kind-of-sort leafs (kind_at s a) e) (unfold ask_of_kind in refl)

        later : (y : ℕ) → y ≡ next_word s a → Memᴰ x (follow [] (chain s) y) → Preceded s a x
        later zero z k = elim k [ ]
        later (suc y) z k =
            let p = next-leaf w a h e (omega arith) in
            go (above (next_word s a) p.0 p.1 p.2 x (rw (← z) k))
          where
            followed : {q : ℕ} → Memᴰ q (chain s (next_word s a)) → Memᴰ q (follow [] (chain s) (next_word s a))
            followed {q} k = subst (λ n. Memᴰ q (follow [] (chain s) n)) z (subst (λ n. Memᴰ q (chain s n)) (sym z) k)

            go : (x ≡ next_word s a) ⊎ Preceded s (next_word s a) x → Preceded s a x
            go (inl q) =
                record {
                  by = a;
                  member = rw chain-is (Memᴰ.head refl);
                  names = rw q by_next;
                  lower = let p = (next-leaf w a h e (omega arith)).0 in omega arith;
                }
            go (inr b) =
                record {
                  by = b.by;
                  member = rw chain-is (Memᴰ.tail (followed b.member));
                  names = b.names;
                  lower = b.lower;
                }

        at : Memᴰ x (a ∷ follow [] (chain s) (next_word s a)) → (x ≡ a) ⊎ Preceded s a x
        at (Memᴰ.head p) = inl p
        at (Memᴰ.tail k) = inr (later (next_word s a) refl k)

module _ {s : List ℕ} (w : Written s) (once : WellNamed s) where
  -- two namings of a record are one
  one-naming : (x : ℕ) → 0 < x → x < count s → (i j : Naming) → i.at < 5 → j.at < 5 → Names s x i → Names s x j → i ≡ j
  one-naming x low high i j c d p q =
      let e = only-naming s once x i low high c p in let f = only-naming s once x j low high d q in cc

  first-named : (p : ℕ) → p < count s → (k : Kind) → kind_at s p ≡ k → ask_of_kind k 3 ≡ part leafs → Names s (word_b s p) (record { by = p; at = 3 })
  first-named p h k e a = part-names s p k leafs h e 3 refl a

  pub first_leaf : (p : ℕ) → p < count s → (k : Kind) → kind_at s p ≡ k → ask_of_kind k 3 ≡ part leafs
      → (word_b s p < count s) × (sort_at s (word_b s p) ≡ leafs)
  first_leaf p h k e a = let f = part-of-kind w p k leafs h e 3 refl a in (f.1, f.2)

  -- two records whose words b begin chains of leaves
  module _ (r : ℕ) (hr : r < count s) (kr : Kind) (dr : kind_at s r ≡ kr) (ar : ask_of_kind kr 3 ≡ part leafs)
      (q : ℕ) (hq : q < count s) (kq : Kind) (dq : kind_at s q ≡ kq) (aq : ask_of_kind kq 3 ≡ part leafs) where
    leaf-there : (x : ℕ) → Memᴰ x (chain s (word_b s r)) → (0 < x) × (x < count s)
    leaf-there x m =
        let f = first_leaf r hr kr dr ar in
        let l = chain-leaves w (word_b s r) f.0 f.1 x m in
        (past-header w x (rw l.sort refl), l.there)

    shared : (fuel x : ℕ) → x < fuel → Memᴰ x (chain s (word_b s r)) → Memᴰ x (chain s (word_b s q)) → r ≡ q
    shared zero x h m k = absurd (omega arith)
    shared (suc fuel) x h m k =
        let fr = first_leaf r hr kr dr ar in
        let fq = first_leaf q hq kq dq aq in
        let t = leaf-there x m in
        go (shared fuel) t.0 t.1 (first-or-preceded w (word_b s r) fr.0 fr.1 x m)
        (first-or-preceded w (word_b s q) fq.0 fq.1 x k)
      where
        go : ((y : ℕ) → y < fuel → Memᴰ y (chain s (word_b s r)) → Memᴰ y (chain s (word_b s q)) → r ≡ q) → 0 < x → x < count s
            → (x ≡ word_b s r) ⊎ Preceded s (word_b s r) x → (x ≡ word_b s q) ⊎ Preceded s (word_b s q) x → r ≡ q
        go lower low high (inl a) (inl b) =
            ap (λ i. i.by)
            (one-naming x low high (record { by = r; at = 3 }) (record { by = q; at = 3 }) (omega arith) (omega arith) (rw a (first-named r hr kr dr ar)) (rw b (first-named q hq kq dq aq)))
        go lower low high (inl a) (inr b) =
            let z = ap (λ i. i.at)
            (one-naming x low high (record { by = r; at = 3 }) (record { by = b.by; at = 1 }) (omega arith) (omega arith) (rw a (first-named r hr kr dr ar)) b.names) in
            absurd (omega arith)
        go lower low high (inr a) (inl b) =
            let z = ap (λ i. i.at)
            (one-naming x low high (record { by = a.by; at = 1 }) (record { by = q; at = 3 }) (omega arith) (omega arith) a.names (rw b (first-named q hq kq dq aq))) in
            absurd (omega arith)
        go lower low high (inr a) (inr b) =
            let z : a.by ≡ b.by = ap (λ i. i.by)
            (one-naming x low high (record { by = a.by; at = 1 }) (record { by = b.by; at = 1 }) (omega arith) (omega arith) a.names b.names) in
            lower a.by (let l = a.lower in omega arith) a.member (rw z b.member)

    pub one-chain : (x : ℕ) → Memᴰ x (chain s (word_b s r)) → Memᴰ x (chain s (word_b s q)) → r ≡ q
    one-chain x m k = shared (suc x) x (omega arith) m k
