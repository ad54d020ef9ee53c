-- How the records of a sheet are named that passes code 4: each but 0 once, or by words d of IFs
-- alone; and code 4 does not apply to a record that is named so. A word other than d that names a
-- record is its only naming (`only-naming` of `records`).
-- Assumes nothing.
use Prim.Native.Nat.{ℕ, ◌<◌}
use mathlib.Core.Bool.{true, false, not}
use mathlib.Core.List.{List, [], ◌∷◌, Memᴰ}
use mathlib.Core.Logic.{◌⊎◌, inl, inr}
use mathlib.Core.Path.{◌≡◌, refl, sym, ap, ◌∙◌}
use native.Mathlib.Omega.{arith}
use lib.Dec.{eqb, ltb}
use borrow.Author.Tests.{eqb-true, eq-eqb, lt-ltb, not-false}
use Rattle.records.specs.Kinds.{Kind, expression, if_matches, parts, pattern, sort_number, sort_of}
use Rattle.records.specs.Says.{Naming, namings, by_word_d, well_named}
use Rattle.records.specs.Written.{Written, WellNamed}
use Rattle.records.proofs.Tests.{never_both, both_left, both_right, both-fails}
use Rattle.records.proofs.Namings.{in-namings-names, namer-lower, only-naming, word-d-names}
use Rattle.structure.specs.Rules.{wrong_naming}
use Rattle.structure.proofs.Passes.{written, written-by, well-named}
use Rattle.verdict.specs.Promises.{OnceOrShared, EveryNamedOnce, NamedOnceExactly}

-- all by words d, or one alone
all-d : (ns : List Naming) → by_word_d ns ≡ true → (n : Naming) → Memᴰ n ns → n.at ≡ 5
all-d [] e n x'' = elim x'' [ ]
all-d (m ∷ ns) e n (Memᴰ.head h) = rw h (eqb-true m.at 5 (both_left (eqb m.at 5) (by_word_d ns) e))
all-d (m ∷ ns) e n (Memᴰ.tail i) = all-d ns (both_right (eqb m.at 5) (by_word_d ns) e) n i

by-all-d : (ns : List Naming) → ((n : Naming) → Memᴰ n ns → n.at ≡ 5) → by_word_d ns ≡ true
by-all-d [] all = refl
by-all-d (n ∷ ns) all =
    rw (eq-eqb n.at 5 (all n (Memᴰ.head refl))) (by-all-d ns (λ m i. all m (Memᴰ.tail i)))

well-cases : (ns : List Naming) → well_named ns ≡ true
    → ((n : Naming) × (ns ≡ n ∷ [])) ⊎ (((n : Naming) × Memᴰ n ns) × (by_word_d ns ≡ true))
well-cases [] e = absurd (never_both false e refl)
well-cases (n ∷ []) e = inl (n, refl)
well-cases (n ∷ m ∷ ns) e = inr ((n, Memᴰ.head refl), e)

by-d-well : (ns : List Naming) (n : Naming) → Memᴰ n ns → by_word_d ns ≡ true → well_named ns ≡ true
by-d-well [] n i e = elim i [ ]
by-d-well (m ∷ []) n i e = refl
by-d-well (m ∷ k ∷ ns) n i e = e

module _ {s : List ℕ} (w : Written s) where
  once_or_shared : (r : ℕ) → well_named (namings s r) ≡ true → OnceOrShared s r
  once_or_shared r well = go (well-cases (namings s r) well)
    where
      go : ((n : Naming) × (namings s r ≡ n ∷ [])) ⊎ (((n : Naming) × Memᴰ n (namings s r)) × (by_word_d (namings s r) ≡ true))
          → OnceOrShared s r
      go (inl one) = inl one
      go (inr (some, e)) = inr (
        (word-d-names w r some.0 (all-d (namings s r) e some.0 some.1) (in-namings-names s r some.0 some.1)).1,
        record {
          some = some;
          by_if = λ n i. (word-d-names w r n (all-d (namings s r) e n i) (in-namings-names s r n i)).0;
          at_d = all-d (namings s r) e;
        },
      )

  -- by a word other than d
  alone : WellNamed s → (r : ℕ) → 0 < r → (n : Naming) → Memᴰ n (namings s r) → (n.at ≡ 5 → ⊥) → namings s r ≡ n ∷ []
  alone well r low n i other =
      let m = in-namings-names s r n i in
      let h = m.high in
      only-naming s well r n low (namer-lower w r n low m).1 (omega arith) m

pub every_named_once : EveryNamedOnce
every_named_once s p =
    let w = written p in
    let well = well-named p in
    record {
      once_or_shared = λ r low high. once_or_shared w r (well r low high);
      by_next = λ r low n i e. alone w well r low n i (λ d. omega arith);
      by_pair_pattern = λ r low n i e.
          alone w well r low n i
          (λ d.
          let k = (word-d-names w r n d (in-namings-names s r n i)).0 in
          let z : sort_number (sort_of (pattern parts)) ≡ sort_number (sort_of (expression if_matches)) =
          ap (λ (x : Kind). sort_number (sort_of x)) (sym e ∙ k) in
          omega arith);
    }

well-by : (s : List ℕ) (r : ℕ) → OnceOrShared s r → well_named (namings s r) ≡ true
well-by s r (inl one) = rw one.1
well-by s r (inr (p, shared)) =
    by-d-well (namings s r) shared.some.0 shared.some.1 (by-all-d (namings s r) shared.at_d)

pub named_once_exactly : NamedOnceExactly
unfolding wrong_naming
named_once_exactly s el eh er r low high = (
  λ e.
      once_or_shared (written-by el eh er) r
      (not-false (well_named (namings s r)) (both-fails (ltb 0 r) (not (well_named (namings s r))) e (lt-ltb 0 r low))),
  λ named. rw (lt-ltb 0 r low, well-by s r named),
)
