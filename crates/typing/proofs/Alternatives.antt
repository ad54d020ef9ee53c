-- A pattern held against a type: one alternative by its kind, and what its parts and the next alternative are held against. Assumes nothing.
use mathlib.Core.Path.{◌≡◌, refl, sym, ◌∙◌, ap}
use mathlib.Core.Bool.{Bool, true, false, ◌&&◌}
use mathlib.Core.List.{List}
use Prim.Native.Nat.{ℕ, ◌<◌}
use native.Mathlib.Omega.{arith}
use borrow.Author.Tests.{eq-eqb, ne_eqb}
use lib.Dec.{eqb}
use Rattle.records.specs.Words.{count, word, word_a, word_b, next_word}
use Rattle.records.specs.Kinds.{
  Kind,
  header,
  type_of,
  expression,
  pattern,
  leaf,
  unknown,
  PatternKind,
  whole,
  constructor,
  parts,
  patterns,
  pair,
  kind_of,
  is_pair,
  next_of,
}
use Rattle.records.specs.Says.{kind_at}
use Rattle.records.specs.Trees.{end, alternatives, follow}
use Rattle.records.specs.Written.{Written}
use Rattle.records.proofs.Tests.{never_both}
use Rattle.records.proofs.Table.{kind-of-sort, ask_of_kind}
use Rattle.records.proofs.CodeTable.{only-kind}
use Rattle.records.proofs.Asked.{part-of-kind, next-of-kind}
use Rattle.records.proofs.Trees.{alternatives-of}
use Rattle.records.proofs.TypeRecords.{first_part, second-part}
use Rattle.structure.proofs.Passes.{written}
use Rattle.structure.proofs.LeafCounts.{pair-kind}
use Rattle.typing.specs.Judgements.{pattern_fits}
use Rattle.typing.specs.Judging.{Fitting, FittedOne}

abbrev pub is_parts : Kind → Bool
is_parts header = false
is_parts (type_of k) = false
is_parts (expression k) = false
is_parts (pattern whole) = false
is_parts (pattern constructor) = false
is_parts (pattern parts) = true
is_parts leaf = false
is_parts unknown = false

parts-number : (k : ℕ) → is_parts (kind_of k) ≡ eqb k 50
unfolding kind_of
parts-number = only-kind is_parts 50 refl (omega arith) tt

is-parts : (k : PatternKind) → is_parts (pattern k) ≡ true → k ≡ parts
is-parts whole e = absurd (never_both false e refl)
is-parts constructor e = absurd (never_both false e refl)
is-parts parts e = refl

pub is-parts-kind : (k : Kind) → is_parts k ≡ true → k ≡ pattern parts
is-parts-kind header e = absurd (never_both false e refl)
is-parts-kind (type_of k) e = absurd (never_both false e refl)
is-parts-kind (expression k) e = absurd (never_both false e refl)
is-parts-kind (pattern k) e = ap pattern (is-parts k e)
is-parts-kind leaf e = absurd (never_both false e refl)
is-parts-kind unknown e = absurd (never_both false e refl)

module _ {s : List ℕ} {n p t : ℕ} (m : Fitting s n p t) where
  w : Written s
  w = written m.passes

  pub in-sheet : p < count s
  in-sheet = let c = m.sized.counted in let h = m.there in omega arith

  kind : (k : PatternKind) × (kind_at s p ≡ pattern k)
  kind = kind-of-sort patterns (kind_at s p) m.sort

  pub next-matching : (x : ℕ) → x ≡ word s p 1 → (x ≡ 0 → ⊥) → (p < x) × Fitting s n x t
  next-matching x ex f =
      let q = next-of-kind w p (pattern kind.0) patterns in-sheet kind.1 (asks kind.0) (omega arith) in
      let c = m.sized.counted in
      (omega arith, record { sized = m.sized; passes = m.passes; there = omega arith; sort = rw ex q.2; typed = m.typed })
    where
      asks : (k : PatternKind) → ask_of_kind (pattern k) 1 ≡ next_of patterns
      asks whole = unfold ask_of_kind in refl
      asks constructor = unfold ask_of_kind in refl
      asks parts = unfold ask_of_kind in refl

  module _ (k : ℕ) (ek : k ≡ word s p 0) where
    -- no pair pattern: the type in word a
    pub fits_word : (x : ℕ) → (k ≡ 50 → ⊥) → x ≡ word s p 2 → FittedOne s p t (eqb x t)
    fits_word x f ex = go kind.0 kind.1
      where
        go : (q : PatternKind) → kind_at s p ≡ pattern q → FittedOne s p t (eqb x t)
        go whole e = rw (alternatives-of w p in-sheet (pattern whole) e, ex)
        go constructor e = rw (alternatives-of w p in-sheet (pattern constructor) e, ex)
        go parts e =
            let z : false ≡ true = sym (ne_eqb (word s p 0) 50 (λ z. f (ek ∙ z))) ∙ sym (parts-number (word s p 0)) ∙ rw e in
            absurd (never_both false z refl)

    module _ (e : k ≡ 50) where
      pair-pattern : kind_at s p ≡ pattern parts
      pair-pattern =
          kind.1
          ∙ ap pattern
          (is-parts kind.0 (sym (ap is_parts kind.1) ∙ parts-number (word s p 0) ∙ eq-eqb (word s p 0) 50 (sym ek ∙ e)))

      pub both-parts : pattern_fits s (alternatives s p) t
          ≡ (is_pair (kind_at s t) && (pattern_fits s (alternatives s (word_a s p)) (word_a s t) && (pattern_fits s (alternatives s (word_b s p)) (word_b s t) && pattern_fits s (follow end (alternatives s) (next_word s p)) t)))
      both-parts = rw (alternatives-of w p in-sheet (pattern parts) pair-pattern)

      module _ (q : ℕ) (eq : q ≡ word s t 0) (e17 : q ≡ 17) where
        pair-type-record : kind_at s t ≡ type_of pair
        pair-type-record = pair-kind s t q eq e17

        -- the two parts are matched in their turn
        pub first-matching : (x u : ℕ) → x ≡ word s p 2 → u ≡ word s t 2 → (p < x) × Fitting s n x u
        first-matching x u ex eu =
            let h = part-of-kind w p (pattern parts) patterns in-sheet pair-pattern 2 refl (unfold ask_of_kind in refl) in
            let c = m.sized.counted in
            (omega arith, record { sized = m.sized; passes = m.passes; there = omega arith; sort = rw ex h.2; typed = rw eu (first_part w t m.typed.there pair-type-record) })

        pub second-matching : (x u : ℕ) → x ≡ word s p 3 → u ≡ word s t 3 → (p < x) × Fitting s n x u
        second-matching x u ex eu =
            let h = part-of-kind w p (pattern parts) patterns in-sheet pair-pattern 3 refl (unfold ask_of_kind in refl) in
            let c = m.sized.counted in
            (omega arith, record { sized = m.sized; passes = m.passes; there = omega arith; sort = rw ex h.2; typed = rw eu (second-part w t m.typed.there pair-type-record) })
