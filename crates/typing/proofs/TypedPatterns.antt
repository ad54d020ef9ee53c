-- The type of a pattern, found from those of its parts and of what follows it: a pair pattern has the pair type of its parts'
-- types, as no two pair types have the same parts, and a chain the type that its first alternative and the rest of it share.
-- Assumes nothing.
use mathlib.Core.Path.{◌≡◌, refl, sym, ◌∙◌, ap}
use mathlib.Core.Bool.{Bool, true, false, not, ◌&&◌}
use mathlib.Core.List.{List}
use mathlib.Core.Logic.{◌⊎◌, inl, inr}
use Prim.Native.Nat.{ℕ, zero, suc, ◌≤◌, ◌<◌}
use native.Mathlib.Omega.{arith}
use native.Mathlib.Decide.{ℕ_discrete}
use lib.Dec.{eqb, ltb}
use lib.ListN.{get_or, set, replicate, length-set, length-replicate}
use lib.Seq.{get_or-set_same, get_or-set_other}
use borrow.Author.Tests.{eq-eqb, ne_eqb, eqb-true}
use Rattle.std.specs.Prelude.{Option, Some, None}
use Rattle.std.specs.Option.{option_eq}
use Rattle.structure.specs.PairIndex.{some_record}
use Rattle.records.specs.Words.{count, word, word_a, word_b, next_word}
use Rattle.records.specs.Kinds.{pattern, whole, constructor, parts, patterns, part, type_of, pair, is_pair}
use Rattle.records.specs.Says.{kind_at, sort_at}
use Rattle.records.specs.Trees.{TypeRecord, pair_of, pair_below, end, alternatives, follow}
use Rattle.records.specs.Written.{Written}
use Rattle.records.proofs.Tests.{never_both}
use Rattle.records.proofs.Table.{is-pair, ask_of_kind}
use Rattle.records.proofs.Asked.{part-of-kind}
use Rattle.records.proofs.Pairs.{pair-of-found, pair-of-parts}
use Rattle.records.proofs.TypeRecords.{first_part, second-part, input-type}
use Rattle.structure.proofs.Passes.{written, types-fit}
use Rattle.typing.specs.Judgements.{pattern_fits}
use Rattle.typing.specs.Judging.{Fitting}
use Rattle.typing.specs.PatternTable.{TypedOne, TypedAll, PatternsTyped, TypingPattern, or_zero}
use Rattle.typing.proofs.Alternatives.{next-matching, fits_word, both-parts}
use Rattle.typing.proofs.PatternNumbers.{pattern-kind, number-of-pattern}

-- the types of no patterns
nothing : (n i : ℕ) → get_or (replicate n 0) i 0 < 65536
nothing zero i = omega arith
nothing (suc n) zero = omega arith
nothing (suc n) (suc i) = nothing n i

pub no-types-typed : (s : List ℕ) → PatternsTyped s (count s) (replicate 4096 0)
no-types-typed s = record {
  long = length-replicate {A = ℕ} 4096 0;
  small = nothing 4096;
  typed = λ p low there sort. absurd (omega arith);
}

both-same : (a : Bool) → (a && a) ≡ a
both-same true = refl
both-same false = refl

with-true : (a : Bool) → (a && true) ≡ a
with-true true = refl
with-true false = refl

-- two types are one where both are t
shared : (x y t : ℕ) → (y ≡ x → ⊥) → 0 < t → (eqb x t && eqb y t) ≡ eqb 0 t
shared x y t differ past = go (ℕ_discrete x t)
  where
    none : eqb 0 t ≡ false
    none = ne_eqb 0 t (λ e. omega arith)

    go : Dec (x ≡ t) → (eqb x t && eqb y t) ≡ eqb 0 t
    go (yes e) = rw (eq-eqb x t e, ne_eqb y t (λ f. differ (f ∙ sym e))) (sym none)
    go (no f) = rw (ne_eqb x t f) (sym none)

-- a record that may be none, and its number
pub or-zero-of : (x : ℕ) → or_zero (some_record x) ≡ x
or-zero-of zero = refl
or-zero-of (suc x) = refl

pub none-zero : {x : ℕ} → None ≡ some_record x → x ≡ 0
none-zero {x = zero} e = refl
none-zero {x = suc x} e = let z : ◌≡◌ {A = ℕ} 0 1 = cc in absurd (omega arith)

pub some-number : {x t : ℕ} → Some t ≡ some_record x → t ≡ x
some-number {x = zero} {t = t} e = let z : ◌≡◌ {A = ℕ} 0 1 = cc in absurd (omega arith)
some-number {x = suc x} {t = t} e = cc

pub differing : (x : ℕ) (o : Option ℕ) → option_eq eqb (some_record x) o ≡ false → x ≡ or_zero o → or_zero o ≡ 0
differing zero None e q = refl
differing zero (Some t) e q = sym q
differing (suc x) None e q = absurd (omega arith)
differing (suc x) (Some t) e q = absurd (never_both false (sym e ∙ eq-eqb (suc x) t q) refl)

negated : (b : Bool) → not b ≡ false → b ≡ true
negated true e = refl
negated false e = sym e

negated-true : (b : Bool) → not b ≡ true → b ≡ false
negated-true true e = sym e
negated-true false e = refl

pub same-number : (x : ℕ) (o : Option ℕ) → option_eq eqb (some_record x) o ≡ true → x ≡ or_zero o
same-number zero None e = refl
same-number zero (Some t) e = absurd (never_both false e refl)
same-number (suc x) None e = absurd (never_both false e refl)
same-number (suc x) (Some t) e = eqb-true (suc x) t e

module _ {s : List ℕ} {n : ℕ} {index types : List ℕ} {p : ℕ} (q : TypingPattern s n index types p) (sort : sort_at s p ≡ patterns) where
  w : Written s
  w = written q.passes

  fitting : (t : ℕ) → TypeRecord s t → Fitting s n p t
  fitting t u = record { sized = q.sized; passes = q.passes; there = q.there; sort = sort; typed = u }

  -- no pair pattern: the type in word a
  pub word-type : {x : ℕ} → (kind_at s p ≡ pattern parts → ⊥) → x ≡ word s p 2 → TypedOne s p x
  word-type {x} f ex t u = fits_word (fitting t u) (word s p 0) refl x (λ z. f (pattern-kind s p (word s p 0) refl parts z)) ex

  -- a pair type has parts
  pair-parts-there : (a b r : ℕ) → r ≡ pair_of s a b → 0 < r → (0 < a) × (0 < b)
  pair-parts-there a b r e h =
      let f = pair-of-found s a b r (sym e) h in
      (rw (← f.2) (first_part w r f.0 f.1).past, rw (← f.3) (second-part w r f.0 f.1).past)

  -- a pair pattern
  module _ (pair-pattern : kind_at s p ≡ pattern parts) where
    part-entry : (j : ℕ) → (ltb 0 j && ltb j 6) ≡ true → ask_of_kind (pattern parts) j ≡ part patterns
        → (word s p j < 4096) × TypedAll s (word s p j) (get_or types (word s p j) 0)
    part-entry j h a =
        let c = q.sized.counted in
        let t = q.there in
        let few = w.few in
        let d = part-of-kind w p (pattern parts) patterns (omega arith) pair-pattern j h a in
        (omega (arith, d.1, few), q.above.typed (word s p j) (omega (arith, d.0)) d.1 d.2)

    first_entry : (word s p 2 < 4096) × TypedAll s (word s p 2) (get_or types (word s p 2) 0)
    first_entry = part-entry 2 refl (unfold ask_of_kind in refl)

    second-entry : (word s p 3 < 4096) × TypedAll s (word s p 3) (get_or types (word s p 3) 0)
    second-entry = part-entry 3 refl (unfold ask_of_kind in refl)

    pub first-low : {x : ℕ} → x ≡ word s p 2 → x < 4096
    first-low ex = rw ex first_entry.0

    pub second-low : {y : ℕ} → y ≡ word s p 3 → y < 4096
    second-low ey = rw ey second-entry.0

    module _ {x y r : ℕ} (ex : x ≡ word s p 2) (ey : y ≡ word s p 3) (er : r ≡ pair_below s (get_or types x 0) (get_or types y 0) n) where
      abbrev a : ℕ
      a = get_or types (word_a s p) 0

      abbrev b : ℕ
      b = get_or types (word_b s p) 0

      declared : r ≡ pair_of s a b
      unfolding pair_of
      declared =
          er
          ∙ ap (λ (v : ℕ). pair_below s (get_or types v 0) (get_or types y 0) n) ex
          ∙ ap (λ (v : ℕ). pair_below s a (get_or types v 0) n) ey
          ∙ ap (λ (m : ℕ). pair_below s a b m) q.sized.counted

      pub pair_small : r < 65536
      pair_small = go (ℕ_discrete r 0)
        where
          go : Dec (r ≡ 0) → r < 65536
          go (yes e) = omega arith
          go (no f) =
              let h = (pair-of-found s a b r (sym declared) (omega arith)).0 in
              let few = w.few in
              omega arith

      -- the pair type of the parts' types fits, and no other type does
      pair_fits : (t : ℕ) → TypeRecord s t → kind_at s t ≡ type_of pair → (rest : Bool)
          → (eqb a (word_a s t) && (eqb b (word_b s t) && rest)) ≡ (eqb r t && rest)
      pair_fits t u kind rest = go (ℕ_discrete a (word_a s t)) (ℕ_discrete b (word_b s t)) (ℕ_discrete r t)
        where
          found : r ≡ t → (word_a s t ≡ a) × (word_b s t ≡ b)
          found f = let h = pair-of-found s a b t (sym declared ∙ f) u.past in (h.2, h.3)

          go : Dec (a ≡ word_a s t) → Dec (b ≡ word_b s t) → Dec (r ≡ t)
              → (eqb a (word_a s t) && (eqb b (word_b s t) && rest)) ≡ (eqb r t && rest)
          go (yes f) (yes g) _ =
              let h : r ≡ t = declared ∙ rw (f, g) (pair-of-parts w (types-fit q.passes) t u.there kind) in
              rw (eq-eqb a (word_a s t) f, eq-eqb b (word_b s t) g, eq-eqb r t h)
          go (no f) _ (yes h) = absurd (f (sym (found h).0))
          go (yes f) (no g) (yes h) = absurd (g (sym (found h).1))
          go (no f) _ (no h) = rw (ne_eqb a (word_a s t) f, ne_eqb r t h)
          go (yes f) (no g) (no h) = rw (eq-eqb a (word_a s t) f, ne_eqb b (word_b s t) g, ne_eqb r t h)

      pub pair-type-of-parts : TypedOne s p r
      pair-type-of-parts t u = both-parts (fitting t u) (word s p 0) refl (number-of-pattern s p (word s p 0) refl parts pair-pattern) ∙ go (is_pair (kind_at s t)) refl
        where
          rest : Bool
          rest = pattern_fits s (follow end (alternatives s) (next_word s p)) t

          go : (h : Bool) → is_pair (kind_at s t) ≡ h
              → (is_pair (kind_at s t) && (pattern_fits s (alternatives s (word_a s p)) (word_a s t) && (pattern_fits s (alternatives s (word_b s p)) (word_b s t) && rest))) ≡ (eqb r t && rest)
          go false f = rw (f, ne_eqb r t (λ h. never_both (is_pair (kind_at s t)) (rw (pair-of-found s a b t (sym declared ∙ h) u.past).1) f))
          go true f =
              let kind = is-pair (kind_at s t) f in
              rw (f, first_entry.1 (word_a s t) (first_part w t u.there kind), second-entry.1 (word_b s t) (second-part w t u.there kind))
              (pair_fits t u kind rest)

    module _ {x y : ℕ} (ex : x ≡ word s p 2) (ey : y ≡ word s p 3) where
      -- a part whose alternatives have no one type
      no-part : (get_or types x 0 ≡ 0) ⊎ (get_or types y 0 ≡ 0) → pair_below s (get_or types x 0) (get_or types y 0) n ≡ 0
      unfolding pair_of
      no-part z = go z (ℕ_discrete (pair_below s (get_or types x 0) (get_or types y 0) n) 0)
        where
          parts-above : (pair_below s (get_or types x 0) (get_or types y 0) n ≡ 0 → ⊥)
              → (0 < get_or types x 0) × (0 < get_or types y 0)
          parts-above f =
              pair-parts-there (get_or types x 0) (get_or types y 0) _
              (ap (λ (m : ℕ). pair_below s (get_or types x 0) (get_or types y 0) m) q.sized.counted) (omega arith)

          go : (get_or types x 0 ≡ 0) ⊎ (get_or types y 0 ≡ 0) → Dec (pair_below s (get_or types x 0) (get_or types y 0) n ≡ 0)
              → pair_below s (get_or types x 0) (get_or types y 0) n ≡ 0
          go z (yes e) = e
          go (inl z) (no f) = let h = parts-above f in absurd (omega (arith, h.0))
          go (inr z) (no f) = let h = parts-above f in absurd (omega (arith, h.1))

      pub pair-given : (a b : ℕ) (o : Option ℕ) → Some a ≡ some_record (get_or types x 0) → Some b ≡ some_record (get_or types y 0)
          → o ≡ some_record (pair_below s a b n) → TypedOne s p (or_zero o) × (or_zero o < 65536)
      pair-given a b o ea eb eo =
          let r : or_zero o ≡ pair_below s (get_or types x 0) (get_or types y 0) n =
          ap or_zero eo ∙ or-zero-of (pair_below s a b n) ∙ rw (some-number ea, some-number eb) in
          (pair-type-of-parts ex ey r, pair_small ex ey r)

      pub no-part-type : (get_or types x 0 ≡ 0) ⊎ (get_or types y 0 ≡ 0) → TypedOne s p 0
      no-part-type z = pair-type-of-parts ex ey (sym (no-part z))

  -- a chain of alternatives
  module _ {y : ℕ} (ey : y ≡ word s p 1) where
    pub last-alternative : (x : ℕ) → TypedOne s p x → y ≡ 0 → TypedAll s p x
    last-alternative x one z t u = one t u ∙ rw (← ey, z) (with-true (eqb x t))

    module _ (f : y ≡ 0 → ⊥) where
      next-fitting : (t : ℕ) → TypeRecord s t → (p < y) × Fitting s n y t
      next-fitting t u = next-matching (fitting t u) y ey f

      pub next_low : y < 4096
      next_low =
          let d = (next-fitting (word_a s 0) (input-type w)).1.there in
          let c = q.sized.counted in
          let few = w.few in
          omega arith

      goes_on : (x : ℕ) → TypedOne s p x → (t : ℕ) → TypeRecord s t
          → pattern_fits s (alternatives s p) t ≡ (eqb x t && eqb (get_or types y 0) t)
      goes_on x one t u =
          let d = next-fitting t u in
          let c = q.sized.counted in
          let there = d.1.there in
          one t u ∙ rw (← ey, follows y f, q.above.typed y (omega (arith, d.0)) (omega arith) d.1.sort t u)
        where
          follows : (z : ℕ) → (z ≡ 0 → ⊥) → follow end (alternatives s) z ≡ alternatives s z
          follows zero g = absurd (g refl)
          follows (suc z) g = refl

      pub all-the-same : (x : ℕ) → TypedOne s p x → get_or types y 0 ≡ x → TypedAll s p x
      all-the-same x one same t u = goes_on x one t u ∙ rw same (both-same (eqb x t))

      pub no-common-type : (x : ℕ) → TypedOne s p x → (get_or types y 0 ≡ x → ⊥) → TypedAll s p 0
      no-common-type x one differ t u = goes_on x one t u ∙ shared x (get_or types y 0) t differ u.past

      module _ (o : Option ℕ) (one : TypedOne s p (or_zero o)) (e : Option ℕ) (ee : e ≡ some_record (get_or types y 0)) (b : Bool)
          (eb : b ≡ not (option_eq eqb e o)) where
        pub entry-same : b ≡ false → TypedAll s p (or_zero o)
        entry-same h = all-the-same (or_zero o) one (same-number (get_or types y 0) o (rw (← ee) (negated (option_eq eqb e o) (sym eb ∙ h))))

        pub entry-other : b ≡ true → TypedAll s p 0 × (0 < 65536)
        entry-other h = (go (ℕ_discrete (get_or types y 0) (or_zero o)), omega arith)
          where
            unequal : option_eq eqb (some_record (get_or types y 0)) o ≡ false
            unequal = rw (← ee) (negated-true (option_eq eqb e o) (sym eb ∙ h))

            go : Dec (get_or types y 0 ≡ or_zero o) → TypedAll s p 0
            go (yes q) = rw (differing (get_or types y 0) o unequal q) at (all-the-same (or_zero o) one q)
            go (no f) = no-common-type (or_zero o) one f

-- the table with one more record
module _ {s : List ℕ} {n : ℕ} {index types : List ℕ} {p : ℕ} (q : TypingPattern s n index types p) where
  pub type-noted : {x : ℕ} → x < 65536 → TypedAll s p x → PatternsTyped s p (set types p x)
  type-noted {x} small t = record {
    long = length-set types p x ∙ q.above.long;
    small = λ r. all_small r (ℕ_discrete r p);
    typed = λ r low there sort. all_typed r low there sort (ℕ_discrete r p);
  }
    where
      here : get_or (set types p x) p 0 ≡ x
      here =
          let c = q.sized.counted in
          let few = (written q.passes).few in
          let there = q.there in
          let long = q.above.long in
          get_or-set_same types p x 0 (omega arith)

      all_small : (r : ℕ) → Dec (r ≡ p) → get_or (set types p x) r 0 < 65536
      all_small r (yes e) = rw (e, here) small
      all_small r (no f) = rw (get_or-set_other types p r x 0 f) (q.above.small r)

      all_typed : (r : ℕ) → p ≤ r → r < count s → sort_at s r ≡ patterns → Dec (r ≡ p) → TypedAll s r (get_or (set types p x) r 0)
      all_typed r low there sort (yes e) = rw (e, here) t
      all_typed r low there sort (no f) = rw (get_or-set_other types p r x 0 f) (q.above.typed r (omega arith) there sort)

  pub no-type-noted : (sort_at s p ≡ patterns → ⊥) → PatternsTyped s p types
  no-type-noted f = record {
    long = q.above.long;
    small = q.above.small;
    typed = λ r low there sort. go r low there sort (ℕ_discrete r p);
  }
    where
      go : (r : ℕ) → p ≤ r → r < count s → sort_at s r ≡ patterns → Dec (r ≡ p) → TypedAll s r (get_or types r 0)
      go r low there sort (yes e) = absurd (f (rw e at sort))
      go r low there sort (no g) = q.above.typed r (omega arith) there sort

-- a record is a pattern by its number
pub pattern-between : (s : List ℕ) (p k : ℕ) → k ≡ word s p 0 → 48 ≤ k → k ≤ 50 → sort_at s p ≡ patterns
pattern-between s p k ek low high = go (ℕ_discrete k 48) (ℕ_discrete k 49)
  where
    go : Dec (k ≡ 48) → Dec (k ≡ 49) → sort_at s p ≡ patterns
    go (yes e) _ = rw (pattern-kind s p k ek whole e)
    go (no f) (yes e) = rw (pattern-kind s p k ek constructor e)
    go (no f) (no g) = rw (pattern-kind s p k ek parts (omega arith))

-- an IF's pattern fits where its entry is the tested type
pub entry-fits : {s : List ℕ} {n p t : ℕ} {types : List ℕ} → Fitting s n p t → PatternsTyped s 0 types
    → pattern_fits s (alternatives s p) t ≡ eqb (get_or types p 0) t
entry-fits {s} {n} {p} {t} m h =
    let c = m.sized.counted in
    let there = m.there in
    h.typed p (omega arith) (omega arith) m.sort t m.typed
