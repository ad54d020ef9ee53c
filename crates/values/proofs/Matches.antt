-- Matching a value, alternative by alternative and part by part, is the match of the meaning on the pattern that the records say.
-- Assumes nothing.
use Prim.Native.Nat.{ℕ, zero, suc, ◌+◌, ◌-◌, ◌≤◌, ◌<◌}
use mathlib.Core.Bool.{Bool, true, ◌&&◌}
use lib.Dec.{eqb}
use mathlib.Core.List.{List}
use mathlib.Core.Path.{◌≡◌, refl, sym, ◌∙◌}
use native.Mathlib.Omega.{arith}
use lib.ListN.{length, get_or, take, drop, length-drop}
use lib.Seq.{length-take-le, take_all}
use Rattle.picoella.specs.Language.{Ty, Flat, TyTuple, leaves, Parts}
use Rattle.records.specs.Words.{count, next_word, word, word_a, word_b}
use Rattle.records.specs.Kinds.{PatternKind, pattern, whole, constructor, parts, patterns, type_of, pair, is_pair}
use Rattle.records.specs.Says.{kind_at, sort_at}
use Rattle.records.specs.Trees.{type_at, TypeRecord, Alternatives, end, pair_of_patterns, alternatives, follow}
use Rattle.records.specs.Decoding.{pattern_of}
use Rattle.records.specs.Written.{Written}
use Rattle.records.proofs.Tests.{both_left, both_right}
use Rattle.records.proofs.Table.{ask_of_kind, kind-of-sort, is-pair}
use Rattle.records.proofs.Types.{pair-type, few-leaves}
use Rattle.records.proofs.Asked.{past-header, part-of-kind}
use Rattle.records.proofs.TypeRecords.{first_part, second-part}
use Rattle.records.proofs.Trees.{alternatives-of}
use Rattle.records.proofs.Grown.{grown-pattern}
use Rattle.verdict.specs.Widths.{pattern_leaves}
use Rattle.accepted.proofs.Laws.{written, types-fit}
use Rattle.typing.specs.Judgements.{pattern_fits}
use Rattle.accepted.proofs.Laws.{in-sheet, next-matching}
use Rattle.typing.specs.Judging.{Fitting}
use Rattle.accepted.proofs.FittingWidths.{fitting-leaves}
use Rattle.meaning.specs.Matching.{pattern_width, matches}
use Rattle.meaning.specs.Decisions.{Decision, pair_decision, chain_decision, constructor_decision}
use Rattle.values.specs.Matchings.{Matching, with_rest, MatchedAll, MatchedOne}
use Rattle.behaviour.specs.Firing.{first_yes}
use Rattle.values.specs.MatchAnswers.{decision_of, Own}
use Rattle.values.specs.declared.Match.{Match}
use Rattle.values.specs.declared.Match.TheVariants as Matched'
use Rattle.values.proofs.ChainLaws.{own-told, few-told, one-with-rest, chain-with-rest, rest-of-grown, alternatives-width}

module _ {s : List ℕ} {n : ℕ} {widths : List ℕ} {p : ℕ} {value : List ℕ} (m : Matching s n widths p value) where
  w : Written s
  w = written m.against.passes

  there : p < count s
  there = in-sheet m.against

  abbrev rest : Bool
  rest = pattern_fits s (follow end (alternatives s) (next_word s p)) m.type

  kind : (k : PatternKind) × (kind_at s p ≡ pattern k)
  kind = kind-of-sort patterns (kind_at s p) m.against.sort

  -- the number of the record, which is not the header, and the alternatives after it
  pub past : 0 < p
  past = past-header w p (rw kind.1 refl)

  low : p < 4096
  low = let h = m.against.there in let f = m.against.sized.few in omega arith

  abbrev after : Alternatives
  after = follow end (alternatives s) (next_word s p)

  pub some-leaf : 0 < length value
  some-leaf = rw m.long (go (type_at s m.type))
    where
      go : (τ : Ty) → 0 < leaves τ
      go (Flat r n) = omega arith
      go (TyTuple a b) = let h = go a in omega arith

  -- what follows fits too
  rest-fits : pattern_fits s (follow end (alternatives s) (next_word s p)) m.type ≡ true
  rest-fits = go kind.0 kind.1
    where
      go : (q : PatternKind) → kind_at s p ≡ pattern q → pattern_fits s (follow end (alternatives s) (next_word s p)) m.type ≡ true
      go whole e = both_right (eqb (word_a s p) m.type) rest (rw (alternatives-of w p there (pattern whole) e) at m.fits)
      go constructor e = both_right (eqb (word_a s p) m.type) rest (rw (alternatives-of w p there (pattern constructor) e) at m.fits)
      go parts e =
          let a = pattern_fits s (alternatives s (word_a s p)) (word_a s m.type) in
          let b = pattern_fits s (alternatives s (word_b s p)) (word_b s m.type) in
          both_right b rest
          (both_right a (b && rest)
          (both_right (is_pair (kind_at s m.type)) (a && (b && rest)) (rw (alternatives-of w p there (pattern parts) e) at m.fits)))

  pub next-matched : {x : ℕ} → x ≡ word s p 1 → (x ≡ 0 → ⊥) → (p < x) × Matching s n widths x value
  next-matched {x} e f =
      let q = next-matching m.against x e f in
      (q.0, record { type = m.type; against = q.1; table = m.table; fits = rw (← follows x f, e) rest-fits; long = m.long })
    where
      follows : (x : ℕ) → (x ≡ 0 → ⊥) → follow end (alternatives s) x ≡ alternatives s x
      follows zero f = absurd (f refl)
      follows (suc x) f = refl

  -- an alternative is there
  pub rest_is : (a : Decision) → with_rest (λ q. matches q value) a s (alternatives s p) ≡ chain_decision a (matches (pattern_of s (alternatives s p)) value)
  rest_is a = rest-of-grown (λ q. matches q value) a s (alternatives s p) (grown-pattern w p there m.against.sort)

  -- one more alternative taken in
  pub taken_in : (so_far one now : Match) {x : ℕ}
      → matches (pattern_of s (alternatives s p)) value ≡ with_rest (λ q. matches q value) (decision_of one) s after → decision_of now ≡ chain_decision (decision_of so_far) (decision_of one)
      → x ≡ word s p 1
      → with_rest (λ q. matches q value) (decision_of so_far) s (alternatives s p)
      ≡ with_rest (λ q. matches q value) (decision_of now) s (follow end (alternatives s) x)
  taken_in so_far one now o e ex =
      rest_is (decision_of so_far) ∙ rw (o, e, ex)
      (chain-with-rest (λ q. matches q value) (decision_of so_far) (decision_of one) s (follow end (alternatives s) (next_word s p)))

  pub whole-matches : kind_at s p ≡ pattern whole → MatchedOne s p value (Matched'.Yes p)
  whole-matches e =
      let is = alternatives-of w p there (pattern whole) e in
      record { decides = rw is (one-with-rest (λ q. matches q value) (λ a b. refl) s _ after); tells = rw is refl; few = low }

  pub constructor-matches : {x : ℕ} (r : Match) → kind_at s p ≡ pattern constructor → x ≡ word s p 3
      → Own p r (constructor_decision x (get_or value 0 0)) → MatchedOne s p value r
  constructor-matches {x} r e ex o =
      let is = alternatives-of w p there (pattern constructor) e in
      record {
        decides = rw (o.decides, ex, is) (one-with-rest (λ q. matches q value) (λ a b. refl) s _ after);
        tells = rw is (rw ex at (own-told r (constructor_decision x (get_or value 0 0)) p (first_yes s after value) o));
        few = rw o.tells (few-told (constructor_decision x (get_or value 0 0)) p 0 low (omega arith));
      }

  -- a pair pattern
  module _ (pair_parts : kind_at s p ≡ pattern parts) where
    two-parts : alternatives s p
        ≡ pair_of_patterns p (alternatives s (word_a s p)) (alternatives s (word_b s p)) (follow end (alternatives s) (next_word s p))
    two-parts = alternatives-of w p there (pattern parts) pair_parts

    abbrev t : ℕ
    t = m.type

    abbrev first_fits : Bool
    first_fits = pattern_fits s (alternatives s (word_a s p)) (word_a s t)

    abbrev second_fits : Bool
    second_fits = pattern_fits s (alternatives s (word_b s p)) (word_b s t)

    all_fit : (is_pair (kind_at s t) && (first_fits && (second_fits && rest))) ≡ true
    all_fit = rw two-parts at m.fits

    pair-type-kind : is_pair (kind_at s t) ≡ true
    pair-type-kind = both_left (is_pair (kind_at s t)) (first_fits && (second_fits && rest)) all_fit

    of-pair : kind_at s t ≡ type_of pair
    of-pair = is-pair (kind_at s t) pair-type-kind

    parts-fit : (first_fits && (second_fits && rest)) ≡ true
    parts-fit = both_right (is_pair (kind_at s t)) (first_fits && (second_fits && rest)) all_fit

    leaves-of-pair : leaves (type_at s t) ≡ leaves (type_at s (word_a s t)) + leaves (type_at s (word_b s t))
    leaves-of-pair = rw (pair-type w t m.against.typed.there of-pair) refl

    against-part : (j : ℕ) {y u : ℕ} → (p < word s p j) × (word s p j < count s) × (sort_at s (word s p j) ≡ patterns) → TypeRecord s u
        → y ≡ word s p j → (p < y) × Fitting s n y u
    against-part j h r ey =
        let c = m.against.sized.counted in (
          omega (arith, h.0, ey),
          record { sized = m.against.sized; passes = m.against.passes; there = omega (arith, h.1, ey); sort = rw ey h.2; typed = r },
        )

    module _ {x : ℕ} (ex : x ≡ word s p 2) where
      first-against : (p < x) × Fitting s n x (word_a s t)
      first-against =
          let h = part-of-kind w p (pattern parts) patterns there pair_parts 2 refl (unfold ask_of_kind in refl) in
          against-part 2 h (first_part w t m.against.typed.there of-pair) ex

      first-does-fit : pattern_fits s (alternatives s x) (word_a s t) ≡ true
      first-does-fit = rw ex (both_left first_fits (second_fits && rest) parts-fit)

      pub first-in : x < count s
      first-in = in-sheet first-against.1

      first-leaves : pattern_leaves s (alternatives s x) ≡ leaves (type_at s (word_a s t))
      first-leaves =
          fitting-leaves w (alternatives s x) (word_a s t) first-against.1.typed
          (grown-pattern w x first-in first-against.1.sort) first-does-fit

      module _ {c : ℕ} (ec : c ≡ get_or widths x 0) where
        pub cut : c ≡ leaves (type_at s (word_a s t))
        cut =
            let e = m.table x first-in first-against.1.sort in
            let f = first-leaves in
            let few = few-leaves (types-fit m.against.passes) (word_a s t) first-against.1.typed.there first-against.1.typed.sort in
            ec ∙ e ∙ rw f (omega arith)

        pub cut_inside : c ≤ length value
        cut_inside = let e = cut in let l = m.long in let f = leaves-of-pair in omega arith

        pub first-matched : (p < x) × Matching s n widths x (take c value)
        first-matched = (
          first-against.0,
          record {
            type = word_a s t;
            against = first-against.1;
            table = m.table;
            fits = first-does-fit;
            long = length-take-le c value cut_inside ∙ cut;
          },
        )

        pub second-matched : {y : ℕ} → y ≡ word s p 3 → (p < y) × Matching s n widths y (drop c value)
        second-matched {y} ey =
            let h = part-of-kind w p (pattern parts) patterns there pair_parts 3 refl (unfold ask_of_kind in refl) in
            let q = against-part 3 h (second-part w t m.against.typed.there of-pair) ey in (
              q.0,
              record {
                type = word_b s t;
                against = q.1;
                table = m.table;
                fits = rw ey (both_left second_fits rest (both_right first_fits (second_fits && rest) parts-fit));
                long = let e = cut in let l = m.long in let f = leaves-of-pair in length-drop c value ∙ omega arith;
              },
            )

        whole-rest : take (length value - c) (drop c value) ≡ drop c value
        whole-rest = let l = length-drop c value in take_all (length value - c) (drop c value) (omega arith)

        pub second-lent : {y : ℕ} → y ≡ word s p 3 → (p < y) × Matching s n widths y (take (length value - c) (drop c value))
        second-lent ey = rw whole-rest (second-matched ey)

        -- by the answers of both parts
        parts-decide : (a r : Match) (d : Decision) → MatchedAll s x (take c value) a
            → d ≡ matches (pattern_of s (alternatives s (word_b s p))) (drop c value) → Own p r (pair_decision (decision_of a) d)
            → MatchedOne s p value r
        parts-decide a r d ea ed o =
            record {
              decides =
                  rw (two-parts, o.decides, ← parts-match)
                  (one-with-rest (λ q. matches q value) (λ a b. refl) s (Parts (pattern_of s (alternatives s (word_a s p))) (pattern_of s (alternatives s (word_b s p)))) after);
              tells = rw (two-parts, parts-match) (own-told r (pair_decision (decision_of a) d) p (first_yes s after value) o);
              few = rw o.tells (few-told (pair_decision (decision_of a) d) p 0 low (omega arith));
            }
          where
            wide : pattern_width (pattern_of s (alternatives s (word_a s p))) ≡ c
            wide = rw (← ex) (alternatives-width s (alternatives s x) (grown-pattern w x first-in first-against.1.sort) ∙ first-leaves ∙ sym cut)

            parts-match : matches (Parts (pattern_of s (alternatives s (word_a s p))) (pattern_of s (alternatives s (word_b s p)))) value
                ≡ pair_decision (decision_of a) d
            parts-match = rw (ea.decides, ed, ex, ← wide) refl

        pub pair_matches : {y : ℕ} (a b r : Match) → y ≡ word s p 3 → MatchedAll s x (take c value) a → MatchedAll s y (take (length value - c) (drop c value)) b
            → Own p r (pair_decision (decision_of a) (decision_of b)) → MatchedOne s p value r
        pair_matches a b r ey ea eb o = parts-decide a r (decision_of b) ea (rw (whole-rest, ey) at eb.decides) o

        -- a no of the first part is that of the pair
        pub first-refuses : (a : Match) → a ≡ Matched'.No → MatchedAll s x (take c value) a → MatchedOne s p value Matched'.No
        first-refuses a e ea =
            parts-decide a Matched'.No (matches (pattern_of s (alternatives s (word_b s p))) (drop c value)) ea refl
            (record { decides = rw e refl; tells = rw e refl })
