-- Matching sets, alternative by alternative and part by part, is the match of the definition on the pattern that the records say.
-- Assumes nothing.
use Prim.Native.Nat.{ℕ, zero, suc, ◌+◌, ◌-◌, ◌≤◌, ◌<◌}
use mathlib.Core.List.{List, [], ◌∷◌}
use mathlib.Core.Path.{◌≡◌, refl, sym, ap, ap₂, subst, ◌∙◌}
use native.Mathlib.Decide.{ℕ_discrete}
use native.Mathlib.Omega.{arith}
use lib.Dec.{eqb}
use borrow.Author.Tests.{eqb-true}
use lib.ListN.{length, get_or, take, drop, length-drop}
use lib.Seq.{take_all}
use Rattle.picoella.specs.Language.{Ty, Flat, TyTuple, leaves, Pattern, Whole, Parts, Bar, HasType, p_bar}
use Rattle.records.specs.Words.{word, count, word_a, word_b, next_word}
use Rattle.records.specs.Kinds.{PatternKind, patterns, TypeKind, type_of, flat, pair, types, pattern, whole, constructor, parts}
use Rattle.records.specs.Says.{kind_at}
use Rattle.records.specs.declared.kinds.Kind.{Kind}
use Rattle.records.specs.declared.kinds.Kind.TheVariants as Coded
use Rattle.records.specs.Kinded.{kind_meant}
use Rattle.values.proofs.LastKinds.{last-pattern}
use Rattle.records.specs.Trees.{type_at, Alternatives, end, no_pattern, whole_type, one_constructor, pair_of_patterns, alternatives, follow}
use Rattle.records.specs.Decoding.{or_else, pattern_of}
use Rattle.records.specs.Written.{Written}
use Rattle.records.proofs.Tests.{both_left}
use Rattle.records.proofs.Table.{ask_of_kind, kind-of-sort}
use Rattle.records.proofs.Asked.{as-kind-asks}
use Rattle.typing.specs.Judgements.{pattern_fits}
use Rattle.records.proofs.Types.{flat-type, pair-type}
use Rattle.records.proofs.Trees.{alternatives-of}
use Rattle.records.proofs.Grown.{GrownPattern, grown-pattern}
use Rattle.accepted.proofs.Laws.{written, in-sheet, fits-typed}
use Rattle.meaning.specs.Decisions.{Decision, No, pair_decision, chain_decision}
use Rattle.values.specs.Matchings.{Matching, with_rest}
use Rattle.values.proofs.ChainLaws.{one-with-rest, chain-with-rest, rest-of-grown}
use Rattle.values.specs.MatchAnswers.{decision_of, Own}
use Rattle.values.specs.declared.Match.{Match}
use Rattle.values.specs.declared.Match.TheVariants as Matched'
use Rattle.values.proofs.Matches.{past, next-matched, cut, cut_inside}
use Rattle.possibilities.specs.Sets.{ConstructorSet, set_word, set_words}
use Rattle.possibilities.specs.SetMatching.{named_set, set_matches, pattern_type}
use Rattle.possibilities.proofs.SetMatches.{type-of-pattern}
use Rattle.sets.specs.SetMatchings.{FewConstructors, FlatFitting, chain_named, tested_words, SetsMatched, SetsMatchedOne}
use Rattle.sets.proofs.Naming.{chain-names}
use Rattle.sets.proofs.FlatTests.{words-tested}

-- the pattern from a record
abbrev pub pattern_from : List ℕ → ℕ → Pattern
pattern_from s p = pattern_of s (alternatives s p)

type-of-first : (q : Pattern) (m : Alternatives) (r : Pattern) → pattern_type (or_else q m r) ≡ pattern_type q
type-of-first q end r = refl
type-of-first q no_pattern r = refl
type-of-first q (whole_type i t m) r = refl
type-of-first q (one_constructor i t k m) r = refl
type-of-first q (pair_of_patterns i a b m) r = refl

-- words of parts
pub words_take : (n : ℕ) (Ss : List ConstructorSet) → take n (set_words Ss) ≡ set_words (take n Ss)
words_take zero Ss = refl
words_take (suc n) [] = refl
words_take (suc n) (S ∷ Ss) = ap (λ l. set_word S ∷ l) (words_take n Ss)

pub words-drop : (n : ℕ) (Ss : List ConstructorSet) → drop n (set_words Ss) ≡ set_words (drop n Ss)
words-drop zero Ss = refl
words-drop (suc n) [] = refl
words-drop (suc n) (S ∷ Ss) = words-drop n Ss

first_word : (Ss : List ConstructorSet) → get_or (set_words Ss) 0 0 ≡ set_word (get_or Ss 0 [])
unfolding set_word
first_word [] = refl
first_word (S ∷ Ss) = refl

bar-second : (p q : Pattern) (τ : Ty) → HasType (Bar p q) τ → HasType q τ
bar-second p q τ (p_bar h k) = k

second-alternative : (s : List ℕ) (q : Pattern) (m : Alternatives) {τ : Ty} → GrownPattern s m → HasType (or_else q m (pattern_of s m)) τ
    → pattern_type (pattern_of s m) ≡ τ
second-alternative s q end g h = absurd g
second-alternative s q no_pattern g h = absurd g
second-alternative s q (whole_type r t m) g h = type-of-pattern (bar-second q _ _ h)
second-alternative s q (one_constructor r t k m) g h = type-of-pattern (bar-second q _ _ h)
second-alternative s q (pair_of_patterns r a b m) g h = type-of-pattern (bar-second q _ _ h)

some-leaves : (τ : Ty) → 0 < leaves τ
some-leaves (Flat r n) = omega arith
some-leaves (TyTuple a b) = let h = some-leaves a in omega arith

module _ {s : List ℕ} {n : ℕ} {widths : List ℕ} {p : ℕ} {value : List ℕ} (m : Matching s n widths p value) where
  w : Written s
  w = written m.against.passes

  there : p < count s
  there = in-sheet m.against

  abbrev t : ℕ
  t = m.type

  abbrev after : Alternatives
  after = follow end (alternatives s) (next_word s p)

  has-type : HasType (pattern_from s p) (type_at s t)
  has-type = fits-typed w (alternatives s p) t m.against.typed (grown-pattern w p there m.against.sort) m.fits

  pub type-from : pattern_type (pattern_from s p) ≡ type_at s t
  type-from = type-of-pattern has-type

  type-kind : (k : TypeKind) × (kind_at s t ≡ type_of k)
  type-kind = kind-of-sort types (kind_at s t) m.against.typed.sort

  pair_is : kind_at s t ≡ type_of pair → type_at s t ≡ TyTuple (type_at s (word_a s t)) (type_at s (word_b s t))
  pair_is e = pair-type w t m.against.typed.there e

  -- the alternatives after it have that type too
  pub rest-type : {x : ℕ} → x ≡ next_word s p → (x ≡ 0 → ⊥) → GrownPattern s (alternatives s x)
      → pattern_type (pattern_from s x) ≡ pattern_type (pattern_from s p)
  rest-type {x} ex f g =
      let k = kind-of-sort patterns (kind_at s p) m.against.sort in
      go k.0 k.1 ∙ sym type-from
    where
      follows : (x : ℕ) → (x ≡ 0 → ⊥) → follow end (alternatives s) x ≡ alternatives s x
      follows zero f = absurd (f refl)
      follows (suc x) f = refl

      after_is : after ≡ alternatives s x
      after_is = ap (follow end (alternatives s)) (sym ex) ∙ follows x f

      of-rest : (q : Pattern) → pattern_from s p ≡ or_else q after (pattern_of s after) → pattern_type (pattern_from s x) ≡ type_at s t
      of-rest q is =
          let h : HasType (or_else q (alternatives s x) (pattern_of s (alternatives s x))) (type_at s t) =
          subst (λ (P : Pattern). HasType P (type_at s t)) (is ∙ ap (λ (l : Alternatives). or_else q l (pattern_of s l)) after_is) has-type in
          second-alternative s q (alternatives s x) g h

      go : (k : PatternKind) → kind_at s p ≡ pattern k → pattern_type (pattern_from s x) ≡ type_at s t
      go whole e = of-rest _ (ap (pattern_of s) (alternatives-of w p there (pattern whole) e))
      go constructor e = of-rest _ (ap (pattern_of s) (alternatives-of w p there (pattern constructor) e))
      go parts e = of-rest _ (ap (pattern_of s) (alternatives-of w p there (pattern parts) e))

  -- a value of one leaf is of a flat type
  module _ (one : length value ≡ 1) (few : FewConstructors s) where
    flat-here : kind_at s t ≡ type_of flat
    flat-here = go type-kind.0 type-kind.1
      where
        go : (k : TypeKind) → kind_at s t ≡ type_of k → kind_at s t ≡ type_of flat
        go flat e = e
        go pair e =
            let h = some-leaves (type_at s (word_a s t)) in
            let i = some-leaves (type_at s (word_b s t)) in
            let l : leaves (type_at s t) ≡ leaves (type_at s (word_a s t)) + leaves (type_at s (word_b s t)) = ap leaves (pair_is e) in
            let v = m.long in
            absurd (omega arith)

    pub flat-fitting : (x : ℕ) × FlatFitting s n p x
    flat-fitting = (t, record { against = m.against; flat_kind = flat-here; fits = m.fits; few = few })

    pub flat-matched : {named first : ℕ} (r : Match) → named ≡ set_word (chain_named s (alternatives s p)) → first ≡ get_or value 0 0
        → decision_of r ≡ tested_words named first → SetsMatched s p value r
    flat-matched {named} {first} r en ef e = record { decides = go }
      where
        go : (Ss : List ConstructorSet) → value ≡ set_words Ss → decision_of r ≡ set_matches (pattern_type (pattern_from s p)) (pattern_from s p) Ss
        go Ss ev =
            let a : named ≡ set_word (named_set (pattern_from s p)) = en ∙ ap set_word (chain-names s (alternatives s p)) in
            let b : first ≡ set_word (get_or Ss 0 []) = ef ∙ ap (λ (l : List ℕ). get_or l 0 0) ev ∙ first_word Ss in
            rw (type-from, flat-type s t flat-here)
            (e ∙ ap₂ tested_words a b ∙ words-tested (get_or Ss 0 []) (named_set (pattern_from s p)))

  -- of more leaves, of a pair type
  module _ (more : 1 < length value) where
    pair-here : type_at s t ≡ TyTuple (type_at s (word_a s t)) (type_at s (word_b s t))
    pair-here = go type-kind.0 type-kind.1
      where
        go : (k : TypeKind) → kind_at s t ≡ type_of k → type_at s t ≡ TyTuple (type_at s (word_a s t)) (type_at s (word_b s t))
        go flat e = let l : leaves (type_at s t) ≡ 1 = ap leaves (flat-type s t e) in let v = m.long in absurd (omega arith)
        go pair e = pair_is e

    abbrev T : Ty
    T = TyTuple (type_at s (word_a s t)) (type_at s (word_b s t))

    type-here : pattern_type (pattern_from s p) ≡ T
    type-here = type-from ∙ pair-here

    -- one alternative, with those after it
    module _ (q : Pattern) (is : pattern_from s p ≡ or_else q after (pattern_of s after)) where
      one-alternative : (r : Match) → ((Ss : List ConstructorSet) → value ≡ set_words Ss → set_matches T q Ss ≡ decision_of r)
          → SetsMatchedOne s p value r
      one-alternative r e = record { decides = go }
        where
          go : (Ss : List ConstructorSet) → value ≡ set_words Ss
              → set_matches (pattern_type (pattern_from s p)) (pattern_from s p) Ss
              ≡ with_rest (λ q. set_matches (pattern_type (pattern_from s p)) q Ss) (decision_of r) s after
          go Ss ev =
              rw type-here
              (ap (λ x. set_matches T x Ss) is
              ∙ one-with-rest (λ x. set_matches T x Ss) (λ a b. refl) s q after
              ∙ ap (λ d. with_rest (λ x. set_matches T x Ss) d s after) (e Ss ev))

    module _ where
      pub whole-sets : kind_at s p ≡ pattern whole → SetsMatchedOne s p value (Matched'.Yes p)
      whole-sets e =
          one-alternative (Whole (type_at s (word_a s p)))
          (ap (pattern_of s) (alternatives-of w p there (pattern whole) e))
          (Matched'.Yes p) (λ Ss ev. refl)

      no-constructor : kind_at s p ≡ pattern constructor → ⊥
      no-constructor c =
          let h = rw (alternatives-of w p there (pattern constructor) c) at m.fits in
          let is : word_a s p ≡ t = eqb-true (word_a s p) t (both_left (eqb (word_a s p) t) (pattern_fits s after t) h) in
          let f : (word_a s p < p) × (kind_at s (word_a s p) ≡ type_of flat) = unfold ask_of_kind in as-kind-asks w p _ there c 2 refl in
          let g : kind_at s t ≡ type_of flat = ap (kind_at s) (sym is) ∙ f.1 in
          let l : leaves (type_at s t) ≡ 1 = ap leaves (flat-type s t g) in
          let v = m.long in
          omega arith

      -- what is no whole pattern has parts
      pub parts-kind : (k : Kind) → kind_meant k ≡ kind_at s p → (k ≡ Coded.WholePattern → ⊥) → kind_at s p ≡ pattern parts
      parts-kind k e f = last-pattern k (kind_at s p) e m.against.sort f (λ z. no-constructor (sym e ∙ ap kind_meant z))

      module _ (is_parts : kind_at s p ≡ pattern parts) where
        module _ {x : ℕ} (ex : x ≡ word s p 2) {c : ℕ} (ec : c ≡ get_or widths x 0) {y : ℕ} (ey : y ≡ word s p 3) where
          width_is : c ≡ leaves (type_at s (word_a s t))
          width_is = cut m is_parts ex ec

          abbrev P : Pattern
          P = pattern_from s (word_a s p)

          abbrev Q : Pattern
          Q = pattern_from s (word_b s p)

          parts_is : pattern_from s p ≡ or_else (Parts P Q) after (pattern_of s after)
          parts_is = ap (pattern_of s) (alternatives-of w p there (pattern parts) is_parts)

          types_are : TyTuple (pattern_type P) (pattern_type Q) ≡ T
          types_are = sym (type-of-first (Parts P Q) after (pattern_of s after)) ∙ ap pattern_type (sym parts_is) ∙ type-here

          first-type : pattern_type P ≡ type_at s (word_a s t)
          first-type = let e = types_are in cc

          second_type : pattern_type Q ≡ type_at s (word_b s t)
          second_type = let e = types_are in cc

          subset : c ≤ length value
          subset = cut_inside m is_parts ex ec

          whole-rest : take (length value - c) (drop c value) ≡ drop c value
          whole-rest = let l = length-drop c value in take_all (length value - c) (drop c value) (omega arith)

          pub pair-sets : (a b r : Match) → SetsMatched s x (take c value) a → SetsMatched s y (take (length value - c) (drop c value)) b
              → Own p r (pair_decision (decision_of a) (decision_of b)) → SetsMatchedOne s p value r
          pair-sets a b r ea eb o = one-alternative (Parts P Q) parts_is r go
            where
              go : (Ss : List ConstructorSet) → value ≡ set_words Ss → set_matches T (Parts P Q) Ss ≡ decision_of r
              go Ss ev =
                  let L = leaves (type_at s (word_a s t)) in
                  let wa : take c value ≡ set_words (take L Ss) =
                  ap (λ (k : ℕ). take k value) width_is ∙ ap (take L) ev ∙ words_take L Ss in
                  let wb : take (length value - c) (drop c value) ≡ set_words (drop L Ss) =
                  whole-rest ∙ ap (λ (k : ℕ). drop k value) width_is ∙ ap (drop L) ev ∙ words-drop L Ss in
                  let fa : decision_of a ≡ set_matches (type_at s (word_a s t)) P (take (leaves (type_at s (word_a s t))) Ss) =
                  rw (ex, first-type) at (ea.decides (take L Ss) wa) in
                  let fb : decision_of b ≡ set_matches (type_at s (word_b s t)) Q (drop (leaves (type_at s (word_a s t))) Ss) =
                  rw (ey, second_type) at (eb.decides (drop L Ss) wb) in
                  sym (o.decides ∙ ap₂ pair_decision fa fb)

-- the whole chain from p is what was matched so far, with what is left from x
pub record SetsGathered (s : List ℕ) (p : ℕ) (value : List ℕ) (a : Match) (x : ℕ) : Type 0 where
  pub so_far : (Ss : List ConstructorSet) → value ≡ set_words Ss
      → set_matches (pattern_type (pattern_from s p)) (pattern_from s p) Ss
      ≡ with_rest (λ q. set_matches (pattern_type (pattern_from s p)) q Ss) (decision_of a) s (follow end (alternatives s) x)

-- what is left from x, where there is something
pub record SetsLeft (s : List ℕ) (n : ℕ) (widths : List ℕ) (p : ℕ) (value : List ℕ) (x : ℕ) : Type 0 where
  pub higher : p ≤ x
  pub matching : Matching s n widths x value
  pub same-type : pattern_type (pattern_from s x) ≡ pattern_type (pattern_from s p)

grown-from : {s : List ℕ} {n : ℕ} {widths : List ℕ} {p : ℕ} {value : List ℕ} → Matching s n widths p value → GrownPattern s (alternatives s p)
grown-from m = grown-pattern (written m.against.passes) _ (in-sheet m.against) m.against.sort

pub sets-begun : {s : List ℕ} {n : ℕ} {widths : List ℕ} {p : ℕ} {value : List ℕ} → Matching s n widths p value → SetsGathered s p value Matched'.No p
sets-begun {p = zero} m = absurd (let h = past m in omega arith)
sets-begun {s} {p = suc p} m = record { so_far = λ Ss ev. sym (rest-of-grown (λ q. set_matches (pattern_type (pattern_from s (suc p))) q Ss) No s (alternatives s (suc p)) (grown-from m)) }

pub sets-left-begun : {s : List ℕ} {n : ℕ} {widths : List ℕ} {p : ℕ} {value : List ℕ} → Matching s n widths p value → SetsLeft s n widths p value p
sets-left-begun m = record { higher = omega arith; matching = m; same-type = refl }

pub sets-left-next : {s : List ℕ} {n : ℕ} {widths : List ℕ} {p : ℕ} {value : List ℕ} {at x : ℕ} → SetsLeft s n widths p value at
    → x ≡ word s at 1 → (x ≡ 0 → ⊥) → (at < x) × SetsLeft s n widths p value x
sets-left-next l e f =
    let q = next-matched l.matching e f in
    let h = l.higher in (
      q.0,
      record {
        higher = omega (arith, q.0);
        matching = q.1;
        same-type = rest-type l.matching e f (grown-from q.1) ∙ l.same-type;
      },
    )

pub sets-gone-on : {s : List ℕ} {n : ℕ} {widths : List ℕ} {p : ℕ} {value : List ℕ} {at x : ℕ} (a b c : Match) → (at ≡ 0 → ⊥)
    → SetsLeft s n widths p value at → SetsGathered s p value a at → SetsMatchedOne s at value b
    → decision_of c ≡ chain_decision (decision_of a) (decision_of b) → x ≡ word s at 1 → SetsGathered s p value c x
sets-gone-on {at = zero} a b c g l h o e ex = absurd (g refl)
sets-gone-on {s} {p = p} {value = value} {at = suc at} {x = x} a b c g l h o e ex = record { so_far = go }
  where
    go : (Ss : List ConstructorSet) → value ≡ set_words Ss
        → set_matches (pattern_type (pattern_from s p)) (pattern_from s p) Ss
        ≡ with_rest (λ q. set_matches (pattern_type (pattern_from s p)) q Ss) (decision_of c) s (follow end (alternatives s) x)
    go Ss ev =
        let says : Pattern → Decision = λ q. set_matches (pattern_type (pattern_from s p)) q Ss in
        let one : says (pattern_from s (suc at)) ≡ with_rest says (decision_of b) s (follow end (alternatives s) (next_word s (suc at))) =
        rw l.same-type at (o.decides Ss ev) in
        h.so_far Ss ev
        ∙ rest-of-grown says (decision_of a) s (alternatives s (suc at)) (grown-from l.matching)
        ∙ ap (chain_decision (decision_of a)) one
        ∙ chain-with-rest says (decision_of a) (decision_of b) s (follow end (alternatives s) (next_word s (suc at)))
        ∙ rw (e, ex) refl

pub sets-ended : {s : List ℕ} {p : ℕ} {value : List ℕ} (a : Match) {x : ℕ} → SetsGathered s p value a x → x ≡ 0 → SetsMatched s p value a
sets-ended a h e = record { decides = λ Ss ev. sym (rw e at (h.so_far Ss ev)) }

pub more-than-one : (k : ℕ) → 0 < k → (k ≡ 1 → ⊥) → 1 < k
more-than-one k h f = go (ℕ_discrete k 1)
  where
    go : Dec (k ≡ 1) → 1 < k
    go (yes e) = absurd (f e)
    go (no g) = omega arith
