-- A pattern fits a type record exactly where the pattern it says has that record's type. By induction on the alternatives: a
-- whole type or a constructor's flat type is the same record just where it is the same type, as a type has one record; the
-- parts of a pair pattern are judged against the parts of the pair record.
-- Assumes nothing.
use Prim.Native.Nat.{ℕ}
use mathlib.Core.Bool.{true, ◌&&◌}
use mathlib.Core.List.{List}
use mathlib.Core.Path.{◌≡◌, refl, sym}
use lib.Dec.{eqb}
use borrow.Author.Tests.{eqb-true, eq-eqb}
use Rattle.picoella.specs.Language.{Ty, Pattern, Whole, Constructor, Parts, HasType, p_whole, p_constructor, p_parts, p_bar}
use Rattle.picoella.proofs.Inversion.{pattern-premises}
use Rattle.records.specs.Words.{word_a, word_b}
use Rattle.records.specs.Kinds.{is_pair}
use Rattle.records.specs.Says.{kind_at}
use Rattle.records.specs.Trees.{type_at, TypeRecord, Alternatives, end, no_pattern, whole_type, one_constructor, pair_of_patterns}
use Rattle.records.specs.Decoding.{or_else, pattern_of}
use Rattle.records.specs.Written.{Written, TypesFit}
use Rattle.records.proofs.Tests.{both, both_left, both_right}
use Rattle.records.proofs.Table.{is-pair}
use Rattle.records.proofs.Types.{flat-type, pair-type}
use Rattle.records.proofs.TypeRecords.{first_part, second-part, pair-record, flat-record, same-type-same-record}
use Rattle.records.proofs.Grown.{Alternative, GrownPattern}
use Rattle.typing.specs.Judgements.{pattern_fits}

-- a pattern and what comes after it
or-else-typed : (s : List ℕ) (m : Alternatives) (p : Pattern) (τ : Ty) → Alternative s (Unit {0}) m → HasType p τ
    → (GrownPattern s m → HasType (pattern_of s m) τ) → HasType (or_else p m (pattern_of s m)) τ
or-else-typed s end p τ g h rest = h
or-else-typed s no_pattern p τ g h rest = absurd g
or-else-typed s (whole_type r t m) p τ g h rest = p_bar h (rest g)
or-else-typed s (one_constructor r t k m) p τ g h rest = p_bar h (rest g)
or-else-typed s (pair_of_patterns r a b m) p τ g h rest = p_bar h (rest g)

pub fits-typed : {s : List ℕ} → Written s → (m : Alternatives) (t : ℕ) → TypeRecord s t → GrownPattern s m
    → pattern_fits s m t ≡ true
    → HasType (pattern_of s m) (type_at s t)
fits-typed {s} w end t u g f = absurd g
fits-typed {s} w no_pattern t u g f = absurd g
fits-typed {s} w (whole_type r v m) t u g f =
    or-else-typed s m (Whole (type_at s v)) (type_at s t) g.1
    (rw (eqb-true v t (both_left (eqb v t) (pattern_fits s m t) f)) p_whole)
    (λ rest. fits-typed w m t u rest (both_right (eqb v t) (pattern_fits s m t) f))
fits-typed {s} w (one_constructor r v k m) t u g f =
    or-else-typed s m (Constructor v (word_a s v) k) (type_at s t) g.1
    (rw (← eqb-true v t (both_left (eqb v t) (pattern_fits s m t) f), flat-type s v g.0.kind) p_constructor)
    (λ rest. fits-typed w m t u rest (both_right (eqb v t) (pattern_fits s m t) f))
fits-typed {s} w (pair_of_patterns r a b m) t u g f =
    let rest = pattern_fits s b (word_b s t) && pattern_fits s m t in
    let k = is-pair (kind_at s t) (both_left (is_pair (kind_at s t)) (pattern_fits s a (word_a s t) && rest) f) in
    let fa = both_right (is_pair (kind_at s t)) (pattern_fits s a (word_a s t) && rest) f in
    let fb = both_right (pattern_fits s a (word_a s t)) rest fa in
    or-else-typed s m (Parts (pattern_of s a) (pattern_of s b)) (type_at s t) g.2
    (rw (pair-type w t u.there k)
    (p_parts
    (fits-typed w a (word_a s t) (first_part w t u.there k) g.0 (both_left (pattern_fits s a (word_a s t)) rest fa))
    (fits-typed w b (word_b s t) (second-part w t u.there k) g.1 (both_left (pattern_fits s b (word_b s t)) (pattern_fits s m t) fb))))
    (λ rest. fits-typed w m t u rest (both_right (pattern_fits s b (word_b s t)) (pattern_fits s m t) fb))

-- read backwards: the pattern has the type, and what comes after it fits
or-else-fits : (s : List ℕ) (m : Alternatives) (p : Pattern) (t : ℕ) → Alternative s (Unit {0}) m
    → (GrownPattern s m → HasType (pattern_of s m) (type_at s t) → pattern_fits s m t ≡ true)
    → HasType (or_else p m (pattern_of s m)) (type_at s t) → HasType p (type_at s t) × (pattern_fits s m t ≡ true)
or-else-fits s end p t g rest h = (h, refl)
or-else-fits s no_pattern p t g rest h = absurd g
or-else-fits s (whole_type r v m) p t g rest h = let d = pattern-premises h in (d.0, rest g d.1)
or-else-fits s (one_constructor r v k m) p t g rest h = let d = pattern-premises h in (d.0, rest g d.1)
or-else-fits s (pair_of_patterns r a b m) p t g rest h = let d = pattern-premises h in (d.0, rest g d.1)

pub typed-fits : {s : List ℕ} → Written s → TypesFit s → (m : Alternatives) (t : ℕ) → TypeRecord s t → GrownPattern s m
    → HasType (pattern_of s m) (type_at s t) → pattern_fits s m t ≡ true
typed-fits {s} w fit end t u g h = absurd g
typed-fits {s} w fit no_pattern t u g h = absurd g
typed-fits {s} w fit (whole_type r v m) t u g h =
    let d = or-else-fits s m (Whole (type_at s v)) t g.1 (typed-fits w fit m t u) h in
    both (eqb v t) (pattern_fits s m t)
    (eq-eqb v t (same-type-same-record w fit v t g.0 u (sym (pattern-premises d.0)))) d.1
typed-fits {s} w fit (one_constructor r v k m) t u g h =
    let d = or-else-fits s m (Constructor v (word_a s v) k) t g.1 (typed-fits w fit m t u) h in
    both (eqb v t) (pattern_fits s m t) (eq-eqb v t (sym (flat-record w t v (word_a s v) u (pattern-premises d.0)).1)) d.1
typed-fits {s} w fit (pair_of_patterns r a b m) t u g h =
    let d = or-else-fits s m (Parts (pattern_of s a) (pattern_of s b)) t g.2 (typed-fits w fit m t u) h in
    let p = pattern-premises d.0 in
    let k = pair-record w t p.0 p.1 u p.2 in
    both (is_pair (kind_at s t)) (pattern_fits s a (word_a s t) && (pattern_fits s b (word_b s t) && pattern_fits s m t)) (rw k.0)
    (both (pattern_fits s a (word_a s t)) (pattern_fits s b (word_b s t) && pattern_fits s m t)
    (typed-fits w fit a (word_a s t) (first_part w t u.there k.0) g.0 (rw k.1 p.3))
    (both (pattern_fits s b (word_b s t)) (pattern_fits s m t)
    (typed-fits w fit b (word_b s t) (second-part w t u.there k.0) g.1 (rw k.2 p.4)) d.1))
