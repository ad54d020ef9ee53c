-- Laws of decisions along a chain: what is told of it, the first yes, and the leaves of a pattern by its first alternative.
-- Assumes nothing.
use Prim.Native.Nat.{ℕ, ◌<◌}
use mathlib.Core.List.{List}
use mathlib.Core.Path.{◌≡◌, refl, sym, ◌∙◌}
use Rattle.picoella.specs.Language.{Pattern, Whole, Constructor, Parts, Bar}
use Rattle.records.specs.Words.{word_a}
use Rattle.records.specs.Trees.{type_at, Alternatives, end, no_pattern, whole_type, one_constructor, pair_of_patterns}
use Rattle.records.specs.Decoding.{or_else, pattern_of}
use Rattle.records.proofs.Grown.{GrownPattern}
use Rattle.verdict.specs.Widths.{pattern_leaves}
use Rattle.meaning.specs.Matching.{pattern_width}
use Rattle.meaning.specs.Decisions.{Decision, Yes, No, Undecided, chain_decision}
use Rattle.values.specs.Matchings.{with_rest}
use Rattle.behaviour.specs.Firing.{or_after}
use Rattle.values.specs.MatchAnswers.{decision_of, told, Own}
use Rattle.values.specs.declared.Match.{Match}
use Rattle.values.specs.declared.Match.TheVariants as Matched'

chain-associates : (a b c : Decision) → chain_decision (chain_decision a b) c ≡ chain_decision a (chain_decision b c)
chain-associates Yes b c = refl
chain-associates No b c = refl
chain-associates Undecided Yes c = refl
chain-associates Undecided No c = refl
chain-associates Undecided Undecided Yes = refl
chain-associates Undecided Undecided No = refl
chain-associates Undecided Undecided Undecided = refl

-- the first yes is told, also where what follows is taken in
pub first-told : (a b : Decision) (r q m : ℕ) → or_after a r (or_after b q m) ≡ or_after (chain_decision a b) (or_after a r q) m
first-told Yes b r q m = refl
first-told No b r q m = refl
first-told Undecided Yes r q m = refl
first-told Undecided No r q m = refl
first-told Undecided Undecided r q m = refl

-- an answer tells its own alternative, whatever follows
pub own-told : (a : Match) (d : Decision) (p m : ℕ) → Own p a d → or_after d p m ≡ or_after (decision_of a) (told a) m
own-told a Yes p m o = rw (o.decides, o.tells) refl
own-told a No p m o = rw o.decides refl
own-told a Undecided p m o = rw o.decides refl

pub few-told : (d : Decision) (r q : ℕ) → r < 4096 → q < 4096 → or_after d r q < 4096
few-told Yes r q h k = h
few-told No r q h k = k
few-told Undecided r q h k = k

-- and 0 where it says no yes
pub told-alone : (a : Match) → or_after (decision_of a) (told a) 0 ≡ told a
told-alone (Matched'.Yes r) = refl
told-alone Matched'.No = refl
told-alone Matched'.Undecided = refl

-- after a yes the rest changes nothing
pub yes-stays : (says : Pattern → Decision) (s : List ℕ) (m : Alternatives) → with_rest says Yes s m ≡ Yes
yes-stays says s end = refl
yes-stays says s no_pattern = refl
yes-stays says s (whole_type r t m) = refl
yes-stays says s (one_constructor r t k m) = refl
yes-stays says s (pair_of_patterns r p q m) = refl

-- what is matched next follows, unless it is nothing
pub alternative-goes-on : (a : Match) {x y : ℕ} → x ≡ or_after (decision_of a) 0 y → (x ≡ 0 → ⊥) → x ≡ y
alternative-goes-on (Matched'.Yes r) e f = absurd (f e)
alternative-goes-on Matched'.No e f = e
alternative-goes-on Matched'.Undecided e f = e

-- the first of some alternatives, with the rest of them
pub one-with-rest : (says : Pattern → Decision) → ((p q : Pattern) → says (Bar p q) ≡ chain_decision (says p) (says q)) → (s : List ℕ)
    (p : Pattern) (m : Alternatives) → says (or_else p m (pattern_of s m)) ≡ with_rest says (says p) s m
one-with-rest says bar s p end = refl
one-with-rest says bar s p no_pattern = refl
one-with-rest says bar s p (whole_type r t m) = bar p (pattern_of s (whole_type r t m))
one-with-rest says bar s p (one_constructor r t k m) = bar p (pattern_of s (one_constructor r t k m))
one-with-rest says bar s p (pair_of_patterns r a b m) = bar p (pattern_of s (pair_of_patterns r a b m))

pub chain-with-rest : (says : Pattern → Decision) (a b : Decision) (s : List ℕ) (m : Alternatives)
    → chain_decision a (with_rest says b s m) ≡ with_rest says (chain_decision a b) s m
chain-with-rest says a b s end = refl
chain-with-rest says a b s no_pattern = refl
chain-with-rest says a b s (whole_type r t m) = sym (chain-associates a b (says (pattern_of s (whole_type r t m))))
chain-with-rest says a b s (one_constructor r t k m) = sym (chain-associates a b (says (pattern_of s (one_constructor r t k m))))
chain-with-rest says a b s (pair_of_patterns r p q m) = sym (chain-associates a b (says (pattern_of s (pair_of_patterns r p q m))))

-- the rest of a pattern that is there
pub rest-of-grown : (says : Pattern → Decision) (a : Decision) (s : List ℕ) (m : Alternatives) → GrownPattern s m
    → with_rest says a s m ≡ chain_decision a (says (pattern_of s m))
rest-of-grown says a s end g = absurd g
rest-of-grown says a s no_pattern g = absurd g
rest-of-grown says a s (whole_type r t m) g = refl
rest-of-grown says a s (one_constructor r t k m) g = refl
rest-of-grown says a s (pair_of_patterns r p q m) g = refl

width-of-first : (p : Pattern) (m : Alternatives) (q : Pattern) → pattern_width (or_else p m q) ≡ pattern_width p
width-of-first p end q = refl
width-of-first p no_pattern q = refl
width-of-first p (whole_type r t m) q = refl
width-of-first p (one_constructor r t k m) q = refl
width-of-first p (pair_of_patterns r a b m) q = refl

-- a pattern that is there has the leaves of its first alternative
pub alternatives-width : (s : List ℕ) (m : Alternatives) → GrownPattern s m → pattern_width (pattern_of s m) ≡ pattern_leaves s m
alternatives-width s end g = absurd g
alternatives-width s no_pattern g = absurd g
alternatives-width s (whole_type r t m) g = width-of-first (Whole (type_at s t)) m (pattern_of s m)
alternatives-width s (one_constructor r t k m) g = width-of-first (Constructor t (word_a s t) k) m (pattern_of s m)
alternatives-width s (pair_of_patterns r a b m) g =
    width-of-first (Parts (pattern_of s a) (pattern_of s b)) m (pattern_of s m) ∙ rw (alternatives-width s a g.0, alternatives-width s b g.1) refl
