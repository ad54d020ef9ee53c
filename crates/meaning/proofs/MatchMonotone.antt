-- Matching is monotone: on a value that says more the answer is the same, or it was undecided before. A pattern's width is the
-- number of leaves of its type, so a pair pattern cuts a value where its first part ends.
-- Assumes nothing.
use Prim.Native.Nat.{ℕ}
use mathlib.Core.Path.{◌≡◌, refl, ap, ◌∙◌}
use mathlib.Core.Logic.{inl, inr}
use mathlib.Core.Bool.{Bool, true, false, ◌&&◌}
use mathlib.Core.List.{List}
use lib.Dec.{T}
use Rattle.picoella.specs.Language.{Ty, bounds, leaves, Pattern, HasType, p_whole, p_constructor, p_parts, p_bar}
use Rattle.meaning.specs.Values.{LeafBelow, Both, both_none, both_leaf}
use Rattle.meaning.specs.Matching.{pattern_width, matches}
use Rattle.meaning.specs.Decisions.{Decision, Yes, No, Undecided, DecisionBelow, constructor_decision, pair_decision, chain_decision}
use Rattle.meaning.proofs.Order.{both-take, both-drop}

pub width-leaves : {p : Pattern} {τ : Ty} → HasType p τ → pattern_width p ≡ leaves τ
width-leaves p_whole = refl
width-leaves p_constructor = refl
width-leaves (p_parts h k) = rw (width-leaves h, width-leaves k)
width-leaves (p_bar h k) = width-leaves h

and_left : (a b : Bool) → T (a && b) → T a
and_left true b h = tt
and_left false b h = h

and_right : (a b : Bool) → T (a && b) → T b
and_right true b h = h
and_right false b h = absurd h

constructor-monotone : (k : ℕ) {v w : ℕ} → LeafBelow v w → DecisionBelow (constructor_decision k v) (constructor_decision k w)
constructor-monotone k (inl p) = inl (ap (constructor_decision k) p)
constructor-monotone k (inr p) = inr (ap (constructor_decision k) p)

-- an order between answers, as a test, and a test at every answer
abbrev below : Decision → Decision → Bool
below Undecided b = true
below Yes Yes = true
below Yes No = false
below Yes Undecided = false
below No No = true
below No Yes = false
below No Undecided = false

below-tested : (a b : Decision) → T (below a b) → DecisionBelow a b
below-tested Undecided b h = inl refl
below-tested Yes Yes h = inr refl
below-tested Yes No h = absurd h
below-tested Yes Undecided h = absurd h
below-tested No No h = inr refl
below-tested No Yes h = absurd h
below-tested No Undecided h = absurd h

abbrev every : (Decision → Bool) → Bool
every f = f Yes && f No && f Undecided

every-at : (f : Decision → Bool) → T (every f) → (a : Decision) → T (f a)
every-at f h Yes = and_left (f Yes) (f No) (and_left (f Yes && f No) (f Undecided) h)
every-at f h No = and_right (f Yes) (f No) (and_left (f Yes && f No) (f Undecided) h)
every-at f h Undecided = and_right (f Yes && f No) (f Undecided) h

answer-trans : {a b c : Decision} → DecisionBelow a b → DecisionBelow b c → DecisionBelow a c
answer-trans (inl p) k = inl p
answer-trans (inr p) (inl q) = inl (p ∙ q)
answer-trans (inr p) (inr q) = inr (p ∙ q)

-- A table on answers is monotone if at no entry an undecided argument says more than a decided one: a test of its nine entries.
abbrev rising : (Decision → Decision → Decision) → Decision → Decision → Bool
rising f a b = below (f Undecided b) (f a b) && below (f a Undecided) (f a b)

module _ (f : Decision → Decision → Decision) (holds : T (every (λ a. every (rising f a)))) where
  rises : (a b : Decision) → T (rising f a b)
  rises a b = every-at (rising f a) (every-at (λ c. every (rising f c)) holds a) b

  left-monotone : {a c : Decision} (b : Decision) → DecisionBelow a c → DecisionBelow (f a b) (f c b)
  left-monotone {c} b (inl p) =
      rw p
      (below-tested (f Undecided b) (f c b)
      (and_left (below (f Undecided b) (f c b)) (below (f c Undecided) (f c b)) (rises c b)))
  left-monotone b (inr p) = rw p (inr refl)

  right-monotone : (a : Decision) {b d : Decision} → DecisionBelow b d → DecisionBelow (f a b) (f a d)
  right-monotone a {d} (inl q) =
      rw q
      (below-tested (f a Undecided) (f a d)
      (and_right (below (f Undecided d) (f a d)) (below (f a Undecided) (f a d)) (rises a d)))
  right-monotone a (inr q) = rw q (inr refl)

  pub table-monotone : {a b c d : Decision} → DecisionBelow a c → DecisionBelow b d → DecisionBelow (f a b) (f c d)
  table-monotone {b} {c} r s = answer-trans (left-monotone b r) (right-monotone c s)

pub match_monotone
    : {p : Pattern} {τ : Ty} {v w : List ℕ} → HasType p τ → Both (bounds τ) v w → DecisionBelow (matches p v) (matches p w)
match_monotone p_whole r = inr refl
match_monotone (p_constructor {k}) (both_leaf h i o both_none) = constructor-monotone k o
match_monotone (p_parts {σ} {τ} h k) r =
    rw (width-leaves h) (table-monotone pair_decision tt (match_monotone h (both-take σ τ r)) (match_monotone k (both-drop σ τ r)))
match_monotone (p_bar h k) r = table-monotone chain_decision tt (match_monotone h r) (match_monotone k r)
