-- The answer of one alternative, a constructor's or a pair pattern's, and the value of an IF whose answer is no.
-- Assumes nothing.
use Prim.Native.Nat.{ℕ, zero, suc}
use mathlib.Core.Bool.{true, false}
use mathlib.Core.List.{List, ◌++◌, append-nil}
use mathlib.Core.Path.{◌≡◌, refl, ◌∙◌}
use mathlib.Core.Logic.{◌≢◌}
use borrow.Author.Tests.{eq-eqb, ne_eqb}
use lib.Dec.{eqb}
use lib.ListN.{length, drop}
use lib.Seq.{drop-length}
use Rattle.meaning.specs.Decisions.{Yes, No, constructor_decision, pair_decision}
use Rattle.meaning.specs.Evaluation.{choose}
use Rattle.meaning.specs.Undecided.{undecided_rule}
use Rattle.values.specs.MatchAnswers.{decision_of, told, Own}
use Rattle.values.specs.declared.Match.{Match}
use Rattle.values.specs.declared.Match.TheVariants as Matches

-- the answer of constructor k at record p on a leaf
module _ (p k v : ℕ) where
  pub leaf_undefined : v ≡ 0 → Own p Matches.Undecided (constructor_decision k v)
  leaf_undefined e = rw e (record { decides = refl; tells = refl })

  pub leaf_is : v ≢ 0 → v ≡ k → Own p (Matches.Yes p) (constructor_decision k v)
  leaf_is n e = rw (named v n (eq-eqb v k e)) (record { decides = refl; tells = refl })
    where
      named : (v : ℕ) → v ≢ 0 → eqb v k ≡ true → constructor_decision k v ≡ Yes
      named zero n e = absurd (n refl)
      named (suc v) n e = rw e refl

  pub leaf-is-other : v ≢ 0 → v ≢ k → Own p Matches.No (constructor_decision k v)
  leaf-is-other n e = rw (unnamed v n (ne_eqb v k e)) (record { decides = refl; tells = refl })
    where
      unnamed : (v : ℕ) → v ≢ 0 → eqb v k ≡ false → constructor_decision k v ≡ No
      unnamed zero n e = absurd (n refl)
      unnamed (suc v) n e = rw e refl

-- where the first part of a pair pattern says yes, the second decides
pub second-decides : {p q : ℕ} {r : Match} (a b : Match) → a ≡ Matches.Yes q → Own p r (decision_of b)
    → Own p r (pair_decision (decision_of a) (decision_of b))
second-decides a b e o = rw e o

-- the value of an IF that takes the other branch
pub otherwise-chosen : (a : Match) (otherwise out out' : List ℕ) → a ≡ Matches.No → length otherwise ≡ length out
    → out' ≡ otherwise ++ drop (length otherwise) out
    → (out' ≡ choose undecided_rule (decision_of a) out otherwise) × (0 ≡ told a)
otherwise-chosen a otherwise out out' e l g = (g ∙ rw (e, l, drop-length out) (append-nil otherwise), rw e refl)
