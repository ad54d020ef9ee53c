-- The value of an undecided IF, leaf by leaf: the leaf on which both branches agree.
-- Assumes nothing.
use Prim.Native.Nat.{ℕ, zero, suc, ◌≤◌, ◌<◌}
use mathlib.Core.List.{List, [], ◌∷◌}
use mathlib.Core.Path.{◌≡◌, refl, sym, ap, ◌∙◌}
use mathlib.Core.Logic.{◌≢◌}
use native.Mathlib.Omega.{arith}
use borrow.Author.Tests.{eq-eqb, ne_eqb}
use lib.ListN.{length, get_or}
use Rattle.meaning.specs.Undecided.{leaf_if, agreed_leaf, agreed_leaves, undecided_rule}
use Rattle.meaning.specs.Evaluation.{choose}
use Rattle.values.specs.MatchAnswers.{decision_of, told}
use Rattle.values.specs.declared.Match.{Match}
use Rattle.values.specs.declared.Match.TheVariants as Matches
use Rattle.values.proofs.LeafByLeaf.{JoinedTo, all-joined}

pub leaf-agreed : (v w : ℕ) → v ≡ w → v ≡ agreed_leaf v w
leaf-agreed v w e = ap (λ x. leaf_if x v 0) (sym (eq-eqb v w e))

pub leaf-differs : (v w : ℕ) → v ≢ w → 0 ≡ agreed_leaf v w
leaf-differs v w f = ap (λ x. leaf_if x v 0) (sym (ne_eqb v w f))

-- the rule in force on values of one leaf
pub one-agreed : (v w : ℕ) → v ≡ w → v ∷ [] ≡ undecided_rule (v ∷ []) (w ∷ [])
unfolding undecided_rule
one-agreed v w e = ap (λ x. x ∷ []) (leaf-agreed v w e)

pub one-differs : (v w : ℕ) → v ≢ w → 0 ∷ [] ≡ undecided_rule (v ∷ []) (w ∷ [])
unfolding undecided_rule
one-differs v w f = ap (λ x. x ∷ []) (leaf-differs v w f)

pub one-leaf : (r v w : ℕ) → r ∷ [] ≡ undecided_rule (v ∷ []) (w ∷ []) → r ≡ agreed_leaf v w
unfolding undecided_rule
one-leaf r v w e = let f : r ∷ [] ≡ agreed_leaf v w ∷ [] = e in cc

agreed-length : (vs ws : List ℕ) → length (agreed_leaves vs ws) ≡ length vs
agreed-length [] ws = refl
agreed-length (v ∷ vs) [] = ap suc (agreed-length vs [])
agreed-length (v ∷ vs) (w ∷ ws) = ap suc (agreed-length vs ws)

agreed-at : (vs ws : List ℕ) → length ws ≡ length vs → (j : ℕ) → j < length vs
    → get_or (agreed_leaves vs ws) j 0 ≡ agreed_leaf (get_or vs j 0) (get_or ws j 0)
agreed-at [] ws e j h = absurd (omega arith)
agreed-at (v ∷ vs) [] e j h = absurd (omega arith)
agreed-at (v ∷ vs) (w ∷ ws) e zero h = refl
agreed-at (v ∷ vs) (w ∷ ws) e (suc j) h = agreed-at vs ws (omega arith) j (omega arith)

-- where all leaves are joined by the rule, the slice is what it gives
pub all-agreed : (otherwise out₀ : List ℕ) (i : ℕ) (out : List ℕ) → length otherwise ≡ length out₀ → length out₀ ≤ i
    → JoinedTo agreed_leaf otherwise out₀ i out → out ≡ undecided_rule out₀ otherwise
unfolding undecided_rule
all-agreed otherwise out₀ i out k h c =
    all-joined agreed_leaf otherwise out₀ (agreed_leaves out₀ otherwise) (agreed-length out₀ otherwise) (agreed-at out₀ otherwise k) i out h c

-- the value of an IF that is undecided
pub undecided-chosen : (a : Match) (otherwise out out' : List ℕ) → a ≡ Matches.Undecided → out' ≡ undecided_rule out otherwise
    → (out' ≡ choose undecided_rule (decision_of a) out otherwise) × (0 ≡ told a)
undecided-chosen a otherwise out out' e g = (g ∙ rw e refl, rw e refl)
