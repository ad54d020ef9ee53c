-- What judging an expression gives from what judging its parts gave, in the order of its judgements: the first part that faults is
-- the fault; where none does, the last judgement decides. One law for each way out of each kind. Assumes nothing.
use mathlib.Core.Path.{◌≡◌, refl, sym, ◌∙◌}
use mathlib.Core.Bool.{Bool, true, false, cond}
use mathlib.Core.List.{List, ◌++◌}
use mathlib.Core.Option.{Option, none, some}
use Prim.Native.Nat.{ℕ}
use native.Mathlib.Omega.{arith}
use lib.ListN.{set}
use Rattle.records.specs.Trees.{Tree, type_record_of}
use Rattle.typing.specs.Judgements.{Judgement, Rule, holds, judge, judgements, first_failing}
use Rattle.typing.specs.Judging.{conclude, judged, noted, TypesCounted, Judged, lastly, Closed}
use Rattle.typing.specs.ExpressionWidth.{width}
use Rattle.typing.specs.Outcomes.{Outcome}
use Rattle.typing.specs.Outcomes.{Sound, Fault}
use Rattle.typing.proofs.Failing.{first-of-both}

-- an expression that was judged without a fault
pub record Passed (s Γ : List ℕ) (e : Tree) (t : ℕ) (before after : List ℕ) : Type 0 where
  pub none-fails : first_failing s (judgements s Γ e) ≡ none
  pub typed : type_record_of s Γ e ≡ t
  pub counted : TypesCounted s after
  pub notes : after ≡ noted s Γ e before

typed-of : (o : Option ℕ) (u t : ℕ) → conclude o u ≡ Sound t → (o ≡ none) × (u ≡ t)
typed-of none u t e = (refl, cc)
typed-of (some r) u t e = let z : ◌≡◌ {A = ℕ} 0 1 = cc in absurd (omega arith)

fault-of : (o : Option ℕ) (u p : ℕ) → conclude o u ≡ Fault p → o ≡ some p
fault-of none u p e = let z : ◌≡◌ {A = ℕ} 0 1 = cc in absurd (omega arith)
fault-of (some r) u p e = cc

module _ {s Γ : List ℕ} {e : Tree} {answer : Outcome} {before after : List ℕ} where
  pub passed : (t : ℕ) → Judged s Γ e answer before after → answer ≡ Sound t → Passed s Γ e t before after
  unfolding judged
  passed t d a =
      let p = typed-of (first_failing s (judgements s Γ e)) (type_record_of s Γ e) t (sym d.answered ∙ a) in
      record { none-fails = p.0; typed = p.1; counted = d.counted; notes = d.notes t a }

  pub faulted : (p : ℕ) → Judged s Γ e answer before after → answer ≡ Fault p → first_failing s (judgements s Γ e) ≡ some p
  unfolding judged
  faulted p d a = fault-of (first_failing s (judgements s Γ e)) (type_record_of s Γ e) p (sym d.answered ∙ a)

  -- a fault
  pub fault-done : (p : ℕ) → first_failing s (judgements s Γ e) ≡ some p → answer ≡ Fault p → TypesCounted s after
      → Judged s Γ e answer before after
  unfolding judged
  fault-done p f a l = record {
    answered = a ∙ rw f;
    counted = l;
    notes = λ t q. let z : ◌≡◌ {A = ℕ} 0 1 = cc in absurd (omega arith);
  }

  -- no fault
  pub typed-done : first_failing s (judgements s Γ e) ≡ none → answer ≡ Sound (type_record_of s Γ e) → TypesCounted s after
      → after ≡ noted s Γ e before → Judged s Γ e answer before after
  unfolding judged
  typed-done f a l n = record { answered = a ∙ rw f; counted = l; notes = λ t q. n }

  -- the last judgement decides
  pub closing-done : (rec : ℕ) (rule : Rule) (middle : List ℕ) → first_failing s (judgements s Γ e) ≡ first_failing s (judge rec rule)
      → Closed s rule rec (type_record_of s Γ e) answer middle after → set middle rec (width s Γ e) ≡ noted s Γ e before
      → Judged s Γ e answer before after
  unfolding judged
  closing-done rec rule middle f c n = record {
    answered = c.answered ∙ rw f (concludes (holds s rule));
    counted = c.counted;
    notes = λ t q. c.notes t q ∙ n;
  }
    where
      concludes : (b : Bool) → lastly b rec (type_record_of s Γ e) ≡ conclude (cond b none (some rec)) (type_record_of s Γ e)
      concludes true = refl
      concludes false = refl

-- a judgement that stands before others
module _ (s : List ℕ) (rec : ℕ) where
  pub rule-holds : (rule : Rule) → holds s rule ≡ true → first_failing s (judge rec rule) ≡ none
  rule-holds rule h = rw h

  pub rule-fails : (rule : Rule) (p : ℕ) → holds s rule ≡ false → p ≡ rec → first_failing s (judge rec rule) ≡ some p
  rule-fails rule p h e = rw (h, e)

-- lists of judgements, in order
module _ (s : List ℕ) (js ks : List Judgement) where
  pub fault-first : (p : ℕ) → first_failing s js ≡ some p → first_failing s (js ++ ks) ≡ some p
  fault-first p f = rw (first-of-both s js ks, f)

  pub then-second : (o : Option ℕ) → first_failing s js ≡ none → first_failing s ks ≡ o → first_failing s (js ++ ks) ≡ o
  then-second o f g = rw (first-of-both s js ks, f) g
