-- One cycle of input: where its length is that of the input's leaves its two checks are those of a run, which is then of one cycle;
-- and what neither of them refuses is one value of the input type.
-- Assumes nothing.
use Prim.Native.Nat.{ℕ, ◌/◌}
use mathlib.Core.Bool.{Bool, true, false, not, ◌||◌}
use mathlib.Core.List.{List, [], ◌∷◌}
use mathlib.Core.Option.{none}
use mathlib.Core.Path.{◌≡◌, refl, sym, ap, subst, ◌∙◌}
use native.Mathlib.Omega.{arith}
use native.Mathlib.Nat.{one-mul, mul-div_cancel}
use lib.Dec.{eqb}
use lib.ListN.{length, get_or}
use lib.Seq.{take_all}
use borrow.Author.Tests.{eqb-true, not-false, eq-eqb, ne_eqb}
use Rattle.picoella.specs.Language.{Ty, OfType}
use Rattle.records.specs.Words.{word}
use Rattle.records.proofs.Tests.{neither_left, neither_right}
use Rattle.records.proofs.Types.{some-leaves}
use Rattle.answers.specs.Answers.{NoneApplies, SaysOf, lowest}
use Rattle.answers.specs.Answers.{Answer}
use Rattle.answers.specs.Answers.{Done, Refused}
use Rattle.answers.proofs.First.{when-none, first_says}
use Rattle.accepted.specs.Accepting.{Accepting}
use Rattle.meaning.specs.Values.{AllOf, all_more}
use Rattle.stimulus.specs.Stimulus.{input_type, input_leaves, cycle_count, cycles, wrong_stimulus, wrong_byte}
use Rattle.stimulus.specs.Holding.{Held}
use Rattle.stimulus.specs.OneCycle.{not_one_cycle, one_cycle_checks}
use Rattle.stimulus.specs.Holding.{HeldToOne}
use Rattle.stimulus.proofs.Stimulus.{cycles-typed}
use Rattle.stimulus.proofs.Holding.{takes}

or-true : (b : Bool) → (b || true) ≡ true
or-true true = refl
or-true false = refl

or-false : (b : Bool) → (b || false) ≡ b
or-false true = refl
or-false false = refl

-- a sheet's one cycle takes as many bytes as its input has leaves
module _ (s stim : List ℕ) where
  pub one-cycle-whole : not_one_cycle s stim ≡ false → (wrong_stimulus s stim ≡ false) × (length stim ≡ input_leaves s)
  unfolding not_one_cycle
  one-cycle-whole e =
      let other = not (eqb (length stim) (input_leaves s)) in (
        neither_left (wrong_stimulus s stim) other e,
        eqb-true (length stim) (input_leaves s)
            (not-false (eqb (length stim) (input_leaves s)) (neither_right (wrong_stimulus s stim) other e)),
      )

  -- of so many bytes it is refused by 8 as a run is, which is then of one cycle
  pub one-cycle-run : length stim ≡ input_leaves s → not_one_cycle s stim ≡ wrong_stimulus s stim
  unfolding not_one_cycle
  one-cycle-run k = rw (eq-eqb (length stim) (input_leaves s) k) (or-false (wrong_stimulus s stim))

  pub one-cycle-counted : length stim ≡ input_leaves s → cycle_count s stim ≡ 1
  one-cycle-counted l =
      let some = some-leaves (input_type s) in
      rw l (ap (λ (k : ℕ). k / input_leaves s) (sym (one-mul (input_leaves s))) ∙ mul-div_cancel 1 some)

  -- its list of cycles is that one
  pub one-cycle-alone : length stim ≡ input_leaves s → cycles s stim ≡ stim ∷ []
  unfolding cycles
  one-cycle-alone l =
      rw (one-cycle-counted l) (ap (λ (v : List ℕ). v ∷ []) (take_all (input_leaves s) stim (omega arith)))

  -- what neither check refuses
  module _ (h : NoneApplies (one_cycle_checks s stim)) where
    passed : not_one_cycle s stim ≡ false
    passed = when-none (not_one_cycle s stim) 0 h.0

    pub one-cycle-long : length stim ≡ input_leaves s
    one-cycle-long = (one-cycle-whole passed).1

    pub one-cycle-held : (wrong_stimulus s stim ≡ false) × (lowest (wrong_byte s stim) (length stim) ≡ none)
    one-cycle-held = ((one-cycle-whole passed).0, h.1.0)

    pub one-cycle-typed : OfType (input_type s) stim
    one-cycle-typed =
        of_one
        (rw (one-cycle-alone one-cycle-long) at (cycles-typed s stim one-cycle-held.0 one-cycle-held.1))
      where
        of_one : {τ : Ty} {v : List ℕ} → AllOf τ (v ∷ []) → OfType τ v
        of_one (all_more t r) = t

  -- an answer that is done says that neither refuses
  pub one-cycle-passes : {a : Answer} → HeldToOne s stim a → {p : ℕ} → a ≡ Done p → NoneApplies (one_cycle_checks s stim)
  one-cycle-passes {a} h {p} e =
      (subst (λ (b : Answer). SaysOf (one_cycle_checks s stim) 1 b) (sym h.answered ∙ e) (first_says (one_cycle_checks s stim) 1)).0

-- the two ways out of the check
module _ {s : List ℕ} {n : ℕ} {W : List ℕ} (g : Accepting s n W) {a : ℕ} (ea : a ≡ word s 0 2) (stim : List ℕ) where
  other : (length stim ≡ get_or W a 0 → ⊥) → not_one_cycle s stim ≡ true
  unfolding not_one_cycle
  other d =
      rw (ne_eqb (length stim) (input_leaves s) (λ l. d (l ∙ sym (takes g ea)))) (or-true (wrong_stimulus s stim))

  pub held-to-other : (length stim ≡ get_or W a 0 → ⊥) → HeldToOne s stim (Refused 8 0)
  held-to-other d = record { answered = rw (other d) refl; numbered = omega arith; small = omega arith }

  pub held-to-one : length stim ≡ get_or W a 0 → (answer : Answer) → Held s stim answer → HeldToOne s stim answer
  held-to-one l answer h =
      let k : length stim ≡ input_leaves s = l ∙ takes g ea in
      record {
        answered = h.answered ∙ rw (one-cycle-run s stim k, one-cycle-counted s stim k) refl;
        numbered = h.numbered;
        small = h.small;
      }
