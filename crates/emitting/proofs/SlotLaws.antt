-- The stack in its table.
-- Assumes nothing.
use Prim.Native.Nat.{ℕ, zero, suc, ◌+◌, ◌-◌, ◌≤◌, ◌<◌}
use mathlib.Core.Path.{◌≡◌, refl, ap, ap₂, ◌∙◌}
use mathlib.Core.List.{List, [], ◌∷◌}
use native.Mathlib.Omega.{arith}
use native.Mathlib.Numerals.{add-one}
use lib.ListN.{length, set, get_or}
use lib.Seq.{get_or-set_same, get_or-set_other}
use Rattle.instructions.specs.Emission.{Slot, of_number, barrier, first_waits, second_waits, top, pop}
use Rattle.emitting.specs.Slots.{slot_of, held_slots, popped}
use Rattle.emitting.specs.declared.stack.Slot.{Slot as CodeSlot}
use Rattle.emitting.specs.declared.stack.Slot.TheVariants.{Number, Barrier, FirstWaits, SecondWaits}

module _ (slots : List CodeSlot) where
  pub slots-counted : (n : ℕ) → length (held_slots slots n) ≡ n
  slots-counted zero = refl
  slots-counted (suc n) = ap suc (slots-counted n)

  slots_below : (h n : ℕ) (x : CodeSlot) → n ≤ h → held_slots (set slots h x) n ≡ held_slots slots n
  slots_below h zero x l = refl
  slots_below h (suc n) x l =
      ap₂ ◌∷◌ (ap slot_of (get_or-set_other slots h n x (Number 0) (omega arith))) (slots_below h n x (omega arith))

  pub slot-pushed : (h : ℕ) (x : CodeSlot) → h < length slots → held_slots (set slots h x) (h + 1) ≡ slot_of x ∷ held_slots slots h
  slot-pushed h x l =
      ap (held_slots (set slots h x)) (add-one h)
      ∙ ap₂ ◌∷◌ (ap slot_of (get_or-set_same slots h x (Number 0) l)) (slots_below h h x (omega arith))

  pop-held : (h : ℕ) → pop (held_slots slots h) ≡ held_slots slots (h - 1)
  pop-held zero = refl
  pop-held (suc h) = let e : h ≡ suc h - 1 = omega arith in ap (held_slots slots) e

  pub popped-held : (n h : ℕ) → popped n (held_slots slots h) ≡ held_slots slots (h - n)
  popped-held zero h = let e : h ≡ h - 0 = omega arith in ap (held_slots slots) e
  popped-held (suc n) h =
      let e : h - 1 - n ≡ h - suc n = omega arith in ap (popped n) (pop-held h) ∙ popped-held n (h - 1) ∙ ap (held_slots slots) e

  -- the slot that many below the top
  pub slot-below : (n h : ℕ) → n < h → top (popped n (held_slots slots h)) ≡ top (slot_of (get_or slots (h - n - 1) (Number 0)) ∷ [])
  slot-below n h l =
      let e : h - n ≡ suc (h - n - 1) = omega arith in
      ap top (popped-held n h ∙ ap (held_slots slots) e) ∙ top-alone (slot_of (get_or slots (h - n - 1) (Number 0))) (held_slots slots (h - n - 1))
    where
      top-alone : (x : Slot) (S : List Slot) → top (x ∷ S) ≡ top (x ∷ [])
      top-alone (of_number m) S = refl
      top-alone barrier S = refl
      top-alone first_waits S = refl
      top-alone second_waits S = refl

  pub no-slot-below : (n h : ℕ) → h ≤ n → top (popped n (held_slots slots h)) ≡ 0
  no-slot-below n h l = let e : h - n ≡ 0 = omega arith in ap top (popped-held n h ∙ ap (held_slots slots) e)

pub no-number : (x : CodeSlot) → ((n : ℕ) → x ≡ Number n → ⊥) → top (slot_of x ∷ []) ≡ 0
no-number (Number n) h = absurd (h n refl)
no-number Barrier h = refl
no-number FirstWaits h = refl
no-number SecondWaits h = refl
