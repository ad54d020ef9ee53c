-- The stack of the emission, in its table.
use Rattle.std.specs.Prelude.{ℕ, zero, suc, ◌-◌, ◌≡◌, List, [], ◌∷◌, length, get_or, Option, Some, None}
use Rattle.records.specs.SheetOf.{Record, words}
use Rattle.records.specs.Kinded.{kind_number}
use Rattle.records.specs.declared.kinds.Kind.{Kind}
use Rattle.instructions.specs.Emission.{Slot, of_number, barrier, first_waits, second_waits, emission, pop, completed}
use Rattle.emitting.specs.declared.stack.Slot.{Slot as CodeSlot}
use Rattle.emitting.specs.declared.stack.Slot.TheVariants.{Number, Barrier, FirstWaits, SecondWaits}

abbrev pub slot_of : CodeSlot → Slot
slot_of (Number n) = of_number n
slot_of Barrier = barrier
slot_of FirstWaits = first_waits
slot_of SecondWaits = second_waits

-- the first n slots, the last on top
abbrev pub held_slots : List CodeSlot → ℕ → List Slot
held_slots slots zero = []
held_slots slots (suc k) = slot_of (get_or slots k (Number 0)) ∷ held_slots slots k

-- so many slots less
abbrev pub popped : ℕ → List Slot → List Slot
popped zero S = S
popped (suc n) S = popped n (pop S)

-- an index of a kind waited on top, and its record leads to the same; or none does
abbrev pub Unwaited : Option Kind → (before after : List Slot) → Type 0
Unwaited (Some kind) S S' =
    ((R : List Record) (c : ℕ) → completed (words (kind_number kind) 0 c 0 0 0 ∷ R) (c - 1) S' ≡ completed R c S) × (length S ≡ suc (length S'))
Unwaited None S S' = ((R : List Record) (c : ℕ) → completed R c S ≡ emission R c (of_number c ∷ S) 0) × (S' ≡ S)
