-- An instruction by its op.
-- Assumes nothing.
use Prim.Native.Nat.{ℕ, zero, suc, ◌-◌, ◌≤◌}
use mathlib.Core.Path.{◌≡◌, ap, sym, subst}
use mathlib.Core.List.{List, [], ◌∷◌}
use native.Mathlib.Omega.{arith}
use lib.ListN.{length}
use Rattle.records.specs.SheetOf.{words}
use Rattle.instructions.specs.Instruction.{instruction_of}
use Rattle.instructions.specs.Said.{number_of, said}
use Rattle.instructions.specs.declared.Op.{Op}
use Rattle.instructions.specs.declared.Instruction.{Instruction as CodeInstruction}
use Rattle.instructions.specs.Assembly.{DeclaredType}
use Rattle.instructions.specs.Emission.{Slot, emission, emit, pop, zeros_written, zeros_next}
use Rattle.emitting.specs.Slots.{popped}
use Rattle.emitting.specs.Emitting.{InstructionWritten, ZerosPut, standing}
use Rattle.emitting.specs.declared.writer.Writer.{Writer}
use Rattle.emitting.proofs.AdvanceLaws.{the_same, zeros-alone}

-- what is known of the op's number is known of the instruction
pub step-by : (T : List DeclaredType) (w : Writer) {before after : List ℕ} {w' : Writer} (i : CodeInstruction) {o : Op} → i.op ≡ o
    → InstructionWritten (λ R. emit T (standing w R) (instruction_of (number_of o) i.first i.second)) before after w w'
    → InstructionWritten (λ R. emit T (standing w R) (said i)) before after w w'
step-by T w {before} {after} {w'} i e h =
    subst (λ (o : Op). InstructionWritten (λ R. emit T (standing w R) (instruction_of (number_of o) i.first i.second)) before after w w') (sym e) h

-- the end of a part of a pattern, and where the other begins, stand on the stack
pub parts-put : (w : Writer) {a a' b b' : ℕ} {before after : List ℕ} {w' : Writer} → a ≡ a' → b ≡ b'
    → InstructionWritten (λ R. emission (words 50 a w.cursor b 0 0 ∷ R) (w.cursor - 1) (pop (pop w.stack)) 0) before after w w'
    → InstructionWritten (λ R. emission (words 50 a' w.cursor b' 0 0 ∷ R) (w.cursor - 1) (pop (pop w.stack)) 0) before after w w'
parts-put w {a} {a'} {b} {b'} e f h = (
  λ R.
      let same : emission (words 50 a w.cursor b 0 0 ∷ R) (w.cursor - 1) (pop (pop w.stack)) 0
      ≡ emission (words 50 a' w.cursor b' 0 0 ∷ R) (w.cursor - 1) (pop (pop w.stack)) 0 = cc in
      the_same same (h.0 R),
  h.1,
)

-- undefined leaves
pub zeros-step : (w : Writer) {k l : ℕ} {before after : List ℕ} {w' : Writer} → k ≡ l → ZerosPut k before after w.cursor w.next w'.cursor w'.next
    → w'.stack ≡ w.stack → InstructionWritten (λ R. emission (zeros_written l R w.cursor w.next) (w.cursor - l) w.stack (zeros_next l w.cursor w.next)) before after w w'
zeros-step w {k} {l} {before} {after} {w'} e put s =
    let n = ap length s in
    let put' = subst (λ (j : ℕ). ZerosPut j before after w.cursor w.next w'.cursor w'.next) e put in
    (λ R. zeros-alone put' s, omega arith)

pub popped-fewer : (n : ℕ) (S : List Slot) → length (popped n S) ≤ length S
popped-fewer zero S = omega arith
popped-fewer (suc n) [] = popped-fewer n []
popped-fewer (suc n) (x ∷ S) = let h = popped-fewer n S in omega arith
