-- The instructions from the last to the first: what is left of them leads from what is written to the whole.
-- Assumes nothing.
use Prim.Native.Nat.{ℕ, ◌+◌, ◌-◌, ◌*◌, ◌≤◌, ◌<◌}
use mathlib.Core.Path.{◌≡◌, ap, sym, ◌∙◌}
use mathlib.Core.List.{List, [], ◌++◌}
use native.Mathlib.Omega.{arith}
use lib.ListN.{length, drop}
use Rattle.records.specs.SheetOf.{Record, sheet_of}
use Rattle.instructions.specs.Instruction.{Instruction}
use Rattle.instructions.specs.Code.{from_bottom}
use Rattle.instructions.specs.Assembly.{DeclaredType}
use Rattle.instructions.specs.Emission.{Emission, emit, emit_all, written_of, cursor_of}
use Rattle.instructions.proofs.FromBottom.{next-instruction}
use Rattle.emitting.specs.Emitting.{InstructionWritten, standing, emitted_from}
use Rattle.emitting.specs.declared.writer.Writer.{Writer}
use Rattle.emitting.proofs.EmissionLaws.{emit-lower, emit-balance, written_grows}

-- the first k instructions are left
pub record CodeLeft (T : List DeclaredType) (C : List Instruction) (records : ℕ) (sheet₀ sheet : List ℕ) (w : Writer) (k : ℕ) : Type 0 where
  pub so_far : length (written_of (emitted_from T C records)) + cursor_of (emitted_from T C records) ≡ records
      → (R : List Record)
      × (emit_all T (standing w R) (drop (length C - k) C) ≡ emitted_from T C records)
      × (drop (12 * w.cursor) sheet ≡ sheet_of R ++ drop (12 * records) sheet₀) × (w.cursor + length R ≡ records)
  pub sheet_long : 12 * w.cursor ≤ length sheet
  pub as_long : length sheet ≡ length sheet₀
  pub few : length w.stack + k ≤ length C

module _ (T : List DeclaredType) (C : List Instruction) (records : ℕ) (sheet₀ : List ℕ) where
  pub one-emitted : (sheet sheet' : List ℕ) (w w' : Writer) (k : ℕ) → k < length C → CodeLeft T C records sheet₀ sheet w (k + 1)
      → InstructionWritten (λ R. emit T (standing w R) (from_bottom k C)) sheet sheet' w w' → CodeLeft T C records sheet₀ sheet' w' k
  one-emitted sheet sheet' w w' k under l does =
      let i = from_bottom k C in
      let done = does.0 [] in
      let here = ap cursor_of done.state in
      let lower = emit-lower T [] w.cursor w.stack w.next i in
      let room = l.sheet_long in
      let long = done.as_long in
      let higher = does.1 in
      let few = l.few in
      record {
        so_far = λ fits.
            let before = l.so_far fits in
            let R = before.0 in
            let a = does.0 R in
            let E = emit T (standing w R) i in
            let rest = drop (length C - k) C in
            let whole : emit_all T E rest ≡ emitted_from T C records = sym (ap (emit_all T (standing w R)) (next-instruction C k under)) ∙ before.1 in
            let grows = written_grows T E rest in
            let count = ap (λ (F : Emission). length (written_of F)) whole in
            let sum = before.3 in
            let balance = emit-balance T R w.cursor w.stack w.next i (omega arith) in
            let now = ap cursor_of a.state in (
              written_of E,
              ap (λ (F : Emission). emit_all T F rest) (sym a.state) ∙ whole,
              a.laid_out (drop (12 * records) sheet₀) before.2 (omega arith),
              omega arith,
            );
        sheet_long = omega arith;
        as_long = long ∙ l.as_long;
        few = omega arith;
      }
