-- The records of the types from the last to the first, the header before them, and the whole sheet.
-- Assumes nothing.
use Prim.Native.Nat.{ℕ, suc, ◌+◌, ◌-◌, ◌*◌, ◌≤◌, ◌<◌}
use mathlib.Core.Path.{◌≡◌, ap, ap₂, sym, ◌∙◌}
use mathlib.Core.List.{List, ◌∷◌, ◌++◌}
use native.Mathlib.Omega.{arith}
use lib.ListN.{length, drop, replicate}
use Rattle.std.proofs.lemmas.List.{length-drop}
use Rattle.records.specs.SheetOf.{Record, words, sheet_of}
use Rattle.instructions.specs.Instruction.{Instruction}
use Rattle.instructions.specs.Assembly.{DeclaredType}
use Rattle.instructions.specs.Types.{type_from_bottom}
use Rattle.instructions.specs.Emission.{type_record, types_written, written_of, cursor_of}
use Rattle.instructions.proofs.FromBottom.{next-type}
use Rattle.emitting.specs.Emitting.{RecordPut, TypesPut, CodeWritten, emitted_from, Emitting, Emitted}
use Rattle.emitting.proofs.AdvanceLaws.{record-on}

-- the first k types are left
pub record TypesLeft (T : List DeclaredType) (sheet₀ sheet : List ℕ) (k cursor next : ℕ) : Type 0 where
  pub so_far : (R : List Record) (tail : List ℕ) → drop (12 * (length T + 1)) sheet₀ ≡ sheet_of R ++ tail
      → (R' : List Record)
      × (types_written (drop (length T - k) T) next R' ≡ types_written T 0 R)
      × (drop (12 * cursor) sheet ≡ sheet_of R' ++ tail)
  pub cursor_told : cursor ≡ k + 1
  pub lower : k ≤ length T
  pub sheet_long : 12 * (length T + 1) ≤ length sheet
  pub as_long : length sheet ≡ length sheet₀

module _ (T : List DeclaredType) where
  pub one-type-put : (sheet₀ sheet sheet' : List ℕ) (k cursor next r : ℕ) → k < length T → TypesLeft T sheet₀ sheet (k + 1) cursor next
      → RecordPut sheet sheet' cursor (type_record (type_from_bottom k T) next) r → TypesLeft T sheet₀ sheet' k r r
  one-type-put sheet₀ sheet sheet' k cursor next r under l put =
      let w = type_record (type_from_bottom k T) next in
      let told = l.cursor_told in
      let one = put.one_less in
      let long = l.sheet_long in
      let same = put.as_long in
      let rest = drop (length T - k) T in
      let d = length-drop (length T - k) T in
      let number : r ≡ suc (length rest) = omega (arith, d) in
      record {
        so_far = λ R tail f.
            let before = l.so_far R tail f in (
              w ∷ before.0,
              ap (λ (n : ℕ). types_written rest n (w ∷ before.0)) number
                  ∙ sym (ap (λ X. types_written X next before.0) (next-type T k under))
                  ∙ before.1,
              record-on before.0 tail put (omega arith) before.2,
            );
        cursor_told = omega arith;
        lower = omega arith;
        sheet_long = omega arith;
        as_long = put.as_long ∙ l.as_long;
      }

  -- the whole
  module _ (C : List Instruction) {records : ℕ} {sheet : List ℕ} (input : ℕ) (ask : Emitting T C records sheet) (cleared coded typed headed : List ℕ) where
    pub sheet-whole : drop (12 * records) cleared ≡ replicate (length sheet - 12 * records) 0 → CodeWritten T C records cleared coded → TypesPut T coded typed
        → (r : ℕ) → RecordPut typed headed 1 (words 1 1 input (length T + 1) records 0) r → Emitted T (emitted_from T C records) input records sheet headed
    sheet-whole zeros code put r header =
        let E = emitted_from T C records in
        let R = written_of E in
        let tail = replicate {A = ℕ} (length sheet - 12 * records) 0 in
        let ends = ask.ends in
        let fits = ask.fits in
        let start : 12 * (length T + 1) ≡ 12 * cursor_of E = omega arith in
        let laid : drop (12 * (length T + 1)) coded ≡ sheet_of R ++ tail =
        ap (λ (n : ℕ). drop n coded) start ∙ code.laid_out (omega arith) ∙ ap (λ (t : List ℕ). sheet_of R ++ t) zeros in
        let whole = record-on (types_written T 0 R) tail header (omega arith) (put.laid_out R tail laid) in
        let first : length T + 1 ≡ suc (length T) = omega arith in
        let all : records ≡ suc (length T) + length R = omega arith in
        let one = header.one_less in
        let none : 0 ≡ 12 * r = omega arith in
        record {
          written_out =
              ap (λ (n : ℕ). drop n headed) none ∙ whole
              ∙ ap₂ (λ (n : ℕ) (q : ℕ). sheet_of (words 1 1 input n q 0 ∷ types_written T 0 R) ++ tail) first all;
        }
