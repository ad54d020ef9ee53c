-- What the functions ask of their callers that write a text's sheet is not contradictory: on the text of sheet T there is an instance of each
-- record that a `requires` of `emitting` or `translator` names. The stack is that of the calls on T at an instruction, which a comment
-- names. T has no pair in a pattern: for a part of one the text is that of the parity checker.
-- Assumes nothing.
use Prim.Native.Nat.{ℕ, ◌+◌, ◌*◌, ◌≤◌, ◌<◌}
use mathlib.Core.Path.{◌≡◌, refl, sym, ap, ◌∙◌}
use mathlib.Core.List.{List, [], ◌∷◌}
use mathlib.Core.Option.{none}
use native.Mathlib.Omega.{arith}
use lib.ListN.{length, take, replicate}
use Rattle.std.specs.Prelude.{reverse}
use Rattle.grammar.specs.Tokens.{Token}
use Rattle.grammar.specs.Source.{Text}
use Rattle.grammar.specs.Legal.{Reading, Keeps}
use Rattle.grammar.specs.Machine.{begins}
use Rattle.grammar.specs.Walk.{first_illegal}
use Rattle.grammar.proofs.Exact.{first-illegal-exact}
use Rattle.name_rules.specs.Checks.{first_bad_place}
use Rattle.name_rules.specs.Names.{name_checks}
use Rattle.name_rules.specs.TokenWalk.{walk_checks}
use Rattle.name_rules.proofs.ByTokens.{first_scope, by-tokens}
use Rattle.instructions.specs.TokenOrder.{walk_instructions}
use Rattle.instructions.specs.Assembly.{Assembly}
use Rattle.instructions.specs.Emission.{Slot, Emission, emission, written_of, emit_all}
use Rattle.instructions.proofs.Instructed.{instructed}
use Rattle.ordering.specs.Assembled.{types_in, code_in}
use Rattle.emitting.specs.Slots.{held_slots}
use Rattle.emitting.specs.Emitting.{Advancing, Emitting}
use Rattle.emitting.specs.declared.stack.Slot.{Slot as CodeSlot}
use Rattle.emitting.specs.declared.stack.Slot.TheVariants.{Number, Barrier}
use Rattle.emitting.specs.declared.writer.Writer.{Writer}
use Rattle.translator.specs.LayingOut.{TranslatingResolved, TranslatingAssembled}
use Rattle.name_rules.proofs.First.{none-bad}
use Rattle.translator.proofs.LaysOut.{laid_out}
use Rattle.text_table.specs.SheetRows.{sheet_rows}
use Rattle.text_table.specs.Lexer.{tokens_in}
use Rattle.text_table.specs.Computed.{assembled_from}
use Rattle.text_table.proofs.Lexed.{tokens-are}
use Rattle.text_runs.specs.RunRows.{text_at}
use Rattle.text_runs.proofs.TextTables.{toggle_text, parity_text, padded_with, table_code}
use Rattle.text_runs.proofs.WitnessOrder.{bit, ordered_code, assembly_whole, whole-assembled}

-- Crate `emitting`. The slice, and the stack before the inner IF's record, number 7, is written: its parts are 8, 9, 11 and 13.
abbrev slice : List ℕ
slice = replicate 204 255

abbrev slots : List CodeSlot
slots =
    padded_with (Number 0)
    (Barrier ∷ Number 16 ∷ Barrier ∷ Barrier ∷ Number 15 ∷ Number 14 ∷ Barrier ∷ Number 13 ∷ Number 11 ∷ Number 9 ∷ Number 8 ∷ [])

abbrev writer : (cursor : ℕ) → List Slot → Writer
writer c S = record { stack = S; cursor = c; next = 0 }

stack-push-asks : length (held_slots slots 10) < 65536
stack-push-asks = omega arith

-- so ask `complete`, `put_expression` and the functions for each instruction
put-choice-asks : Advancing slice (writer 8 (held_slots slots 11))
put-choice-asks = record { sheet_long = omega arith; room = omega arith }

-- after so many instructions, from the last on
abbrev emitted_after : ℕ → Emission
emitted_after k = emit_all (bit 2) (emission [] 17 [] 0) (take k (ordered_code 20))

choice-next : emission (written_of (emitted_after 13)) 8 (held_slots slots 11) 0 ≡ emitted_after 13
choice-next = refl

-- its pattern, record 13, and where that begins
step-alternative-asks : Advancing slice (writer 14 (held_slots slots 7))
step-alternative-asks = record { sheet_long = omega arith; room = omega arith }

step-mark-asks : Advancing slice (writer 13 (held_slots slots 7))
step-mark-asks = record { sheet_long = omega arith; room = omega arith }

-- the delay's leaf, record 4
abbrev leaf_slots : List CodeSlot
leaf_slots = padded_with (Number 0) (Barrier ∷ Number 16 ∷ Barrier ∷ Number 5 ∷ Number 1 ∷ [])

leaf-next : emission (written_of (emitted_after 17)) 5 (held_slots leaf_slots 5) 0 ≡ emitted_after 17
leaf-next = refl

step-leaf-asks : Advancing slice (writer 5 (held_slots leaf_slots 5))
step-leaf-asks = record { sheet_long = omega arith; room = omega arith }

-- the parts of `(lo, hi)` in the parity checker's pattern: record 19 is written, hi, and 18, lo, comes next
abbrev part_slots : List CodeSlot
part_slots = padded_with (Number 0) (Barrier ∷ Number 20 ∷ Barrier ∷ Barrier ∷ Number 0 ∷ [])

abbrev parity_assembly : Assembly
parity_assembly = assembled_from (tokens_in parity_text)

abbrev parity_emitted : Emission
parity_emitted = emit_all (types_in parity_assembly) (emission [] 21 [] 0) (take 6 (code_in parity_assembly))

part-next : emission (written_of parity_emitted) 19 (held_slots part_slots 5) 0 ≡ parity_emitted
unfolding parity_text
part-next = refl

step-part-asks : Advancing (replicate 252 255) (writer 19 (held_slots part_slots 5))
step-part-asks = record { sheet_long = omega arith; room = omega arith }

-- so ask `put_zeros` and `put_type_record` too
put-record-asks : 12 * 8 ≤ length slice
put-record-asks = omega arith

put-word-asks : 84 + 2 ≤ length slice
put-word-asks = omega arith

clear-from-asks : 12 * 17 ≤ length slice
clear-from-asks = omega arith

write-code-asks : (length (ordered_code 20) ≤ 65535) × (12 * 17 ≤ length slice)
write-code-asks = (omega arith, omega arith)

write-types-asks : (12 * (length (bit 2) + 1) ≤ length slice) × (length (bit 2) < 4096)
write-types-asks = (omega arith, omega arith)

write-sheet-asks : Emitting (bit 2) (ordered_code 20) 17 slice
write-sheet-asks = record {
  few = omega arith;
  sheet_long = omega arith;
  code_few = omega arith;
  types_few = omega arith;
  ends = refl;
  fits = refl;
}

-- Crate `translator`.
translate-legal-asks : Keeps toggle_text
unfolding toggle_text first_illegal
translate-legal-asks = first-illegal-exact (text_at 1 sheet_rows)

names-good : first_bad_place (walk_checks begins first_scope (tokens_in toggle_text)) ≡ none
unfolding toggle_text
names-good = refl

said : reverse (table_code 24) ≡ walk_instructions begins first_scope (tokens_in toggle_text)
unfolding toggle_text
said = refl

lay-out-asks : TranslatingResolved toggle_text (table_code 24)
lay-out-asks = of-reading translate-legal-asks.legal.0 translate-legal-asks.legal.1 translate-legal-asks.legal.2
  where
    of-reading : (ts : List Token) (t : Text) → Reading toggle_text ts t → TranslatingResolved toggle_text (table_code 24)
    of-reading ts t r =
        let good : first_bad_place (name_checks t) ≡ none =
        sym (ap (λ l. first_bad_place (walk_checks begins first_scope l)) (tokens-are r.lexed) ∙ ap first_bad_place (by-tokens r.parsed)) ∙ names-good in
        record {
          tokens = ts;
          source = t;
          keeps = translate-legal-asks;
          reading = r;
          good = good;
          held = said ∙ ap (walk_instructions begins first_scope) (tokens-are r.lexed) ∙ instructed r.parsed (none-bad (name_checks t) good);
          few = omega arith;
        }

write-out-asks : TranslatingAssembled toggle_text assembly_whole
write-out-asks = laid_out (table_code 24) assembly_whole lay-out-asks whole-assembled
