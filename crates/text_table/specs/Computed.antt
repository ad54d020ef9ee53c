-- The answer of a translation and the records that it writes, computed from the bytes.
use Rattle.std.specs.Prelude.{ℕ, suc, ◌+◌, ◌*◌, Bool, true, cond, List, [], ◌∷◌, length, ltb}
use Rattle.std.proofs.Math.Option.{Option, none, some}
use Rattle.records.specs.Limits.{most_records}
use Rattle.records.specs.SheetOf.{Record}
use Rattle.answers.specs.Answers.{Answer, Done, Refused}
use Rattle.grammar.specs.Tokens.{Token}
use Rattle.grammar.specs.Machine.{begins}
use Rattle.grammar.specs.Walk.{first_illegal}
use Rattle.name_rules.specs.Declared.{at_first}
use Rattle.name_rules.specs.Checks.{first_bad_place}
use Rattle.name_rules.specs.TokenWalk.{scope, walk_checks}
use Rattle.instructions.specs.TokenOrder.{walk_instructions}
use Rattle.instructions.specs.Assembly.{Assembly, assembly, nothing_assembled, assemble_all}
use Rattle.instructions.specs.Emission.{emission, written_of, emit_all, records_written}
use Rattle.text_table.specs.Lexer.{tokens_in}

abbrev pub assembled_from : List Token → Assembly
assembled_from ts = assemble_all nothing_assembled (walk_instructions begins (scope [] [] at_first) ts)

-- so many records, into a slice of so many bytes
abbrev pub room_answer : (records room : ℕ) → Answer
room_answer n room = cond (cond (ltb room (12 * n)) true (ltb most_records n)) (Refused 15 (12 * n)) (Done (12 * n))

abbrev pub untyped_answer : Option ℕ → (records room : ℕ) → Answer
untyped_answer (some p) n room = Refused 14 p
untyped_answer none n room = room_answer n room

abbrev pub assembly_answer : Assembly → (room : ℕ) → Answer
assembly_answer (assembly T i C W Y p r u) room = untyped_answer u (suc (length T) + r) room

abbrev pub names_answer : Option ℕ → List Token → (room : ℕ) → Answer
names_answer (some p) ts room = Refused 14 p
names_answer none ts room = assembly_answer (assembled_from ts) room

abbrev pub tokens_answer : List Token → (room : ℕ) → Answer
tokens_answer ts room = names_answer (first_bad_place (walk_checks begins (scope [] [] at_first) ts)) ts room

abbrev pub illegal_answer : Option ℕ → List Token → (room : ℕ) → Answer
illegal_answer (some i) ts room = Refused 13 i
illegal_answer none ts room = tokens_answer ts room

abbrev pub computed_answer : (bytes : List ℕ) (room : ℕ) → Answer
computed_answer bytes room = illegal_answer (first_illegal bytes) (tokens_in bytes) room

abbrev pub assembly_records : Assembly → List Record
assembly_records (assembly T i C W Y p r u) = records_written T i (written_of (emit_all T (emission [] (suc (length T) + r) [] 0) C))

abbrev pub computed_records : List ℕ → List Record
computed_records bytes = assembly_records (assembled_from (tokens_in bytes))
