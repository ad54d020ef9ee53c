-- What the functions ask of their callers that put a text's instructions in order is not contradictory: on the text of sheet T there is an
-- instance of each struct of `instructions` or `ordering`, with its invariants, and of what a `requires` asks of it. The structs are those
-- that the calls on T have at an instruction, which a comment names; of the parts of a pair type, which T does not declare, those of the
-- parity checker, row 0 of the table of sheets as text.
-- Assumes nothing.
use Prim.Native.Nat.{ℕ, zero, suc, ◌+◌, ◌≤◌, ◌<◌}
use mathlib.Core.Path.{◌≡◌, refl}
use mathlib.Core.Bool.{Bool, true, false}
use mathlib.Core.List.{List, [], ◌∷◌}
use native.Mathlib.Omega.{arith}
use lib.ListN.{length, get_or, take}
use Rattle.std.specs.Prelude.{None, reverse}
use Rattle.grammar.specs.Machine.{begins}
use Rattle.name_rules.proofs.ByTokens.{first_scope}
use Rattle.instructions.specs.Instruction.{Instruction}
use Rattle.instructions.specs.Code.{instructions_held}
use Rattle.instructions.specs.TokenOrder.{walk_instructions}
use Rattle.instructions.specs.Assembly.{DeclaredType, nothing_assembled, assemble_all, type_held, held_types}
use Rattle.instructions.specs.Types.{leaves_over, last_constructors, LeavesStand}
use Rattle.instructions.specs.declared.Op.{Op}
use Rattle.instructions.specs.declared.Op.TheVariants.{DeclareType, UseName, UseConstant, OpenRec, OpenIf, OpenDelay, Close, BeginPattern, MatchOne, UseLeaf, ConstantHas}
use Rattle.ordering.specs.Held.{assembled, HasRoom}
use Rattle.ordering.specs.Assembled.{types_in}
use Rattle.ordering.specs.declared.assembly.Assembly.{Assembly}
use Rattle.text_table.specs.Lexer.{tokens_in}
use Rattle.text_runs.proofs.TextTables.{parity_text, padded_with, padded, table_code}

-- The type bit, with its constructors so far.
abbrev pairs_table : List Bool
pairs_table = padded_with false (false ∷ [])

abbrev parts_table : ℕ → List ℕ
parts_table constructors = padded (constructors ∷ [])

abbrev others : List ℕ
others = padded (0 ∷ [])

abbrev leaves_table : List ℕ
leaves_table = padded (1 ∷ [])

abbrev pub bit : ℕ → List DeclaredType
bit n = held_types pairs_table (parts_table n) others 1

bit-stands : (n : ℕ) → LeavesStand pairs_table (parts_table n) others leaves_table 1
bit-stands n = record { few = omega arith; stand = stand }
  where
    stand : (k : ℕ) → k < 1
        → get_or leaves_table k 0 ≡ leaves_over (held_types pairs_table (parts_table n) others k) (type_held (get_or pairs_table k false) (get_or (parts_table n) k 0) (get_or others k 0))
    stand zero h = refl
    stand (suc k) h = absurd (omega arith)

-- Crate `instructions`. The second constructor of bit, instruction 2.
count-constructor-asks : last_constructors (bit 1) < 65535
count-constructor-asks = omega arith

type-get-asks : 0 < length (bit 1)
type-get-asks = omega arith

set-last-asks : 0 < length (bit 1)
set-last-asks = omega arith

-- TYPE two = (bit, bit) of the parity checker, the second type: pair where its first part is given
abbrev two_pairs : Bool → List Bool
two_pairs pair = padded_with false (false ∷ pair ∷ [])

abbrev two_parts : ℕ → List ℕ
two_parts first = padded (2 ∷ first ∷ [])

abbrev two_others : ℕ → List ℕ
two_others second = padded (0 ∷ second ∷ [])

abbrev two_leaves : ℕ → List ℕ
two_leaves leaves = padded (1 ∷ leaves ∷ [])

two-stands : LeavesStand (two_pairs true) (two_parts 1) (two_others 1) (two_leaves 2) 2
two-stands = record { few = omega arith; stand = stand }
  where
    stand : (k : ℕ) → k < 2
        → get_or (two_leaves 2) k 0 ≡ leaves_over (held_types (two_pairs true) (two_parts 1) (two_others 1) k) (type_held (get_or (two_pairs true) k false) (get_or (two_parts 1) k 0) (get_or (two_others 1) k 0))
    stand zero h = refl
    stand (suc zero) h = refl
    stand (suc (suc k)) h = absurd (omega arith)

parity-types : held_types (two_pairs true) (two_parts 1) (two_others 0) 2
    ≡ types_in (assemble_all nothing_assembled (take 5 (walk_instructions begins first_scope (tokens_in parity_text))))
unfolding parity_text
parity-types = refl

-- the pair type is put over bit, with its two parts; so ask `declare` and `push` of the length
put-asks : (length (bit 2) < 65536) × (2 ≡ leaves_over (bit 2) (type_held true 1 1))
put-asks = (omega arith, refl)

-- the instructions of T in record order
abbrev ordered_ops : List Op
ordered_ops =
    OpenRec ∷ OpenDelay ∷ UseLeaf ∷ ConstantHas ∷ OpenIf ∷ UseName ∷ OpenIf ∷ UseName ∷ UseConstant
    ∷ UseConstant ∷ BeginPattern ∷ MatchOne ∷ Close ∷ UseName ∷ BeginPattern ∷ MatchOne ∷ Close ∷ Close
    ∷ UseName ∷ Close ∷ []

abbrev ordered_firsts : List ℕ
ordered_firsts = 1 ∷ 58 ∷ 1 ∷ 1 ∷ 71 ∷ 1 ∷ 98 ∷ 0 ∷ 1 ∷ 1 ∷ 103 ∷ 1 ∷ 0 ∷ 0 ∷ 80 ∷ 1 ∷ 0 ∷ 141 ∷ 0 ∷ 148 ∷ []

abbrev ordered_seconds : List ℕ
ordered_seconds = 0 ∷ 0 ∷ 2 ∷ 0 ∷ 0 ∷ 0 ∷ 0 ∷ 0 ∷ 1 ∷ 2 ∷ 0 ∷ 2 ∷ 0 ∷ 0 ∷ 0 ∷ 1 ∷ 0 ∷ 0 ∷ 0 ∷ 0 ∷ []

-- the first n of them, the last on top
abbrev pub ordered_code : ℕ → List Instruction
ordered_code n = instructions_held (padded_with DeclareType ordered_ops) (padded ordered_firsts) (padded ordered_seconds) n

abbrev wait_code : List Instruction
wait_code =
    instructions_held (padded_with DeclareType (BeginPattern ∷ MatchOne ∷ BeginPattern ∷ MatchOne ∷ [])) (padded (80 ∷ 1 ∷ 103 ∷ 1 ∷ []))
    (padded (0 ∷ 1 ∷ 0 ∷ 2 ∷ [])) 4

code-get-asks : 7 < length (table_code 24)
code-get-asks = omega arith

code-push-asks : length (ordered_code 12) < 65536
code-push-asks = omega arith

truncate-asks : 2 ≤ length wait_code
truncate-asks = omega arith

-- Crate `ordering`. The end of the delay's constant, instruction 7.
abbrev assembly_seven : Assembly
assembly_seven = record {
  types = bit 2;
  input = 1;
  code = ordered_code 3;
  waiting = [];
  constants = 1 ∷ [];
  place = 0;
  records = 3;
  untyped = None;
}

seven-assembled : assembled assembly_seven ≡ assemble_all nothing_assembled (reverse (table_code 7))
seven-assembled = refl

-- so ask `close_pair` and `constant_pair` of the length of the types
end-constant-asks : HasRoom assembly_seven
end-constant-asks = record {
  few_types = omega arith;
  few_constructors = omega arith;
  few_instructions = omega arith;
  few_constants = omega arith;
  few_records = omega arith;
}

constant-pair-asks : length assembly_seven.types ≤ 65535
constant-pair-asks = omega arith

constants-push-asks : length assembly_seven.constants < 65536
constants-push-asks = omega arith

-- the end of the inner IF, instruction 18
abbrev assembly_eighteen : Assembly
assembly_eighteen = record {
  types = bit 2;
  input = 1;
  code = ordered_code 10;
  waiting = wait_code;
  constants = [];
  place = 0;
  records = 13;
  untyped = None;
}

eighteen-assembled : assembled assembly_eighteen ≡ assemble_all nothing_assembled (reverse (table_code 18))
eighteen-assembled = refl

assembling-step-asks : HasRoom assembly_eighteen
assembling-step-asks = record {
  few_types = omega arith;
  few_constructors = omega arith;
  few_instructions = omega arith;
  few_constants = omega arith;
  few_records = omega arith;
}

close-if-asks : length assembly_eighteen.code + length assembly_eighteen.waiting ≤ 65535
close-if-asks = omega arith

move-onto-asks : (2 ≤ length assembly_eighteen.waiting) × (length assembly_eighteen.code + length assembly_eighteen.waiting ≤ 65535)
move-onto-asks = (omega arith, omega arith)

-- before the first instruction
abbrev assembly_new : Assembly
assembly_new = record {
  types = [];
  input = 0;
  code = [];
  waiting = [];
  constants = [];
  place = 0;
  records = 0;
  untyped = None;
}

new-assembled : assembled assembly_new ≡ nothing_assembled
new-assembled = refl

-- whatever was held before
read-asks : length (table_code 24) ≤ 65535
read-asks = omega arith

-- and after the last
abbrev pub assembly_whole : Assembly
assembly_whole = record {
  types = bit 2;
  input = 1;
  code = ordered_code 20;
  waiting = [];
  constants = [];
  place = 0;
  records = 15;
  untyped = None;
}

pub whole-assembled : assembled assembly_whole ≡ assemble_all nothing_assembled (reverse (table_code 24))
whole-assembled = refl
