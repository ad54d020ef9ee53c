-- What is held of an assembly, and what one more instruction asks.
use Rattle.std.specs.Prelude.{ℕ, ◌+◌, ◌*◌, ◌≤◌, ◌<◌, List, length, Option, Some, None}
use Rattle.std.proofs.Math.Option.{none, some, Option as Place}
use Rattle.grammar.specs.Legal.{text_bytes}
use Rattle.instructions.specs.Instruction.{
  Instruction,
  declare_type,
  count_constructor,
  first_type,
  second_type,
  input_has,
  use_name,
  use_constant,
  use_undefined,
  open_pair,
  open_let,
  open_if,
  open_delay,
  take_first,
  take_second,
  close,
  close_if,
  open_rec,
  begin_pattern,
  open_parts,
  next_part,
  close_parts,
  next_alternative,
  match_type,
  match_one,
  use_leaf,
  use_zeros,
  open_constant,
  close_constant,
  end_constant,
  constant_has,
}
use Rattle.instructions.specs.Assembly.{DeclaredType, leaves_numbered, Assembly, assembly}
use Rattle.instructions.specs.Types.{last_constructors}
use Rattle.ordering.specs.declared.assembly.Assembly.{Assembly as AssemblyHeld}

abbrev pub place_of : Option ℕ → Place ℕ
place_of None = none
place_of (Some p) = some p

abbrev pub assembled : AssemblyHeld → Assembly
assembled a = assembly a.types a.input a.code a.waiting a.constants a.place a.records (place_of a.untyped)

-- the records that an instruction adds
abbrev pub records_of : List DeclaredType → Instruction → ℕ
records_of T declare_type = 0
records_of T count_constructor = 0
records_of T (first_type t) = 0
records_of T (second_type t) = 0
records_of T (input_has t) = 0
records_of T (use_name k) = 1
records_of T (use_constant t n) = 2
records_of T (use_undefined t) = 1 + leaves_numbered T t
records_of T open_pair = 1
records_of T open_let = 1
records_of T open_if = 1
records_of T open_delay = 1
records_of T take_first = 1
records_of T take_second = 1
records_of T close = 0
records_of T close_if = 0
records_of T (open_rec t) = 1
records_of T begin_pattern = 0
records_of T open_parts = 1
records_of T next_part = 0
records_of T close_parts = 0
records_of T next_alternative = 0
records_of T (match_type t) = 1
records_of T (match_one t n) = 1
records_of T (use_leaf t n) = 1
records_of T (use_zeros t) = leaves_numbered T t
records_of T (open_constant p) = 0
records_of T close_constant = 0
records_of T end_constant = 0
records_of T (constant_has t) = 0

-- there is room for one instruction more, as there is after fewer than a text can say
pub record HasRoom (a : AssemblyHeld) : Type 0 where
  pub few_types : length a.types < text_bytes
  pub few_constructors : last_constructors a.types < text_bytes
  pub few_instructions : length a.code + length a.waiting < text_bytes
  pub few_constants : length a.constants < text_bytes
  pub few_records : a.records ≤ 65 * text_bytes
