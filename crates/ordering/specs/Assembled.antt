-- The parts of an assembly, and how many there are at most after so many instructions.
use Rattle.std.specs.Prelude.{ℕ, ◌+◌, ◌*◌, ◌≤◌, List, length}
use Rattle.std.proofs.Math.Option.{Option}
use Rattle.instructions.specs.Instruction.{Instruction}
use Rattle.instructions.specs.Assembly.{DeclaredType, Assembly, assembly}
use Rattle.instructions.specs.Types.{last_constructors}

abbrev pub types_in : Assembly → List DeclaredType
types_in (assembly T i C W Y p r u) = T

abbrev pub input_in : Assembly → ℕ
input_in (assembly T i C W Y p r u) = i

abbrev pub code_in : Assembly → List Instruction
code_in (assembly T i C W Y p r u) = C

abbrev pub waiting_in : Assembly → List Instruction
waiting_in (assembly T i C W Y p r u) = W

abbrev pub constants_in : Assembly → List ℕ
constants_in (assembly T i C W Y p r u) = Y

abbrev pub records_assembled : Assembly → ℕ
records_assembled (assembly T i C W Y p r u) = r

abbrev pub untyped_in : Assembly → Option ℕ
untyped_in (assembly T i C W Y p r u) = u

-- no more than n instructions give
pub record Few (n : ℕ) (A : Assembly) : Type 0 where
  pub few_types : length (types_in A) ≤ n
  pub few_constructors : last_constructors (types_in A) ≤ n
  pub few_instructions : length (code_in A) + length (waiting_in A) ≤ n
  pub few_constants : length (constants_in A) ≤ n
  pub few_records : records_assembled A ≤ 65 * n
