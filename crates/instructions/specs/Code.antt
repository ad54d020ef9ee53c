-- What the tables of a code hold: the last instruction first.
use Rattle.std.specs.Prelude.{ℕ, zero, suc, ◌-◌, List, [], ◌∷◌, length, get_or}
use Rattle.instructions.specs.Instruction.{Instruction, instruction_of, close_constant}
use Rattle.instructions.specs.Said.{number_of}
use Rattle.instructions.specs.declared.Op.{Op}
use Rattle.instructions.specs.declared.Op.TheVariants.{DeclareType}

-- the first n instructions of three tables, the last first
abbrev pub instructions_held : (ops : List Op) (firsts seconds : List ℕ) → ℕ → List Instruction
instructions_held ops firsts seconds zero = []
instructions_held ops firsts seconds (suc k) =
    instruction_of (number_of (get_or ops k DeclareType)) (get_or firsts k 0) (get_or seconds k 0) ∷ instructions_held ops firsts seconds k

-- the instruction with so many before it
abbrev pub from_bottom : ℕ → List Instruction → Instruction
from_bottom k C = get_or C (length C - suc k) close_constant
