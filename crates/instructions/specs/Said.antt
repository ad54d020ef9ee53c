-- What an instruction of the code is: its number, by which it is one of `Instruction`, with its operands.
use Rattle.std.specs.Prelude.{ℕ}
use Rattle.instructions.specs.Instruction.{Instruction, instruction_of}
use Rattle.instructions.specs.declared.Op.{Op}
use Rattle.instructions.specs.declared.Op.TheVariants.{
  DeclareType,
  CountConstructor,
  FirstType,
  SecondType,
  InputHas,
  UseName,
  UseConstant,
  UseUndefined,
  OpenPair,
  OpenLet,
  OpenRec,
  OpenIf,
  OpenDelay,
  TakeFirst,
  TakeSecond,
  Close,
  CloseIf,
  BeginPattern,
  MatchType,
  MatchOne,
  OpenParts,
  NextPart,
  CloseParts,
  NextAlternative,
  UseLeaf,
  UseZeros,
  OpenConstant,
  CloseConstant,
  EndConstant,
  ConstantHas,
}
use Rattle.instructions.specs.declared.Instruction.{Instruction as CodeInstruction}

abbrev pub number_of : Op → ℕ
number_of DeclareType = 0
number_of CountConstructor = 1
number_of FirstType = 2
number_of SecondType = 3
number_of InputHas = 4
number_of UseName = 5
number_of UseConstant = 6
number_of UseUndefined = 7
number_of OpenPair = 8
number_of OpenLet = 9
number_of OpenRec = 10
number_of OpenIf = 11
number_of OpenDelay = 12
number_of TakeFirst = 13
number_of TakeSecond = 14
number_of Close = 15
number_of CloseIf = 16
number_of BeginPattern = 17
number_of MatchType = 18
number_of MatchOne = 19
number_of OpenParts = 20
number_of NextPart = 21
number_of CloseParts = 22
number_of NextAlternative = 23
number_of UseLeaf = 24
number_of UseZeros = 25
number_of OpenConstant = 26
number_of CloseConstant = 27
number_of EndConstant = 28
number_of ConstantHas = 29

abbrev pub said : CodeInstruction → Instruction
said i = instruction_of (number_of i.op) i.first i.second
