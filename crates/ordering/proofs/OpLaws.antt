-- What is said of an instruction by its op.
-- Assumes nothing.
use Prim.Native.Nat.{ℕ}
use mathlib.Core.Path.{◌≡◌, refl}
use mathlib.Core.Bool.{false}
use Rattle.instructions.specs.Instruction.{instruction_of}
use Rattle.instructions.specs.Said.{number_of}
use Rattle.instructions.specs.Assembly.{begins_pattern}
use Rattle.instructions.specs.declared.Op.{Op}
use Rattle.instructions.specs.declared.Op.TheVariants.{
  DeclareType,
  CountConstructor,
  FirstType,
  SecondType,
  InputHas,
  UseName,
  UseConstant,
  UseUndefined,
  OpenPair,
  OpenLet,
  OpenRec,
  OpenIf,
  OpenDelay,
  TakeFirst,
  TakeSecond,
  Close,
  CloseIf,
  BeginPattern,
  MatchType,
  MatchOne,
  OpenParts,
  NextPart,
  CloseParts,
  NextAlternative,
  UseLeaf,
  UseZeros,
  OpenConstant,
  CloseConstant,
  EndConstant,
  ConstantHas,
}

pub begins-no-pattern : (o : Op) (a b : ℕ) → (o ≡ BeginPattern → ⊥) → begins_pattern (instruction_of (number_of o) a b) ≡ false
begins-no-pattern DeclareType a b n = refl
begins-no-pattern CountConstructor a b n = refl
begins-no-pattern FirstType a b n = refl
begins-no-pattern SecondType a b n = refl
begins-no-pattern InputHas a b n = refl
begins-no-pattern UseName a b n = refl
begins-no-pattern UseConstant a b n = refl
begins-no-pattern UseUndefined a b n = refl
begins-no-pattern OpenPair a b n = refl
begins-no-pattern OpenLet a b n = refl
begins-no-pattern OpenRec a b n = refl
begins-no-pattern OpenIf a b n = refl
begins-no-pattern OpenDelay a b n = refl
begins-no-pattern TakeFirst a b n = refl
begins-no-pattern TakeSecond a b n = refl
begins-no-pattern Close a b n = refl
begins-no-pattern CloseIf a b n = refl
begins-no-pattern BeginPattern a b n = absurd (n refl)
begins-no-pattern MatchType a b n = refl
begins-no-pattern MatchOne a b n = refl
begins-no-pattern OpenParts a b n = refl
begins-no-pattern NextPart a b n = refl
begins-no-pattern CloseParts a b n = refl
begins-no-pattern NextAlternative a b n = refl
begins-no-pattern UseLeaf a b n = refl
begins-no-pattern UseZeros a b n = refl
begins-no-pattern OpenConstant a b n = refl
begins-no-pattern CloseConstant a b n = refl
begins-no-pattern EndConstant a b n = refl
begins-no-pattern ConstantHas a b n = refl
