-- The abstract text: what a text says, with its names as they are written. A name carries the place of its first byte, and the pair of a
-- constant that of its bracket: by these the later checks tell where a text breaks a rule.
use Rattle.std.specs.Prelude.{ℕ, List}

pub data Identifier : Type 0 where
  identifier : (letters : List ℕ) (place : ℕ) → Identifier

-- TYPE a = b | c IN, and TYPE a = (b, c) IN
pub data Declaration : Type 0 where
  Constructors : (type : Identifier) (first : Identifier) (others : List Identifier) → Declaration
  PairOf : (type first second : Identifier) → Declaration

-- the constant of a DELAY
pub data SourceConstant : Type 0 where
  OfConstructor : Identifier → SourceConstant
  Undefined : (type : Identifier) → SourceConstant
  ConstantPair : (place : ℕ) → SourceConstant → SourceConstant → SourceConstant

-- a name, a pair of patterns, one pattern or another
pub data SourcePattern : Type 0 where
  Alone : Identifier → SourcePattern
  PatternPair : SourcePattern → SourcePattern → SourcePattern
  Either : SourcePattern → SourcePattern → SourcePattern

pub data Expression : Type 0 where
  NameUse : Identifier → Expression
  UndefinedOf : (type : Identifier) → Expression
  PairExpression : Expression → Expression → Expression
  FirstOf : Expression → Expression
  SecondOf : Expression → Expression
  LetExpression : Identifier → Expression → Expression → Expression
  LetRecExpression : (type : Identifier) → Identifier → Expression → Expression → Expression
  IfExpression : Expression → SourcePattern → Expression → Expression → Expression
  DelayExpression : SourceConstant → Expression → Expression

-- the declarations, of which there is a first, the input's type, and the expression
pub data Text : Type 0 where
  text : (first : Declaration) (others : List Declaration) (input : Identifier) → Expression → Text
