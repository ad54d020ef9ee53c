-- The numbers of the classes of bytes.
use Rattle.std.specs.Prelude.{ℕ}
use Rattle.recognizer.specs.declared.classes.Class.{Class}
use Rattle.recognizer.specs.declared.classes.Class.TheVariants.{SymbolOpens, SymbolCloses, SymbolComma, SymbolEquals, SymbolBar, SymbolQuery, SymbolIndexOpens, SymbolIndexCloses, SymbolOne, SymbolTwo, SmallLetter, CapitalT, CapitalI, CapitalL, CapitalR, CapitalM, CapitalE, CapitalD, OtherCapital, Blank, OtherByte}

-- the number of a class among the classes, as class_of gives it of a byte
abbrev pub class_index : Class → ℕ
class_index SymbolOpens = 0
class_index SymbolCloses = 1
class_index SymbolComma = 2
class_index SymbolEquals = 3
class_index SymbolBar = 4
class_index SymbolQuery = 5
class_index SymbolIndexOpens = 6
class_index SymbolIndexCloses = 7
class_index SymbolOne = 8
class_index SymbolTwo = 9
class_index SmallLetter = 10
class_index CapitalT = 11
class_index CapitalI = 12
class_index CapitalL = 13
class_index CapitalR = 14
class_index CapitalM = 15
class_index CapitalE = 16
class_index CapitalD = 17
class_index OtherCapital = 18
class_index Blank = 19
class_index OtherByte = 20
