-- What the results of the code stand for: a code its number, a result the answer of a call, and the check's result a verdict.
use Rattle.std.specs.Prelude.{ℕ, Result, Ok, Err}
use Rattle.answers.specs.declared.Code.{Code}
use Rattle.answers.specs.declared.Code.TheVariants as Coded
use Rattle.answers.specs.declared.Refusal.{Refusal}
use Rattle.answers.specs.declared.Fault.{Fault}
use Rattle.answers.specs.declared.Fault.TheVariants as Faulty
use Rattle.answers.specs.Answers.{Answer, Done, Refused, Verdict, Accepted, WrongLength, WrongHeader, WrongRecord, WrongNaming, WrongType, TooDeep, IllTyped}

-- the numbers of docs/SHEETS.md, "Codes"
abbrev pub code_number : Code → ℕ
code_number Coded.SheetLength = 1
code_number Coded.SheetHeader = 2
code_number Coded.SheetRecord = 3
code_number Coded.SheetNaming = 4
code_number Coded.SheetType = 5
code_number Coded.SheetDepth = 6
code_number Coded.SheetTyping = 7
code_number Coded.WrongStimulus = 8
code_number Coded.WrongInput = 9
code_number Coded.WrongOutputLength = 10
code_number Coded.WrongNextLength = 11
code_number Coded.NoFile = 12
code_number Coded.WrongText = 13
code_number Coded.WrongName = 14
code_number Coded.NoRoom = 15
code_number Coded.WrongWords = 16
code_number Coded.WrongRecordedLength = 17
code_number Coded.NewSheetRefused = 18
code_number Coded.LabelTwice = 19
code_number Coded.TooManyInputs = 20
code_number Coded.NoOutputLeaf = 21
code_number Coded.NotForSets = 22

-- the refusal of a fault
abbrev pub refusal_of : Fault → Refusal
refusal_of Faulty.WrongLength = record { code = Coded.SheetLength; place = 0 }
refusal_of Faulty.WrongHeader = record { code = Coded.SheetHeader; place = 0 }
refusal_of (Faulty.WrongRecord r) = record { code = Coded.SheetRecord; place = r }
refusal_of (Faulty.WrongNaming r) = record { code = Coded.SheetNaming; place = r }
refusal_of (Faulty.WrongType r) = record { code = Coded.SheetType; place = r }
refusal_of (Faulty.TooDeep r) = record { code = Coded.SheetDepth; place = r }
refusal_of (Faulty.IllTyped r) = record { code = Coded.SheetTyping; place = r }

-- the answer of a call
abbrev pub answer_of : Result ℕ Refusal → Answer
answer_of (Ok p) = Done p
answer_of (Err r) = Refused (code_number r.code) r.place

-- the verdict of the check
abbrev pub verdict_of : Result ℕ Fault → Verdict
verdict_of (Ok t) = Accepted t
verdict_of (Err Faulty.WrongLength) = WrongLength
verdict_of (Err Faulty.WrongHeader) = WrongHeader
verdict_of (Err (Faulty.WrongRecord r)) = WrongRecord r
verdict_of (Err (Faulty.WrongNaming r)) = WrongNaming r
verdict_of (Err (Faulty.WrongType r)) = WrongType r
verdict_of (Err (Faulty.TooDeep r)) = TooDeep r
verdict_of (Err (Faulty.IllTyped r)) = IllTyped r
