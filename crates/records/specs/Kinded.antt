-- What the code's enums stand for: a kind its number and the kind of the table, a sort and an ask those of the table.
use Rattle.std.specs.Prelude.{ℕ, List}
use Rattle.records.specs.declared.kinds.Kind.{Kind}
use Rattle.records.specs.declared.kinds.Kind.TheVariants as Coded
use Rattle.records.specs.declared.kinds.Sort.{Sort}
use Rattle.records.specs.declared.kinds.Sort.TheVariants as Sorted
use Rattle.records.specs.declared.kinds.Ask.{Ask}
use Rattle.records.specs.declared.kinds.Ask.TheVariants as Asking
use Rattle.records.specs.Kinds as Table
use Rattle.records.specs.Kinds.{asks_in, row_of}

-- the numbers of docs/SHEETS.md, "Records"
abbrev pub kind_number : Kind → ℕ
kind_number Coded.Unknown = 0
kind_number Coded.Header = 1
kind_number Coded.FlatType = 16
kind_number Coded.PairType = 17
kind_number Coded.Constant = 32
kind_number Coded.Name = 33
kind_number Coded.Pair = 34
kind_number Coded.First = 35
kind_number Coded.Second = 36
kind_number Coded.Let = 37
kind_number Coded.Feedback = 38
kind_number Coded.If = 39
kind_number Coded.Delay = 40
kind_number Coded.WholePattern = 48
kind_number Coded.ConstructorPattern = 49
kind_number Coded.PairPattern = 50
kind_number Coded.Leaf = 64

abbrev pub kind_meant : Kind → Table.Kind
kind_meant Coded.Unknown = Table.unknown
kind_meant Coded.Header = Table.header
kind_meant Coded.FlatType = Table.type_of Table.flat
kind_meant Coded.PairType = Table.type_of Table.pair
kind_meant Coded.Constant = Table.expression Table.constant
kind_meant Coded.Name = Table.expression Table.name
kind_meant Coded.Pair = Table.expression Table.tuple
kind_meant Coded.First = Table.expression Table.first
kind_meant Coded.Second = Table.expression Table.second
kind_meant Coded.Let = Table.expression Table.let_in
kind_meant Coded.Feedback = Table.expression Table.feedback
kind_meant Coded.If = Table.expression Table.if_matches
kind_meant Coded.Delay = Table.expression Table.delay
kind_meant Coded.WholePattern = Table.pattern Table.whole
kind_meant Coded.ConstructorPattern = Table.pattern Table.constructor
kind_meant Coded.PairPattern = Table.pattern Table.parts
kind_meant Coded.Leaf = Table.leaf

abbrev pub sort_meant : Sort → Table.Sort
sort_meant Sorted.None = Table.no_sort
sort_meant Sorted.Headers = Table.headers
sort_meant Sorted.Types = Table.types
sort_meant Sorted.Expressions = Table.expressions
sort_meant Sorted.Patterns = Table.patterns
sort_meant Sorted.Leaves = Table.leafs

abbrev pub ask_meant : Ask → Table.Ask
ask_meant Asking.Zeroed = Table.zeroed
ask_meant (Asking.NextOf σ) = Table.next_of (sort_meant σ)
ask_meant (Asking.Part σ) = Table.part (sort_meant σ)
ask_meant Asking.AnyType = Table.any_type
ask_meant Asking.LowerType = Table.lower_type
ask_meant Asking.LowerFlat = Table.lower_flat
ask_meant Asking.ConstructorOf = Table.constructor_of
ask_meant Asking.Counted = Table.counted
ask_meant Asking.Byte = Table.byte
ask_meant Asking.Free = Table.free
ask_meant Asking.Total = Table.total
ask_meant Asking.Never = Table.never

-- what the words of a record of a kind ask, by the table's row of its number
unfoldable pub asks_of : Kind → List Table.Ask
unfolding row_of
asks_of k = asks_in (row_of (kind_number k))
