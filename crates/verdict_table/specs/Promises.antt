-- The table of verdicts, code by code: every row of it holds.
use Rattle.std.specs.Prelude.{map}
use Rattle.typing.specs.NameRows.{name_rows}
use Rattle.typing.specs.TypeRows.{type_rows}
use Rattle.typing.specs.PatternRows.{pattern_rows}
use Rattle.typing.specs.OrderRows.{order_rows}
use Rattle.verdict_table.specs.Rows.{by_typing, VerdictsHold}
use Rattle.verdict_table.specs.LengthRows.{length_rows}
use Rattle.verdict_table.specs.HeaderRows.{header_rows}
use Rattle.verdict_table.specs.WordRows.{word_rows}
use Rattle.verdict_table.specs.NumberingRows.{numbering_rows}
use Rattle.verdict_table.specs.NamingRows.{naming_rows}
use Rattle.verdict_table.specs.SharingRows.{sharing_rows}
use Rattle.verdict_table.specs.TypeRecordRows.{type_record_rows}
use Rattle.verdict_table.specs.DepthRows.{depth_rows}
use Rattle.verdict_table.specs.AcceptedRows.{accepted_rows}

abbrev pub TableHolds : Type 0
TableHolds =
    VerdictsHold length_rows
    × VerdictsHold header_rows
    × VerdictsHold word_rows
    × VerdictsHold numbering_rows
    × VerdictsHold naming_rows
    × VerdictsHold sharing_rows
    × VerdictsHold type_record_rows
    × VerdictsHold depth_rows
    × VerdictsHold (map by_typing name_rows)
    × VerdictsHold (map by_typing type_rows)
    × VerdictsHold (map by_typing pattern_rows)
    × VerdictsHold (map by_typing order_rows)
    × VerdictsHold accepted_rows
