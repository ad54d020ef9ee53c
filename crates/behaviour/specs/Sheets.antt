-- The sheet with other values in its delays (docs/SHEETS.md, "One cycle": "A delay's value is kept in its chain of leaves, the one that
-- starts at its word `b`: leaf by leaf in their words `a`. No other word changes."). Any term of the circuit's frame can be written,
-- not only what comes after a cycle.
use Rattle.std.specs.Prelude.{ℕ, List}
use Rattle.meaning.specs.Elaboration.{Term}
use Rattle.behaviour.specs.Delays.{entries}
use Rattle.behaviour.specs.Entries.{put_all, put_word}

-- the sheet whose delays hold what those of the term hold
unfoldable pub write : List ℕ → Term → List ℕ
write s t = put_all put_word (entries t) s
