-- A text as clauses see it. The bytes and what stands behind them are all of its buffer.
use Rattle.std.specs.Prelude.{length, take, drop}
use Rattle.listing.specs.Texts.{Written}
use Rattle.listing.specs.declared.Text.{Text}

abbrev pub written : Text → Written
written t = record { bytes = take t.len t.buffer.now; room = length t.buffer.now; rest = drop t.len t.buffer.now; lender = t.buffer.ghost_name }
