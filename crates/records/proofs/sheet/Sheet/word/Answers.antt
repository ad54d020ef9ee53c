-- A sheet has whole records, so both bytes are there. Assumes nothing.
use native.Mathlib.Omega.{arith}
use Prim.Native.Nat.{ℕ, ◌<◌}
use mathlib.Core.List.{List}
use Rattle.records.specs.Sized.{Sized}
use Rattle.records.specs.Words.{word, count}
use Rattle.records.proofs.sheet.Sheet.word.Goals as goal

-- what lies below the count lies below the number of records
in_count : {s : List ℕ} {n r : ℕ} → Sized s n → r < count s → r < n
in_count z h = rw z.counted h

pub offset-at-requires : goal.offset-at-requires
offset-at-requires c =
    let i = c.self.invariant in let f = i.few in let low : c.args.rec < c.self.inside.records = in_count i (rw c.self.view_is c.requires.0) in (omega arith, c.requires.1)

pub returns : goal.returns
unfolding word
returns c =
    (rw (← c.self.view_is, ← c.offset-at.ensures) (omega arith), omega arith)
