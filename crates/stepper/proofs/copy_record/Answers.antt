-- Assumes nothing.
use mathlib.Core.Path.{sym}
use Rattle.stepper.proofs.Copies.{delay-first-leaf}
use Rattle.stepper.proofs.copy_record.Goals as goal

pub copy_chain-requires : goal.copy_chain-requires
copy_chain-requires c = let p = delay-first-leaf c.requires.0 _ c.requires.1 (sym c.in-Delay.ensures) c.word.ensures.0 in (c.requires.0, p.0, p.1)
