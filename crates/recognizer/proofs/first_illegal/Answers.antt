-- What is left to read is what the machine has left to read.
-- Assumes nothing.
use native.Mathlib.Omega.{arith}
use mathlib.Core.Path.{sym, ◌∙◌}
use Rattle.recognizer.proofs.Loop.{left-at-first, byte-read, byte-refused, text-whole, text-unfinished, past-limit}
use Rattle.recognizer.proofs.first_illegal.Goals.{else-text-le-TEXT_BYTES-via-then-text-le-TEXT_BYTES+else-is_done, else-text-le-TEXT_BYTES-via-else-text-le-TEXT_BYTES}
use Rattle.recognizer.proofs.first_illegal.Goals as goal

pub loop-i-init : goal.loop-i-init
loop-i-init c = left-at-first _ c.new-machine.ensures

pub step-requires : goal.step-requires
step-requires c = let h = c.loop-i.invariant.1 in let l = c.loop-i-test.true in omega (arith, lib.ListN.length-take c.min.result c.args.text.now, c.min.ensures)

pub returns-then-not-step : goal.returns-then-not-step
returns-then-not-step c = byte-refused c.args.text.now c.min.ensures c.loop-i.invariant.0 c.loop-i-test.true c.step.ensures c.if-not-step.true

pub loop-i-preserved : goal.loop-i-preserved
loop-i-preserved c = (byte-read c.args.text.now c.min.ensures c.loop-i.invariant.0 c.loop-i-test.true c.step.ensures c.if-not-step.false, (let h = c.loop-i.invariant.1 in omega (arith, c.step.ensures.higher)))

pub returns-then-is_done : goal.returns-then-is_done
returns-then-is_done c = text-whole c.args.text.now c.min.ensures c.loop-i.invariant.0 c.loop-i-test.false c.if-text-le-TEXT_BYTES.true (sym c.is_done.ensures ∙ c.if-is_done.true)

pub returns-else-text-le-TEXT_BYTES : goal.returns-else-text-le-TEXT_BYTES
returns-else-text-le-TEXT_BYTES c = elim c.else-text-le-TEXT_BYTES.branch [ else-text-le-TEXT_BYTES-via-then-text-le-TEXT_BYTES+else-is_done w ↦ text-unfinished c.args.text.now c.min.ensures c.loop-i.invariant.0 c.loop-i-test.false w.if-text-le-TEXT_BYTES.true (sym w.is_done.ensures ∙ w.if-is_done.false) | else-text-le-TEXT_BYTES-via-else-text-le-TEXT_BYTES w ↦ past-limit c.args.text.now c.min.ensures c.loop-i.invariant.0 c.loop-i-test.false w.if-text-le-TEXT_BYTES.false ]
