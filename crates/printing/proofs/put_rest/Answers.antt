-- Assumes nothing.
use Rattle.printing.proofs.Pieces.{lines-stop, lines_end}
use Rattle.printing.proofs.put_rest.Goals as goal

pub returns-then-left-lt-LINE_BYTES : goal.returns-then-left-lt-LINE_BYTES
returns-then-left-lt-LINE_BYTES c =
    let lines = rw c.from_cycle.ensures at c.put_lines.ensures in
    lines-stop c.args.outputs.leaves.now c.args.outputs.some c.requires.inside lines c.requires.room c.left.ensures c.if-left-lt-LINE_BYTES.true

pub returns : goal.returns
returns c =
    let lines = rw c.from_cycle.ensures at c.put_lines.ensures in
    lines_end c.args.outputs.leaves.now c.args.outputs.some c.requires.inside lines c.left.ensures c.if-left-lt-LINE_BYTES.false c.put_cycles.ensures
