-- Assumes nothing.
use mathlib.Core.Path.{◌∙◌}
use Rattle.std.proofs.Common.{rules}
use Rattle.listing.proofs.Front.{bytes-once}
use Rattle.report.proofs.Telling.{told-reported, refused-reported, report-told}
use Rattle.report.proofs.tell_report.Goals as goal
use Rattle.report.proofs.tell_report.Goals.{in-Ok, in-Err}

pub returns : goal.returns
returns c =
    elim c.match-tell.branch [
      | in-Ok w ↦
          report-told w.put_report.new.text (search rules) (rw w.text-is at c.len.ensures)
          (bytes-once c.new-text.ensures w.put_report.ensures ∙ told-reported w.in-Ok.ensures)
      | in-Err w ↦
          report-told w.put_refused.new.self (search rules) (rw w.text-is at c.len.ensures)
          (bytes-once c.new-text.ensures (rw (w.number.ensures, w.from.ensures) at w.put_refused.ensures) ∙ refused-reported _ w.in-Err.ensures)
    ]
