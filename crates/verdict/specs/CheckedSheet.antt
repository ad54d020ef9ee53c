-- The verdict that a checked sheet, or the fault in its place, stands for.
use Rattle.std.specs.Prelude.{Result, Ok, Err}
use Rattle.answers.specs.Answers.{Verdict, Accepted}
use Rattle.answers.specs.Results.{verdict_of}
use Rattle.answers.specs.declared.Fault.{Fault}
use Rattle.verdict.specs.declared.checked.Checked.{Checked}

abbrev pub checked_verdict : Result Checked Fault → Verdict
checked_verdict (Ok c) = Accepted c.output_type
checked_verdict (Err f) = verdict_of (Err f)
