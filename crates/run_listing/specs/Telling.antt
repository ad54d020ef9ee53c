-- What is told of a run, as numbers: of one that is refused the code and the place, with lines of one leaf and no outputs, so that text can
-- be made of them in either case.
use Rattle.std.specs.Prelude.{ℕ, Result, Ok, Err}
use Rattle.answers.specs.declared.Refusal.{Refusal}
use Rattle.answers.specs.Results.{code_number}
use Rattle.run_listing.specs.declared.Listed.{Listed}

abbrev pub told_code : Result Listed Refusal → ℕ
told_code (Ok l) = 0
told_code (Err e) = code_number e.code

abbrev pub told_place : Result Listed Refusal → ℕ
told_place (Ok l) = l.cycles
told_place (Err e) = e.place

abbrev pub told_type : Result Listed Refusal → ℕ
told_type (Ok l) = l.output_type
told_type (Err e) = 0

abbrev pub told_width : Result Listed Refusal → ℕ
told_width (Ok l) = l.width
told_width (Err e) = 1

abbrev pub told_length : Result Listed Refusal → ℕ
told_length (Ok l) = l.length
told_length (Err e) = 0
