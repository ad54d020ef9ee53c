-- What is printed for an empty stimulus and an accepted sheet: a run of no cycles gives no outputs
-- and the sheet as it is.
-- Assumes nothing.
use Prim.Native.Nat.{ℕ}
use mathlib.Core.List.{List, [], ◌++◌, append-nil}
use mathlib.Core.Path.{◌≡◌, refl, sym, ap, ◌∙◌}
use native.Mathlib.Nat.{zero-div, zero-mul}
use lib.ListN.{length, replicate, length-replicate}
use Rattle.picoella.specs.Language.{leaves}
use Rattle.records.specs.Trees.{type_at}
use Rattle.answers.specs.Answers.{code}
use Rattle.answers.specs.Answers.{Done}
use Rattle.answers.specs.Answers.{Accepted}
use Rattle.verdict.specs.Verdict.{verdict}
use Rattle.stimulus.specs.Stimulus.{input_leaves}
use Rattle.behaviour.specs.Run.{answer, final_out, final_next, output_needed}
use Rattle.behaviour.proofs.ZeroCycles.{zero_cycles}
use Rattle.listing.specs.Digits.{digits}
use Rattle.listing.specs.Lines.{ascii, type_line, listing}
use Rattle.run_listing.specs.Printout.{output_record, run_answer, run_outputs, run_sheet, printed}
use Rattle.run_listing.specs.Promises.{EmptyListed}

-- no cycles: no line between the first and the last
none-listed : (t w : ℕ) → listing t w [] ≡ type_line t ++ ascii "cycles 0\n"
unfolding digits
none-listed t w = rw (zero-div w) (ap (λ (x : List ℕ). x ++ ascii "cycles 0\n") (append-nil (type_line t)))

module _ (s : List ℕ) (t : ℕ) (v : verdict s ≡ Accepted t) where
  abbrev lent : List ℕ
  lent = replicate (length s) 0

  given : (answer s [] [] lent ≡ Done 0) × (final_out s [] [] lent ≡ []) × (final_next s [] [] lent ≡ s)
  given = (zero_cycles s t v).done lent (length-replicate (length s) 0)

  none_needed : output_needed s (output_record s) [] ≡ 0
  none_needed = rw (zero-div (input_leaves s)) (zero-mul (leaves (type_at s (output_record s))))

  answered : run_answer s [] ≡ Done 0
  unfolding run_answer
  answered = rw none_needed given.0

  no-outputs : run_outputs s [] ≡ []
  unfolding run_outputs final_out
  no-outputs = sym (rw given.0 refl) ∙ given.1

  same-sheet : run_sheet s [] ≡ s
  unfolding run_sheet final_next
  same-sheet = sym (rw given.0 refl) ∙ given.2

  text : printed s [] ≡ type_line t ++ ascii "cycles 0\n"
  unfolding printed
  text = rw (answered, no-outputs, v) (none-listed t (leaves (type_at s t)))

pub empty_listed : EmptyListed
empty_listed s t v = record {
  answered = answered s t v;
  text = text s t v;
  next_sheet = same-sheet s t v;
  next_told = λ c p t' w many out' next' told.
      let z : c ≡ 0 = told.coded ∙ ap code (answered s t v) in
      (z, told.next z ∙ same-sheet s t v);
}
