-- What each function asks of its caller can be had: for sheet T on 1 2 1, after which it is T again. Its text in two pieces: the first to
-- the line of cycle 0, the second to the end.
-- Assumes nothing.
use Prim.Native.Nat.{ℕ, ◌≤◌}
use Rattle.std.specs.Prelude.{Some, None}
use mathlib.Core.List.{List, [], ◌∷◌, ◌++◌}
use mathlib.Core.Path.{◌≡◌, refl, sym}
use lib.Dec.{lit≤}
use lib.ListN.{length, take}
use Rattle.records.specs.Words.{word, count}
use Rattle.records.specs.Kinds.{row_of, kind_of, ask_of}
use Rattle.records.specs.Says.{well_said, namings}
use Rattle.records.specs.Trees.{type_within, type_at, pair_of, chain_within, chain, alternatives_within, alternatives, tree_within, tree_at, circuit}
use Rattle.meaning.specs.Undecided.{undecided_rule}
use Rattle.meaning.specs.Evaluation.{eval, next}
use Rattle.stimulus.specs.Stimulus.{cycles}
use Rattle.behaviour.specs.Bench.{toggle}
use Rattle.behaviour.specs.Terms.{circuit_term}
use Rattle.behaviour.specs.Sheets.{write}
use Rattle.behaviour.specs.Cycle.{output_by, after_by}
use Rattle.listing.specs.Digits.{digits}
use Rattle.listing.specs.Lines.{ascii, listing, refused_line}
use Rattle.answers.specs.Results.{code_number}
use Rattle.answers.specs.declared.Code.TheVariants.{WrongInput}
use Rattle.printing.specs.Pieces.{text_from}
use Rattle.printing.specs.PutLines.{text_after}
use Rattle.run_listing.specs.Printout.{printed, run_sheet}
use Rattle.run_listing.proofs.Witness.{toggle_listed}
use Rattle.rooms.specs.Rooms.{sheet_room}

stimulus : List ℕ
stimulus = 1 ∷ 2 ∷ 1 ∷ []

outputs : List ℕ
outputs = 2 ∷ 1 ∷ 1 ∷ []

write-next : toggle ≡ run_sheet toggle stimulus
unfolding stimulus run_sheet cycles circuit tree_at tree_within alternatives alternatives_within chain chain_within pair_of type_at type_within namings well_said ask_of kind_of row_of word count eval next undecided_rule circuit_term write output_by after_by
write-next = refl

keep-next : (length toggle ≤ length toggle) × (take (length toggle) toggle ≡ run_sheet toggle stimulus)
keep-next = (lit≤ tt, write-next)

write-first : printed toggle stimulus ≡ ascii "type 1\n0: 2\n" ++ text_after 1 outputs (Some 1)
unfolding stimulus outputs digits
write-first = toggle_listed.0

write-more : text_from 1 1 outputs ≡ ascii "1: 1\n2: 1\ncycles 3\n" ++ text_after 1 outputs None
unfolding outputs digits
write-more = refl

print-listing : listing 1 1 outputs ≡ printed toggle stimulus
unfolding stimulus outputs digits
print-listing = sym toggle_listed.0

write-line : ascii "refused 9 at 1\n" ≡ printed toggle (1 ∷ 3 ∷ [])
unfolding digits
write-line = sym toggle_listed.1

print-refusal : refused_line (code_number WrongInput) 1 ≡ printed toggle (1 ∷ 3 ∷ [])
unfolding digits
print-refusal = sym toggle_listed.1

run-files : length toggle ≤ sheet_room
run-files = lit≤ tt
