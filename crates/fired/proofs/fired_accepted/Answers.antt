-- Assumes nothing.
use mathlib.Core.Path.{refl, ◌∙◌}
use Rattle.accepted.proofs.Calls.{accepting, same-refusal}
use Rattle.fired.proofs.Telling.{told-input, told-length, telling, told-done}
use Rattle.fired.proofs.fired_accepted.Goals as goal

pub returns-in_err-check_one_cycle : goal.returns-in_err-check_one_cycle
returns-in_err-check_one_cycle c = rw (same-refusal _ _ c.from_residual.ensures.1) (told-input (accepting c.args.checked.now) c.args.checked.now.accepted c.args.stim.now c.args.words.now _ c.in_err-check_one_cycle.ensures _ _ refl)

pub returns-then-words-records : goal.returns-then-words-records
returns-then-words-records c = told-length (accepting c.args.checked.now) c.args.checked.now.accepted c.args.stim.now c.args.words.now _ c.in_ok-check_one_cycle.ensures _ refl _ c.records-records.ensures.counted c.if-words-records.true

pub tell_fired-requires : goal.tell_fired-requires
tell_fired-requires c = telling (accepting c.args.checked.now) c.args.checked.now.accepted c.args.stim.now c.args.words.now _ c.in_ok-check_one_cycle.ensures _ refl (c.if-words-records.false ∙ c.records-records.ensures.counted)

pub returns : goal.returns
returns c = told-done (accepting c.args.checked.now) c.args.checked.now.accepted c.args.stim.now c.args.words.now _ c.in_ok-check_one_cycle.ensures _ refl (c.if-words-records.false ∙ c.records-records.ensures.counted) _ c.tell_fired.ensures
