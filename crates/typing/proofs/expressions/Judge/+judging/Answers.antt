-- The measure is the distance to the last record: parts have higher numbers. Each way out cites the law of its kind.
-- Assumes nothing.
use native.Mathlib.Omega.{arith}
use mathlib.Core.Path.{refl, sym, ◌∙◌}
use Rattle.std.proofs.lemmas.Result.{err_from_is_err_and}
use Rattle.records.specs.Kinds.{expression, tuple, let_in, feedback, if_matches, delay}
use Rattle.records.proofs.Table.{ask_of_kind}
use Rattle.typing.specs.Judging.{at_first, at_second}
use Rattle.typing.proofs.Outcomes.{passed}
use Rattle.typing.proofs.Readiness.{judging-written, judging-counted, ready-closing, part-ready, part-of-pair, part-word, body-ready, pattern-ready, typed-record, typed-word, leaves-there, room-for-name, small-record}
use Rattle.typing.proofs.TypedPatterns.{entry-fits}
use Rattle.typing.proofs.Judgings.{pair-first-faults, pair-second-faults, pair-closes, part-faults, part-closes, let-defining-faults, let-body-fault, let-closes, feedback-defining-faults, feedback-body-fault, feedback-closing, if-tested-faults, if-pattern-fault, if-then-fault, if-else-fault, if-closing, delay-part-faults, delay-leaves-faults, delay-closing}
use Rattle.typing.proofs.expressions.Judge.+judging.Goals as goal

pub expression-of_part-requires : goal.expression-of_part-requires
expression-of_part-requires t c =
    (omega (arith, c.decreases), (c.requires, at_first (sym c.in-First.ensures)))

pub expression-of_part-requires-in-Second : goal.expression-of_part-requires-in-Second
expression-of_part-requires-in-Second t c =
    (omega (arith, c.decreases), (c.requires, at_second (sym c.in-Second.ensures)))

pub expression-returns-in-Constant : goal.expression-returns-in-Constant
expression-returns-in-Constant t c =
    c.of_constant.ensures _

pub of_pair-expression-requires : goal.of_pair-expression-requires
of_pair-expression-requires t c =
    let p = part-ready c.requires.0 (expression tuple) c.requires.1 2 refl (unfold ask_of_kind in refl) _ c.word.ensures.0 c.args.widths.now (judging-counted c.requires.0) in
    let h = p.1.there in
    (omega (arith, c.decreases, p.0), p.1)

pub of_pair-returns-in_err-t : goal.of_pair-returns-in_err-t
of_pair-returns-in_err-t t c =
    let p = err_from_is_err_and c.from_residual.result c.from_residual.ensures.1 in
    rw (p.1, p.2)
    (pair-first-faults (judging-written c.requires.0) c.requires.0.there c.requires.1 _ _ c.word.ensures.0 refl _ _ _ c.in_err-t.ensures refl)

pub of_pair-expression-requires-2 : goal.of_pair-expression-requires-2
of_pair-expression-requires-2 t c =
    let p = part-ready c.requires.0 (expression tuple) c.requires.1 3 refl (unfold ask_of_kind in refl) _ c.word-2.ensures.0 c.expression.new.widths c.expression.ensures.counted in
    let h = p.1.there in
    (omega (arith, c.decreases, p.0), p.1)

pub of_pair-returns-in_err-u : goal.of_pair-returns-in_err-u
of_pair-returns-in_err-u t c =
    let p = err_from_is_err_and c.from_residual-in_err-u.result c.from_residual-in_err-u.ensures.1 in
    rw (p.1, p.2)
    (pair-second-faults (judging-written c.requires.0) c.requires.0.there c.requires.1 _ _ c.word.ensures.0 c.word-2.ensures.0 _ _ _ _ _ (passed _ c.in_ok-t.ensures refl) c.in_err-u.ensures refl)

pub of_pair-returns : goal.of_pair-returns
of_pair-returns t c =
    pair-closes (judging-written c.requires.0) c.requires.0.there c.requires.1 _ _ c.word.ensures.0 c.word-2.ensures.0 _ _ _ _ _ _ (passed _ c.in_ok-t.ensures refl) (passed _ c.in_ok-u.ensures refl) c.pair_type.ensures

pub of_part-expression-requires : goal.of_part-expression-requires
of_part-expression-requires t c =
    let p = part-of-pair c.requires.0 _ c.requires.1 _ c.word.ensures.0 c.args.widths.now (judging-counted c.requires.0) in
    let h = p.1.there in
    (omega (arith, c.decreases, p.0), p.1)

pub of_part-returns-in_err-t : goal.of_part-returns-in_err-t
of_part-returns-in_err-t t c =
    let p = err_from_is_err_and c.from_residual.result c.from_residual.ensures.1 in
    rw (p.1, p.2)
    (part-faults (judging-written c.requires.0) c.requires.0.there _ c.requires.1 _ c.word.ensures.0 _ _ _ c.in_err-t.ensures refl)

pub of_part-part_type-requires : goal.of_part-part_type-requires
of_part-part_type-requires t c =
    let k = part-word c.requires.1 in
    (ready-closing c.requires.0 c.expression.new.widths c.expression.ensures.counted, typed-record (part-of-pair c.requires.0 _ c.requires.1 _ c.word.ensures.0 c.args.widths.now (judging-counted c.requires.0)).1 _ _ _ (passed _ c.in_ok-t.ensures refl), k.0, k.1)

pub of_part-returns : goal.of_part-returns
of_part-returns t c =
    part-closes (judging-written c.requires.0) c.requires.0.there _ c.requires.1 _ c.word.ensures.0 _ _ _ _ (passed _ c.in_ok-t.ensures refl) c.part_type.ensures

pub of_let-expression-requires : goal.of_let-expression-requires
of_let-expression-requires t c =
    let p = part-ready c.requires.0 (expression let_in) c.requires.1 2 refl (unfold ask_of_kind in refl) _ c.word.ensures.0 c.args.widths.now (judging-counted c.requires.0) in
    let h = p.1.there in
    (omega (arith, c.decreases, p.0), p.1)

pub of_let-returns-in_err-t : goal.of_let-returns-in_err-t
of_let-returns-in_err-t t c =
    let p = err_from_is_err_and c.from_residual.result c.from_residual.ensures.1 in
    rw (p.1, p.2)
    (let-defining-faults (judging-written c.requires.0) c.requires.0.there c.requires.1 _ _ c.word.ensures.0 refl _ _ _ c.in_err-t.ensures refl)

pub of_let-with-inner-requires : goal.of_let-with-inner-requires
of_let-with-inner-requires t c =
    (room-for-name c.requires.0 (expression let_in) c.requires.1 3 refl (unfold ask_of_kind in refl) _ refl, small-record c.requires.0 _ (typed-record (part-ready c.requires.0 (expression let_in) c.requires.1 2 refl (unfold ask_of_kind in refl) _ c.word.ensures.0 c.args.widths.now (judging-counted c.requires.0)).1 _ _ _ (passed _ c.in_ok-t.ensures refl)))

pub of_let-expression-requires-2 : goal.of_let-expression-requires-2
of_let-expression-requires-2 t c =
    let p = body-ready c.requires.0 (expression let_in) c.requires.1 3 refl (unfold ask_of_kind in refl) _ c.word-2.ensures.0 _ c.expression.new.widths (typed-record (part-ready c.requires.0 (expression let_in) c.requires.1 2 refl (unfold ask_of_kind in refl) _ c.word.ensures.0 c.args.widths.now (judging-counted c.requires.0)).1 _ _ _ (passed _ c.in_ok-t.ensures refl)) c.expression.ensures.counted in
    let h = p.1.there in
    (omega (arith, c.decreases, p.0), rw c.with-inner.ensures p.1)

pub of_let-returns-in_err-u : goal.of_let-returns-in_err-u
of_let-returns-in_err-u t c =
    let p = err_from_is_err_and c.from_residual-in_err-u.result c.from_residual-in_err-u.ensures.1 in
    rw (p.1, p.2)
    (let-body-fault (judging-written c.requires.0) c.requires.0.there c.requires.1 _ _ c.word.ensures.0 c.word-2.ensures.0 _ _ _ _ _ _ c.with-inner.ensures (passed _ c.in_ok-t.ensures refl) c.in_err-u.ensures refl)

pub of_let-note-requires : goal.of_let-note-requires
of_let-note-requires t c =
    (ready-closing c.requires.0 c.expression-2.new.widths c.expression-2.ensures.counted, typed-record (body-ready c.requires.0 (expression let_in) c.requires.1 3 refl (unfold ask_of_kind in refl) _ c.word-2.ensures.0 _ c.expression.new.widths (typed-record (part-ready c.requires.0 (expression let_in) c.requires.1 2 refl (unfold ask_of_kind in refl) _ c.word.ensures.0 c.args.widths.now (judging-counted c.requires.0)).1 _ _ _ (passed _ c.in_ok-t.ensures refl)) c.expression.ensures.counted).1 _ _ _ (rw c.with-inner.ensures at (passed _ c.in_ok-u.ensures refl)))

pub of_let-returns : goal.of_let-returns
of_let-returns t c =
    let-closes (judging-written c.requires.0) c.requires.0.there c.requires.1 _ _ c.word.ensures.0 c.word-2.ensures.0 _ _ _ _ _ _ _ c.with-inner.ensures (passed _ c.in_ok-t.ensures refl) (passed _ c.in_ok-u.ensures refl) refl c.note.ensures.0 c.note.ensures.1

pub of_feedback-with-inner-requires : goal.of_feedback-with-inner-requires
of_feedback-with-inner-requires t c =
    (room-for-name c.requires.0 (expression feedback) c.requires.1 3 refl (unfold ask_of_kind in refl) _ refl, small-record c.requires.0 _ (typed-word (ready-closing c.requires.0 c.args.widths.now (judging-counted c.requires.0)) (expression feedback) c.requires.1 2 refl (unfold ask_of_kind in refl) _ c.word-t.ensures.0))

pub of_feedback-expression-requires : goal.of_feedback-expression-requires
of_feedback-expression-requires t c =
    let p = body-ready c.requires.0 (expression feedback) c.requires.1 3 refl (unfold ask_of_kind in refl) _ c.word.ensures.0 _ c.args.widths.now (typed-word (ready-closing c.requires.0 c.args.widths.now (judging-counted c.requires.0)) (expression feedback) c.requires.1 2 refl (unfold ask_of_kind in refl) _ c.word-t.ensures.0) (judging-counted c.requires.0) in
    let h = p.1.there in
    (omega (arith, c.decreases, p.0), rw c.with-inner.ensures p.1)

pub of_feedback-returns-in_err-defined : goal.of_feedback-returns-in_err-defined
of_feedback-returns-in_err-defined t c =
    let p = err_from_is_err_and c.from_residual.result c.from_residual.ensures.1 in
    rw (p.1, p.2)
    (feedback-defining-faults (judging-written c.requires.0) c.requires.0.there c.requires.1 _ _ _ c.word-t.ensures.0 c.word.ensures.0 refl _ c.with-inner.ensures _ _ _ c.in_err-defined.ensures refl)

pub of_feedback-expression-requires-2 : goal.of_feedback-expression-requires-2
of_feedback-expression-requires-2 t c =
    let p = body-ready c.requires.0 (expression feedback) c.requires.1 4 refl (unfold ask_of_kind in refl) _ c.word-2.ensures.0 _ c.expression.new.widths (typed-word (ready-closing c.requires.0 c.args.widths.now (judging-counted c.requires.0)) (expression feedback) c.requires.1 2 refl (unfold ask_of_kind in refl) _ c.word-t.ensures.0) c.expression.ensures.counted in
    let h = p.1.there in
    (omega (arith, c.decreases, p.0), rw c.with-inner.ensures p.1)

pub of_feedback-returns-in_err-u : goal.of_feedback-returns-in_err-u
of_feedback-returns-in_err-u t c =
    let p = err_from_is_err_and c.from_residual-in_err-u.result c.from_residual-in_err-u.ensures.1 in
    rw (p.1, p.2)
    (feedback-body-fault (judging-written c.requires.0) c.requires.0.there c.requires.1 _ _ _ c.word-t.ensures.0 c.word.ensures.0 c.word-2.ensures.0 _ c.with-inner.ensures _ _ _ _ _ (passed _ c.in_ok-defined.ensures refl) c.in_err-u.ensures refl)

pub of_feedback-same_type-requires : goal.of_feedback-same_type-requires
of_feedback-same_type-requires t c =
    (ready-closing c.requires.0 c.expression-2.new.widths c.expression-2.ensures.counted, typed-record (body-ready c.requires.0 (expression feedback) c.requires.1 4 refl (unfold ask_of_kind in refl) _ c.word-2.ensures.0 _ c.expression.new.widths (typed-word (ready-closing c.requires.0 c.args.widths.now (judging-counted c.requires.0)) (expression feedback) c.requires.1 2 refl (unfold ask_of_kind in refl) _ c.word-t.ensures.0) c.expression.ensures.counted).1 _ _ _ (rw c.with-inner.ensures at (passed _ c.in_ok-u.ensures refl)))

pub of_feedback-returns : goal.of_feedback-returns
of_feedback-returns t c =
    feedback-closing (judging-written c.requires.0) c.requires.0.there c.requires.1 _ _ _ c.word-t.ensures.0 c.word.ensures.0 c.word-2.ensures.0 _ c.with-inner.ensures _ _ _ _ _ _ (passed _ c.in_ok-defined.ensures refl) (passed _ c.in_ok-u.ensures refl) c.same_type.ensures

pub of_if-expression-requires : goal.of_if-expression-requires
of_if-expression-requires t c =
    let p = part-ready c.requires.0 (expression if_matches) c.requires.1 2 refl (unfold ask_of_kind in refl) _ c.word.ensures.0 c.args.widths.now (judging-counted c.requires.0) in
    let h = p.1.there in
    (omega (arith, c.decreases, p.0), p.1)

pub of_if-returns-in_err-t : goal.of_if-returns-in_err-t
of_if-returns-in_err-t t c =
    let p = err_from_is_err_and c.from_residual.result c.from_residual.ensures.1 in
    rw (p.1, p.2)
    (if-tested-faults (judging-written c.requires.0) c.requires.0.there c.requires.1 _ _ _ _ c.word.ensures.0 refl refl refl _ _ _ c.in_err-t.ensures refl)

pub of_if-fits-requires : goal.of_if-fits-requires
of_if-fits-requires t c =
    let f = (pattern-ready c.requires.0 _ _ (expression if_matches) c.requires.1 5 refl (unfold ask_of_kind in refl) c.word-2.ensures.0 (typed-record (part-ready c.requires.0 (expression if_matches) c.requires.1 2 refl (unfold ask_of_kind in refl) _ c.word.ensures.0 c.args.widths.now (judging-counted c.requires.0)).1 _ _ _ (passed _ c.in_ok-t.ensures refl))) in
    let few = c.requires.0.ground.sized.few in
    (omega (arith, f.there), c.args.self.now.tables.typed.long)

pub of_if-returns-in_err-require : goal.of_if-returns-in_err-require
of_if-returns-in_err-require t c =
    let p = err_from_is_err_and c.from_residual-in_err-require.result c.from_residual-in_err-require.ensures.1 in
    rw (p.1, p.2)
    (if-pattern-fault (judging-written c.requires.0) c.requires.0.there c.requires.1 _ _ _ _ c.word.ensures.0 c.word-2.ensures.0 refl refl _ _ _ (passed _ c.in_ok-t.ensures refl) _ (entry-fits (pattern-ready c.requires.0 _ _ (expression if_matches) c.requires.1 5 refl (unfold ask_of_kind in refl) c.word-2.ensures.0 (typed-record (part-ready c.requires.0 (expression if_matches) c.requires.1 2 refl (unfold ask_of_kind in refl) _ c.word.ensures.0 c.args.widths.now (judging-counted c.requires.0)).1 _ _ _ (passed _ c.in_ok-t.ensures refl))) c.args.self.now.tables.typed ∙ sym c.fits.ensures ∙ c.in_err-require.ensures.0) c.in_err-require.ensures.1 refl)

pub of_if-expression-requires-2 : goal.of_if-expression-requires-2
of_if-expression-requires-2 t c =
    let p = part-ready c.requires.0 (expression if_matches) c.requires.1 3 refl (unfold ask_of_kind in refl) _ c.word-3.ensures.0 c.expression.new.widths c.expression.ensures.counted in
    let h = p.1.there in
    (omega (arith, c.decreases, p.0), p.1)

pub of_if-returns-in_err-u : goal.of_if-returns-in_err-u
of_if-returns-in_err-u t c =
    let p = err_from_is_err_and c.from_residual-in_err-u.result c.from_residual-in_err-u.ensures.1 in
    rw (p.1, p.2)
    (if-then-fault (judging-written c.requires.0) c.requires.0.there c.requires.1 _ _ _ _ c.word.ensures.0 c.word-2.ensures.0 c.word-3.ensures.0 refl _ _ _ (passed _ c.in_ok-t.ensures refl) (entry-fits (pattern-ready c.requires.0 _ _ (expression if_matches) c.requires.1 5 refl (unfold ask_of_kind in refl) c.word-2.ensures.0 (typed-record (part-ready c.requires.0 (expression if_matches) c.requires.1 2 refl (unfold ask_of_kind in refl) _ c.word.ensures.0 c.args.widths.now (judging-counted c.requires.0)).1 _ _ _ (passed _ c.in_ok-t.ensures refl))) c.args.self.now.tables.typed ∙ sym c.fits.ensures ∙ c.in_ok-require.ensures) _ _ c.in_err-u.ensures refl)

pub of_if-expression-requires-3 : goal.of_if-expression-requires-3
of_if-expression-requires-3 t c =
    let p = part-ready c.requires.0 (expression if_matches) c.requires.1 4 refl (unfold ask_of_kind in refl) _ c.word-4.ensures.0 c.expression-2.new.widths c.expression-2.ensures.counted in
    let h = p.1.there in
    (omega (arith, c.decreases, p.0), p.1)

pub of_if-returns-in_err-v : goal.of_if-returns-in_err-v
of_if-returns-in_err-v t c =
    let p = err_from_is_err_and c.from_residual-in_err-v.result c.from_residual-in_err-v.ensures.1 in
    rw (p.1, p.2)
    (if-else-fault (judging-written c.requires.0) c.requires.0.there c.requires.1 _ _ _ _ c.word.ensures.0 c.word-2.ensures.0 c.word-3.ensures.0 c.word-4.ensures.0 _ _ _ (passed _ c.in_ok-t.ensures refl) (entry-fits (pattern-ready c.requires.0 _ _ (expression if_matches) c.requires.1 5 refl (unfold ask_of_kind in refl) c.word-2.ensures.0 (typed-record (part-ready c.requires.0 (expression if_matches) c.requires.1 2 refl (unfold ask_of_kind in refl) _ c.word.ensures.0 c.args.widths.now (judging-counted c.requires.0)).1 _ _ _ (passed _ c.in_ok-t.ensures refl))) c.args.self.now.tables.typed ∙ sym c.fits.ensures ∙ c.in_ok-require.ensures) _ _ (passed _ c.in_ok-u.ensures refl) _ _ c.in_err-v.ensures refl)

pub of_if-same_type-requires : goal.of_if-same_type-requires
of_if-same_type-requires t c =
    (ready-closing c.requires.0 c.expression-3.new.widths c.expression-3.ensures.counted, typed-record (part-ready c.requires.0 (expression if_matches) c.requires.1 3 refl (unfold ask_of_kind in refl) _ c.word-3.ensures.0 c.expression.new.widths c.expression.ensures.counted).1 _ _ _ (passed _ c.in_ok-u.ensures refl))

pub of_if-returns : goal.of_if-returns
of_if-returns t c =
    if-closing (judging-written c.requires.0) c.requires.0.there c.requires.1 _ _ _ _ c.word.ensures.0 c.word-2.ensures.0 c.word-3.ensures.0 c.word-4.ensures.0 _ _ _ (passed _ c.in_ok-t.ensures refl) (entry-fits (pattern-ready c.requires.0 _ _ (expression if_matches) c.requires.1 5 refl (unfold ask_of_kind in refl) c.word-2.ensures.0 (typed-record (part-ready c.requires.0 (expression if_matches) c.requires.1 2 refl (unfold ask_of_kind in refl) _ c.word.ensures.0 c.args.widths.now (judging-counted c.requires.0)).1 _ _ _ (passed _ c.in_ok-t.ensures refl))) c.args.self.now.tables.typed ∙ sym c.fits.ensures ∙ c.in_ok-require.ensures) _ _ (passed _ c.in_ok-u.ensures refl) _ _ _ (passed _ c.in_ok-v.ensures refl) c.same_type.ensures

pub of_delay-expression-requires : goal.of_delay-expression-requires
of_delay-expression-requires t c =
    let p = part-ready c.requires.0 (expression delay) c.requires.1 4 refl (unfold ask_of_kind in refl) _ c.word.ensures.0 c.args.widths.now (judging-counted c.requires.0) in
    let h = p.1.there in
    (omega (arith, c.decreases, p.0), p.1)

pub of_delay-returns-in_err-u : goal.of_delay-returns-in_err-u
of_delay-returns-in_err-u t c =
    let p = err_from_is_err_and c.from_residual.result c.from_residual.ensures.1 in
    rw (p.1, p.2)
    (delay-part-faults (judging-written c.requires.0) c.requires.0.there c.requires.1 _ _ _ c.word.ensures.0 refl refl _ _ _ c.in_err-u.ensures refl)

pub of_delay-leaves_fit-requires : goal.of_delay-leaves_fit-requires
of_delay-leaves_fit-requires t c =
    let l = leaves-there (ready-closing c.requires.0 c.args.widths.now (judging-counted c.requires.0)) (expression delay) c.requires.1 3 refl (unfold ask_of_kind in refl) _ c.word-2.ensures.0 in
    (c.requires.0.ground.passes, typed-word (ready-closing c.requires.0 c.args.widths.now (judging-counted c.requires.0)) (expression delay) c.requires.1 2 refl (unfold ask_of_kind in refl) _ c.word-t.ensures.0, l.0, l.1)

pub of_delay-returns-in_err-require : goal.of_delay-returns-in_err-require
of_delay-returns-in_err-require t c =
    let p = err_from_is_err_and c.from_residual-in_err-require.result c.from_residual-in_err-require.ensures.1 in
    rw (p.1, p.2)
    (delay-leaves-faults (judging-written c.requires.0) c.requires.0.there c.requires.1 _ _ _ c.word.ensures.0 c.word-t.ensures.0 c.word-2.ensures.0 _ _ _ _ (passed _ c.in_ok-u.ensures refl) (sym c.leaves_fit.ensures ∙ c.in_err-require.ensures.0) c.in_err-require.ensures.1 refl)

pub of_delay-same_type-requires : goal.of_delay-same_type-requires
of_delay-same_type-requires t c =
    (ready-closing c.requires.0 c.expression.new.widths c.expression.ensures.counted, typed-word (ready-closing c.requires.0 c.args.widths.now (judging-counted c.requires.0)) (expression delay) c.requires.1 2 refl (unfold ask_of_kind in refl) _ c.word-t.ensures.0)

pub of_delay-returns : goal.of_delay-returns
of_delay-returns t c =
    delay-closing (judging-written c.requires.0) c.requires.0.there c.requires.1 _ _ _ c.word.ensures.0 c.word-t.ensures.0 c.word-2.ensures.0 _ _ _ _ (passed _ c.in_ok-u.ensures refl) (sym c.leaves_fit.ensures ∙ c.in_ok-require.ensures) c.same_type.ensures
