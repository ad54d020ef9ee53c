-- A number built from the distance to the last record and the undefined leaves left falls.
-- Assumes nothing.
use borrow.Author.Rules.{rules}
use borrow.Author.Tests.{not-false, not-true}
use native.Mathlib.Omega.{arith}
use mathlib.Core.Path.{refl, sym}
use Rattle.records.specs.Kinds.{tuple, first, second, let_in, feedback, if_matches, delay}
use Rattle.records.proofs.Table.{ask_of_kind}
use Rattle.values.proofs.LastKinds.{last-expression}
use Rattle.evaluator.proofs.Wanted.{wanted-whole, wanted-value}
use Rattle.evaluator.proofs.Readiness.{ready-there, ready-word, ready-low, ready-few, in-circuit, entry-there, part-higher}
use Rattle.evaluator.proofs.LentParts.{fits-room}
use Rattle.evaluator.proofs.LentNames.{defining-scope}
use Rattle.evaluator.proofs.LentBranches.{tested-scope}
use Rattle.evaluator.proofs.Parts.{constant-chained, constant-done, pair-cut, pair-first-ready, pair-second-ready, pair-done, room-ready}
use Rattle.evaluator.proofs.Chains.{first-asked, first_done, second-narrow, second-asked, second-done, the-chain, end-there, end_low, to-few, end-part-ready, in-place-done, end-in-room, part-in-room, from-room-done}
use Rattle.evaluator.proofs.Names.{let-room, let-body-ready, let-done}
use Rattle.evaluator.proofs.Settling.{changed-settled, settled-whole, settle-few, settle-room, unchanged-settled, defined-settled, settled-ready, settling-again, fewer-undefined}
use Rattle.evaluator.proofs.Feedbacks.{feedback-fits, start-room, feedback-settling, few-undefined, feedback-body-ready, feedback-done}
use Rattle.evaluator.proofs.Branches.{delay-read, if-done, then_ready, else-fits, else-ready, as_long, pattern-matching, delay-held, delayed-ready, delay-chained, delay-done}
use Rattle.evaluator.proofs.Evaluator.+evaluation.Goals as goal

pub eval-kind-requires : goal.eval-kind-requires
eval-kind-requires t c = ready-there c.requires.1.at_hand

pub eval-word-requires : goal.eval-word-requires
eval-word-requires t c = ready-word c.requires.1.at_hand (omega arith)

pub eval-read_leaves-requires : goal.eval-read_leaves-requires
eval-read_leaves-requires t c = constant-chained c.requires.1 (sym c.in-Constant.ensures) c.word.ensures.0

pub eval-returns-in-Constant : goal.eval-returns-in-Constant
eval-returns-in-Constant t c = record { done = λ Γ r. constant-done r (sym c.in-Constant.ensures) c.word.ensures.0 c.read_leaves.ensures }

pub eval-of_delay-requires : goal.eval-of_delay-requires
eval-of_delay-requires t c = (omega (arith, c.decreases), (c.requires, last-expression _ _ c.kind.ensures (in-circuit c.requires.1.at_hand c.requires.1.at_hand.scope).sort c.in_default.not-Constant c.in_default.not-Name c.in_default.not-Pair c.in_default.not-First c.in_default.not-Second c.in_default.not-Let c.in_default.not-Feedback c.in_default.not-If))

pub eval_from-kind-requires : goal.eval_from-kind-requires
eval_from-kind-requires t c = let e = c.requires.1.evaluating.at_hand.sized.counted in let h = end-there c.requires.1 c.chain_end-end.ensures in omega arith

pub eval_from-copy_name_part-requires : goal.eval_from-copy_name_part-requires
eval_from-copy_name_part-requires t c = ((_, end-part-ready c.requires.1 c.chain_end-end.ensures), sym c.in-Name.ensures)

pub eval_from-returns-in-Name : goal.eval_from-returns-in-Name
eval_from-returns-in-Name t c = record { done = λ Γ g. in-place-done g c.chain_end-end.ensures (c.copy_name_part.ensures c.args.whole c.args.room.now.held c.args.room.now.fired) }

pub eval_from-bounds-self-end : goal.eval_from-bounds-self-end
eval_from-bounds-self-end t c = end_low c.requires.1 c.chain_end-end.ensures

pub eval_from-slice_bounds-value-end : goal.eval_from-slice_bounds-value-end
eval_from-slice_bounds-value-end t c = end-in-room c.requires.1 c.chain_end-end.ensures c.from-w.ensures refl

pub eval_from-eval_part-requires : goal.eval_from-eval_part-requires
eval_from-eval_part-requires t c = let k = (the-chain c.requires.1 c.chain_end-end.ensures).higher in let e = end-there c.requires.1 c.chain_end-end.ensures in (omega (arith, c.decreases, k, e), (_, room-ready c.requires.1.evaluating (the-chain c.requires.1 c.chain_end-end.ensures).scope c.from-w.ensures refl))

pub eval_from-overflow_add-end : goal.eval_from-overflow_add-end
eval_from-overflow_add-end t c = let f = to-few c.requires.1 c.chain_end-end.ensures in omega arith

pub eval_from-slice_bounds-put-end : goal.eval_from-slice_bounds-put-end
eval_from-slice_bounds-put-end t c = part-in-room c.requires.1 c.chain_end-end.ensures c.from-w.ensures refl c.eval_part.ensures

pub eval_from-returns : goal.eval_from-returns
eval_from-returns t c = record { done = λ Γ g. from-room-done g c.chain_end-end.ensures c.from-w.ensures refl c.eval_part.ensures c.put.ensures }

pub eval_part-kind-requires : goal.eval_part-kind-requires
eval_part-kind-requires t c = ready-there c.requires.1.at_hand

pub eval_part-word-requires : goal.eval_part-word-requires
eval_part-word-requires t c = ready-word c.requires.1.at_hand (omega arith)

pub eval_part-read_leaves-requires : goal.eval_part-read_leaves-requires
eval_part-read_leaves-requires t c = constant-chained c.requires.1 (sym c.in-Constant.ensures) c.word.ensures.0

pub eval_part-returns-in-Constant : goal.eval_part-returns-in-Constant
eval_part-returns-in-Constant t c = record { done = λ Γ r. constant-done r (sym c.in-Constant.ensures) c.word.ensures.0 c.read_leaves.ensures }

pub hold_settled-overflow_add-names : goal.hold_settled-overflow_add-names
hold_settled-overflow_add-names t c = let f = settle-few c.requires.2 in omega arith

pub hold_settled-eval_part-requires : goal.hold_settled-eval_part-requires
hold_settled-eval_part-requires t c = (omega (arith, c.decreases), (_, settled-ready c.requires.2 c.settle.ensures _ (search rules)))

pub of_delay-word-first-requires : goal.of_delay-word-first-requires
of_delay-word-first-requires t c = ready-word c.requires.0.1.at_hand (omega arith)

pub of_delay-read_leaves-requires : goal.of_delay-read_leaves-requires
of_delay-read_leaves-requires t c = delay-held c.requires.0.1 c.requires.1 c.word-first.ensures.0

pub of_delay-word-c-requires : goal.of_delay-word-c-requires
of_delay-word-c-requires t c = ready-word c.requires.0.1.at_hand (omega arith)

pub of_delay-eval_part-requires : goal.of_delay-eval_part-requires
of_delay-eval_part-requires t c = let h = (part-higher c.requires.0.1.at_hand delay c.requires.1 4 refl (unfold ask_of_kind in refl) c.word-c.ensures.0) in (omega (arith, c.decreases, h.0, h.1), (c.requires.0.0, delayed-ready c.requires.0.1 c.requires.1 c.word-first.ensures.0 c.word-c.ensures.0))

pub of_delay-hold_leaves-requires : goal.of_delay-hold_leaves-requires
of_delay-hold_leaves-requires t c = delay-chained c.requires.0.1 c.requires.1 c.word-first.ensures.0 c.word-c.ensures.0 c.eval_part.ensures

pub of_delay-read_leaves-requires-2 : goal.of_delay-read_leaves-requires-2
of_delay-read_leaves-requires-2 t c = delay-chained c.requires.0.1 c.requires.1 c.word-first.ensures.0 c.word-c.ensures.0 c.eval_part.ensures

pub of_delay-returns : goal.of_delay-returns
of_delay-returns t c = record { done = λ Γ r. delay-done r c.requires.1 c.word-first.ensures.0 c.word-c.ensures.0 (not-false _ c.if-not-whole.false-raw) c.eval_part.ensures c.hold_leaves.ensures c.read_leaves-2.ensures }

pub of_feedback-word-d-requires : goal.of_feedback-word-d-requires
of_feedback-word-d-requires t c = ready-word c.requires.0.1.at_hand (omega arith)

pub of_feedback-bounds-self-d : goal.of_feedback-bounds-self-d
of_feedback-bounds-self-d t c = entry-there c.requires.0.1.at_hand feedback c.requires.1 3 refl (unfold ask_of_kind in refl) c.word-d.ensures.0

pub of_feedback-slice_bounds-enter_value-end-2 : goal.of_feedback-slice_bounds-enter_value-end-2
of_feedback-slice_bounds-enter_value-end-2 t c = feedback-fits c.requires.0.1 c.requires.1 c.word-d.ensures.0 refl c.from-w.ensures refl

pub of_feedback-enter_value-requires : goal.of_feedback-enter_value-requires
of_feedback-enter_value-requires t c = start-room c.requires.0.1 c.requires.1 c.word-d.ensures.0 refl c.from-w.ensures refl

pub of_feedback-hold_settled-requires : goal.of_feedback-hold_settled-requires
of_feedback-hold_settled-requires t c = let h = (part-higher c.requires.0.1.at_hand feedback c.requires.1 3 refl (unfold ask_of_kind in refl) c.word-d.ensures.0) in let z = few-undefined c.requires.0.1 c.requires.1 c.word-d.ensures.0 refl c.from-w.ensures refl c.enter_value.ensures in (omega (arith, c.decreases, h.0, h.1), (_, _, feedback-settling c.requires.0.1 c.requires.1 c.word-d.ensures.0 refl c.from-w.ensures refl c.enter_value.ensures))

pub of_feedback-word-b-requires : goal.of_feedback-word-b-requires
of_feedback-word-b-requires t c = ready-word c.requires.0.1.at_hand (omega arith)

pub of_feedback-overflow_add-names : goal.of_feedback-overflow_add-names
of_feedback-overflow_add-names t c = let f = ready-few c.requires.0.1.at_hand in omega arith

pub of_feedback-eval_part-requires : goal.of_feedback-eval_part-requires
of_feedback-eval_part-requires t c = let h = (part-higher c.requires.0.1.at_hand feedback c.requires.1 4 refl (unfold ask_of_kind in refl) c.word-b.ensures.0) in (omega (arith, c.decreases, h.0, h.1), (_, feedback-body-ready c.requires.0.1 c.requires.1 c.word-d.ensures.0 c.word-b.ensures.0 c.from-w.ensures refl c.enter_value.ensures c.hold_settled.ensures))

pub of_feedback-returns : goal.of_feedback-returns
of_feedback-returns t c = record { done = λ Γ r. feedback-done r c.requires.1 c.word-d.ensures.0 c.word-b.ensures.0 c.from-w.ensures refl c.enter_value.ensures c.hold_settled.ensures c.eval_part.ensures }

pub of_first-word-a-requires : goal.of_first-word-a-requires
of_first-word-a-requires t c = ready-word c.requires.0.1.at_hand (omega arith)

pub of_first-eval_from-requires : goal.of_first-eval_from-requires
of_first-eval_from-requires t c = let h = (part-higher c.requires.0.1.at_hand first c.requires.1 2 refl (unfold ask_of_kind in refl) c.word-a.ensures.0) in (omega (arith, c.decreases, h.0, h.1), (c.requires.0.0, first-asked c.requires.0.1 c.requires.1 c.word-a.ensures.0))

pub of_first-returns : goal.of_first-returns
of_first-returns t c = record { done = λ Γ r. first_done r c.requires.1 c.word-a.ensures.0 c.eval_from.ensures }

pub of_if-word-a-requires : goal.of_if-word-a-requires
of_if-word-a-requires t c = ready-word c.requires.0.1.at_hand (omega arith)

pub of_if-bounds-self-a : goal.of_if-bounds-self-a
of_if-bounds-self-a t c = entry-there c.requires.0.1.at_hand if_matches c.requires.1 2 refl (unfold ask_of_kind in refl) c.word-a.ensures.0

pub of_if-slice_bounds-tested-end : goal.of_if-slice_bounds-tested-end
of_if-slice_bounds-tested-end t c = fits-room c.requires.0.1.at_hand (tested-scope c.requires.0.1.at_hand c.requires.1 c.word-a.ensures.0) c.from-w.ensures refl

pub of_if-eval_part-requires : goal.of_if-eval_part-requires
of_if-eval_part-requires t c = let h = (part-higher c.requires.0.1.at_hand if_matches c.requires.1 2 refl (unfold ask_of_kind in refl) c.word-a.ensures.0) in (omega (arith, c.decreases, h.0, h.1), (c.requires.0.0, room-ready c.requires.0.1 (tested-scope c.requires.0.1.at_hand c.requires.1 c.word-a.ensures.0) c.from-w.ensures refl))

pub of_if-word-b-requires : goal.of_if-word-b-requires
of_if-word-b-requires t c = ready-word c.requires.0.1.at_hand (omega arith)

pub of_if-eval_part-requires-2 : goal.of_if-eval_part-requires-2
of_if-eval_part-requires-2 t c = let h = (part-higher c.requires.0.1.at_hand if_matches c.requires.1 3 refl (unfold ask_of_kind in refl) c.word-b.ensures.0) in (omega (arith, c.decreases, h.0, h.1), (c.requires.0.0, then_ready c.requires.0.1 c.requires.1 c.word-a.ensures.0 c.word-b.ensures.0 refl refl c.from-w.ensures refl c.eval_part.ensures))

pub of_if-word-other-requires : goal.of_if-word-other-requires
of_if-word-other-requires t c = ready-word c.requires.0.1.at_hand (omega arith)

pub of_if-slice_bounds-otherwise-end : goal.of_if-slice_bounds-otherwise-end
of_if-slice_bounds-otherwise-end t c = else-fits c.requires.0.1 c.requires.1 c.word-a.ensures.0 c.word-b.ensures.0 c.word-other.ensures.0 refl c.from-w.ensures refl c.eval_part.ensures c.eval_part-2.ensures refl

pub of_if-eval_part-requires-3 : goal.of_if-eval_part-requires-3
of_if-eval_part-requires-3 t c = let h = (part-higher c.requires.0.1.at_hand if_matches c.requires.1 4 refl (unfold ask_of_kind in refl) c.word-other.ensures.0) in (omega (arith, c.decreases, h.0, h.1), (c.requires.0.0, else-ready c.requires.0.1 c.requires.1 c.word-a.ensures.0 c.word-b.ensures.0 c.word-other.ensures.0 refl c.from-w.ensures refl c.eval_part.ensures c.eval_part-2.ensures refl))

pub of_if-word-p-requires : goal.of_if-word-p-requires
of_if-word-p-requires t c = ready-word c.requires.0.1.at_hand (omega arith)

pub of_if-choose_value-fired-requires : goal.of_if-choose_value-fired-requires
of_if-choose_value-fired-requires t c = (pattern-matching c.requires.0.1 c.requires.1 c.word-a.ensures.0 c.word-b.ensures.0 c.word-other.ensures.0 c.word-p.ensures.0 c.from-w.ensures refl c.eval_part.ensures c.eval_part-2.ensures refl c.eval_part-3.ensures, as_long c.requires.0.1 c.requires.1 c.word-a.ensures.0 c.word-b.ensures.0 c.word-other.ensures.0 c.word-p.ensures.0 c.from-w.ensures refl c.eval_part.ensures c.eval_part-2.ensures refl c.eval_part-3.ensures)

pub of_if-offset_bounds-room-rec : goal.of_if-offset_bounds-room-rec
of_if-offset_bounds-room-rec t c = let h = ready-low c.requires.0.1.at_hand in omega arith

pub of_if-bounds-room-rec : goal.of_if-bounds-room-rec
of_if-bounds-room-rec t c = ready-low c.requires.0.1.at_hand

pub of_let-word-a-requires : goal.of_let-word-a-requires
of_let-word-a-requires t c = ready-word c.requires.0.1.at_hand (omega arith)

pub of_let-bounds-self-a : goal.of_let-bounds-self-a
of_let-bounds-self-a t c = entry-there c.requires.0.1.at_hand let_in c.requires.1 2 refl (unfold ask_of_kind in refl) c.word-a.ensures.0

pub of_let-slice_bounds-value-end : goal.of_let-slice_bounds-value-end
of_let-slice_bounds-value-end t c = fits-room c.requires.0.1.at_hand (defining-scope c.requires.0.1.at_hand c.requires.1 c.word-a.ensures.0) c.from-w.ensures refl

pub of_let-eval_part-requires : goal.of_let-eval_part-requires
of_let-eval_part-requires t c = let h = (part-higher c.requires.0.1.at_hand let_in c.requires.1 2 refl (unfold ask_of_kind in refl) c.word-a.ensures.0) in (omega (arith, c.decreases, h.0, h.1), (c.requires.0.0, room-ready c.requires.0.1 (defining-scope c.requires.0.1.at_hand c.requires.1 c.word-a.ensures.0) c.from-w.ensures refl))

pub of_let-enter_value-requires : goal.of_let-enter_value-requires
of_let-enter_value-requires t c = let-room c.requires.0.1 c.requires.1 c.word-a.ensures.0 refl c.from-w.ensures refl c.eval_part.ensures

pub of_let-word-b-requires : goal.of_let-word-b-requires
of_let-word-b-requires t c = ready-word c.requires.0.1.at_hand (omega arith)

pub of_let-overflow_add-names : goal.of_let-overflow_add-names
of_let-overflow_add-names t c = let f = ready-few c.requires.0.1.at_hand in omega arith

pub of_let-eval_part-requires-2 : goal.of_let-eval_part-requires-2
of_let-eval_part-requires-2 t c = let h = (part-higher c.requires.0.1.at_hand let_in c.requires.1 3 refl (unfold ask_of_kind in refl) c.word-b.ensures.0) in (omega (arith, c.decreases, h.0, h.1), (_, let-body-ready c.requires.0.1 c.requires.1 c.word-a.ensures.0 c.word-b.ensures.0 c.from-w.ensures refl c.eval_part.ensures c.enter_value.ensures))

pub of_let-returns : goal.of_let-returns
of_let-returns t c = record { done = λ Γ r. let-done r c.requires.1 c.word-a.ensures.0 c.word-b.ensures.0 c.from-w.ensures refl c.eval_part.ensures c.enter_value.ensures c.eval_part-2.ensures }

pub of_pair-word-left-requires : goal.of_pair-word-left-requires
of_pair-word-left-requires t c = ready-word c.requires.0.1.at_hand (omega arith)

pub of_pair-bounds-self-left : goal.of_pair-bounds-self-left
of_pair-bounds-self-left t c = entry-there c.requires.0.1.at_hand tuple c.requires.1 2 refl (unfold ask_of_kind in refl) c.word-left.ensures.0

pub of_pair-slice_bounds-eval_part-end : goal.of_pair-slice_bounds-eval_part-end
of_pair-slice_bounds-eval_part-end t c = pair-cut c.requires.0.1 c.requires.1 c.word-left.ensures.0 refl c.from-w.ensures

pub of_pair-eval_part-requires : goal.of_pair-eval_part-requires
of_pair-eval_part-requires t c = let h = (part-higher c.requires.0.1.at_hand tuple c.requires.1 2 refl (unfold ask_of_kind in refl) c.word-left.ensures.0) in (omega (arith, c.decreases, h.0, h.1), (c.requires.0.0, pair-first-ready c.requires.0.1 c.requires.1 c.word-left.ensures.0 refl c.from-w.ensures))

pub of_pair-word-right-requires : goal.of_pair-word-right-requires
of_pair-word-right-requires t c = ready-word c.requires.0.1.at_hand (omega arith)

pub of_pair-eval_part-requires-2 : goal.of_pair-eval_part-requires-2
of_pair-eval_part-requires-2 t c = let h = (part-higher c.requires.0.1.at_hand tuple c.requires.1 3 refl (unfold ask_of_kind in refl) c.word-right.ensures.0) in (omega (arith, c.decreases, h.0, h.1), (c.requires.0.0, pair-second-ready c.requires.0.1 c.requires.1 c.word-left.ensures.0 c.word-right.ensures.0 c.from-w.ensures c.eval_part.ensures))

pub of_pair-returns : goal.of_pair-returns
of_pair-returns t c = record { done = λ Γ r. pair-done r c.requires.1 c.word-left.ensures.0 c.word-right.ensures.0 c.from-w.ensures c.eval_part.ensures c.eval_part-2.ensures }

pub of_second-word-a-requires : goal.of_second-word-a-requires
of_second-word-a-requires t c = ready-word c.requires.0.1.at_hand (omega arith)

pub of_second-bounds-self-a : goal.of_second-bounds-self-a
of_second-bounds-self-a t c = entry-there c.requires.0.1.at_hand second c.requires.1 2 refl (unfold ask_of_kind in refl) c.word-a.ensures.0

pub of_second-bounds-self-rec : goal.of_second-bounds-self-rec
of_second-bounds-self-rec t c = ready-low c.requires.0.1.at_hand

pub of_second-overflow_sub-from : goal.of_second-overflow_sub-from
of_second-overflow_sub-from t c = rw (c.from.ensures, c.from-2.ensures) (second-narrow c.requires.0.1 c.requires.1 c.word-a.ensures.0)

pub of_second-eval_from-requires : goal.of_second-eval_from-requires
of_second-eval_from-requires t c = let h = (part-higher c.requires.0.1.at_hand second c.requires.1 2 refl (unfold ask_of_kind in refl) c.word-a.ensures.0) in (omega (arith, c.decreases, h.0, h.1), (c.requires.0.0, second-asked c.requires.0.1 c.requires.1 c.word-a.ensures.0 (rw (c.from.ensures, c.from-2.ensures) refl)))

pub of_second-returns : goal.of_second-returns
of_second-returns t c = record { done = λ Γ r. second-done r c.requires.1 c.word-a.ensures.0 (rw (c.from.ensures, c.from-2.ensures) refl) c.eval_from.ensures }

pub settle-overflow_add-names : goal.settle-overflow_add-names
settle-overflow_add-names t c = let f = settle-few c.requires.2 in omega arith

pub settle-stands_at-requires : goal.settle-stands_at-requires
settle-stands_at-requires t c = settle-room c.requires.2 c.eval_part.ensures

pub settle-returns-then-stands_at : goal.settle-returns-then-stands_at
settle-returns-then-stands_at t c = record { settled = λ t Γ g. unchanged-settled g c.eval_part.ensures c.stands_at.ensures c.if-stands_at.true }

pub settle-enter_value-requires : goal.settle-enter_value-requires
settle-enter_value-requires t c = settle-room c.requires.2 c.eval_part.ensures

pub settle-returns-then-all_defined : goal.settle-returns-then-all_defined
settle-returns-then-all_defined t c = record { settled = λ t Γ g. defined-settled g c.eval_part.ensures c.stands_at.ensures c.if-stands_at.false c.enter_value.ensures c.all_defined.ensures c.if-all_defined.true }

pub settle-settle-requires : goal.settle-settle-requires
settle-settle-requires t c = let h = fewer-undefined c.requires.2 c.eval_part.ensures c.stands_at.ensures c.if-stands_at.false c.enter_value.ensures in (omega (arith, c.decreases, h), (_, _, settling-again c.requires.2 c.eval_part.ensures c.stands_at.ensures c.if-stands_at.false c.enter_value.ensures))

pub hold_settled-returns-then-whole : goal.hold_settled-returns-then-whole
hold_settled-returns-then-whole t c = record { settled = λ t Γ g. settled-whole g c.settle.ensures c.if-whole.true (search rules) c.eval_part.ensures }

pub of_delay-returns-then-not-whole : goal.of_delay-returns-then-not-whole
of_delay-returns-then-not-whole t c = record { done = λ Γ r. delay-read r c.requires.1 c.word-first.ensures.0 (not-true _ c.if-not-whole.true-raw) c.read_leaves.ensures }

pub of_if-returns-then-whole : goal.of_if-returns-then-whole
of_if-returns-then-whole t c = record { done = λ Γ r. if-done r c.requires.1 c.word-a.ensures.0 c.word-b.ensures.0 c.word-other.ensures.0 c.word-p.ensures.0 c.from-w.ensures refl c.eval_part.ensures c.eval_part-2.ensures refl c.eval_part-3.ensures c.choose_value-fired.ensures (wanted-whole c.if-whole.true (rw c.unwrap_or.ensures refl)) }

pub of_if-returns-else-whole : goal.of_if-returns-else-whole
of_if-returns-else-whole t c = record { done = λ Γ r. if-done r c.requires.1 c.word-a.ensures.0 c.word-b.ensures.0 c.word-other.ensures.0 c.word-p.ensures.0 c.from-w.ensures refl c.eval_part.ensures c.eval_part-2.ensures refl c.eval_part-3.ensures c.choose_value-fired.ensures (wanted-value c.if-whole.false) }

pub settle-returns : goal.settle-returns
settle-returns t c = record { settled = λ t Γ g. changed-settled g c.eval_part.ensures c.stands_at.ensures c.if-stands_at.false c.enter_value.ensures c.settle.ensures }
