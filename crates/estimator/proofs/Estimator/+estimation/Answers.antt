-- The distance to the last record falls. Assumes nothing.
use native.Mathlib.Omega.{arith}
use mathlib.Core.Path.{refl, sym, ap, ◌∙◌}
use Rattle.records.specs.Kinded.{kind_meant}
use Rattle.values.proofs.LastKinds.{last-expression}
use Rattle.records.specs.Kinds.{tuple, first, second, let_in, if_matches}
use Rattle.records.proofs.Table.{ask_of_kind}
use Rattle.evaluator.proofs.Readiness.{ready-word, ready-there, ready-few, in-circuit, entry-there, part-higher}
use Rattle.evaluator.proofs.LentParts.{fits-room, first-scope, second-scope}
use Rattle.evaluator.proofs.LentNames.{defining-scope}
use Rattle.evaluator.proofs.LentBranches.{tested-scope}
use Rattle.estimator.proofs.SetReadiness.{few-for-sets}
use Rattle.estimator.proofs.SetParts.{set-pair-cut, set-pair-first-ready, set-pair-second-ready, set-pair-done, set-room-ready, set-first-inside, set-first-done, set-second-few, set-second-done}
use Rattle.estimator.proofs.SetNames.{set-let-room, set-let-ready, set-let-done}
use Rattle.estimator.proofs.SetBranches.{set-then-ready, set-else-fits, set-else-ready, set-as-long, set-pattern-matching, set-if-done, few-long}
use Rattle.estimator.proofs.SetHeld.{held-constant, held-delay, never-feedback}
use Rattle.estimator.proofs.Estimator.+estimation.Goals as goal

pub estimate-kind-requires : goal.estimate-kind-requires
estimate-kind-requires t c = ready-there c.requires.2.at_hand

pub estimate-of_leaves-requires : goal.estimate-of_leaves-requires
estimate-of_leaves-requires t c = ((_, _, c.requires.0, c.requires.1, c.requires.2), held-constant (sym c.in-Constant.ensures))

pub estimate-of_leaves-requires-in_default : goal.estimate-of_leaves-requires-in_default
estimate-of_leaves-requires-in_default t c = ((_, _, c.requires.0, c.requires.1, c.requires.2), held-delay (last-expression _ _ c.kind.ensures (in-circuit c.requires.2.at_hand c.requires.2.at_hand.scope).sort c.in_default.not-Constant c.in_default.not-Name c.in_default.not-Pair c.in_default.not-First c.in_default.not-Second c.in_default.not-Let (λ z. never-feedback c.requires.2 (sym c.kind.ensures ∙ ap kind_meant z)) c.in_default.not-If))

pub of_first-word-a-requires : goal.of_first-word-a-requires
of_first-word-a-requires t c = ready-word c.requires.0.2.at_hand (omega arith)

pub of_first-width-w-requires : goal.of_first-width-w-requires
of_first-width-w-requires t c = entry-there c.requires.0.2.at_hand first c.requires.1 2 refl (unfold ask_of_kind in refl) c.word-a.ensures.0

pub of_first-slice_bounds-whole-end : goal.of_first-slice_bounds-whole-end
of_first-slice_bounds-whole-end t c = fits-room c.requires.0.2.at_hand (first-scope c.requires.0.2.at_hand c.requires.1 c.word-a.ensures.0) c.width-w.ensures refl

pub of_first-estimate-requires : goal.of_first-estimate-requires
of_first-estimate-requires t c = let h = (part-higher c.requires.0.2.at_hand first c.requires.1 2 refl (unfold ask_of_kind in refl) c.word-a.ensures.0) in (omega (arith, c.decreases, h.0, h.1), (c.requires.0.0, c.requires.0.1, set-room-ready c.requires.0.2 (first-scope c.requires.0.2.at_hand c.requires.1 c.word-a.ensures.0) c.width-w.ensures refl))

pub of_first-slice_bounds-put-end : goal.of_first-slice_bounds-put-end
of_first-slice_bounds-put-end t c = set-first-inside c.requires.0.2 c.requires.1 c.word-a.ensures.0 c.width-w.ensures refl c.estimate.ensures

pub of_first-returns : goal.of_first-returns
of_first-returns t c = record { done = λ Γ ρ r. set-first-done r c.requires.1 c.word-a.ensures.0 c.width-w.ensures refl c.estimate.ensures c.put.ensures }

pub of_if-word-a-requires : goal.of_if-word-a-requires
of_if-word-a-requires t c = ready-word c.requires.0.2.at_hand (omega arith)

pub of_if-width-w-requires : goal.of_if-width-w-requires
of_if-width-w-requires t c = entry-there c.requires.0.2.at_hand if_matches c.requires.1 2 refl (unfold ask_of_kind in refl) c.word-a.ensures.0

pub of_if-slice_bounds-tested-end : goal.of_if-slice_bounds-tested-end
of_if-slice_bounds-tested-end t c = fits-room c.requires.0.2.at_hand (tested-scope c.requires.0.2.at_hand c.requires.1 c.word-a.ensures.0) c.width-w.ensures refl

pub of_if-estimate-requires : goal.of_if-estimate-requires
of_if-estimate-requires t c = let h = (part-higher c.requires.0.2.at_hand if_matches c.requires.1 2 refl (unfold ask_of_kind in refl) c.word-a.ensures.0) in (omega (arith, c.decreases, h.0, h.1), (c.requires.0.0, c.requires.0.1, set-room-ready c.requires.0.2 (tested-scope c.requires.0.2.at_hand c.requires.1 c.word-a.ensures.0) c.width-w.ensures refl))

pub of_if-word-b-requires : goal.of_if-word-b-requires
of_if-word-b-requires t c = ready-word c.requires.0.2.at_hand (omega arith)

pub of_if-estimate-requires-2 : goal.of_if-estimate-requires-2
of_if-estimate-requires-2 t c = let h = (part-higher c.requires.0.2.at_hand if_matches c.requires.1 3 refl (unfold ask_of_kind in refl) c.word-b.ensures.0) in (omega (arith, c.decreases, h.0, h.1), (c.requires.0.0, c.requires.0.1, set-then-ready c.requires.0.2 c.requires.1 c.word-a.ensures.0 c.word-b.ensures.0 refl refl c.width-w.ensures refl c.estimate.ensures))

pub of_if-word-other-requires : goal.of_if-word-other-requires
of_if-word-other-requires t c = ready-word c.requires.0.2.at_hand (omega arith)

pub of_if-slice_bounds-otherwise-end : goal.of_if-slice_bounds-otherwise-end
of_if-slice_bounds-otherwise-end t c = set-else-fits c.requires.0.2 c.requires.1 c.word-a.ensures.0 c.word-b.ensures.0 c.word-other.ensures.0 refl c.width-w.ensures refl c.estimate.ensures c.estimate-2.ensures refl

pub of_if-estimate-requires-3 : goal.of_if-estimate-requires-3
of_if-estimate-requires-3 t c = let h = (part-higher c.requires.0.2.at_hand if_matches c.requires.1 4 refl (unfold ask_of_kind in refl) c.word-other.ensures.0) in (omega (arith, c.decreases, h.0, h.1), (c.requires.0.0, c.requires.0.1, set-else-ready c.requires.0.2 c.requires.1 c.word-a.ensures.0 c.word-b.ensures.0 c.word-other.ensures.0 refl c.width-w.ensures refl c.estimate.ensures c.estimate-2.ensures refl))

pub of_if-word-p-requires : goal.of_if-word-p-requires
of_if-word-p-requires t c = ready-word c.requires.0.2.at_hand (omega arith)

pub of_if-choose-requires : goal.of_if-choose-requires
of_if-choose-requires t c = (set-pattern-matching c.requires.0.2 c.requires.1 c.word-a.ensures.0 c.word-b.ensures.0 c.word-other.ensures.0 c.word-p.ensures.0 c.width-w.ensures refl c.estimate.ensures c.estimate-2.ensures refl c.estimate-3.ensures, few-for-sets c.requires.0.2, set-as-long c.requires.0.2 c.requires.1 c.word-a.ensures.0 c.word-b.ensures.0 c.word-other.ensures.0 c.word-p.ensures.0 c.width-w.ensures refl c.estimate.ensures c.estimate-2.ensures refl c.estimate-3.ensures, few-long c.requires.0.2 c.requires.1 c.word-a.ensures.0 c.word-b.ensures.0 c.word-other.ensures.0 c.word-p.ensures.0 c.width-w.ensures refl c.estimate.ensures c.estimate-2.ensures refl c.estimate-3.ensures)

pub of_if-returns : goal.of_if-returns
of_if-returns t c = record { done = λ Γ ρ r. set-if-done r c.requires.1 c.word-a.ensures.0 c.word-b.ensures.0 c.word-other.ensures.0 c.word-p.ensures.0 c.width-w.ensures refl c.estimate.ensures c.estimate-2.ensures refl c.estimate-3.ensures c.choose.ensures }

pub of_let-word-a-requires : goal.of_let-word-a-requires
of_let-word-a-requires t c = ready-word c.requires.0.2.at_hand (omega arith)

pub of_let-width-w-requires : goal.of_let-width-w-requires
of_let-width-w-requires t c = entry-there c.requires.0.2.at_hand let_in c.requires.1 2 refl (unfold ask_of_kind in refl) c.word-a.ensures.0

pub of_let-slice_bounds-value-end : goal.of_let-slice_bounds-value-end
of_let-slice_bounds-value-end t c = fits-room c.requires.0.2.at_hand (defining-scope c.requires.0.2.at_hand c.requires.1 c.word-a.ensures.0) c.width-w.ensures refl

pub of_let-estimate-requires : goal.of_let-estimate-requires
of_let-estimate-requires t c = let h = (part-higher c.requires.0.2.at_hand let_in c.requires.1 2 refl (unfold ask_of_kind in refl) c.word-a.ensures.0) in (omega (arith, c.decreases, h.0, h.1), (c.requires.0.0, c.requires.0.1, set-room-ready c.requires.0.2 (defining-scope c.requires.0.2.at_hand c.requires.1 c.word-a.ensures.0) c.width-w.ensures refl))

pub of_let-enter_value-requires : goal.of_let-enter_value-requires
of_let-enter_value-requires t c = set-let-room c.requires.0.2 c.requires.1 c.word-a.ensures.0 refl c.width-w.ensures refl c.estimate.ensures

pub of_let-word-b-requires : goal.of_let-word-b-requires
of_let-word-b-requires t c = ready-word c.requires.0.2.at_hand (omega arith)

pub of_let-overflow_add-names : goal.of_let-overflow_add-names
of_let-overflow_add-names t c = let f = ready-few c.requires.0.2.at_hand in record { fits = omega arith }

pub of_let-estimate-requires-2 : goal.of_let-estimate-requires-2
of_let-estimate-requires-2 t c = let h = (part-higher c.requires.0.2.at_hand let_in c.requires.1 3 refl (unfold ask_of_kind in refl) c.word-b.ensures.0) in (omega (arith, c.decreases, h.0, h.1), (_, _, set-let-ready c.requires.0.2 c.requires.1 c.word-a.ensures.0 c.word-b.ensures.0 c.width-w.ensures refl c.estimate.ensures c.enter_value.ensures))

pub of_let-returns : goal.of_let-returns
of_let-returns t c = record { done = λ Γ ρ r. set-let-done r c.requires.1 c.word-a.ensures.0 c.word-b.ensures.0 c.width-w.ensures refl c.estimate.ensures c.enter_value.ensures c.estimate-2.ensures }

pub of_pair-word-a-requires : goal.of_pair-word-a-requires
of_pair-word-a-requires t c = ready-word c.requires.0.2.at_hand (omega arith)

pub of_pair-width-w-requires : goal.of_pair-width-w-requires
of_pair-width-w-requires t c = entry-there c.requires.0.2.at_hand tuple c.requires.1 2 refl (unfold ask_of_kind in refl) c.word-a.ensures.0

pub of_pair-slice_bounds-estimate-end : goal.of_pair-slice_bounds-estimate-end
of_pair-slice_bounds-estimate-end t c = set-pair-cut c.requires.0.2 c.requires.1 c.word-a.ensures.0 refl c.width-w.ensures

pub of_pair-estimate-requires : goal.of_pair-estimate-requires
of_pair-estimate-requires t c = let h = (part-higher c.requires.0.2.at_hand tuple c.requires.1 2 refl (unfold ask_of_kind in refl) c.word-a.ensures.0) in (omega (arith, c.decreases, h.0, h.1), (c.requires.0.0, c.requires.0.1, set-pair-first-ready c.requires.0.2 c.requires.1 c.word-a.ensures.0 refl c.width-w.ensures))

pub of_pair-word-b-requires : goal.of_pair-word-b-requires
of_pair-word-b-requires t c = ready-word c.requires.0.2.at_hand (omega arith)

pub of_pair-estimate-requires-2 : goal.of_pair-estimate-requires-2
of_pair-estimate-requires-2 t c = let h = (part-higher c.requires.0.2.at_hand tuple c.requires.1 3 refl (unfold ask_of_kind in refl) c.word-b.ensures.0) in (omega (arith, c.decreases, h.0, h.1), (c.requires.0.0, c.requires.0.1, set-pair-second-ready c.requires.0.2 c.requires.1 c.word-a.ensures.0 c.word-b.ensures.0 c.width-w.ensures c.estimate.ensures))

pub of_pair-returns : goal.of_pair-returns
of_pair-returns t c = record { done = λ Γ ρ r. set-pair-done r c.requires.1 c.word-a.ensures.0 c.word-b.ensures.0 c.width-w.ensures c.estimate.ensures c.estimate-2.ensures }

pub of_second-word-a-requires : goal.of_second-word-a-requires
of_second-word-a-requires t c = ready-word c.requires.0.2.at_hand (omega arith)

pub of_second-width-w-requires : goal.of_second-width-w-requires
of_second-width-w-requires t c = entry-there c.requires.0.2.at_hand second c.requires.1 2 refl (unfold ask_of_kind in refl) c.word-a.ensures.0

pub of_second-slice_bounds-whole-end : goal.of_second-slice_bounds-whole-end
of_second-slice_bounds-whole-end t c = fits-room c.requires.0.2.at_hand (second-scope c.requires.0.2.at_hand c.requires.1 c.word-a.ensures.0) c.width-w.ensures refl

pub of_second-estimate-requires : goal.of_second-estimate-requires
of_second-estimate-requires t c = let h = (part-higher c.requires.0.2.at_hand second c.requires.1 2 refl (unfold ask_of_kind in refl) c.word-a.ensures.0) in (omega (arith, c.decreases, h.0, h.1), (c.requires.0.0, c.requires.0.1, set-room-ready c.requires.0.2 (second-scope c.requires.0.2.at_hand c.requires.1 c.word-a.ensures.0) c.width-w.ensures refl))

pub of_second-overflow_sub-w : goal.of_second-overflow_sub-w
of_second-overflow_sub-w t c = set-second-few c.requires.0.2 c.requires.1 c.word-a.ensures.0 c.width-w.ensures refl c.estimate.ensures

pub of_second-returns : goal.of_second-returns
of_second-returns t c = record { done = λ Γ ρ r. set-second-done r c.requires.1 c.word-a.ensures.0 c.width-w.ensures refl c.estimate.ensures c.put.ensures }
