-- One term of each promise of the front page, `specs/Promises.antt`; the theorems stand in the files beside this one. A promise
-- without a term is refused here.
-- Assumes nothing.
use mathlib.Core.Path.{◌∙◌, ap}
use Rattle.answers.specs.Answers.{packed}
use Rattle.behaviour.proofs.Answers.{gives-afterwards}
use Rattle.behaviour.proofs.AfterRun.{run-only-delays, run-accepted}
use Rattle.carry.specs.Promises.{CarryPromises, CarriedBackByCalls}
use Rattle.carry.proofs.CarryAnswers.{carry_laws, formed-done, formed-final}
use Rattle.carry.proofs.CarriedBack.{carries_over, carried-returns, carried-formed, running-label}
use Rattle.carry.proofs.LabelsIgnored.{labels_alone}

carried_back_by_calls : CarriedBackByCalls
carried_back_by_calls s stimulus outputs running run a lent l result next g =
    let after = gives-afterwards run.gives run.formed in
    let v = run.formed.accepted in
    let f = carried-formed v after.again after.equals_first a lent l in (
      g.result_is ∙ ap packed (formed-done running s lent f),
      g.next_is ∙ formed-final running s lent f ∙ carried-returns v after.again after.equals_first a,
    )

pub kept : CarryPromises
kept = record {
  carry_laws = carry_laws;
  carried_over = λ old new next f. (formed-final old new next f, carries_over f);
  carried_back = λ s running t t' v v' a o next l.
      let f = carried-formed v v' o a next l in
      (formed-done running s next f, formed-final running s next f ∙ carried-returns v v' o a);
  carried_after_run = λ undecided law s t v a inputs given next l.
      let o = run-only-delays law v given in
      let v' = run-accepted law s v given ∙ v in
      let f = carried-formed v v' o a next l in
      (formed-done _ s next f, formed-final _ s next f ∙ carried-returns v v' o a);
  carried_back_by_calls = carried_back_by_calls;
  labels_alone = labels_alone;
  labels_kept = λ undecided law s t v inputs given r.
      running-label v (run-accepted law s v given ∙ v) (run-only-delays law v given) r;
}
