-- One term of each promise of the front page, `specs/Promises.antt`; the theorems stand in the files beside this one. A promise
-- without a term is refused here.
-- Assumes nothing.
use Prim.Native.Nat.{ℕ}
use mathlib.Core.Path.{refl, sym, ◌∙◌}
use mathlib.Core.List.{List, ◌∷◌}
use Rattle.picoella.specs.Language.{Ty}
use Rattle.meaning.specs.Values.{ValuesOf}
use Rattle.meaning.specs.Elaboration.{Term, Elaborated}
use Rattle.meaning.specs.Constants.{ConstantTree}
use Rattle.meaning.specs.Undecided.{undecided_rule, undecided_constant}
use Rattle.meaning.specs.RuleLaws.{Lawful, Agreeing}
use Rattle.meaning.specs.Evaluation.{eval, next}
use Rattle.meaning.specs.Promises.{IterateEquations, Settles, Promises, MeaningPromises}
use Rattle.meaning.proofs.Order.{both_below, both_of}
use Rattle.meaning.proofs.MatchMonotone.{match_monotone}
use Rattle.meaning.proofs.EvaluationOrdered.{eval-ordered, next-ordered, outputs-ordered, after-ordered}
use Rattle.meaning.proofs.EvaluationMonotone.{eval-monotone, eval-typed}
use Rattle.meaning.proofs.FeedbackLeast.{
  application-typed,
  feedback-rises,
  feedback-stable,
  feedback-typed,
  feedback-fixed,
  feedback_least,
  applications-most,
  applications-reach,
  applications-fewest,
  iterate-unchanged,
  iterate-again,
}
use Rattle.meaning.proofs.ElaborationUnique.{elaboration_exists, elaboration_unique, erased-typed}
use Rattle.meaning.proofs.NextTyped.{next_typed, next-frame, outputs_typed, after-typed, After-frame}
use Rattle.meaning.proofs.AnnotationIgnored.{places-ignored}
use Rattle.meaning.proofs.FlattenOneToOne.{flatten-typed, flatten-one, flatten-onto}
use Rattle.meaning.proofs.MatchAgrees.{match_agrees}
use Rattle.meaning.proofs.RulesDeterministic.{reduces-one, reduces-seq-one}
use Rattle.meaning.proofs.Adequacy.{cycle_adequate, cycle_exists, run_adequate, run_exists}
use Rattle.meaning.proofs.UndefinedLeavesLawful.{undefined_lawful, undefined_agreeing}
use Rattle.meaning.proofs.AgreedLeavesLawful.{agreed_lawful, agreed_agreeing}
use Rattle.meaning.proofs.UndecidedRule.{rule-lawful, rule-agreeing, earlier_rule_below}

module _
    (undecided : List ℕ → List ℕ → List ℕ)
    (law : Lawful undecided)
    (tree : ConstantTree → ConstantTree → ConstantTree)
    (agree : Agreeing undecided tree)
    (Declared : Ty → Type 0)
  where
    settles
        : {Γ : List Ty} {ρ : List (List ℕ)} {σ : Ty} {t : Term}
        → Elaborated Declared (σ ∷ Γ) t σ → ValuesOf Γ ρ → Settles undecided law tree agree Declared ρ σ t
    unfolding eval next
    settles typed env =
        record {
          rises = λ k. both_below (feedback-rises law typed env k);
          stable = feedback-stable law typed env;
          of_type = feedback-typed law typed env;
          fixed = feedback-fixed law typed env;
          least = λ w h p. both_below (feedback_least law typed env h p);
          at_most = applications-most law typed env;
          reached = applications-reach law typed env;
          none_fewer = applications-fewest law typed env;
          value = λ s. refl;
          after_cycle = λ s. refl;
        }

    iterate_equations : IterateEquations undecided law tree agree Declared
    iterate_equations Γ ρ σ t v typed env h below = (
      λ p. iterate-unchanged law typed env p ∙ sym p,
      iterate-again law typed env
          (both_of h (application-typed law typed env h) below),
    )

    kept-promises : Promises undecided law tree agree Declared
    kept-promises =
        record {
          elaboration_exists = λ Γ e τ d. elaboration_exists Declared d;
          elaboration_unique = λ Γ t s σ τ h k p. elaboration_unique Declared h k p;
          erasure_typed = λ Γ t τ h. erased-typed Declared h;
          annotation_ignored = λ places ρ t. ((places-ignored ρ t).same-value, (places-ignored ρ t).same_next);
          evaluation_typed = λ Γ t τ ρ h env. eval-typed undecided law Declared h env;
          next_typed = λ Γ t τ ρ h env. (next_typed law h env, next-frame undecided ρ t);
          run_typed = λ Γ t σ τ ρ inputs h env given. (
            outputs_typed law h env given,
            after-typed law h env given,
            After-frame undecided ρ t inputs,
          );
          match_monotone = λ p τ v w h i j below. match_monotone h (both_of i j below);
          evaluation_monotone = λ Γ t τ ρ π h r. both_below (eval-monotone undecided law Declared h r);
          feedback_least = λ Γ ρ σ t h env. settles h env;
          iterate_equations = iterate_equations;
          flatten_one_to_one = λ τ.
              (λ c h. flatten-typed h, λ c d h k p. flatten-one h k p, λ v h. flatten-onto τ h);
          match_agrees = λ p τ c h k. match_agrees h k;
          cycle_adequate = λ Γ t τ l c f h env. cycle_adequate law agree h env;
          cycle_exists = λ Γ t τ l h env. cycle_exists law agree h env;
          cycle_unique = λ l e f g c d r s. reduces-one tree r s;
          run_adequate = λ Γ t σ τ l inputs cs f h env given.
              run_adequate law agree h env given;
          run_exists = λ Γ t σ τ l inputs h env given. run_exists law agree h env given;
          run_unique = λ l inputs cs ds e f g r s. reduces-seq-one tree r s;
        }

pub kept : MeaningPromises
unfolding undecided_rule undecided_constant
kept =
    record {
      every_rule = kept-promises;
      two_rules_cycle = λ rule other law under Declared Γ t t' τ ρ π h r. (
        both_below (eval-ordered rule other law under Declared h r),
        next-ordered rule other law under Declared h r,
      );
      two_rules_run = λ rule other law under Declared Γ t t' σ τ ρ π inputs inputs' h r given. (
        outputs-ordered rule other law under Declared h r given,
        after-ordered rule other law under Declared h r given,
      );
      agreed_lawful = agreed_lawful;
      agreed_agreeing = agreed_agreeing;
      undefined_lawful = undefined_lawful;
      undefined_agreeing = undefined_agreeing;
      earlier_rule_below = earlier_rule_below;
      rule_in_force = (λ v w. refl, λ c d. refl, rule-lawful, rule-agreeing);
    }
