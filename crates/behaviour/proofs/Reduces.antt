-- The run of an accepted sheet is the run of 000's rules on the expression that it decodes to: the term of a sheet erases to that
-- expression, the run on bytes is the run of the meaning on the term, and that is adequate to the rules.
-- Assumes nothing.
use Prim.Native.Nat.{ℕ}
use mathlib.Core.List.{List, [], map}
use mathlib.Core.Option.{some}
use mathlib.Core.Path.{◌≡◌, sym, ap, ◌∙◌}
use Rattle.picoella.specs.Language.{Ty, Expr}
use Rattle.records.specs.Decoding.{decode}
use Rattle.records.proofs.Decoding.{decodes}
use Rattle.verdict.specs.Verdict.{verdict}
use Rattle.answers.specs.Answers.{Accepted}
use Rattle.meaning.specs.Elaboration.{erase}
use Rattle.meaning.specs.Values.{AllOf, all_none, all_more}
use Rattle.meaning.specs.Constants.{ConstantTree, AllConstantsOf, of_none, of_all_none, of_all_more, flatten}
use Rattle.meaning.specs.Undecided.{undecided_rule}
use Rattle.meaning.specs.Run.{after}
use Rattle.meaning.proofs.FlattenOneToOne.{flatten-typed}
use Rattle.meaning.proofs.UndecidedRule.{rule-lawful, rule-agreeing}
use Rattle.meaning.proofs.Adequacy.{run_adequate}
use Rattle.behaviour.specs.Terms.{circuit_term}
use Rattle.behaviour.proofs.Terms.{erase-circuit, circuit-typed}
use Rattle.behaviour.proofs.Sheets.{accepted-written}
use Rattle.stimulus.specs.Stimulus.{input_type}
use Rattle.behaviour.specs.Run.{sheet_after}
use Rattle.behaviour.specs.Promises.{RunReduces}
use Rattle.behaviour.proofs.Run.{run-outputs}
use Rattle.behaviour.proofs.AfterRun.{run-read, run-accepted}

flatten-all-typed : {τ : Ty} {cs : List ConstantTree} → AllConstantsOf τ cs → AllOf τ (map flatten cs)
flatten-all-typed of_all_none = all_none
flatten-all-typed (of_all_more h r) = all_more (flatten-typed h) (flatten-all-typed r)

-- an accepted sheet decodes to the erasure of its term
pub decodes-to : (s : List ℕ) (t : ℕ) → verdict s ≡ Accepted t → decode s ≡ some (erase (circuit_term s))
decodes-to s t v = decodes (accepted-written s v) ∙ ap some (sym (erase-circuit s))

some_same : (e f : Expr) → some e ≡ some f → e ≡ f
some_same e f p = cc

-- and the sheet after a run to the erasure of the term after it
pub decodes-after : (s : List ℕ) (t : ℕ) → verdict s ≡ Accepted t → (is : List (List ℕ)) → AllOf (input_type s) is
    → decode (sheet_after undecided_rule s is) ≡ some (erase (after undecided_rule [] (circuit_term s) is))
decodes-after s t v is given =
    decodes-to (sheet_after undecided_rule s is) t (run-accepted rule-lawful s v given ∙ v)
    ∙ ap (λ u. some (erase u)) (run-read rule-lawful s v given)

pub run_reduces : RunReduces
run_reduces s t v e f d inputs outs given =
    let all = flatten-all-typed given in
    let same : e ≡ erase (circuit_term s) = some_same e (erase (circuit_term s)) (sym d ∙ decodes-to s t v) in
    let gives = run-outputs rule-lawful s v all in
    let leads = decodes-after s t v (map flatten inputs) all in
    let adequate = run_adequate rule-lawful rule-agreeing {cs = outs} {f = f} (circuit-typed s t v) of_none given in (
      λ r. let (j, q, z) = adequate.0 (rw same at r) in (j, q ∙ sym gives, leads ∙ ap some (sym z)),
      λ (j, q, z). rw same (adequate.1 (j, q ∙ gives, some_same f _ (sym z ∙ leads))),
    )
