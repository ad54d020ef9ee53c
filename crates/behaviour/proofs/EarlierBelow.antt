-- What the run gives under the earlier rule for an undecided IF lies at or below what it gives: the order of runs over two rules, at
-- one sheet and one list of inputs. On one sheet it lies strictly below, by computation.
-- Assumes nothing.
use Prim.Native.Nat.{ℕ}
use mathlib.Core.List.{List}
use mathlib.Core.Path.{refl}
use Rattle.picoella.specs.Language.{Ty}
use Rattle.records.specs.Words.{word, count}
use Rattle.records.specs.Kinds.{row_of, kind_of, ask_of}
use Rattle.records.specs.Says.{well_said, namings}
use Rattle.records.specs.Trees.{type_within, type_at, pair_of, chain_within, chain, alternatives_within, alternatives, tree_within, tree_at, circuit}
use Rattle.structure.specs.Rules.{ancestry_within, ancestry, depth, nesting, wrong_length, wrong_header, wrong_record, wrong_naming, wrong_type, too_deep}
use Rattle.verdict.specs.Verdict.{by_types, by_records, verdict}
use Rattle.meaning.specs.Values.{AllOf, all_none, all_more}
use Rattle.meaning.specs.Undecided.{undecided_rule}
use Rattle.meaning.specs.RuleLaws.{undefined_leaves}
use Rattle.meaning.specs.Ordered.{AllBoth, both_all_none, both_all_more}
use Rattle.meaning.specs.Evaluation.{eval, next}
use Rattle.meaning.proofs.Order.{both_refl}
use Rattle.meaning.proofs.UndefinedLeavesLawful.{undefined_lawful}
use Rattle.meaning.proofs.UndecidedRule.{rule-lawful, earlier_rule_below}
use Rattle.behaviour.specs.Terms.{circuit_term}
use Rattle.behaviour.specs.Sheets.{write}
use Rattle.behaviour.specs.Cycle.{output_by, after_by}
use Rattle.behaviour.specs.Promises.{EarlierBelow, EarlierStrictlyBelow}
use Rattle.behaviour.proofs.SheetOrder.{sheet-refl}
use Rattle.behaviour.proofs.SheetRunOrdered.{sheet_run_ordered}

all-refl : {τ : Ty} {vs : List (List ℕ)} → AllOf τ vs → AllBoth τ vs vs
all-refl all_none = both_all_none
all-refl (all_more h r) = both_all_more (both_refl h) (all-refl r)

pub earlier_below : EarlierBelow
earlier_below s t v inputs given =
    sheet_run_ordered undefined_leaves undecided_rule undefined_lawful rule-lawful earlier_rule_below s s t t v v (sheet-refl s) inputs
    inputs (all-refl given)

pub earlier_strictly_below : EarlierStrictlyBelow
unfolding verdict by_records by_types wrong_length wrong_header wrong_record wrong_naming wrong_type too_deep depth nesting ancestry ancestry_within circuit tree_at tree_within alternatives alternatives_within chain chain_within pair_of type_at type_within namings well_said ask_of kind_of row_of word count eval next undecided_rule circuit_term write output_by after_by
earlier_strictly_below = (refl, refl, refl, refl, refl)
