-- Every case of the bench table holds, by computation.
-- Assumes nothing.
use mathlib.Core.Path.{refl}
use Rattle.records.specs.Words.{word, count}
use Rattle.records.specs.Kinds.{row_of, kind_of, ask_of}
use Rattle.records.specs.Says.{well_said, namings}
use Rattle.records.specs.Trees.{type_within, type_at, pair_of, chain_within, chain, alternatives_within, alternatives, tree_within, tree_at, circuit}
use Rattle.structure.specs.Rules.{ancestry_within, ancestry, depth, nesting, wrong_length, wrong_header, wrong_record, wrong_naming, wrong_type, too_deep}
use Rattle.verdict.specs.Verdict.{by_types, by_records, verdict}
use Rattle.meaning.specs.Undecided.{undecided_rule}
use Rattle.meaning.specs.Evaluation.{eval, next}
use Rattle.behaviour.specs.Terms.{circuit_term}
use Rattle.behaviour.specs.Sheets.{write}
use Rattle.behaviour.specs.Cycle.{output_by, after_by}
use Rattle.stimulus.specs.Stimulus.{cycles, wrong_stimulus, wrong_byte}
use Rattle.behaviour.specs.Run.{by_slices, answer, final_out, final_next}
use Rattle.behaviour.specs.Bench.{AllCasesHold, bench_cases}

bench : AllCasesHold bench_cases
unfolding verdict by_records by_types wrong_length wrong_header wrong_record wrong_naming wrong_type too_deep depth nesting ancestry ancestry_within circuit tree_at tree_within alternatives alternatives_within chain chain_within pair_of type_at type_within namings well_said ask_of kind_of row_of word count eval next undecided_rule circuit_term write output_by after_by cycles wrong_stimulus wrong_byte by_slices answer final_out final_next
bench = (
  (refl, refl, refl),
  (
    (refl, refl, refl),
    (
      (refl, refl, refl),
      (
        refl,
        (
          (refl, refl, refl),
          (
            refl,
            (
              (refl, refl, refl),
              (
                (refl, refl, refl),
                ((refl, refl), ((refl, refl, refl), ((refl, refl, refl), ((refl, refl, refl, refl), (refl, ((refl, refl, refl), ((refl, refl), ((refl, refl, refl), tt)))))))),
              ),
            ),
          ),
        ),
      ),
    ),
  ),
)
