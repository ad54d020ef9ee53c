-- One term of every promise of the front page: what the translation wrote is the sheet of the text, and the run of that sheet gives the
-- meaning. Assumes nothing.
use mathlib.Core.Path.{refl, sym, subst}
use native.Mathlib.Omega.{arith}
use Rattle.records.specs.Words.{word, count}
use Rattle.records.specs.Kinds.{row_of, kind_of, ask_of}
use Rattle.records.specs.Says.{well_said, namings}
use Rattle.records.specs.Trees.{type_within, type_at, pair_of, chain_within, chain, alternatives_within, alternatives, tree_within, tree_at, circuit}
use Rattle.structure.specs.Rules.{ancestry_within, ancestry, depth, nesting, wrong_length, wrong_header, wrong_record, wrong_naming, wrong_type, too_deep}
use Rattle.verdict.specs.Verdict.{by_types, by_records, verdict}
use Rattle.meaning.specs.Undecided.{undecided_rule}
use Rattle.meaning.specs.Evaluation.{eval, next}
use Rattle.behaviour.specs.Terms.{circuit_term}
use Rattle.behaviour.specs.Sheets.{write}
use Rattle.behaviour.specs.Cycle.{output_by, after_by}
use Rattle.stimulus.specs.Stimulus.{cycles, wrong_stimulus, wrong_byte, end_to_end}
use Rattle.behaviour.specs.Run.{by_slices, answer, final_out, final_next, RunGiven}
use Rattle.behaviour.specs.Afterwards.{WellFormed}
use Rattle.layout.specs.Layout.{sheet_of_text}
use Rattle.translator.proofs.Kept as Translator
use Rattle.text_meaning.specs.Promises.{CallsInTurn}
use Rattle.text_meaning.proofs.Kept as Meaning
use Rattle.text_table.proofs.Kept as Table
use Rattle.text_runs.specs.RunRows.{TextsRun}
use Rattle.text_runs.specs.Promises.{RanAsMeant, TranslatedRunMeans, TranslatedCallsMean, TranslatedFits, TextCallPromises}
use Rattle.text_runs.proofs.Fourteen.{answered_fourteen}

run_means : TranslatedRunMeans
run_means bytes entry n exit h stim out next τ result out' next' w g =
    let o = (Translator.kept).writes_sheet bytes entry n exit h in
    let e = o.sheet in
    let on-text : RanAsMeant bytes (sheet_of_text o.source) stim τ out' =
    record {
      tokens = o.tokens;
      source = o.source;
      reading = o.reading;
      meant =
          (Meaning.kept).run_gives_meaning o.tokens o.source o.reading.parsed o.good stim out next τ result out' next'
          (subst (λ s. WellFormed s stim out next τ) e w) (subst (λ s. RunGiven s stim out next result out' next') e g);
    } in
    subst (λ s. RanAsMeant bytes s stim τ out') (sym e) on-text

calls-mean : TranslatedCallsMean
calls-mean bytes entry n exit h τ stims outs calls =
    let o = (Translator.kept).writes_sheet bytes entry n exit h in
    let e = o.sheet in
    let on-text : RanAsMeant bytes (sheet_of_text o.source) (end_to_end stims) τ (end_to_end outs) =
    record {
      tokens = o.tokens;
      source = o.source;
      reading = o.reading;
      meant =
          (Meaning.kept).calls_give_meaning o.tokens o.source o.reading.parsed o.good τ stims outs
          (subst (λ s. CallsInTurn τ s stims outs) e calls);
    } in
    subst (λ s. RanAsMeant bytes s (end_to_end stims) τ (end_to_end outs)) (sym e) on-text

fits : TranslatedFits
fits bytes entry n exit h =
    let o = (Translator.kept).writes_sheet bytes entry n exit h in
    let needed = o.needed in
    let few = o.few in
    record {
      tokens = o.tokens;
      source = o.source;
      reading = o.reading;
      fitting = record { read = o.reading.parsed; good = o.good; few = omega (arith, needed, few) };
      sheet_is = o.sheet;
    }

-- the runs, by computation
texts_run : TextsRun
unfolding verdict by_records by_types wrong_length wrong_header wrong_record wrong_naming wrong_type too_deep depth nesting ancestry ancestry_within circuit tree_at tree_within alternatives alternatives_within chain chain_within pair_of type_at type_within namings well_said ask_of kind_of row_of word count eval next undecided_rule circuit_term write output_by after_by cycles wrong_stimulus wrong_byte by_slices answer final_out final_next
texts_run =
    let rows = (Table.kept).rows_written in
    ((rows.0, refl, refl, refl), ((rows.0, refl, refl, refl), ((rows.1.0, refl, refl, refl), tt)))

pub kept : TextCallPromises
kept =
    record {
      translated_run_means = run_means;
      translated_calls_mean = calls-mean;
      translated_fits = fits;
      answered_fourteen = answered_fourteen;
      texts_run = texts_run;
    }
