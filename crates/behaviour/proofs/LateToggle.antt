-- Two calls in order on the sheet T that are not equal: in one pair the input of the first cycle is late, in the other the delay
-- holds nothing yet. By computation.
-- Assumes nothing.
use Prim.Native.Nat.{ℕ}
use mathlib.Core.List.Memᴰ
use mathlib.Core.List.{List, [], ◌∷◌}
use mathlib.Core.Logic.{inl, inr}
use mathlib.Core.Path.{◌≡◌, refl, sym}
use native.Mathlib.Omega.{arith}
use lib.ListN.{replicate}
use Rattle.records.specs.Words.{word, count}
use Rattle.records.specs.Kinds.{row_of, kind_of, ask_of}
use Rattle.records.specs.Says.{well_said, namings}
use Rattle.records.specs.Trees.{type_within, type_at, pair_of, chain_within, chain, alternatives_within, alternatives, tree_within, tree_at, circuit}
use Rattle.structure.specs.Rules.{ancestry_within, ancestry, depth, nesting, wrong_length, wrong_header, wrong_record, wrong_naming, wrong_type, too_deep}
use Rattle.verdict.specs.Verdict.{by_types, by_records, verdict}
use Rattle.answers.specs.Answers.{Accepted}
use Rattle.meaning.specs.Values.{below_none, below_leaf}
use Rattle.meaning.specs.Undecided.{undecided_rule}
use Rattle.meaning.specs.Evaluation.{eval, next}
use Rattle.behaviour.specs.Terms.{circuit_term}
use Rattle.behaviour.specs.Sheets.{write}
use Rattle.behaviour.specs.Cycle.{output_by, after_by}
use Rattle.stimulus.specs.Stimulus.{end_to_end, cycles, wrong_stimulus, wrong_byte}
use Rattle.answers.specs.Answers.{packed}
use Rattle.behaviour.specs.Run.{outputs_by, sheet_after, answer}
use Rattle.behaviour.specs.Afterwards.{WellFormed}
use Rattle.behaviour.specs.SheetOrder.{FormedCall, holding}
use Rattle.behaviour.specs.Bench.{toggle}
use Rattle.behaviour.specs.Promises.{LateInput, LateDelay}
use Rattle.behaviour.proofs.Cells.{put_byte}
use Rattle.behaviour.proofs.SheetOrder.{sheet-refl}
use Rattle.behaviour.proofs.Afterwards.{out_is, next_is}

toggle-accepted : verdict toggle ≡ Accepted 1
unfolding verdict by_records by_types wrong_length wrong_header wrong_record wrong_naming wrong_type too_deep depth nesting ancestry ancestry_within circuit tree_at tree_within alternatives alternatives_within chain chain_within pair_of type_at type_within namings well_said ask_of kind_of row_of word count
toggle-accepted = refl

unset-accepted : verdict (holding 0) ≡ Accepted 1
unfolding verdict by_records by_types wrong_length wrong_header wrong_record wrong_naming wrong_type too_deep depth nesting ancestry ancestry_within circuit tree_at tree_within alternatives alternatives_within chain chain_within pair_of type_at type_within namings well_said ask_of kind_of row_of word count
unset-accepted = refl

-- a well-formed call, by the outputs of its cycles and the sheet after them
formed-call : (s stim out next : List ℕ) (t : ℕ) → WellFormed s stim out next t
    → FormedCall s stim (end_to_end (outputs_by undecided_rule s (cycles s stim))) (sheet_after undecided_rule s (cycles s stim))
formed-call s stim out next t f = record {
  lent_out = out;
  lent_next = next;
  type = t;
  result = packed (answer s stim out next);
  formed = f;
  gives = record { result_is = refl; out_is = sym (out_is f); next_is = sym (next_is f) };
}

pub late_input : LateInput
unfolding circuit tree_at tree_within alternatives alternatives_within chain chain_within pair_of type_at type_within kind_of word count eval next undecided_rule circuit_term write output_by after_by cycles wrong_stimulus wrong_byte
late_input = record {
  sheets = sheet-refl toggle;
  stimuli = below_leaf (inl refl) (below_leaf (inr refl) below_none);
  first = formed-call toggle (0 ∷ 1 ∷ []) (replicate 2 0) (replicate 204 0) 1
      (record { accepted = toggle-accepted; whole = refl; fitting = refl; room = refl; long = refl });
  second = formed-call toggle (1 ∷ 1 ∷ []) (replicate 2 0) (replicate 204 0) 1
      (record { accepted = toggle-accepted; whole = refl; fitting = refl; room = refl; long = refl });
  leaf = 1;
  leaf_undefined = refl;
  leaf_defined = omega arith;
  delay = 4;
  is-delay = Memᴰ.head refl;
  delay_undefined = refl;
  delay_defined = omega arith;
}

pub late_delay : LateDelay
unfolding circuit tree_at tree_within alternatives alternatives_within chain chain_within pair_of type_at type_within kind_of word count eval next undecided_rule circuit_term write output_by after_by cycles wrong_stimulus wrong_byte
late_delay = record {
  sheets = record {
    only_delays = record {
      length = refl;
      bytes = λ i other. let o = other 4 (Memᴰ.head refl) in sym (put_byte i 4 _ toggle o.0 o.1);
    };
    delays_below = λ l m. let e = Memᴰ.eq_of_singleton m in rw e (inl refl);
  };
  stimuli = below_leaf (inr refl) below_none;
  first = formed-call (holding 0) (1 ∷ []) (replicate 1 0) (replicate 204 0) 1
      (record { accepted = unset-accepted; whole = refl; fitting = refl; room = refl; long = refl });
  second = formed-call toggle (1 ∷ []) (replicate 1 0) (replicate 204 0) 1
      (record { accepted = toggle-accepted; whole = refl; fitting = refl; room = refl; long = refl });
  leaf = 0;
  leaf_undefined = refl;
  leaf_defined = omega arith;
  delay = 4;
  is-delay = Memᴰ.head refl;
  delay_undefined = refl;
  delay_defined = omega arith;
}
