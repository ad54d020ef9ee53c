-- One term of each promise of the front page, `specs/Promises.antt`. A promise without a term is refused here.
-- Assumes nothing.
use Rattle.possibilities.proofs.Kept.{word-of-set}
use Rattle.remaining.specs.Promises.{PossiblePromises}
use Rattle.remaining.proofs.Promised as Promised
use Rattle.remaining.proofs.Witness.{possible-bench}

pub kept : PossiblePromises
kept = record {
  possible_laws = Promised.possible_laws;
  each_word = word-of-set;
  counts_of_sets = Promised.counts_of_sets;
  filled_shown = Promised.filled_shown;
  shown_alone = Promised.shown_alone;
  filled_less = Promised.filled_less;
  all_ones = Promised.all_ones;
  both_rules = Promised.both_rules;
  bench = possible-bench;
}
