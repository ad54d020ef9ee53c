-- One term of each promise.
-- Assumes nothing.
use Rattle.text_passes.specs.Promises.{PassPromises}
use Rattle.text_passes.proofs.NamedOnce.{named_once}
use Rattle.text_passes.proofs.BadPlaces.{bad_place_exactly, no_bad_place, names_first, only_pairs_fail}
use Rattle.text_passes.proofs.Walked.{records_in_order}
use Rattle.text_passes.proofs.AcceptedText.{accepted_exactly, answered_seven}
use Rattle.text_passes.proofs.Verdicts.{never_answered, answered_three, answered_five, answered_six, output_declared}

pub kept : PassPromises
kept =
    record {
      never_answered = never_answered;
      answered_three = answered_three;
      answered_five = answered_five;
      answered_six = answered_six;
      accepted_exactly = accepted_exactly;
      answered_seven = answered_seven;
      named_once = named_once;
      output_declared = output_declared;
      bad_place_exactly = bad_place_exactly;
      no_bad_place = no_bad_place;
      names_first = names_first;
      only_pairs_fail = only_pairs_fail;
      records_in_order = records_in_order;
    }
