-- What codes 1 to 4 leave is written and well named. Assumes nothing.
use Rattle.structure.proofs.Passes.{well-named-by}
use Rattle.verdict.proofs.Stages.{recorded-written}
use Rattle.verdict.proofs.check_depths.Goals as goal

pub place_all-requires : goal.place_all-requires
place_all-requires c =
    (recorded-written c.requires.0.recorded, well-named-by c.args.sheet.now c.requires.0.namings, c.requires.1, c.new-placed.ensures _)
