-- The header lies at depth 0, in no feedback. Assumes nothing.
use Rattle.structure.specs.Rules.{depth, nesting}
use Rattle.structure.proofs.DepthCounts.{capped-none, depth-of-header, nesting-of-header}
use Rattle.structure.proofs.depth.Placements.new.Goals as goal

pub returns : goal.returns
returns c = λ s. record {
  deep = capped-none 65 (depth s) (depth-of-header s);
  nested = capped-none 4 (nesting s) (nesting-of-header s);
}
