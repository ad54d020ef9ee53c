-- Assumes nothing.
use Prim.Native.Nat.{ℕ}
use mathlib.Core.List.{List}
use mathlib.Core.Path.{ap, ◌∙◌}
use Rattle.behaviour.specs.Cycle.{output}
use Rattle.preview.proofs.Showing.{shown-cycling}
use Rattle.preview.proofs.show.Goals as goal

pub look-requires : goal.look-requires
look-requires c = rw (c.of-current.ensures ∙ c.bytes.ensures) (shown-cycling c.requires _ _ c.new-room.ensures.env c.new-room.ensures.held)

pub returns : goal.returns
returns c = c.look.ensures.value ∙ ap (λ (s : List ℕ). output s c.args.input.now) (c.of-current.ensures ∙ c.bytes.ensures)
