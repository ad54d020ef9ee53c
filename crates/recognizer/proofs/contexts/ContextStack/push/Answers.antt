-- What is stored at the depth waits on top of what waited.
-- Assumes nothing.
use native.Mathlib.Omega.{arith}
use mathlib.Core.Path.{ap, ◌∙◌}
use mathlib.Core.List.{◌∷◌}
use Rattle.recognizer.proofs.StackLaws.{deep-room, pushed, still-waiting}
use Rattle.recognizer.proofs.contexts.ContextStack.push.Goals as goal

pub bounds-self-inside-self-inside : goal.bounds-self-inside-self-inside
bounds-self-inside-self-inside c = deep-room _ c.self.inside.states c.self.view_is c.requires.room

pub invariant_of-self : goal.invariant_of-self
invariant_of-self c = still-waiting _ c.self.invariant (deep-room _ c.self.inside.states c.self.view_is c.requires.room) c.requires.few

pub returns : goal.returns
returns c = pushed c.self.inside.states c.self.inside.depth c.args.state (let h = deep-room _ c.self.inside.states c.self.view_is c.requires.room in omega (arith, c.self.told)) ∙ ap (λ K. Rattle.recognizer.specs.Coded.state_of c.args.state ∷ K) c.self.view_is
