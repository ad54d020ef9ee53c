-- Assumes nothing.
use mathlib.Core.Path.{◌∙◌}
use Rattle.press.proofs.Pressing.{constructor-lowest, constructor-none, told_of}
use Rattle.press.proofs.lowest_constructor.Goals as goal

pub returns-then-alters : goal.returns-then-alters
returns-then-alters c =
    let f = c.loop-k.invariant in
    let p = c.args.probe.now in
    let g = rw f.0 at c.alters.ensures.0 in (
      constructor-lowest p.sheet c.args.input.now p.leaf c.args.j c.loop-k.k _ c.requires.2 c.loop-k-test.true
          (told_of p.sheet p.leaf c.args.j _ f.1 g ∙ c.if-alters.true) f.2,
      c.alters.ensures.1 ∙ f.0,
      c.alters.ensures.2 ∙ f.1,
    )

pub returns : goal.returns
returns c =
    let f = c.loop-k.invariant in
    let p = c.args.probe.now in
    (constructor-none p.sheet c.args.input.now p.leaf c.args.j c.loop-k.k _ c.requires.2 c.loop-k-test.false f.2, f.0, f.1)
