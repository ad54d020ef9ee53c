-- Assumes nothing.
use borrow.Author.Rules.{rules}
use Prim.Native.Nat.{ℕ, ◌<◌}
use mathlib.Core.List.{List}
use mathlib.Core.Path.{◌≡◌, ap, ◌∙◌}
use lib.ListN.{length, get_or, get_or-append}
use Rattle.accepted.proofs.Small.{accepted-few}
use Rattle.behaviour.specs.Cycle.{output}
use Rattle.probe.specs.OutputLeaf.{leaf_for}
use Rattle.probe.specs.Looking.{Probed}
use Rattle.probe.proofs.Probe.leaf_for.Goals as goal

pub slice_bounds-look-end : goal.slice_bounds-look-end
slice_bounds-look-end c =
    let g = c.self.invariant in
    let f = accepted-few c.self.inside.checked.now.sheet g.accepted in
    let e = g.gives in
    search rules

pub returns : goal.returns
unfolding leaf_for
returns c =
    let g = c.self.invariant in
    let v = c.self.view_is in
    let e : c.look.new.out ≡ output c.args.self.now.sheet c.args.input.now = c.look.ensures.value ∙ ap (λ (s : List ℕ). output s c.args.input.now) (c.of-current.ensures ∙ c.bytes.ensures ∙ ap (λ (p : Probed). p.sheet) v) in
    let l : c.self.inside.leaf < length c.look.new.out = search rules in (
      get_or-append c.look.new.out _ 0 c.self.inside.leaf l ∙ ap (λ (o : List ℕ). get_or o c.self.inside.leaf 0) e ∙ ap (λ (k : ℕ). get_or (output c.args.self.now.sheet c.args.input.now) k 0) (ap (λ (p : Probed). p.leaf) v),
      v,
    )
