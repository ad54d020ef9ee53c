-- Those passed are none of the two.
-- Assumes nothing.
use borrow.Author.Rules.{rules}
use native.Mathlib.Omega.{arith}
use Prim.Native.Nat.{◌<◌}
use lib.ListN.{length}
use mathlib.Core.Path.{◌≡◌, sym, ap, ◌∙◌}
use Rattle.instructions.specs.Types.{type_declared}
use Rattle.instructions.specs.declared.types.DeclaredType.TheVariants.{Paired}
use Rattle.ordering.proofs.PairLaws.{pair_found, both-with}
use Rattle.ordering.proofs.types.constant_pair.Goals as goal

pub returns-then-eq : goal.returns-then-eq
returns-then-eq c =
    let same : c.get.result ≡ Paired c.args.first c.args.second = search rules in
    let below : c.loop-j.j < length c.args.types.now = (let t = c.loop-j-test.true in let e = c.len-j-end.ensures in omega arith) in
    both-with c.args.types.now c.args.first c.args.second _ c.if-first-eq0.false c.if-second-eq0.false
    (pair_found c.args.types.now c.args.first c.args.second c.loop-j.j below c.loop-j.invariant (sym c.get.ensures ∙ ap type_declared same))
