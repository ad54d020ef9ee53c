-- There are no more types or constructors than names.
-- Assumes nothing.
use native.Mathlib.Omega.{arith}
use Rattle.symbols.specs.RoleNumbers.{role_codes}
use Rattle.resolving.proofs.NameEntries.{types_few, ranks-few}
use Rattle.resolving.proofs.numbering.NameNumbers.number_from.Goals as goal

pub types_after-types-requires : goal.types_after-types-requires
types_after-types-requires c =
    let f = types_few (role_codes c.args.roles.now) c.loop-k.k in
    let e = c.loop-k.invariant.1 in
    let t = c.loop-k-test.true in
    let h = c.requires.2 in
    omega (arith, e)

pub ranks_after-rank-requires : goal.ranks_after-rank-requires
ranks_after-rank-requires c =
    let f = ranks-few (role_codes c.args.roles.now) c.loop-k.k in
    let e = c.loop-k.invariant.2 in
    let t = c.loop-k-test.true in
    let h = c.requires.2 in
    omega (arith, e)
