-- The one word that names rec is read off its entry; the record that holds it is lower. Assumes nothing.
use native.Mathlib.Omega.{arith}
use Rattle.structure.proofs.DepthCounts.{in-range, place-more, some-naming}
use Rattle.structure.proofs.depth.Placements.place.Goals as goal

pub bounds-self-naming : goal.bounds-self-naming
bounds-self-naming c =
    let e = rw c.in-Some.is at c.namer.ensures in
    let p = in-range c.requires.0 c.requires.1 c.in-Some.naming.by c.in-Some.naming.at e.0 e.1 in
    omega arith

pub bounds-self-naming-in-Some : goal.bounds-self-naming-in-Some
bounds-self-naming-in-Some c =
    let e = rw c.in-Some.is at c.namer.ensures in
    let p = in-range c.requires.0 c.requires.1 c.in-Some.naming.by c.in-Some.naming.at e.0 e.1 in
    omega arith

pub overflow_add-self : goal.overflow_add-self
overflow_add-self c =
    let e = rw c.in-Some.is at c.namer.ensures in
    let p = in-range c.requires.0 c.requires.1 c.in-Some.naming.by c.in-Some.naming.at e.0 e.1 in
    omega arith

pub nested-requires : goal.nested-requires
nested-requires c =
    let e = rw c.in-Some.is at c.namer.ensures in
    let p = in-range c.requires.0 c.requires.1 c.in-Some.naming.by c.in-Some.naming.at e.0 e.1 in
    (omega arith, omega arith)

pub returns-in-Some : goal.returns-in-Some
returns-in-Some c =
    let e = rw c.in-Some.is at c.namer.ensures in
    place-more c.requires.0 c.requires.1 c.in-Some.naming.by c.in-Some.naming.at e.0 e.1 _ _ c.min.ensures c.nested.ensures

pub returns-in_default : goal.returns-in_default
returns-in_default c = absurd (some-naming c.requires.0 c.requires.1 c.in_default.ensures)
