-- The measure is the type's record: its parts are lower. Assumes nothing.
use native.Mathlib.Omega.{arith}
use Rattle.structure.proofs.Passes.{written}
use Rattle.typing.proofs.Chains.{first-lower, second-lower, first-misfit, both-taken, no-leaf-left, too-great, one-taken}
use Rattle.typing.proofs.KindTests.{is-pair-type, no-pair-type}
use Rattle.typing.proofs.leaves.+take_off.Goals as goal
use Rattle.typing.proofs.leaves.+take_off.Goals.{then-leaf-eq0-via-then-leaf-eq0, then-leaf-eq0-via-else-leaf-eq0+then-word}

pub take_off-requires : goal.take_off-requires
take_off-requires t c =
    let p = first-lower (written c.requires.0) c.requires.1 c.args.leaf (is-pair-type _ _ _ c.kind.ensures c.eq.ensures c.if-eq.true) c.word.ensures.0 in
    (omega (arith, c.decreases, p.1), (c.requires.0, p.0, c.requires.2))

pub returns-in_err-rest : goal.returns-in_err-rest
returns-in_err-rest t c =
    rw c.from_residual.ensures
    (first-misfit (written c.requires.0) c.requires.1 c.args.leaf (is-pair-type _ _ _ c.kind.ensures c.eq.ensures c.if-eq.true) c.word.ensures.0 c.in_err-rest.ensures)

pub take_off-requires-then-eq : goal.take_off-requires-then-eq
take_off-requires-then-eq t c =
    let p = second-lower (written c.requires.0) c.requires.1 c.args.leaf (is-pair-type _ _ _ c.kind.ensures c.eq.ensures c.if-eq.true) c.word-then-eq.ensures.0 in
    (omega (arith, c.decreases, p.1), (c.requires.0, p.0, c.take_off.ensures.goes_on _ c.in_ok-rest.was))

pub returns-then-eq : goal.returns-then-eq
returns-then-eq t c =
    both-taken (written c.requires.0) c.requires.1 c.args.leaf (is-pair-type _ _ _ c.kind.ensures c.eq.ensures c.if-eq.true) c.word.ensures.0 c.word-then-eq.ensures.0
    c.take_off.ensures c.in_ok-rest.was c.take_off-then-eq.ensures

pub returns-then-leaf-eq0 : goal.returns-then-leaf-eq0
returns-then-leaf-eq0 t c =
    elim c.then-leaf-eq0.branch [
      | then-leaf-eq0-via-then-leaf-eq0 w ↦
          no-leaf-left (written c.requires.0) c.requires.1 c.args.leaf (no-pair-type _ _ _ c.kind.ensures c.eq.ensures c.if-eq.false) w.if-leaf-eq0.true
      | then-leaf-eq0-via-else-leaf-eq0+then-word w ↦
          too-great (written c.requires.0) c.requires.1 c.args.leaf (no-pair-type _ _ _ c.kind.ensures c.eq.ensures c.if-eq.false) c.requires.2 w.if-leaf-eq0.false
          w.word-else-leaf-eq0.ensures.0 w.word-else-leaf-eq0-2.ensures.0 w.if-word.true
    ]

pub returns : goal.returns
returns t c =
    one-taken (written c.requires.0) c.requires.1 c.args.leaf (no-pair-type _ _ _ c.kind.ensures c.eq.ensures c.if-eq.false) c.requires.2 c.if-leaf-eq0.false
    c.word-else-leaf-eq0.ensures.0 c.word-else-leaf-eq0-2.ensures.0 c.if-word.false c.word-2.ensures.0
