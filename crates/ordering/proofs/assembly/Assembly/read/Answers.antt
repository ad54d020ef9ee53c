-- There is room for one instruction more, and so many give no more than so many.
-- Assumes nothing.
use Prim.Native.Nat.{◌-◌, ◌<◌}
use native.Mathlib.Omega.{arith}
use mathlib.Core.Path.{◌≡◌, sym, ap, ◌∙◌}
use mathlib.Core.List.{◌∷◌}
use lib.ListN.{length, drop}
use Rattle.std.specs.Prelude.{reverse}
use Rattle.std.proofs.lemmas.List.{length-drop, length-reverse}
use Rattle.instructions.specs.Assembly.{nothing_assembled, assemble_all}
use Rattle.instructions.specs.Said.{said}
use Rattle.ordering.specs.Held.{assembled}
use Rattle.instructions.proofs.FromBottom.{next-instruction}
use Rattle.ordering.proofs.FewLaws.{has-room, one-more, few-read}
use Rattle.ordering.proofs.assembly.Assembly.read.Goals as goal

pub step-requires : goal.step-requires
step-requires c =
    let X = c.args.instructions.now in
    let below : c.loop-k.k < length X = (let t = c.loop-k-test.true in let e = c.len-k-end.ensures in omega arith) in
    let d = length-drop (length X - c.loop-k.k) X in
    let r = length-reverse (drop (length X - c.loop-k.k) X) in
    has-room c.loop-k.self (reverse (drop (length X - c.loop-k.k) X)) c.loop-k.invariant (let l = c.requires in omega (arith, d, r))

pub loop-k-preserved : goal.loop-k-preserved
loop-k-preserved c =
    let X = c.args.instructions.now in
    let k = c.loop-k.k in
    let below : k < length X = (let t = c.loop-k-test.true in let e = c.len-k-end.ensures in omega arith) in
    one-more nothing_assembled (assembled c.loop-k.self) (assembled c.step.new.self) (drop (length X - k) X) (said c.get.result) c.loop-k.invariant c.step.ensures.one_more
    ∙ ap (λ i. assemble_all nothing_assembled (reverse (i ∷ drop (length X - k) X))) c.get.ensures
    ∙ ap (λ Z. assemble_all nothing_assembled (reverse Z)) (sym (next-instruction X k below))

pub returns-clause-few : goal.returns-clause-few
returns-clause-few c =
    let X = c.args.instructions.now in
    let all : length X - c.loop-k.k ≡ 0 = (let t = c.loop-k-test.false in let e = c.len-k-end.ensures.0 in omega arith) in
    few-read (assembled c.loop-k.self) X (c.loop-k.invariant ∙ ap (λ n. assemble_all nothing_assembled (reverse (drop n X))) all)
