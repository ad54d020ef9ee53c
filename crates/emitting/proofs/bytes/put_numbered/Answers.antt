-- The words one after the other, the last first.
-- Assumes nothing.
use Prim.Native.Nat.{◌+◌, ◌*◌}
use native.Mathlib.Omega.{arith}
use mathlib.Core.Path.{◌≡◌, refl, ap, ◌∙◌}
use mathlib.Core.List.{[], ◌∷◌}
use lib.ListN.{drop, get_or}
use Rattle.emitting.proofs.RecordLaws.{word-put, all-put}
use Rattle.emitting.proofs.bytes.put_numbered.Goals as goal

pub loop-k-init : goal.loop-k-init
loop-k-init c =
    let h = c.if-cursor-eq0.false in
    let s = c.from-start.ensures in
    let e : 12 * c.from-start.result + 12 ≡ 12 * c.args.cursor = omega arith in
    (ap (λ n. drop n c.args.sheet.now) e, refl)

pub loop-k-preserved : goal.loop-k-preserved
loop-k-preserved c =
    let w = c.args.words in
    let under = c.loop-k.auto.k in (
      word-put (c.args.kind ∷ get_or w 0 0 ∷ get_or w 1 0 ∷ get_or w 2 0 ∷ get_or w 3 0 ∷ get_or w 4 0 ∷ []) (12 * c.from-start.result) c.loop-k.k _ _ _
          c.loop-k-test.true (omega arith) c.put_word.ensures.0 c.loop-k.invariant.0,
      c.put_word.ensures.1 ∙ c.loop-k.invariant.1,
    )

pub returns : goal.returns
returns c =
    let ended = c.loop-k-test.false in
    all-put c.args.kind c.args.words (omega arith) c.from-start.ensures c.loop-k.invariant.0 c.loop-k.invariant.1
