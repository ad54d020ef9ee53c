-- Each record is placed after the one that names it. Assumes nothing.
use native.Mathlib.Omega.{arith}
use Prim.Native.Nat.{ℕ}
use mathlib.Core.Path.{◌≡◌, subst}
use Rattle.records.specs.Words.{count}
use Rattle.records.specs.Sized.{Sized}
use Rattle.structure.specs.DepthTable.{Placed}
use Rattle.structure.proofs.depth.Placements.place_all.Goals as goal

pub loop-rec-init : goal.loop-rec-init
loop-rec-init c = c.requires.3

pub place-requires : goal.place-requires
place-requires c =
    let s = c.args.sheet.now in
    let n = c.records-rec-end.ensures.counted in (
      record {
        sized = subst (λ (m : ℕ). Sized s m) n c.records-rec-end.ensures.sized;
        written = c.requires.0;
        well = c.requires.1;
        named = c.requires.2;
        some = c.loop-rec.auto.rec;
        placed = c.loop-rec.invariant;
      },
      omega arith,
    )

pub returns : goal.returns
returns c =
    let s = c.args.sheet.now in
    let n = c.records-rec-end.ensures.counted in
    let some = c.records-rec-end.ensures.sized.some in
    let high = c.loop-rec.auto.rec-end (omega arith) in
    let e : c.loop-rec.rec ≡ count s = omega arith in
    subst (λ (m : ℕ). Placed s m c.loop-rec.self.depths c.loop-rec.self.nestings) e c.loop-rec.invariant
