-- The invariant: where the search from here on ends, the search from its beginning does. Each slot comes after the one before.
-- Assumes nothing.
use Prim.Native.Nat.{suc, ◌+◌, ◌*◌, ◌%◌, ◌<◌}
use mathlib.Core.Path.{◌≡◌, refl}
use mathlib.Core.Bool.{true}
use native.Mathlib.Omega.{arith}
use Rattle.records.specs.Words.{count}
use Rattle.structure.specs.PairIndex.{another, onwards}
use Rattle.structure.proofs.PairSearch.{goes_on}
use Rattle.structure.proofs.pairs.PairIndex.slot_of.Goals as goal

-- the pair type that a slot holds, and the slot that comes next
next : (c : goal.In-Some)
    → (c.in-Some.q < count c.args.sheet.now)
    × (c.loop-q.slot < 4096 + 2 * c.in-Some.q + c.loop-q.rest % 2)
    × (4096 + 2 * c.in-Some.q + c.loop-q.rest % 2 < 12288)
    × (4096 + 2 * c.in-Some.q + c.loop-q.rest % 2 ≡ onwards c.args.self.now c.loop-q.slot c.loop-q.rest)
    × (another c.args.sheet.now c.args.self.now c.args.a c.args.b c.loop-q.slot ≡ true)
next c =
    let e = rw c.in-Some.is at c.another.ensures in
    let few = c.records-records.ensures.sized.few in
    let n = c.records-records.ensures.counted in
    let p = goes_on c.args.sheet.now c.args.self.now c.args.a c.args.b c.requires (omega arith) c.loop-q.rest e.0 e.1 in
    (p.0, p.1, p.2, p.3, e.0)

pub overflow_mul-slot : goal.overflow_mul-slot
overflow_mul-slot c = let p = next c in omega arith

pub overflow_add-slot : goal.overflow_add-slot
overflow_add-slot c = let p = next c in omega arith

pub overflow_add-slot-in-Some : goal.overflow_add-slot-in-Some
overflow_add-slot-in-Some c = let p = next c in omega arith

pub loop-q-preserved : goal.loop-q-preserved
loop-q-preserved c =
    let p = next c in
    (p.2, λ k end q. c.loop-q.invariant.1 (suc k) end (p.4, rw p.3 at q))

pub loop-q-smaller : goal.loop-q-smaller
loop-q-smaller c = let p = next c in omega arith

pub returns : goal.returns
returns c =
    let few = c.records-records.ensures.sized.few in
    let n = c.records-records.ensures.counted in (
      c.loop-q.invariant.1 0 c.loop-q.slot (c.in_default.ensures, refl),
      c.loop-q.invariant.0,
      omega arith,
    )
