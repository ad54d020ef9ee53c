-- The place of a verdict is a record of the sheet, so it is below 4,096.
-- Assumes nothing.
use mathlib.Core.Path.{◌≡◌, refl, sym}
use mathlib.Core.List.{List}
use Prim.Native.Nat.{ℕ, ◌<◌}
use native.Mathlib.Omega.{arith}
use Rattle.answers.specs.Answers.{place, verdict_answer}
use Rattle.structure.proofs.Passes.{length-fits}
use Rattle.verdict.specs.Promises.{Says, PlacesBelow}
use Rattle.verdict.specs.Verdict.{verdict}
use Rattle.answers.specs.Answers.{Verdict}
use Rattle.answers.specs.Answers.{
  Accepted,
  WrongLength,
  WrongHeader,
  WrongRecord,
  WrongNaming,
  WrongType,
  TooDeep,
  IllTyped,
}
use Rattle.verdict.proofs.Exact.{exact}
use Rattle.verdict.proofs.IllTypedExactly.{ill_typed_exactly}
use Rattle.verdict.proofs.Places.{places-right}

-- the place of each verdict is below the count, or 0
place-below : (s : List ℕ) (v : Verdict) → verdict s ≡ v → Says s v → place (verdict_answer v) < 4096
place-below s (Accepted t) e says =
    let p = (exact s t).0 e in
    let few = (length-fits s p.0.length).1 in
    let h = p.1.0.there in
    omega arith
place-below s WrongLength e says = omega arith
place-below s WrongHeader e says = omega arith
place-below s (WrongRecord r) e says = let few = (length-fits s says.0).1 in omega (arith, says.2.0)
place-below s (WrongNaming r) e says = let few = (length-fits s says.0).1 in omega (arith, says.3.0)
place-below s (WrongType r) e says = let few = (length-fits s says.0).1 in omega (arith, says.4.0)
place-below s (TooDeep r) e says = let few = (length-fits s says.0).1 in omega (arith, says.5.0)
place-below s (IllTyped r) e says =
    let few = (length-fits s says.0.length).1 in omega (arith, ((ill_typed_exactly s r).0 e).1.there)

pub verdict-place : PlacesBelow
verdict-place s = place-below s (verdict s) refl (places-right s)

-- the type of an accepted sheet
pub output-place : (s : List ℕ) (t : ℕ) → Accepted t ≡ verdict s → t < 4096
output-place s t e = let q : verdict s ≡ Accepted t = sym e in rw q at (verdict-place s)
