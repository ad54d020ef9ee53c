-- Codes 2 and 3 by what the code reads: the kind is that of a header exactly at a header. Assumes nothing.
use mathlib.Core.Path.{◌≡◌, refl}
use mathlib.Core.Bool.{Bool, true, false, not, ◌&&◌}
use mathlib.Core.List.{List}
use Prim.Native.Nat.{ℕ, ◌<◌}
use native.Mathlib.Omega.{arith}
use borrow.Author.Tests.{lt-ltb}
use denote.Enum.Bare.{sameb}
use Rattle.records.specs.contracts.kinds.Kind.{the_type}
use Rattle.records.specs.declared.kinds.Kind.{Kind}
use Rattle.records.specs.declared.kinds.Kind.TheVariants.{Header}
use Rattle.records.specs.Kinded.{kind_meant}
use Rattle.records.specs.Says.{kind_at, well_said}
use Rattle.records.proofs.Tests.{never_both}
use Rattle.records.proofs.Kinded.{same-header}
use Rattle.structure.specs.Rules.{wrong_header, wrong_record}

module _ (s : List ℕ) (r : ℕ) (k : Kind) {b : Bool} where
  pub second-header : 0 < r → kind_meant k ≡ kind_at s r → b ≡ sameb the_type k Header → b ≡ true → b ≡ wrong_record s r
  unfolding wrong_record
  second-header h ek eb et = rw (lt-ltb 0 r h, ← ek, ← same-header k, ← eb, et)

  pub record-tested : {said : Bool} → 0 < r → kind_meant k ≡ kind_at s r → b ≡ sameb the_type k Header → b ≡ false → said ≡ well_said s r
      → not said ≡ wrong_record s r
  unfolding wrong_record
  record-tested {said} h ek eb ef es = rw (lt-ltb 0 r h, ← ek, ← same-header k, ← eb, ef, es)

module _ (s : List ℕ) (k : Kind) {b : Bool} (ek : kind_meant k ≡ kind_at s 0) (eb : b ≡ not (sameb the_type k Header)) where
  pub no_header : b ≡ true → b ≡ wrong_header s
  unfolding wrong_header
  no_header et = rw (← ek, ← same-header k) (go (sameb the_type k Header) eb)
    where
      go : (t : Bool) → b ≡ not t → b ≡ not (t && well_said s 0)
      go true e = absurd (never_both b et e)
      go false e = e

  pub header-tested : {said : Bool} → b ≡ false → said ≡ well_said s 0 → not said ≡ wrong_header s
  unfolding wrong_header
  header-tested {said} ef es = rw (← ek, ← same-header k, es) (go (sameb the_type k Header) eb)
    where
      go : (t : Bool) → b ≡ not t → not (well_said s 0) ≡ not (t && well_said s 0)
      go true e = refl
      go false e = absurd (never_both b e ef)

-- the header is no record that code 3 speaks of
pub not-the-header : (s : List ℕ) (q : ℕ) → q < 1 → wrong_record s q ≡ false
unfolding wrong_record
not-the-header s q h = let e : q ≡ 0 = omega arith in rw e
