-- An accepted sheet is of whole records, at most 49,152 bytes long, and its types have at most 64 leaves.
-- Assumes nothing.
use Prim.Native.Nat.{ℕ, ◌*◌, ◌/◌, ◌%◌, ◌≤◌}
use mathlib.Core.Bool.{not, ◌||◌}
use mathlib.Core.List.{List}
use mathlib.Core.Path.{◌≡◌}
use native.Mathlib.Omega.{arith}
use native.Mathlib.Nat.{div-add-mod'}
use borrow.Author.Tests.{eqb-true, ltb-false, not-false}
use lib.Dec.{eqb, ltb}
use lib.ListN.{length}
use Rattle.picoella.specs.Language.{leaves}
use Rattle.records.specs.Words.{count}
use Rattle.records.specs.Sized.{Sized}
use Rattle.records.specs.Trees.{type_at, TypeRecord}
use Rattle.records.proofs.Tests.{neither_left, neither_right}
use Rattle.records.proofs.Types.{few-leaves}
use Rattle.structure.specs.Rules.{Passes, wrong_length}
use Rattle.structure.proofs.Passes.{types-fit}
use Rattle.verdict.specs.Verdict.{verdict}
use Rattle.answers.specs.Answers.{Accepted}
use Rattle.verdict.proofs.Exact.{exact}
use Rattle.accepted.proofs.Requirements.{sized}

module _ {s : List ℕ} {t : ℕ} (v : verdict s ≡ Accepted t) where
  pub accepted-passes : Passes s
  accepted-passes = ((exact s t).0 v).0

  pub output-typed : TypeRecord s t
  output-typed = ((exact s t).0 v).1.0

  pub type-few : (r : ℕ) → TypeRecord s r → leaves (type_at s r) ≤ 64
  type-few r u = few-leaves (types-fit accepted-passes) r u.there u.sort

-- no signature here determines the sheet
module _ (s : List ℕ) {t : ℕ} (v : verdict s ≡ Accepted t) where
  pub accepted-length : length s ≤ 49152
  unfolding wrong_length
  accepted-length =
      let f = neither_right (ltb (length s) 12) (ltb 49152 (length s) || not (eqb (length s % 12) 0)) (accepted-passes v).length in
      ltb-false 49152 (length s) (neither_left (ltb 49152 (length s)) (not (eqb (length s % 12) 0)) f)

  pub accepted-records : length s ≡ 12 * count s
  unfolding wrong_length count
  accepted-records =
      let f = neither_right (ltb (length s) 12) (ltb 49152 (length s) || not (eqb (length s % 12) 0)) (accepted-passes v).length in
      let r : length s % 12 ≡ 0 =
      eqb-true (length s % 12) 0
      (not-false (eqb (length s % 12) 0) (neither_right (ltb 49152 (length s)) (not (eqb (length s % 12) 0)) f)) in
      let d = div-add-mod' (length s) 12 in
      omega arith

  pub accepted-few : leaves (type_at s t) ≤ 64
  accepted-few = type-few v t (output-typed v)

module _ {s : List ℕ} {t : ℕ} (v : verdict s ≡ Accepted t) where
  pub accepted-sized : Sized s (length s / 12)
  unfolding count
  accepted-sized = sized (accepted-passes v) (accepted-records s v)
