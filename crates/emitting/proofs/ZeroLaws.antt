-- Undefined leaves are written one after the other, the last first.
-- Assumes nothing.
use Prim.Native.Nat.{ℕ, zero, suc, ◌-◌, ◌*◌, ◌≤◌}
use mathlib.Core.Path.{◌≡◌, refl, sym, ◌∙◌, subst}
use mathlib.Core.List.{List, ◌∷◌, ◌++◌}
use native.Mathlib.Omega.{arith}
use lib.ListN.{length, drop}
use Rattle.records.specs.SheetOf.{Record, words, sheet_of}
use Rattle.instructions.specs.Emission.{zeros_written, zeros_next}
use Rattle.emitting.specs.Emitting.{RecordPut}
use Rattle.emitting.proofs.AdvanceLaws.{record-on}

less_one : (k : ℕ) → suc k - 1 ≡ k
less_one k = omega arith

-- so many are left
pub record ZerosLeft (sheet₀ : List ℕ) (cursor next count : ℕ) (sheet : List ℕ) (at after left : ℕ) : Type 0 where
  pub cursor-same : at - left ≡ cursor - count
  pub next-same : zeros_next left at after ≡ zeros_next count cursor next
  pub laid_out : (R : List Record) (tail : List ℕ) → drop (12 * cursor) sheet₀ ≡ sheet_of R ++ tail → count ≤ cursor
      → (R' : List Record) × (zeros_written left R' at after ≡ zeros_written count R cursor next) × (drop (12 * at) sheet ≡ sheet_of R' ++ tail) × (left ≤ at)
  pub room : 12 * at ≤ length sheet
  pub as_long : length sheet ≡ length sheet₀

one-put : {s₀ : List ℕ} {cursor next count : ℕ} {s s' : List ℕ} {at after : ℕ} (k r : ℕ) → r ≡ at - 1 → ZerosLeft s₀ cursor next count s at after (suc k)
    → RecordPut s s' at (words 64 after 0 0 0 0) (at - 1) → ZerosLeft s₀ cursor next count s' (at - 1) (at - 1) k
one-put {at = at} k r e z put =
    let room = z.room in
    let long = put.as_long in
    let before = z.cursor-same in
    let gone : at - 1 - k ≡ at - suc k = omega arith in
    record {
      cursor-same = gone ∙ before;
      next-same = z.next-same;
      laid_out = λ R tail f l.
          let done = z.laid_out R tail f l in
          let enough = done.3 in
          (words 64 _ 0 0 0 0 ∷ done.0, done.1, record-on done.0 tail put (omega arith) done.2, omega arith);
      room = omega arith;
      as_long = put.as_long ∙ z.as_long;
    }

pub zero-put : {s₀ : List ℕ} {cursor next count : ℕ} {s s' : List ℕ} {at after left r : ℕ} → ¬ (left ≡ 0) → ZerosLeft s₀ cursor next count s at after left
    → RecordPut s s' at (words 64 after 0 0 0 0) r → ZerosLeft s₀ cursor next count s' r r (left - 1)
zero-put {s₀} {cursor} {next} {count} {s} {s'} {at} {after} {left} {r} h z put = go left h z
  where
    go : (k : ℕ) → ¬ (k ≡ 0) → ZerosLeft s₀ cursor next count s at after k → ZerosLeft s₀ cursor next count s' r r (k - 1)
    go zero h z = absurd (h refl)
    go (suc k) h z =
        rw (less_one k)
        (subst (λ (q : ℕ). ZerosLeft s₀ cursor next count s' q q k) (sym put.one_less)
        (one-put k r put.one_less z (subst (λ (q : ℕ). RecordPut s s' at (words 64 after 0 0 0 0) q) put.one_less put)))
