-- A replay on a copy of the sheet: the copy begins as the sheet, and where no cycle differs it is
-- copied to the next slice.
-- Assumes nothing.
use Prim.Native.Nat.{ℕ}
use mathlib.Core.List.{List, ◌++◌}
use mathlib.Core.Path.{◌≡◌, refl, sym, ◌∙◌}
use lib.ListN.{length, drop}
use Rattle.evaluator.proofs.Frames.{put_whole}
use Rattle.replay.specs.Replay.{Finding}
use Rattle.replay.specs.Replay.{Agrees, Differs}
use Rattle.replay.specs.Replaying.{ReplayingCycles, ReplayedCycles, ReplayingInto, ReplayedInto}

module _ {s : List ℕ} {n : ℕ} {W stim recorded : List ℕ} {wi wo count : ℕ} {next : List ℕ}
    (r : ReplayingInto s n W stim recorded wi wo count next)
  where
    pub copy-begins : (current : List ℕ) {current₁ : List ℕ} → length current ≡ length s → current₁ ≡ s ++ drop (length s) current
        → ReplayingCycles s n W stim recorded wi wo count current₁
    copy-begins current {current₁} l e =
        record { over = r.over; recorded_long = r.recorded_long; start = put_whole s current current₁ (sym l) e }

    module _ {current₂ : List ℕ} {told : Finding} (q : ReplayedCycles s stim recorded current₂ told) where
      pub differing-left : {k l : ℕ} → told ≡ Differs k l → ReplayedInto s stim recorded next next told
      differing-left e = record { compared = q.compared; next_is = rw (← q.compared, e) refl }

      pub agreeing-put : {m : ℕ} → told ≡ Agrees m → length current₂ ≡ length next → {next₁ : List ℕ}
          → next₁ ≡ current₂ ++ drop (length current₂) next → ReplayedInto s stim recorded next next₁ (Agrees m)
      agreeing-put {m} e l {next₁} p =
          record {
            compared = sym e ∙ q.compared;
            next_is = put_whole current₂ next next₁ l p ∙ q.next m e ∙ rw (← q.compared, e) refl;
          }
