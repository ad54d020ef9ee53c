-- What the laws of every call ask of a call: that its codes are above 0 and its places small, and
-- that its slices hold what is computed where it is done.
use Rattle.std.specs.Prelude.{ℕ, ◌^◌, ◌<◌, ◌≡◌, Bool, true, ◌&&◌, List, [], ◌∷◌, ltb}
use Rattle.std.proofs.Math.Option.{none, some}
use Rattle.answers.specs.Answers.{when_done, Check}
use Rattle.answers.specs.StandardLaws.{LentSlice, lent_slice}
use Rattle.answers.specs.Answers.{Answer}

-- the code of each check is above 0
abbrev pub codes_above : List Check → Bool
codes_above [] = true
codes_above (k ∷ ks) = ltb 0 k.number && codes_above ks

-- the place of each check is small, as far as none before it applies, and so is the place of a call
-- to which none applies
abbrev pub SmallPlaces : List Check → (done : ℕ) → Type 0
SmallPlaces [] done = done < 2 ^ 32
SmallPlaces (k ∷ ks) done = ((p : ℕ) → k.found ≡ some p → p < 2 ^ 32) × (k.found ≡ none → SmallPlaces ks done)

-- each slice holds at the end what is computed where the call is done, and else what it held
pub data GivenSlices (a : Answer) : List LentSlice → Type 0 where
  no_slice : GivenSlices a []
  one_slice : {entry : List ℕ} {ls : List LentSlice} (computed : List ℕ) → GivenSlices a ls
      → GivenSlices a (lent_slice entry (when_done a computed entry) ∷ ls)
