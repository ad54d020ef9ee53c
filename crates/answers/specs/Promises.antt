-- What is promised of answers, as named types; one term of each stands in `proofs/Kept.antt`.
use Rattle.std.specs.Prelude.{ℕ, ◌^◌, ◌<◌, ◌≡◌, ◌↔◌, Bool, true, false, List}
use Rattle.std.proofs.Math.Option.{none, some}
use Rattle.answers.specs.Answers.{in_one, code_of_result, place_of_result, lowest, Check, first_applying, SaysOf}
use Rattle.answers.specs.Answers.{Answer}
use Rattle.answers.specs.Answers.{Done}

-- the number r passes the test, and no lower one does
abbrev pub LowestBreaking : (ℕ → Bool) → ℕ → ℕ → Type 0
LowestBreaking wrong n r = (r < n) × (wrong r ≡ true) × ((q : ℕ) → q < r → wrong q ≡ false)

-- A search finds the lowest number that passes, and nothing exactly where none does.
abbrev pub LowestFound : Type 0
LowestFound = (wrong : ℕ → Bool) (n r : ℕ) → lowest wrong n ≡ some r ↔ LowestBreaking wrong n r

abbrev pub LowestNone : Type 0
LowestNone = (wrong : ℕ → Bool) (n : ℕ) → lowest wrong n ≡ none ↔ ((r : ℕ) → r < n → wrong r ≡ false)

-- The answer of a list of checks is that of the first that applies, and no other answer is.
abbrev pub FirstThatApplies : Type 0
FirstThatApplies =
    (ks : List Check) (done : ℕ) (a : Answer) → first_applying ks (Done done) ≡ a ↔ SaysOf ks done a

-- A code and a place below 2^32 are read back from the one number.
abbrev pub TakenApart : Type 0
TakenApart = (c p : ℕ) → p < 2 ^ 32 → (code_of_result (in_one c p) ≡ c) × (place_of_result (in_one c p) ≡ p)

-- all of them
pub record AnswerPromises : Type 0 where
  pub lowest_found : LowestFound
  pub lowest_none : LowestNone
  pub first_that_applies : FirstThatApplies
  pub taken_apart : TakenApart
