-- What a search over records asks of its test.
use Rattle.std.specs.Prelude.{ℕ, Bool, false, ◌≤◌, ◌<◌, ◌≡◌}

-- the test p passes no record below the first, and from there on up to n records the calls answer as it does
abbrev pub Answering : (answers : ℕ → Bool → Type 0) (p : ℕ → Bool) (first n : ℕ) → Type 0
Answering answers p first n =
    ((q : ℕ) → q < first → p q ≡ false) × ((q : ℕ) (b : Bool) → first ≤ q → q < n → answers q b → b ≡ p q)
