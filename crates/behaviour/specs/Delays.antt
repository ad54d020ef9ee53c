-- The values that the delays of a term hold, leaf by leaf: each place with the value that belongs there, the part of a delay before
-- the delay itself, as they are evaluated. `store` enters them into a table of one number a record.
use Rattle.std.specs.Prelude.{ℕ, List, [], ◌++◌, map}
use Rattle.meaning.specs.Elaboration.{
  Term,
  Constant,
  Name,
  Pair,
  First,
  Second,
  LetIn,
  Feedback,
  IfThenElse,
  Delayed,
}
use Rattle.behaviour.specs.Entries.{Entry, assigned, put_all, enter}

abbrev pub entries : Term → List Entry
entries (Constant τ v) = []
entries (Name n) = []
entries (Pair t u) = entries t ++ entries u
entries (First σ t) = entries t
entries (Second σ t) = entries t
entries (LetIn t u) = entries t ++ entries u
entries (Feedback τ t u) = entries t ++ entries u
entries (IfThenElse t p u r) = entries t ++ (entries u ++ entries r)
entries (Delayed places τ v t) = entries t ++ assigned places v

-- where they stand
abbrev pub places : Term → List ℕ
places t = map (λ e. e.place) (entries t)

-- the table h with each delay's value at its places
abbrev pub store : Term → List ℕ → List ℕ
store t h = put_all enter (entries t) h
