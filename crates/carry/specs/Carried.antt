-- The carried sheet (docs/SHEETS.md, "Carrying": "Where a delay of the new sheet and one of the old bear the same label, and their types
-- have the same shape, the new one gets the held value of the old. Nothing else of the new sheet changes"). Record by record of the new
-- sheet. A held value is the words a of the delay's leaves; what is taken is a byte, so the word's second byte becomes 0.
use Rattle.std.specs.Prelude.{ℕ, zero, suc, List, [], ◌++◌}
use Rattle.std.proofs.Math.Option.{Option, none, some}
use Rattle.records.specs.Words.{count, word_b}
use Rattle.records.specs.Trees.{chain}
use Rattle.records.specs.Decoding.{leaf_values}
use Rattle.answers.specs.Answers.{when}
use Rattle.behaviour.specs.Entries.{Entry, assigned, put_all, put_word}
use Rattle.carry.specs.Labels.{label, bearer, delay_type, same_shape}

-- the leaf records of delay r, and the value that it holds
abbrev pub leaves_at : List ℕ → ℕ → List ℕ
leaves_at s r = chain s (word_b s r)

abbrev pub held_at : List ℕ → ℕ → List ℕ
held_at s r = leaf_values s (leaves_at s r)

-- where both types have the same shape
abbrev pub of_same_shape : (old new : List ℕ) (r : ℕ) → Option ℕ → Option ℕ
of_same_shape old new r none = none
of_same_shape old new r (some q) = when (same_shape (delay_type old q) (delay_type new r)) q

-- the old sheet's delay from which record r of the new sheet takes, if there is one
unfoldable pub giver : (old new : List ℕ) → ℕ → Option ℕ
giver old new r = of_same_shape old new r (bearer old (label new r))

-- each leaf of record r with the value that it takes
abbrev pub taken_from : (old new : List ℕ) (r : ℕ) → Option ℕ → List Entry
taken_from old new r none = []
taken_from old new r (some q) = assigned (leaves_at new r) (held_at old q)

-- those of the records below n
unfoldable pub taken_below : (old new : List ℕ) → ℕ → List Entry
taken_below old new zero = []
taken_below old new (suc r) = taken_below old new r ++ taken_from old new r (giver old new r)

unfoldable pub carried : (old new : List ℕ) → List ℕ
carried old new = put_all put_word (taken_below old new (count new)) new
