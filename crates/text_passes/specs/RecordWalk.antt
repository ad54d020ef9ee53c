-- The walk over records by the words that name (docs/SHEETS.md, "The sheet of a text": "in
-- preorder: a record, then each part with its whole subtree, in the order of the words that name
-- the parts"): a record, then what its words a, b, c and d name, in this order and each with all
-- that belongs to it, and last what its next names.
use Rattle.std.specs.Prelude.{ℕ, zero, suc, cond, List, [], ◌∷◌, ◌++◌}
use Rattle.records.specs.Words.{word, count}
use Rattle.records.specs.Says.{ask_at, names}
use Rattle.records.specs.Trees.{follow}

-- the words by their numbers: a, b, c, d, next
abbrev pub walk_order : List ℕ
walk_order = 2 ∷ 3 ∷ 4 ∷ 5 ∷ 1 ∷ []

-- what those of these words name that name a record; a next of 0 names none
abbrev pub named_by : (sheet : List ℕ) (r : ℕ) (words : List ℕ) → List ℕ
named_by s r [] = []
named_by s r (k ∷ ks) = cond (names (ask_at s r k)) (word s r k ∷ named_by s r ks) (named_by s r ks)

abbrev pub visit_each : (ℕ → List ℕ) → List ℕ → List ℕ
visit_each go [] = []
visit_each go (r ∷ rs) = follow [] go r ++ visit_each go rs

-- Named records have higher numbers, so as many steps as there are records are enough.
unfoldable pub walk_within : List ℕ → ℕ → ℕ → List ℕ
walk_within s zero r = []
walk_within s (suc fuel) r = r ∷ visit_each (walk_within s fuel) (named_by s r walk_order)

-- the records that the walk from record r visits, in its order
unfoldable pub record_walk : List ℕ → ℕ → List ℕ
record_walk s r = walk_within s (count s) r

-- n numbers from r on
abbrev pub numbers_from : (r n : ℕ) → List ℕ
numbers_from r zero = []
numbers_from r (suc n) = r ∷ numbers_from (suc r) n
