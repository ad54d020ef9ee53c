-- An index of the pair types below a record, by their parts: a list of slots, each with a pair type or 0 for none. A search for
-- the pair type of a and b begins at slot a. Where a slot holds a pair type of other parts, it goes on at one of the two slots
-- that belong to that type, by the lowest bit of b, then by the next. A first part from 4,096 on, which no sheet that passes code
-- 3 has, begins at its rest by 4,096.
use Rattle.std.specs.Prelude.{ℕ, zero, suc, ◌+◌, ◌*◌, ◌/◌, ◌%◌, ◌≤◌, ◌<◌, ◌≡◌, Bool, true, false, cond, not, ◌&&◌, List, length, get_or, eqb, Option, Some, None}
use Rattle.records.specs.Limits.{most_records}
use Rattle.records.specs.Words.{word_a, word_b}
use Rattle.records.specs.Kinds.{is_pair}
use Rattle.records.specs.Says.{kind_at}
use Rattle.records.specs.Trees.{is_pair_of, pair_below}

-- the slots: one for each first part and two for each pair type
abbrev pub pair_slots : ℕ
pair_slots = 12288

-- a slot holds a pair type of other parts
abbrev pub another : (s index : List ℕ) (a b slot : ℕ) → Bool
another s index a b slot = not (eqb (get_or index slot 0) 0) && not (is_pair_of s a b (get_or index slot 0))

-- where a search goes on that has these bits of the second part left
abbrev pub onwards : (index : List ℕ) (slot bits : ℕ) → ℕ
onwards index slot bits = most_records + 2 * get_or index slot 0 + bits % 2

-- in so many steps from a slot the search comes to its end
abbrev pub Ends : (s index : List ℕ) (a b steps slot bits end : ℕ) → Type 0
Ends s index a b zero slot bits end = (another s index a b slot ≡ false) × (slot ≡ end)
Ends s index a b (suc k) slot bits end =
    (another s index a b slot ≡ true) × Ends s index a b k (onwards index slot bits) (bits / 2) end

pub record SlotFound (s index : List ℕ) (a b end : ℕ) : Type 0 where
  pub steps : ℕ
  pub ends : Ends s index a b steps (a % most_records) b end

-- each slot holds a record below m, whose own slots come later
pub record Linked (m : ℕ) (index : List ℕ) : Type 0 where
  pub long : length index ≡ pair_slots
  pub lower : (slot : ℕ) → 0 < get_or index slot 0 → get_or index slot 0 < m
  pub later : (slot : ℕ) → 0 < get_or index slot 0 → slot < most_records + 2 * get_or index slot 0

-- each search finds the lowest pair type below m
pub record Indexed (s : List ℕ) (m : ℕ) (index : List ℕ) : Type 0 where
  pub linked : Linked m index
  pub unused : (slot : ℕ) → most_records + 2 * m ≤ slot → get_or index slot 0 ≡ 0
  pub finds : (a b end : ℕ) → SlotFound s index a b end → get_or index end 0 ≡ pair_below s a b m

-- the lowest pair type below record r with the parts of r, 0 where there is none
abbrev pub lower_pair : List ℕ → ℕ → ℕ
lower_pair s r = cond (is_pair (kind_at s r)) (pair_below s (word_a s r) (word_b s r) r) 0

-- a record that a slot or a search gives, where 0 stands for none
abbrev pub some_record : ℕ → Option ℕ
some_record zero = None
some_record (suc r) = Some (suc r)
