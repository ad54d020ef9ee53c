-- What a text in a lent buffer is, as clauses see it, and what a function that writes to it asks
-- and gives.
use Rattle.std.specs.Prelude.{ℕ, ◌+◌, ◌≤◌, ◌≡◌, List, ◌++◌, length, drop}
use Rattle.std.specs.Borrow.{GName}

-- the bytes written so far, how many the buffer has room for in all, what stands behind those
-- bytes, and which buffer it is: the name of the loan
pub record Written : Type 0 where
  pub bytes : List ℕ
  pub room : ℕ
  pub rest : List ℕ
  pub lender : GName

-- so many bytes more have room
abbrev pub HasRoom : (old : Written) (n : ℕ) → Type 0
HasRoom old n = length old.bytes + n ≤ old.room

-- the text stands at the end, the bytes before it and behind it stay, and the buffer is the same
pub record Added (old : Written) (text : List ℕ) (new : Written) : Type 0 where
  pub bytes : new.bytes ≡ old.bytes ++ text
  pub room : new.room ≡ old.room
  pub rest : new.rest ≡ drop (length text) old.rest
  pub lender : new.lender ≡ old.lender
