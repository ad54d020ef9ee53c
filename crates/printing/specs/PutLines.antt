-- What the functions that write lines and pieces ask and give.
use Rattle.std.specs.Prelude.{ℕ, ◌*◌, ◌≤◌, ◌<◌, ◌≡◌, Bool, true, false, Option, Some, None, List, ◌++◌, length}
use Rattle.listing.specs.Wrote.{line_bytes}
use Rattle.listing.specs.Texts.{Written, HasRoom, Added}
use Rattle.printing.specs.Pieces.{text_from, text_left, Pieced}

-- lines of w leaves are written from cycle k on, which begins inside the outputs or at their end
pub record PuttingLines (old : Written) (w k : ℕ) (outputs : List ℕ) : Type 0 where
  pub room : HasRoom old line_bytes
  pub inside : k * w ≤ length outputs

-- whether nothing is left, and the cycle at which what is left begins
abbrev pub is_last : Option ℕ → Bool
is_last None = true
is_last (Some k) = false

abbrev pub next_cycle : Option ℕ → ℕ
next_cycle None = 0
next_cycle (Some k) = k

-- what is left where the next piece begins there
abbrev pub text_after : (w : ℕ) (outputs : List ℕ) → Option ℕ → List ℕ
text_after w outputs next = text_left (is_last next) w (next_cycle next) outputs

pub record PutLines (old : Written) (w k : ℕ) (outputs : List ℕ) (new : Written) (next : Option ℕ) : Type 0 where
  pub part : List ℕ
  pub wrote : Added old part new
  pub text : text_from w k outputs ≡ part ++ text_after w outputs next
  pub more : 0 < length part
  pub inside : next_cycle next * w ≤ length outputs

-- a piece of the text `before`: the buffer's bytes up to `end`
abbrev pub IsPiece : (before : List ℕ) (w : ℕ) (outputs after : List ℕ) (end : ℕ) (next : Option ℕ) → Type 0
IsPiece before w outputs after end next =
    Pieced before w outputs after end (next_cycle next) (next_cycle next * w) (is_last next)
