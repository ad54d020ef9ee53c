-- The records that instructions write, from the last record to the first: of an expression the parts are written before it, so that where they
-- begin is known. Where the parts begin stands on a stack, and there too an index waits until its expression is written. `next` is the word
-- next of the leaf or the alternative that comes next.
use Rattle.std.specs.Prelude.{ℕ, zero, suc, ◌+◌, ◌-◌, List, [], ◌∷◌, length}
use Rattle.records.specs.SheetOf.{Record, words}
use Rattle.instructions.specs.Instruction.{
  Instruction,
  declare_type,
  count_constructor,
  first_type,
  second_type,
  input_has,
  use_name,
  use_constant,
  use_undefined,
  open_pair,
  open_let,
  open_if,
  open_delay,
  take_first,
  take_second,
  close,
  close_if,
  open_rec,
  begin_pattern,
  open_parts,
  next_part,
  close_parts,
  next_alternative,
  match_type,
  match_one,
  use_leaf,
  use_zeros,
  open_constant,
  close_constant,
  end_constant,
  constant_has,
}
use Rattle.instructions.specs.Assembly.{DeclaredType, flat_type, paired_type, leaves_numbered}

-- what stands on the stack: the number of a record or a type, where the parts of an expression end, an index that waits
pub data Slot : Type 0 where
  of_number : ℕ → Slot
  barrier first_waits second_waits : Slot

-- the records written, of which the first has number `cursor`; the stack; the word next
pub data Emission : Type 0 where
  emission : (written : List Record) (cursor : ℕ) (stack : List Slot) (next : ℕ) → Emission

abbrev pub written_of : Emission → List Record
written_of (emission R c S x) = R

abbrev pub cursor_of : Emission → ℕ
cursor_of (emission R c S x) = c

abbrev pub top : List Slot → ℕ
top [] = 0
top (of_number n ∷ S) = n
top (barrier ∷ S) = 0
top (first_waits ∷ S) = 0
top (second_waits ∷ S) = 0

abbrev pub pop : List Slot → List Slot
pop [] = []
pop (s ∷ S) = S

-- an expression is written: the indices that wait for it are, and it is a part of what stands before it
abbrev pub completed : List Record → ℕ → List Slot → Emission
completed R c [] = emission R c (of_number c ∷ []) 0
completed R c (of_number n ∷ S) = emission R c (of_number c ∷ of_number n ∷ S) 0
completed R c (barrier ∷ S) = emission R c (of_number c ∷ barrier ∷ S) 0
completed R c (first_waits ∷ S) = completed (words 35 0 c 0 0 0 ∷ R) (c - 1) S
completed R c (second_waits ∷ S) = completed (words 36 0 c 0 0 0 ∷ R) (c - 1) S

-- so many undefined leaves, the last with a given next
abbrev pub zeros_written : ℕ → List Record → ℕ → ℕ → List Record
zeros_written zero R c x = R
zeros_written (suc k) R c x = zeros_written k (words 64 x 0 0 0 0 ∷ R) (c - 1) (c - 1)

abbrev pub zeros_next : ℕ → (cursor next : ℕ) → ℕ
zeros_next zero c x = x
zeros_next (suc k) c x = zeros_next k (c - 1) (c - 1)

module _ (T : List DeclaredType) where
  abbrev pub emit : Emission → Instruction → Emission
  emit (emission R c S x) declare_type = emission R c S x
  emit (emission R c S x) count_constructor = emission R c S x
  emit (emission R c S x) (first_type t) = emission R c S x
  emit (emission R c S x) (second_type t) = emission R c S x
  emit (emission R c S x) (input_has t) = emission R c S x
  emit (emission R c S x) (use_name k) = completed (words 33 0 k 0 0 0 ∷ R) (c - 1) S
  emit (emission R c S x) (use_constant t n) = completed (words 32 0 t (c - 1) 0 0 ∷ words 64 0 n 0 0 0 ∷ R) (c - 2) S
  emit (emission R c S x) (use_undefined t) = let k = leaves_numbered T t in completed (words 32 0 t (c - k) 0 0 ∷ zeros_written k R c 0) (c - k - 1) S
  emit (emission R c S x) open_pair = completed (words 34 0 (top S) (top (pop S)) 0 0 ∷ R) (c - 1) (pop (pop (pop S)))
  emit (emission R c S x) open_let = completed (words 37 0 (top S) (top (pop S)) 0 0 ∷ R) (c - 1) (pop (pop (pop S)))
  emit (emission R c S x) (open_rec t) = completed (words 38 0 t (top S) (top (pop S)) 0 ∷ R) (c - 1) (pop (pop (pop S)))
  emit (emission R c S x) open_if = completed (words 39 0 (top S) (top (pop S)) (top (pop (pop S))) (top (pop (pop (pop S)))) ∷ R) (c - 1) (pop (pop (pop (pop (pop S)))))
  emit (emission R c S x) open_delay = completed (words 40 0 (top S) c (top (pop S)) 0 ∷ R) (c - 1) (pop (pop (pop S)))
  emit (emission R c S x) take_first = emission R c (first_waits ∷ S) x
  emit (emission R c S x) take_second = emission R c (second_waits ∷ S) x
  emit (emission R c S x) close = emission R c (barrier ∷ S) 0
  emit (emission R c S x) close_if = emission R c S x
  emit (emission R c S x) begin_pattern = emission R c (of_number c ∷ S) x
  emit (emission R c S x) (match_type t) = emission (words 48 x t 0 0 0 ∷ R) (c - 1) S 0
  emit (emission R c S x) (match_one t n) = emission (words 49 x t n 0 0 ∷ R) (c - 1) S 0
  emit (emission R c S x) open_parts = emission (words 50 (top (pop S)) c (top S) 0 0 ∷ R) (c - 1) (pop (pop S)) 0
  emit (emission R c S x) next_part = emission R c (of_number c ∷ S) 0
  emit (emission R c S x) close_parts = emission R c (of_number x ∷ S) 0
  emit (emission R c S x) next_alternative = emission R c S c
  emit (emission R c S x) (use_leaf t n) = emission (words 64 x n 0 0 0 ∷ R) (c - 1) S (c - 1)
  emit (emission R c S x) (use_zeros t) = let k = leaves_numbered T t in emission (zeros_written k R c x) (c - k) S (zeros_next k c x)
  emit (emission R c S x) (open_constant p) = emission R c S x
  emit (emission R c S x) close_constant = emission R c S x
  emit (emission R c S x) end_constant = emission R c S x
  emit (emission R c S x) (constant_has t) = emission R c (of_number t ∷ S) 0

  abbrev pub emit_all : Emission → List Instruction → Emission
  emit_all E [] = E
  emit_all E (i ∷ is) = emit_all (emit E i) is

-- a type record, with its next
abbrev pub type_record : DeclaredType → ℕ → Record
type_record (flat_type n) next = words 16 next n 0 0 0
type_record (paired_type a b) next = words 17 next a b 0 0

-- the records of the declared types onto those after them; `next` is that of the last type
abbrev pub types_written : List DeclaredType → ℕ → List Record → List Record
types_written [] next R = R
types_written (x ∷ T) next R = types_written T (suc (length T)) (type_record x next ∷ R)

-- the whole sheet: the header, the types, and the records of the expression
abbrev pub records_written : List DeclaredType → (input : ℕ) → List Record → List Record
records_written T input R =
    words 1 1 input (suc (length T)) (suc (length T) + length R) 0 ∷ types_written T 0 R
