-- An instruction is what a token of a text says, with its names as numbers: a type is the number of its declaration, a constructor the number
-- of its type and its own among that type's, from 1, and any other name its distance. In the code an instruction is three numbers.
use Rattle.std.specs.Prelude.{ℕ, [], ◌∷◌, get_or}

pub data Instruction : Type 0 where
  -- a declaration begins; a constructor of it; the two types of a pair type; the input's type
  declare_type count_constructor : Instruction
  first_type second_type input_has : (type : ℕ) → Instruction
  -- expressions: those of one token, the first token and the last of the others, an index after its expression
  use_name : (distance : ℕ) → Instruction
  use_constant : (type number : ℕ) → Instruction
  use_undefined : (type : ℕ) → Instruction
  open_pair open_let open_if open_delay take_first take_second close close_if : Instruction
  open_rec : (type : ℕ) → Instruction
  -- patterns
  begin_pattern open_parts next_part close_parts next_alternative : Instruction
  match_type : (type : ℕ) → Instruction
  match_one : (type number : ℕ) → Instruction
  -- the constant of a DELAY; its type, once it is known
  use_leaf : (type number : ℕ) → Instruction
  use_zeros : (type : ℕ) → Instruction
  open_constant : (place : ℕ) → Instruction
  close_constant end_constant : Instruction
  constant_has : (type : ℕ) → Instruction

-- the three numbers of an instruction
abbrev pub op_of : Instruction → ℕ
op_of declare_type = 0
op_of count_constructor = 1
op_of (first_type t) = 2
op_of (second_type t) = 3
op_of (input_has t) = 4
op_of (use_name k) = 5
op_of (use_constant t n) = 6
op_of (use_undefined t) = 7
op_of open_pair = 8
op_of open_let = 9
op_of (open_rec t) = 10
op_of open_if = 11
op_of open_delay = 12
op_of take_first = 13
op_of take_second = 14
op_of close = 15
op_of close_if = 16
op_of begin_pattern = 17
op_of (match_type t) = 18
op_of (match_one t n) = 19
op_of open_parts = 20
op_of next_part = 21
op_of close_parts = 22
op_of next_alternative = 23
op_of (use_leaf t n) = 24
op_of (use_zeros t) = 25
op_of (open_constant p) = 26
op_of close_constant = 27
op_of end_constant = 28
op_of (constant_has t) = 29

abbrev pub first_operand : Instruction → ℕ
first_operand declare_type = 0
first_operand count_constructor = 0
first_operand (first_type t) = t
first_operand (second_type t) = t
first_operand (input_has t) = t
first_operand (use_name k) = k
first_operand (use_constant t n) = t
first_operand (use_undefined t) = t
first_operand open_pair = 0
first_operand open_let = 0
first_operand (open_rec t) = t
first_operand open_if = 0
first_operand open_delay = 0
first_operand take_first = 0
first_operand take_second = 0
first_operand close = 0
first_operand close_if = 0
first_operand begin_pattern = 0
first_operand (match_type t) = t
first_operand (match_one t n) = t
first_operand open_parts = 0
first_operand next_part = 0
first_operand close_parts = 0
first_operand next_alternative = 0
first_operand (use_leaf t n) = t
first_operand (use_zeros t) = t
first_operand (open_constant p) = p
first_operand close_constant = 0
first_operand end_constant = 0
first_operand (constant_has t) = t

abbrev pub second_operand : Instruction → ℕ
second_operand declare_type = 0
second_operand count_constructor = 0
second_operand (first_type t) = 0
second_operand (second_type t) = 0
second_operand (input_has t) = 0
second_operand (use_name k) = 0
second_operand (use_constant t n) = n
second_operand (use_undefined t) = 0
second_operand open_pair = 0
second_operand open_let = 0
second_operand (open_rec t) = 0
second_operand open_if = 0
second_operand open_delay = 0
second_operand take_first = 0
second_operand take_second = 0
second_operand close = 0
second_operand close_if = 0
second_operand begin_pattern = 0
second_operand (match_type t) = 0
second_operand (match_one t n) = n
second_operand open_parts = 0
second_operand next_part = 0
second_operand close_parts = 0
second_operand next_alternative = 0
second_operand (use_leaf t n) = n
second_operand (use_zeros t) = 0
second_operand (open_constant p) = 0
second_operand close_constant = 0
second_operand end_constant = 0
second_operand (constant_has t) = 0

-- the instruction of three numbers
abbrev pub instruction_of : (op first second : ℕ) → Instruction
instruction_of op a b =
    get_or
    (declare_type ∷ count_constructor ∷ first_type a ∷ second_type a ∷ input_has a ∷ use_name a ∷ use_constant a b ∷ use_undefined a ∷ open_pair
    ∷ open_let ∷ open_rec a ∷ open_if ∷ open_delay ∷ take_first ∷ take_second ∷ close ∷ close_if ∷ begin_pattern ∷ match_type a
    ∷ match_one a b ∷ open_parts ∷ next_part ∷ close_parts ∷ next_alternative ∷ use_leaf a b ∷ use_zeros a ∷ open_constant a
    ∷ close_constant ∷ end_constant ∷ constant_has a ∷ []) op close_constant
