-- The instructions of a text put into the order of the records, one instruction after the other: a pattern waits until its IF is closed, and
-- stands behind the branches then. The types are gathered, the records counted without limit, a DELAY's constant gets its type, and the
-- place of the first constant without one is kept. Lists that grow have their last element first.
use Rattle.std.specs.Prelude.{ℕ, zero, suc, ◌+◌, min, Bool, true, false, cond, List, [], ◌∷◌, length, get_or, eqb}
use Rattle.std.proofs.Math.Option.{Option, none, some}
use Rattle.instructions.specs.Instruction.{
  Instruction,
  op_of,
  declare_type,
  count_constructor,
  first_type,
  second_type,
  input_has,
  use_name,
  use_constant,
  use_undefined,
  open_pair,
  open_let,
  open_if,
  open_delay,
  take_first,
  take_second,
  close,
  close_if,
  open_rec,
  begin_pattern,
  open_parts,
  next_part,
  close_parts,
  next_alternative,
  match_type,
  match_one,
  use_leaf,
  use_zeros,
  open_constant,
  close_constant,
  end_constant,
  constant_has,
}

-- a declaration, by numbers
pub data DeclaredType : Type 0 where
  flat_type : (constructors : ℕ) → DeclaredType
  paired_type : (first second : ℕ) → DeclaredType

-- the leaves of type number d, 64 at most; none of a number that is not declared
abbrev pub leaves_numbered : List DeclaredType → ℕ → ℕ
leaves_numbered [] d = 0
leaves_numbered (flat_type n ∷ T) d = cond (eqb d (suc (length T))) 1 (leaves_numbered T d)
leaves_numbered (paired_type a b ∷ T) d = cond (eqb d (suc (length T))) (min 64 (leaves_numbered T a + leaves_numbered T b)) (leaves_numbered T d)

abbrev pub is_pair_type_of : DeclaredType → (first second : ℕ) → Bool
is_pair_type_of (flat_type n) a b = false
is_pair_type_of (paired_type c d) a b = cond (eqb a c) (eqb b d) false

abbrev pub number_or_else : ℕ → ℕ → ℕ
number_or_else zero n = n
number_or_else (suc m) n = suc m

-- the first declared pair type of two, 0 for none
abbrev pub pair_numbered : List DeclaredType → (first second : ℕ) → ℕ
pair_numbered [] a b = 0
pair_numbered (x ∷ T) a b = number_or_else (pair_numbered T a b) (cond (is_pair_type_of x a b) (suc (length T)) 0)

-- the same where both have a type
abbrev pub constant_pair_numbered : List DeclaredType → (first second : ℕ) → ℕ
constant_pair_numbered T zero b = 0
constant_pair_numbered T (suc a) zero = 0
constant_pair_numbered T (suc a) (suc b) = pair_numbered T (suc a) (suc b)

-- the declared types and the input's; the instructions in the order of the records, and the patterns that wait; the types of the constants
-- that are read, 0 for none, and the place of the outermost; the records of the expression, and the place of the first constant without a type
pub data Assembly : Type 0 where
  assembly : (types : List DeclaredType) (input : ℕ) (code waiting : List Instruction) (constants : List ℕ) (place records : ℕ) (untyped : Option ℕ) → Assembly

abbrev pub nothing_assembled : Assembly
nothing_assembled = assembly [] 0 [] [] [] 0 0 none

abbrev pub one_constructor_more : List DeclaredType → List DeclaredType
one_constructor_more [] = []
one_constructor_more (flat_type n ∷ T) = flat_type (suc n) ∷ T
one_constructor_more (paired_type a b ∷ T) = paired_type a b ∷ T

abbrev pub with_first : ℕ → List DeclaredType → List DeclaredType
with_first a [] = []
with_first a (x ∷ T) = paired_type a 0 ∷ T

abbrev pub with_second : ℕ → List DeclaredType → List DeclaredType
with_second b [] = []
with_second b (flat_type n ∷ T) = flat_type n ∷ T
with_second b (paired_type a c ∷ T) = paired_type a b ∷ T

-- the pattern that waits last, down to where it begins, onto the code
abbrev pub begins_pattern : Instruction → Bool
begins_pattern i = eqb (op_of i) 17

abbrev pub pattern_onto : (waiting code : List Instruction) → List Instruction
pattern_onto [] C = C
pattern_onto (i ∷ W) C = cond (begins_pattern i) (i ∷ C) (i ∷ pattern_onto W C)

abbrev pub patterns_below : List Instruction → List Instruction
patterns_below [] = []
patterns_below (i ∷ W) = cond (begins_pattern i) W (patterns_below W)

-- the outermost constant's place is kept
abbrev pub outermost : List ℕ → (old new : ℕ) → ℕ
outermost [] old new = new
outermost (y ∷ Y) old new = old

abbrev pub pair_closed : List DeclaredType → List ℕ → List ℕ
pair_closed T [] = []
pair_closed T (b ∷ []) = []
pair_closed T (b ∷ a ∷ []) = []
pair_closed T (b ∷ a ∷ mark ∷ Y) = constant_pair_numbered T a b ∷ Y

abbrev pub top_constant : List ℕ → ℕ
top_constant [] = 0
top_constant (y ∷ Y) = y

abbrev pub first_untyped : Option ℕ → (type place : ℕ) → Option ℕ
first_untyped (some q) t p = some q
first_untyped none zero p = some p
first_untyped none (suc t) p = none

abbrev pub assemble_one : Assembly → Instruction → Assembly
assemble_one (assembly T i C W Y p r u) declare_type = assembly (flat_type 0 ∷ T) i C W Y p r u
assemble_one (assembly T i C W Y p r u) count_constructor = assembly (one_constructor_more T) i C W Y p r u
assemble_one (assembly T i C W Y p r u) (first_type t) = assembly (with_first t T) i C W Y p r u
assemble_one (assembly T i C W Y p r u) (second_type t) = assembly (with_second t T) i C W Y p r u
assemble_one (assembly T i C W Y p r u) (input_has t) = assembly T t C W Y p r u
assemble_one (assembly T i C W Y p r u) (use_name k) = assembly T i (use_name k ∷ C) W Y p (1 + r) u
assemble_one (assembly T i C W Y p r u) (use_constant t n) = assembly T i (use_constant t n ∷ C) W Y p (2 + r) u
assemble_one (assembly T i C W Y p r u) (use_undefined t) = assembly T i (use_undefined t ∷ C) W Y p (1 + leaves_numbered T t + r) u
assemble_one (assembly T i C W Y p r u) open_pair = assembly T i (open_pair ∷ C) W Y p (1 + r) u
assemble_one (assembly T i C W Y p r u) open_let = assembly T i (open_let ∷ C) W Y p (1 + r) u
assemble_one (assembly T i C W Y p r u) (open_rec t) = assembly T i (open_rec t ∷ C) W Y p (1 + r) u
assemble_one (assembly T i C W Y p r u) open_if = assembly T i (open_if ∷ C) W Y p (1 + r) u
assemble_one (assembly T i C W Y p r u) open_delay = assembly T i (open_delay ∷ C) W Y p (1 + r) u
assemble_one (assembly T i C W Y p r u) take_first = assembly T i (take_first ∷ C) W Y p (1 + r) u
assemble_one (assembly T i C W Y p r u) take_second = assembly T i (take_second ∷ C) W Y p (1 + r) u
assemble_one (assembly T i C W Y p r u) close = assembly T i (close ∷ C) W Y p r u
assemble_one (assembly T i C W Y p r u) close_if = assembly T i (close ∷ pattern_onto W C) (patterns_below W) Y p r u
assemble_one (assembly T i C W Y p r u) begin_pattern = assembly T i C (begin_pattern ∷ W) Y p r u
assemble_one (assembly T i C W Y p r u) (match_type t) = assembly T i C (match_type t ∷ W) Y p (1 + r) u
assemble_one (assembly T i C W Y p r u) (match_one t n) = assembly T i C (match_one t n ∷ W) Y p (1 + r) u
assemble_one (assembly T i C W Y p r u) open_parts = assembly T i C (open_parts ∷ W) Y p (1 + r) u
assemble_one (assembly T i C W Y p r u) next_part = assembly T i C (next_part ∷ W) Y p r u
assemble_one (assembly T i C W Y p r u) close_parts = assembly T i C (close_parts ∷ W) Y p r u
assemble_one (assembly T i C W Y p r u) next_alternative = assembly T i C (next_alternative ∷ W) Y p r u
assemble_one (assembly T i C W Y p r u) (use_leaf t n) = assembly T i (use_leaf t n ∷ C) W (t ∷ Y) p (1 + r) u
assemble_one (assembly T i C W Y p r u) (use_zeros t) = assembly T i (use_zeros t ∷ C) W (t ∷ Y) p (leaves_numbered T t + r) u
assemble_one (assembly T i C W Y p r u) (open_constant q) = assembly T i C W (0 ∷ Y) (outermost Y p q) r u
assemble_one (assembly T i C W Y p r u) close_constant = assembly T i C W (pair_closed T Y) p r u
assemble_one (assembly T i C W Y p r u) end_constant = assembly T i (constant_has (top_constant Y) ∷ C) W [] p r (first_untyped u (top_constant Y) p)
assemble_one (assembly T i C W Y p r u) (constant_has t) = assembly T i C W Y p r u

abbrev pub assemble_all : Assembly → List Instruction → Assembly
assemble_all A [] = A
assemble_all A (i ∷ is) = assemble_all (assemble_one A i) is

-- a declared type that three tables hold, of which one says whether it is a pair type: a flat type's first number is that of its
-- constructors
abbrev pub type_held : Bool → (first second : ℕ) → DeclaredType
type_held false a b = flat_type a
type_held true a b = paired_type a b

-- the first n of them, the last first
abbrev pub held_types : (pairs : List Bool) (firsts seconds : List ℕ) → ℕ → List DeclaredType
held_types pairs firsts seconds zero = []
held_types pairs firsts seconds (suc k) =
    type_held (get_or pairs k false) (get_or firsts k 0) (get_or seconds k 0) ∷ held_types pairs firsts seconds k
