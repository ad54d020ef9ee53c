-- The instructions of a text, and the numbers of its declared names in two tables.
use Rattle.std.specs.Prelude.{ℕ, zero, suc, ◌+◌, ◌-◌, ◌*◌, ◌≤◌, ◌<◌, ◌≡◌, Bool, false, cond, List, ◌++◌, map, length, get_or, eqb, leb, reverse, Option, Some, None}
use Rattle.grammar.specs.Sizes.{text_table}
use Rattle.grammar.specs.Rows.{State, states}
use Rattle.name_rules.specs.Declared.{DeclaredName, is_declared, type_role}
use Rattle.recognizer.specs.Coded.{lead_bytes}
use Rattle.symbols.specs.Names.{declared_names}
use Rattle.instructions.specs.Instruction.{Instruction}
use Rattle.instructions.specs.Said.{number_of}
use Rattle.instructions.specs.declared.Op.{Op}
use Rattle.instructions.specs.TokenOrder.{silent, op_by, declared_said, declared_op, name_said, other_said, pair_before}

unfoldable pub saying_table : List (List ℕ)
saying_table = map (λ q. map (λ b. op_by q b) lead_bytes) states

-- the number of an instruction that is said, if one is
abbrev pub op_said : Option Op → ℕ
op_said None = silent
op_said (Some op) = number_of op

-- instructions for which there is room are held, the last on top
abbrev pub CodeHeld : (C : List Instruction) → List Instruction → Type 0
CodeHeld C code = length code ≤ text_table → reverse C ≡ code

-- what saying some instructions gives
pub record CodeSaid (C more D : List Instruction) : Type 0 where
  pub held : (code : List Instruction) → CodeHeld C code → CodeHeld D (code ++ more)

-- the types among the first so many declared names, and the constructors since the last type
abbrev pub types_below : (roles : List ℕ) → ℕ → ℕ
types_below roles zero = 0
types_below roles (suc k) = cond (eqb (get_or roles k 0) 0) (suc (types_below roles k)) (types_below roles k)

abbrev pub ranks_below : (roles : List ℕ) → ℕ → ℕ
ranks_below roles zero = 0
ranks_below roles (suc k) = cond (eqb (get_or roles k 0) 0) 0 (suc (ranks_below roles k))

-- the numbers of the declared names
pub record Numbered (roles types ranks : List ℕ) (base : ℕ) : Type 0 where
  pub types_long : length types ≡ text_table
  pub ranks_long : length ranks ≡ text_table
  pub types_right : (k : ℕ) → k < base → get_or types k 0 ≡ types_below roles (suc k)
  pub ranks_right : (k : ℕ) → k < base → get_or ranks k 0 ≡ ranks_below roles (suc k)

-- what a table has at an entry, counted from 1, with 0 for none
abbrev pub entry_in : List ℕ → ℕ → ℕ
entry_in numbers zero = 0
entry_in numbers (suc k) = get_or numbers k 0

-- whether an entry has a role, by its number
abbrev pub role_at : (kind : ℕ) → List ℕ → ℕ → Bool
role_at kind roles zero = false
role_at kind roles (suc k) = eqb (get_or roles k 0) kind

-- the span of a token that is a name
abbrev pub span_between : (start end : ℕ) → ℕ
span_between start end = cond (leb (end - start) 16) (start * 32 + (end - start)) (start * 32)

-- the names declared before a token are so after it
pub record NamesDeclared (text spans roles : List ℕ) (base : ℕ) (spans' roles' : List ℕ) (base' : ℕ) : Type 0 where
  pub higher : base ≤ base'
  pub same : (k : ℕ) → k ≤ base → declared_names text spans' roles' k ≡ declared_names text spans roles k

abbrev pub named_said : (op : ℕ) (delayed : Bool) → List ℕ → List DeclaredName → Instruction
named_said op delayed w D = declared_said (declared_op op delayed (is_declared type_role w D)) w D

-- what a token says, by the class of its first byte
abbrev pub class_said : (class place : ℕ) → State → (op : ℕ) (delayed : Bool) → List ℕ → List (List ℕ) → List DeclaredName → List Instruction
class_said class place q op delayed w B D = cond (eqb class 10) (pair_before q (name_said op delayed w B D)) (other_said op place)
