-- What a token says by the number of its instruction, and that a code holds it.
-- Assumes nothing.
use Prim.Native.Nat.{ℕ, ◌≤◌, ◌<◌}
use native.Mathlib.Omega.{arith}
use mathlib.Core.Path.{◌≡◌, refl, sym, ap, ap₂, subst, ◌∙◌}
use mathlib.Core.Bool.{Bool, false, cond}
use mathlib.Core.List.{List, [], ◌∷◌, map, append-nil}
use lib.ListN.{get_or}
use lib.Dec.{eqb, leb}
use borrow.Author.Tests.{eq-eqb, ne_eqb, le-leb, lt-leb}
use Rattle.std.specs.Prelude.{Option, Some, None}
use Rattle.std.proofs.Math.ListN.{get_or-map}
use Rattle.grammar.specs.Rows.{State, start, states}
use Rattle.grammar.specs.Tokens.{between}
use Rattle.recognizer.specs.Coded.{lead_bytes, state_of, Topped}
use Rattle.recognizer.proofs.RowLaws.{number-of-state}
use Rattle.instructions.specs.Instruction.{Instruction, instruction_of, open_pair}
use Rattle.instructions.specs.Said.{number_of}
use Rattle.instructions.specs.declared.Op.{Op}
use Rattle.instructions.specs.declared.Op.TheVariants.{
  DeclareType,
  CountConstructor,
  FirstType,
  SecondType,
  InputHas,
  UseName,
  UseConstant,
  UseUndefined,
  OpenPair,
  OpenLet,
  OpenRec,
  OpenIf,
  OpenDelay,
  TakeFirst,
  TakeSecond,
  Close,
  CloseIf,
  BeginPattern,
  MatchType,
  MatchOne,
  OpenParts,
  NextPart,
  CloseParts,
  NextAlternative,
  UseLeaf,
  UseZeros,
  OpenConstant,
  CloseConstant,
  EndConstant,
  ConstantHas,
}
use Rattle.instructions.specs.TokenOrder.{silent, op_by, in_constant, pair_before, name_said, other_said}
use Rattle.name_rules.specs.Declared.{DeclaredName}
use Rattle.scoping.proofs.TableLaws.{mapped_at}
use Rattle.resolving.specs.declared.tables.TheConstants.{SAYINGS}
use Rattle.resolving.specs.Said.{saying_table, op_said, CodeHeld, CodeSaid, class_said}

-- the state that waits last
module _ (K : List State) (s : ℕ) (t : Topped K (Some s)) where
  top-waits : in_constant K ≡ between 39 41 s
  top-waits = ap in_constant t.1 ∙ ap (between 39 41) (number-of-state s t.2)

  pub waits-below : s < 39 → leb 39 s ≡ in_constant K
  waits-below l = lt-leb 39 s l ∙ sym (top-waits ∙ ap (λ x. cond x (leb s 41) false) (lt-leb 39 s l))

  pub top-in-constant : 39 ≤ s → leb s 41 ≡ in_constant K
  top-in-constant l = sym (top-waits ∙ ap (λ x. cond x (leb s 41) false) (le-leb 39 s l))

-- nothing more, and the same by another name
pub none_said : {C : List Instruction} → CodeSaid C [] C
none_said {C} = record { held = λ code h. subst (CodeHeld C) (sym (append-nil code)) h }

pub said-as : {C D more others : List Instruction} → others ≡ more → CodeSaid C more D → CodeSaid C others D
said-as {C} {D} e s = subst (λ m. CodeSaid C m D) (sym e) s

-- the bracket of a pair
pub no-pair-said : (state : ℕ) → state < 47 → (state ≡ 15 → ⊥) → pair_before (state_of state) [] ≡ []
no-pair-said state h n = ap (λ x. cond (eqb x 15) (open_pair ∷ []) []) (number-of-state state h) ∙ ap (λ x. cond x (open_pair ∷ []) []) (ne_eqb state 15 n)

-- each instruction has a number below that of none
number-below : (op : Op) → number_of op < silent
number-below DeclareType = omega arith
number-below CountConstructor = omega arith
number-below FirstType = omega arith
number-below SecondType = omega arith
number-below InputHas = omega arith
number-below UseName = omega arith
number-below UseConstant = omega arith
number-below UseUndefined = omega arith
number-below OpenPair = omega arith
number-below OpenLet = omega arith
number-below OpenRec = omega arith
number-below OpenIf = omega arith
number-below OpenDelay = omega arith
number-below TakeFirst = omega arith
number-below TakeSecond = omega arith
number-below Close = omega arith
number-below CloseIf = omega arith
number-below BeginPattern = omega arith
number-below MatchType = omega arith
number-below MatchOne = omega arith
number-below OpenParts = omega arith
number-below NextPart = omega arith
number-below CloseParts = omega arith
number-below NextAlternative = omega arith
number-below UseLeaf = omega arith
number-below UseZeros = omega arith
number-below OpenConstant = omega arith
number-below CloseConstant = omega arith
number-below EndConstant = omega arith
number-below ConstantHas = omega arith

module _ (op : ℕ) (delayed : Bool) (w : List ℕ) (B : List (List ℕ)) (D : List DeclaredName) where
  pub class-name : (class place : ℕ) (q : State) → class ≡ 10 → class_said class place q op delayed w B D ≡ pair_before q (name_said op delayed w B D)
  class-name class place q e = ap (λ x. cond x (pair_before q (name_said op delayed w B D)) (other_said op place)) (eq-eqb class 10 e)

  pub class-other : (class place : ℕ) (q : State) → (class ≡ 10 → ⊥) → class_said class place q op delayed w B D ≡ other_said op place
  class-other class place q n = ap (λ x. cond x (pair_before q (name_said op delayed w B D)) (other_said op place)) (ne_eqb class 10 n)

-- what a token says in a state by its number, and by the row of the table
pub said-by-row : (state byte class place : ℕ) {q : State} (K : List State) (delayed : Bool) (w : List ℕ) (B : List (List ℕ)) (D : List DeclaredName) (o : Option Op)
    {C E : List Instruction} → state_of state ≡ q → op_said o ≡ op_by (state_of state) byte → delayed ≡ in_constant K
    → CodeSaid C (class_said class place (state_of state) (op_said o) delayed w B D) E → CodeSaid C (class_said class place q (op_by q byte) (in_constant K) w B D) E
said-by-row state byte class place {q} K delayed w B D o told e waits s =
    said-as
    (sym
    (ap (λ r. class_said class place r (op_said o) delayed w B D) told
    ∙ ap (λ n. class_said class place q n delayed w B D) (e ∙ ap (λ r. op_by r byte) told)
    ∙ ap (λ d. class_said class place q (op_by q byte) d w B D) waits))
    s

-- what any other token says
pub other-said-as : (row place : ℕ) {q : State} (class : ℕ) (delayed : Bool) (w : List ℕ) (B : List (List ℕ)) (D : List DeclaredName) (o : Option Op)
    → (class ≡ 10 → ⊥) → state_of row ≡ q → op_said o ≡ op_by (state_of row) (get_or lead_bytes class 0)
    → class_said class place q (op_by q (get_or lead_bytes class 0)) delayed w B D ≡ other_said (op_said o) place
other-said-as row place {q} class delayed w B D o n told e =
    class-other (op_by q (get_or lead_bytes class 0)) delayed w B D class place q n
    ∙ ap (λ x. other_said x place) (sym (e ∙ ap (λ s. op_by s (get_or lead_bytes class 0)) told))

pub silent-other : (o : Option Op) (place : ℕ) → o ≡ None → other_said (op_said o) place ≡ []
silent-other o place e = ap (λ x. other_said (op_said x) place) e

pub loud-other : (o : Option Op) (op : Op) (place : ℕ) → o ≡ Some op → other_said (op_said o) place ≡ instruction_of (number_of op) place 0 ∷ []
loud-other o op place e =
    ap (λ x. other_said (op_said x) place) e
    ∙ ap (λ x. cond x [] (instruction_of (number_of op) place 0 ∷ [])) (ne_eqb (number_of op) silent (λ z. let b = number-below op in omega (arith, z)))

-- the code's table is computed from the rows of the states
sayings-right : map (λ r. map op_said r) SAYINGS ≡ saying_table
unfolding saying_table
sayings-right = refl

saying-read : (state class : ℕ) → state < 47 → class < 18
    → get_or (get_or saying_table state []) class silent ≡ op_by (state_of state) (get_or lead_bytes class 0)
unfolding saying_table
saying-read state class h l =
    ap (λ k. get_or k class silent) (mapped_at (λ q. map (λ b. op_by q b) lead_bytes) states state start [] h)
    ∙ mapped_at (λ b. op_by (state_of state) b) lead_bytes class 0 silent l

pub saying-at : (state class c : ℕ) → state < 47 → class < 18 → c ≡ class
    → op_said (get_or (get_or SAYINGS state []) c None) ≡ op_by (state_of state) (get_or lead_bytes class 0)
saying-at state class c h l e =
    sym (get_or-map op_said (get_or SAYINGS state []) c None)
    ∙ ap₂ (λ r i. get_or r i silent) (sym (get_or-map (λ r. map op_said r) SAYINGS state []) ∙ ap (λ t. get_or t state []) sayings-right) e
    ∙ saying-read state class h l
