-- What judging an expression gives: its type record, or the record of the first judgement that fails; and what it notes on the
-- way, the leaf count of the type of each expression, one byte a record.
use Rattle.std.specs.Prelude.{ℕ, zero, suc, ◌≤◌, ◌<◌, ◌≡◌, refl, Bool, true, false, ◌&&◌, List, [], ◌∷◌, map, length, get_or, set}
use Rattle.std.proofs.Math.Option.{Option, none, some}
use Rattle.records.specs.Limits.{most_records}
use Rattle.picoella.specs.Language.{leaves}
use Rattle.records.specs.Words.{word, count, next_word, word_a}
use Rattle.records.specs.SheetOf.{sheet_of}
use Rattle.records.specs.Kinds.{row_of, kind_of, expressions, patterns, expression, first, second}
use Rattle.records.specs.Says.{sort_at, kind_at}
use Rattle.records.specs.Sized.{Sized}
use Rattle.records.specs.Trees.{
  type_within,
  type_at,
  pair_of,
  TypeRecord,
  Tree,
  no_expression,
  constant_of,
  name_of,
  tuple_of,
  first_of,
  second_of,
  let_of,
  feedback_of,
  if_of,
  delay_of,
  chain_within,
  chain,
  alternatives_within,
  alternatives,
  tree_within,
  tree_at,
  circuit,
  follow,
  end,
  type_record_of,
}
use Rattle.structure.specs.Rules.{depth, Passes}
use Rattle.typing.specs.Judgements.{Rule, holds, judgements, first_failing, pattern_fits}
use Rattle.typing.specs.Rows.{TypingRow, judged_to}
use Rattle.typing.specs.NameRows.{name_rows}
use Rattle.typing.specs.TypeRows.{type_rows}
use Rattle.typing.specs.PatternRows.{pattern_rows}
use Rattle.typing.specs.OrderRows.{order_rows}
use Rattle.typing.specs.ExpressionWidth.{width}
use Rattle.typing.specs.Outcomes.{Outcome}
use Rattle.typing.specs.Outcomes.{Sound, Fault}

abbrev pub conclude : Option ℕ → ℕ → Outcome
conclude none t = Sound t
conclude (some r) t = Fault r

-- the answer for a tree, where the names in scope have these types
unfoldable pub judged : List ℕ → List ℕ → Tree → Outcome
judged s Γ e = conclude (first_failing s (judgements s Γ e)) (type_record_of s Γ e)

-- the circuit of a sheet, where the input is the only name; in every row of the table for code 7 it has the outcome that
-- docs/SHEETS.md gives it
abbrev pub circuit_judged : List ℕ → Outcome
circuit_judged s = judged s (word_a s 0 ∷ []) (circuit s)

abbrev named_outcome : TypingRow → Outcome
named_outcome (judged_to name rs o) = o

abbrev found_outcome : TypingRow → Outcome
found_outcome (judged_to name rs o) = circuit_judged (sheet_of rs)

abbrev RowsHold : List TypingRow → Type 0
RowsHold rows = map found_outcome rows ≡ map named_outcome rows

typing_rows_hold : RowsHold name_rows × RowsHold type_rows × RowsHold pattern_rows × RowsHold order_rows
unfolding judged circuit tree_at tree_within alternatives alternatives_within chain chain_within pair_of type_at type_within kind_of row_of word count
typing_rows_hold = (refl, refl, refl, refl)

-- the table with the leaf count of each expression of the tree at its record
abbrev pub noted : List ℕ → List ℕ → Tree → List ℕ → List ℕ
noted s Γ no_expression w = w
noted s Γ (constant_of r t ls) w = set w r (width s Γ (constant_of r t ls))
noted s Γ (name_of r k) w = set w r (width s Γ (name_of r k))
noted s Γ (tuple_of r a b) w = set (noted s Γ b (noted s Γ a w)) r (width s Γ (tuple_of r a b))
noted s Γ (first_of r a) w = set (noted s Γ a w) r (width s Γ (first_of r a))
noted s Γ (second_of r a) w = set (noted s Γ a w) r (width s Γ (second_of r a))
noted s Γ (let_of r a b) w = set (noted s (type_record_of s Γ a ∷ Γ) b (noted s Γ a w)) r (width s Γ (let_of r a b))
noted s Γ (feedback_of r t a b) w =
    set (noted s (t ∷ Γ) b (noted s (t ∷ Γ) a w)) r (width s Γ (feedback_of r t a b))
noted s Γ (if_of r a p b c) w = set (noted s Γ c (noted s Γ b (noted s Γ a w))) r (width s Γ (if_of r a p b c))
noted s Γ (delay_of r t ls a) w = set (noted s Γ a w) r (width s Γ (delay_of r t ls a))

-- The names in scope as a stack: the types of the first n, the innermost last, as a context.
abbrev pub scope_of : ℕ → List ℕ → List ℕ
scope_of zero stack = []
scope_of (suc n) stack = get_or stack n 0 ∷ scope_of n stack

-- each type of a context is a type record
abbrev pub Context : List ℕ → List ℕ → Type 0
Context s [] = Unit {0}
Context s (t ∷ Γ) = TypeRecord s t × Context s Γ

-- what judging and the tests below it are called with: a sheet that passes codes 1 to 6, and a table with the leaves of each type
pub record Ground (s : List ℕ) (n : ℕ) (table : List ℕ) : Type 0 where
  pub sized : Sized s n
  pub passes : Passes s
  pub leaves : (t : ℕ) → TypeRecord s t → get_or table t 0 ≡ leaves (type_at s t)

-- A table of widths while expressions are judged: it has the leaves of each type. Those of an
-- expression are noted at its record, which is none of a type, so the types keep theirs.
pub record TypesCounted (s widths : List ℕ) : Type 0 where
  pub long : length widths ≡ most_records
  pub leaves : (t : ℕ) → TypeRecord s t → get_or widths t 0 ≡ leaves (type_at s t)

-- an expression is judged, where the names in scope have these types, innermost first
pub record Judging (s : List ℕ) (n : ℕ) (Γ : List ℕ) (rec : ℕ) (widths : List ℕ) : Type 0 where
  pub ground : Ground s n widths
  pub long : length widths ≡ most_records
  pub there : rec < n
  pub sort : sort_at s rec ≡ expressions
  pub deep : length Γ ≤ depth s rec
  pub context : Context s Γ

-- and this is what comes of it
pub record Judged (s Γ : List ℕ) (e : Tree) (answer : Outcome) (before after : List ℕ) : Type 0 where
  pub answered : answer ≡ judged s Γ e
  pub counted : TypesCounted s after
  pub notes : (t : ℕ) → answer ≡ Sound t → after ≡ noted s Γ e before

-- a pattern is held against a type
pub record Fitting (s : List ℕ) (n p t : ℕ) : Type 0 where
  pub sized : Sized s n
  pub passes : Passes s
  pub there : p < n
  pub sort : sort_at s p ≡ patterns
  pub typed : TypeRecord s t

-- the alternative at p fits or not; with those after it this makes the chain
abbrev pub FittedOne : List ℕ → ℕ → ℕ → Bool → Type 0
FittedOne s p t answer =
    pattern_fits s (alternatives s p) t ≡ (answer && pattern_fits s (follow end (alternatives s) (next_word s p)) t)

-- a last judgement of an expression at record rec: where the rule holds, its type is t, and the type's leaf count is noted
abbrev pub lastly : Bool → ℕ → ℕ → Outcome
lastly true rec t = Sound t
lastly false rec t = Fault rec

pub record Closed (s : List ℕ) (rule : Rule) (rec t : ℕ) (answer : Outcome) (before after : List ℕ) : Type 0 where
  pub answered : answer ≡ lastly (holds s rule) rec t
  pub counted : TypesCounted s after
  pub notes : (u : ℕ) → answer ≡ Sound u → after ≡ set before rec (leaves (type_at s t))

-- what a last judgement is called with
pub record Closing (s : List ℕ) (n : ℕ) (rec : ℕ) (widths : List ℕ) : Type 0 where
  pub ground : Ground s n widths
  pub there : rec < n
  pub sort : sort_at s rec ≡ expressions
  pub long : length widths ≡ most_records

-- record rec takes the part of a pair whose type is in word k of the pair's record
pub data PartAt (s : List ℕ) (rec : ℕ) : ℕ → Type 0 where
  at_first : kind_at s rec ≡ expression first → PartAt s rec 2
  at_second : kind_at s rec ≡ expression second → PartAt s rec 3
