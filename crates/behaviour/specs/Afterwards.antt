-- Demand 3 (docs/SHEETS.md, "After a run"): what holds after a run of an accepted sheet on a well-formed stimulus with slices
-- of the right lengths, one claim about the whole list of cycles. It speaks of the number returned and of the final bytes of the
-- output slice and the next slice, whatever they are; that the call returned 0 is concluded, not supposed.
use Rattle.std.specs.Prelude.{ℕ, suc, ◌+◌, ◌*◌, ◌≤◌, ◌<◌, ◌≡◌, ◌≢◌, false, length, get_or, take, drop}
use mathlib.Core.List.{List, ◌∷◌, map, Memᴰ}
use Rattle.std.proofs.Math.Option.{Option, none, some}
use Rattle.picoella.specs.Language.{Ty, leaves, OfType, Expr, LetRec}
use Rattle.records.specs.Words.{count, kind_word, word_a, low_byte, high_byte}
use Rattle.records.specs.Trees.{type_at, Tree, feedback_of, tree_at, circuit, delay_leaves}
use Rattle.records.specs.Decoding.{expression_of, is_all_there, when_there}
use Rattle.answers.specs.Answers.{in_one, lowest}
use Rattle.verdict.specs.Verdict.{verdict}
use Rattle.verdict.specs.Scopes.{Scope}
use Rattle.answers.specs.Answers.{Accepted}
use Rattle.meaning.specs.Values.{undefined, ◌⊑◌, ValuesOf}
use Rattle.meaning.specs.Elaboration.{Term, erase}
use Rattle.meaning.specs.Constants.{ConstantTree, ConstantOf, ConstantsOf, flatten, bottom_of_type}
use Rattle.meaning.specs.Undecided.{undecided_rule, undecided_constant}
use Rattle.meaning.specs.Evaluation.{iter, eval, application, settled, next}
use Rattle.meaning.specs.Rules.{Iterates}
use Rattle.behaviour.specs.Terms.{term}
use Rattle.behaviour.specs.Cycle.{output, sheet_after_cycle}
use Rattle.stimulus.specs.Stimulus.{input_leaves, cycle_count, wrong_stimulus, wrong_byte}
use Rattle.behaviour.specs.Run.{output_needed}

-- Accepted is "a sheet to which no code from 1 to 7 applies", well formed for it "a stimulus to which 8 and 9 do not", and slices of
-- the right lengths are "those to which 10 and 11 do not".
pub record WellFormed (sheet stimulus out next : List ℕ) (t : ℕ) : Type 0 where
  pub accepted : verdict sheet ≡ Accepted t
  pub whole : wrong_stimulus sheet stimulus ≡ false
  pub fitting : lowest (wrong_byte sheet stimulus) (length stimulus) ≡ none
  pub room : length out ≡ output_needed sheet t stimulus
  pub long : length next ≡ length sheet

-- each number is a byte
abbrev pub Bytes : List ℕ → Type 0
Bytes s = (i : ℕ) → get_or s i 0 ≤ 255

-- The bytes of the values that delays hold "are the words `a` in the chains of leaves that start at the words `b` of the delays". One
-- sheet equals another but for these: it is as long, and each other byte is the same.
pub record OnlyDelays (s s' : List ℕ) : Type 0 where
  pub length : length s' ≡ length s
  pub bytes : (i : ℕ)
      → ((l : ℕ) → Memᴰ l (delay_leaves (circuit s)) → (i ≡ low_byte l → ⊥) × (i ≡ high_byte l → ⊥))
      → get_or s' i 0 ≡ get_or s i 0

-- the input of cycle k, and the part of the output slice that is cycle k's
abbrev pub input_of : (sheet stimulus : List ℕ) → ℕ → List ℕ
input_of s stim k = take (input_leaves s) (drop (k * input_leaves s) stim)

abbrev pub output_in : (sheet : List ℕ) (t : ℕ) (out : List ℕ) → ℕ → List ℕ
output_in s t out k = take (leaves (type_at s t)) (drop (k * leaves (type_at s t)) out)

-- An application "is one evaluation of a feedback's defining part: the feedback's name is given some value of the feedback's type, and
-- what the part evaluates to is given back. It changes neither the delays nor what the names around hold."
abbrev pub apply : List (List ℕ) → Term → List ℕ → List ℕ
apply ρ part v = application undecided_rule ρ part v

-- so many applications from undefined: the first is "to undefined in every leaf, and every other one to what came out of the one
-- before"
abbrev pub applied : List (List ℕ) → Ty → Term → ℕ → List ℕ
applied ρ σ part n = iter (apply ρ part) n (undefined σ)

-- 000's iteration of a defining expression, where the names around it, of the types Γ, hold the values ρ: with the constants that have
-- those leaves around it, it comes from the undefined constant of σ to the constant of σ with the leaves `value`, and then is `after`
pub record IteratesTo (Γ : List Ty) (ρ : List (List ℕ)) (σ : Ty) (defining : Expr) (value : List ℕ) (after : Expr) : Type 0 where
  pub names : List ConstantTree
  pub names_typed : ConstantsOf Γ names
  pub names_hold : map flatten names ≡ ρ
  pub constant : ConstantTree
  pub constant_typed : ConstantOf σ constant
  pub constant_is : flatten constant ≡ value
  pub iterates : Iterates undecided_constant names defining (bottom_of_type σ) constant after

-- a feedback of type σ with this defining part and body, where the names around it, of the types Γ, hold the values ρ
pub record FeedbackSettles (Γ : List Ty) (ρ : List (List ℕ)) (σ : Ty) (whole part body : Term) : Type 0 where
  -- the value that evaluation gives the body's name
  pub value : List ℕ
  pub given : value ≡ settled undecided_rule ρ σ part
  pub evaluates : eval undecided_rule ρ whole ≡ eval undecided_rule (value ∷ ρ) body
  pub of_type : OfType σ value
  -- is returned unchanged by the defining part,
  pub unchanged : apply ρ part value ≡ value
  -- lies at or below every other value of the type so returned,
  pub least : (w : List ℕ) → OfType σ w → apply ρ part w ≡ w → value ⊑ w
  -- and is reached from undefined in at most as many applications as the type has leaves, and in no fewer than are counted;
  pub times : ℕ
  pub at_most : times ≤ leaves σ
  pub reached : applied ρ σ part times ≡ value
  pub none_fewer : (j : ℕ) → j < times → applied ρ σ part j ≢ value
  -- 000's iteration reaches the same, and leaves the delays of the defining part as its evaluation at this value does
  pub by_iteration : IteratesTo Γ ρ σ (erase part) value (erase (next undecided_rule (value ∷ ρ) part))

-- the expression that record q says
abbrev pub decoded_at : (sheet : List ℕ) → ℕ → Option Expr
decoded_at s q = when_there (is_all_there (tree_at s q)) (expression_of s (tree_at s q))

-- record q of kind 38 in the sheet `current`, with the names of Γ in scope
pub record FeedbackIn (sheet current : List ℕ) (q : ℕ) (Γ : List ℕ) (defining body : Tree) : Type 0 where
  -- it decodes to the feedback of the expressions to which defining part and body erase
  pub decodes : decoded_at current q
      ≡ some (LetRec (type_at sheet (word_a sheet q)) (erase (term current (word_a sheet q ∷ Γ) defining))
      (erase (term current (word_a sheet q ∷ Γ) body)))
  -- the names around it hold "any values of their types, also ones that no run gives them"
  pub settles : (ρ : List (List ℕ)) → ValuesOf (map (type_at sheet) Γ) ρ
      → FeedbackSettles (map (type_at sheet) Γ) ρ (type_at sheet (word_a sheet q)) (term current Γ (tree_at current q))
      (term current (word_a sheet q ∷ Γ) defining) (term current (word_a sheet q ∷ Γ) body)

-- record q of kind 38, in each of the sheets: there are its defining part and body, and a scope; and so it is in every scope that it has
pub record FeedbackAt (sheet : List ℕ) (sheets : ℕ → List ℕ) (n q : ℕ) : Type 0 where
  pub defining : Tree
  pub body : Tree
  pub reads : (k : ℕ) → k ≤ n → tree_at (sheets k) q ≡ feedback_of q (word_a sheet q) defining body
  pub scope : List ℕ
  pub in_scope : (k : ℕ) → k ≤ n → Scope (sheets k) q scope
  pub every_scope : (k : ℕ) → k ≤ n → (Γ : List ℕ) → Scope (sheets k) q Γ → FeedbackIn sheet (sheets k) q Γ defining body

-- after the run: t is the output type's record, `result` the number returned, `out` and `next` the final bytes
pub record Afterwards (sheet stimulus : List ℕ) (t result : ℕ) (out next : List ℕ) : Type 0 where
  -- code 0, with the number of cycles in the list
  pub all_done : result ≡ in_one 0 (cycle_count sheet stimulus)
  -- the sheets s₀ … sₙ
  pub sheets : ℕ → List ℕ
  pub first : sheets 0 ≡ sheet
  pub each_after : (k : ℕ) → k < cycle_count sheet stimulus → sheets (suc k) ≡ sheet_after_cycle (sheets k) (input_of sheet stimulus k)
  pub only_delays : (k : ℕ) → k < cycle_count sheet stimulus → OnlyDelays (sheets k) (sheets (suc k))
  pub bytes : Bytes sheet → (k : ℕ) → k ≤ cycle_count sheet stimulus → Bytes (sheets k)
  pub last : next ≡ sheets (cycle_count sheet stimulus)
  -- which "equals the first in every byte but those of the values that delays hold"
  pub equals_first : OnlyDelays sheet next
  -- each cycle's leaves in the output slice are the root's value for the sheet it begins from and its input
  pub outputs : (k : ℕ) → k < cycle_count sheet stimulus
      → output_in sheet t out k ≡ output (sheets k) (input_of sheet stimulus k)
  pub out_length : length out ≡ cycle_count sheet stimulus * leaves (type_at sheet t)
  -- accepted again with the same type, and outputs of that type, cycle by cycle
  pub again : verdict next ≡ Accepted t
  pub typed : (k : ℕ) → k < cycle_count sheet stimulus → OfType (type_at sheet t) (output_in sheet t out k)
  -- every record of kind 38
  pub feedbacks : (q : ℕ) → q < count sheet → kind_word sheet q ≡ 38
      → FeedbackAt sheet sheets (cycle_count sheet stimulus) q
