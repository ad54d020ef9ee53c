-- What the functions ask of their callers that read a text and say its instructions is not contradictory: on the text of sheet T there is an
-- instance of each struct of `recognizer` or `resolving`, with its invariants, and of what a `requires` asks of it, at x in
-- `IF x MATCHES two`, place 101, or where a comment says.
-- Assumes nothing.
use Prim.Native.Nat.{ℕ, zero, suc, ◌≤◌, ◌<◌}
use mathlib.Core.Path.{◌≡◌, refl}
use mathlib.Core.Bool.{true}
use mathlib.Core.List.{List, [], ◌∷◌, ◌++◌}
use native.Mathlib.Omega.{arith}
use lib.ListN.{length, get_or, take, drop}
use Rattle.std.specs.Prelude.{Some, reverse}
use Rattle.grammar.specs.Machine.{live, no_word, begins, can_end}
use Rattle.recognizer.specs.Classes.{class_index}
use Rattle.recognizer.specs.Coded.{state_of, stack_of, next_table, waits_table, word_table, Waiting, Standing, standing, Tables}
use Rattle.recognizer.specs.declared.classes.Class.TheVariants.{SmallLetter}
use Rattle.name_rules.specs.TokenWalk.{NameScope}
use Rattle.name_rules.proofs.ByTokens.{first_scope}
use Rattle.symbols.specs.Names.{Inside, entry_number}
use Rattle.symbols.specs.RoleNumbers.{role_code, role_codes}
use Rattle.symbols.specs.declared.meanings.Role.TheVariants.{Constructor}
use Rattle.scoping.specs.Held.{held}
use Rattle.instructions.specs.TokenOrder.{walk_instructions}
use Rattle.resolving.specs.Said.{types_below, ranks_below, Numbered}
use Rattle.resolving.specs.Walked.{Saying, TakingToken}
use Rattle.resolving.specs.declared.numbering.NameNumbers.{NameNumbers}
use Rattle.resolving.specs.declared.walk.Walk.{Walk}
use Rattle.text_table.specs.Lexer.{tokens_in}
use Rattle.text_runs.proofs.TextTables.{toggle_text, parity_text, short, inside, padded, taken-long, four-long, table_code}
use Rattle.text_runs.proofs.WitnessNames.{roles₃, roles₄, scope_one, scope_two, scope_three, scope_x, scope_pair}

-- Crate `recognizer`. Four states wait at x: in a REC's part, a delayed expression, a THEN and a tested expression.
abbrev stack : List ℕ
stack = padded (28 ∷ 42 ∷ 35 ∷ 30 ∷ [])

stack-waits : Waiting 4 stack
stack-waits = record { fits = omega arith; long = four-long 28 42 35 30; waiting = few }
  where
    few : (k : ℕ) → k < 4 → get_or stack k 0 < 47
    few zero m = omega arith
    few (suc zero) m = omega arith
    few (suc (suc zero)) m = omega arith
    few (suc (suc (suc zero))) m = omega arith
    few (suc (suc (suc (suc k)))) m = absurd (omega arith)

abbrev machine_x : Standing
machine_x = standing (state_of 13) (stack_of 4 stack) no_word

context-push-asks : (length machine_x.waiting < 65536) × (30 < 47)
context-push-asks = (omega arith, omega arith)

tables : Tables next_table waits_table word_table
tables = record { nexts_right = refl; waits_right = refl; words_right = refl }

resume-asks : 1 < 60
resume-asks = omega arith

take-row-asks : (length machine_x.waiting < 65536) × ((48 ≤ 48) × (0 ≤ 47) × (1 < 60))
take-row-asks = (omega arith, (omega arith, omega arith, omega arith))

begin-asks : (length machine_x.waiting < 65536) × (class_index SmallLetter < 18)
begin-asks = (omega arith, omega arith)

follow-asks : (length machine_x.waiting < 65536) × (can_end machine_x.word ≡ true)
follow-asks = (omega arith, refl)

step-asks : length machine_x.waiting < 65536
step-asks = omega arith

-- Crate `resolving`. The numbers of bit, one and two.
abbrev types : ℕ → List ℕ
types n = padded (take n (1 ∷ 1 ∷ 1 ∷ []))

abbrev ranks : ℕ → List ℕ
ranks n = padded (take n (0 ∷ 1 ∷ 2 ∷ []))

abbrev numbers : ℕ → NameNumbers
numbers n = record { types = types n; ranks = ranks n }

numbered-three : Numbered (role_codes roles₄) (types 3) (ranks 3) 3
numbered-three = record {
  types_long = taken-long 3 (1 ∷ 1 ∷ 1 ∷ []) (omega arith);
  ranks_long = taken-long 3 (0 ∷ 1 ∷ 2 ∷ []) (omega arith);
  types_right = typed;
  ranks_right = ranked;
}
  where
    typed : (k : ℕ) → k < 3 → get_or (types 3) k 0 ≡ types_below (role_codes roles₄) (suc k)
    typed zero m = refl
    typed (suc zero) m = refl
    typed (suc (suc zero)) m = refl
    typed (suc (suc (suc k))) m = absurd (omega arith)

    ranked : (k : ℕ) → k < 3 → get_or (ranks 3) k 0 ≡ ranks_below (role_codes roles₄) (suc k)
    ranked zero m = refl
    ranked (suc zero) m = refl
    ranked (suc (suc zero)) m = refl
    ranked (suc (suc (suc k))) m = absurd (omega arith)

-- after `two` is declared
numbered-two : Numbered (role_codes roles₃) (types 2) (ranks 2) 2
numbered-two = record {
  types_long = taken-long 2 (1 ∷ 1 ∷ 1 ∷ []) (omega arith);
  ranks_long = taken-long 2 (0 ∷ 1 ∷ 2 ∷ []) (omega arith);
  types_right = typed;
  ranks_right = ranked;
}
  where
    typed : (k : ℕ) → k < 2 → get_or (types 2) k 0 ≡ types_below (role_codes roles₃) (suc k)
    typed zero m = refl
    typed (suc zero) m = refl
    typed (suc (suc k)) m = absurd (omega arith)

    ranked : (k : ℕ) → k < 2 → get_or (ranks 2) k 0 ≡ ranks_below (role_codes roles₃) (suc k)
    ranked zero m = refl
    ranked (suc zero) m = refl
    ranked (suc (suc k)) m = absurd (omega arith)

entry-asks : entry_number (Some 2) ≤ 65536
entry-asks = omega arith

has-role-asks : entry_number (Some 2) ≤ 65536
has-role-asks = omega arith

-- so asks `ranks_after` too
types-after-asks : 1 < 65535
types-after-asks = omega arith

number-from-asks : Numbered (role_codes scope_three.roles) (numbers 2).types (numbers 2).ranks 2 × (2 ≤ scope_three.base) × (scope_three.base ≤ 65535)
number-from-asks = (numbered-two, omega arith, omega arith)

resolve-asks : length toggle_text ≤ 65535
resolve-asks = short

saying-asks : (13 < 47) × (class_index SmallLetter < 18)
saying-asks = (omega arith, omega arith)

abbrev walk_x : Walk
walk_x = record { machine = machine_x; scope = scope_x; numbers = numbers 3 }

speaking-at-x : Saying walk_x
speaking-at-x = record { narrow = omega arith; numbered = numbered-three }

say-pair-asks : 13 < 47
say-pair-asks = omega arith

-- so asks `say_declared` too
say-value-asks : Saying walk_x × Inside walk_x.scope.names.text.now 3233
say-value-asks = (speaking-at-x, inside 3233 tt)

say-name-asks : Saying walk_x × Inside walk_x.scope.names.text.now 3233 × (13 < 47)
say-name-asks = (speaking-at-x, inside 3233 tt, omega arith)

say-token-asks : Saying walk_x × Inside walk_x.scope.names.text.now 3233 × (13 < 47) × (101 ≤ 65535)
say-token-asks = (speaking-at-x, inside 3233 tt, omega arith, omega arith)

span-of-asks : (101 < 102) × (102 ≤ 65535)
span-of-asks = (omega arith, omega arith)

walking-at-x : TakingToken walk_x 101
walking-at-x = record { short = short; few = omega arith; shallow = omega arith; numbered = numbered-three }

take-token-asks : TakingToken walk_x 101 × (101 < length walk_x.scope.names.text.now)
unfolding toggle_text
take-token-asks = (walking-at-x, omega arith)

-- The structs are those of the walk: after so many tokens and instructions a text goes on in this state and scope.
abbrev GoesOn : (text : List ℕ) (tokens said state depth : ℕ) (stack : List ℕ) → NameScope → Type 0
GoesOn text k n q depth K S =
    walk_instructions begins first_scope (tokens_in text)
    ≡ take n (walk_instructions begins first_scope (tokens_in text))
    ++ walk_instructions (live (state_of q) (stack_of depth K) no_word) S (drop k (tokens_in text))

goes-on-at-one : GoesOn toggle_text 3 1 4 0 stack (held scope_one)
unfolding toggle_text
goes-on-at-one = refl

goes-on-at-two : GoesOn toggle_text 5 2 6 0 stack (held scope_two)
unfolding toggle_text
goes-on-at-two = refl

goes-on-at-x : GoesOn toggle_text 30 13 13 4 stack (held scope_x)
unfolding toggle_text
goes-on-at-x = refl

said-before-x : reverse (table_code 13) ≡ take 13 (walk_instructions begins first_scope (tokens_in toggle_text))
unfolding toggle_text
said-before-x = refl

-- the parity checker at the end of its pair type
goes-on-at-pair : GoesOn parity_text 13 5 9 0 stack (held scope_pair)
unfolding parity_text
goes-on-at-pair = refl
