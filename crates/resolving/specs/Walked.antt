-- How far a walk over a text's tokens has come: what is left of the text is checked in the state and the scope that are reached.
use Rattle.std.specs.Prelude.{ℕ, ◌+◌, ◌≤◌, ◌<◌, ◌≡◌, Bool, true, List, [], ◌++◌, length, drop, reverse, Result, Ok, Err}
use Rattle.std.proofs.Math.Option.{none, some}
use Rattle.grammar.specs.Tokens.{Token, keyword, symbol, name_token, Tokens}
use Rattle.grammar.specs.Source.{Text}
use Rattle.grammar.specs.Legal.{text_bytes}
use Rattle.grammar.specs.Rows.{State}
use Rattle.grammar.specs.Machine.{live, no_word, begins, lead_of, after_tokens, ends}
use Rattle.name_rules.specs.Checks.{first_bad_place}
use Rattle.name_rules.specs.Names.{name_checks}
use Rattle.name_rules.specs.TokenWalk.{NameScope, scope, walk_checks, name_holds, scope_after, effect_on}
use Rattle.lexer.specs.Scanned.{FirstToken, NamedBy, blanks_in}
use Rattle.scoping.specs.Scoped.{effect_of}
use Rattle.scoping.specs.Held.{held}
use Rattle.scoping.specs.declared.scopes.Scope.{Scope}
use Rattle.name_rules.specs.Declared.{at_first}
use Rattle.symbols.specs.Names.{letters_at}
use Rattle.symbols.specs.RoleNumbers.{role_codes}
use Rattle.instructions.specs.Instruction.{Instruction}
use Rattle.instructions.specs.TextOrder.{text_instructions}
use Rattle.instructions.specs.TokenOrder.{walk_instructions}
use Rattle.resolving.specs.Said.{Numbered, NamesDeclared, CodeHeld}
use Rattle.resolving.specs.declared.BadName.{BadName}
use Rattle.resolving.specs.declared.walk.Walk.{Walk}

-- the reading ts of a text t is left at a place; the tokens before it said some instructions
pub record Walks (text : List ℕ) (ts : List Token) (t : Text) (i : ℕ) (q : State) (K : List State) (S : NameScope) (said : List Instruction) : Type 0 where
  pub left : List Token
  pub lexed : Tokens i (drop i text) left
  pub readable : ends (after_tokens (live q K no_word) left) ≡ true
  pub same_place : first_bad_place (name_checks t) ≡ first_bad_place (walk_checks (live q K no_word) S left)
  pub same_code : walk_instructions begins (scope [] [] at_first) ts ≡ said ++ walk_instructions (live q K no_word) S left

-- and the code holds these instructions
pub record WalksHeld (text : List ℕ) (ts : List Token) (t : Text) (i : ℕ) (q : State) (K : List State) (S : NameScope) (C : List Instruction) : Type 0 where
  pub said : List Instruction
  pub walks : Walks text ts t i q K S said
  pub held : CodeHeld C said

-- the check on a token
abbrev pub token_holds : State → Token → NameScope → Bool
token_holds q (keyword k p) S = true
token_holds q (symbol s p) S = true
token_holds q (name_token w p) S = name_holds q w S

-- what a token that is noted gives: whether it keeps to its rule, and if so the scope after it
pub record TokenNoted (q : State) (t : Token) (S : NameScope) (ok : Bool) (T : NameScope) : Type 0 where
  pub told : ok ≡ token_holds q t S
  pub same_scope : ok ≡ true → T ≡ scope_after q t S

-- the token that is found has a name's span and the effect of a number in a state
pub record FoundWith (text : List ℕ) (start end class span effect : ℕ) (q : State) (t : Token) (others : List Token) : Type 0 where
  pub found : FirstToken text start end class t others
  pub spelled : NamedBy t (letters_at text span)
  pub same_effect : effect_of effect ≡ effect_on q (lead_of t)

-- what a token gives that a scope notes
pub record ScopeNoted (class span effect : ℕ) (q : State) (old : Scope) (ok : Bool) (new : Scope) : Type 0 where
  pub same_text : new.names.text.now ≡ old.names.text.now
  pub few : ok ≡ true → new.names.count + new.waiting ≤ old.names.count + old.waiting + 1
  pub declared : ok ≡ true
      → NamesDeclared old.names.text.now old.names.spans (role_codes old.roles) old.base new.names.spans (role_codes new.roles) new.base
  pub noted : (start end : ℕ) (t : Token) (others : List Token) → FoundWith old.names.text.now start end class span effect q t others
      → TokenNoted q t (held old) ok (held new)

-- what is asked of a walk where a token speaks
pub record Saying (w : Walk) : Type 0 where
  pub narrow : w.scope.names.count ≤ text_bytes
  pub numbered : Numbered (role_codes w.scope.roles) w.numbers.types w.numbers.ranks w.scope.base

-- what is asked of a walk at a place, and kept
pub record TakingToken (w : Walk) (i : ℕ) : Type 0 where
  pub short : length w.scope.names.text.now ≤ text_bytes
  pub few : w.scope.names.count + w.scope.waiting ≤ i
  pub shallow : length w.machine.waiting ≤ i
  pub numbered : Numbered (role_codes w.scope.roles) w.numbers.types w.numbers.ranks w.scope.base

-- a walk has come to a place, and the code holds what the tokens before it said
abbrev pub WalkHeld : List ℕ → List Token → Text → (i : ℕ) → Walk → List Instruction → Type 0
WalkHeld text ts t i w C = WalksHeld text ts t i w.machine.state w.machine.waiting (held w.scope) C

-- what a token gives: the walk goes on after it, or it is the first bad name
pub record TokenGood (start : ℕ) (old : Walk) (C : List Instruction) (end : ℕ) (new : Walk) (D : List Instruction) : Type 0 where
  pub same_text : new.scope.names.text.now ≡ old.scope.names.text.now
  pub walking : TakingToken new end
  pub further : start < end
  pub inside : end ≤ length old.scope.names.text.now
  pub walked : (ts : List Token) (t : Text) (i : ℕ) → i ≤ length old.scope.names.text.now → start ≡ i + blanks_in (drop i old.scope.names.text.now)
      → WalkHeld old.scope.names.text.now ts t i old C → WalkHeld old.scope.names.text.now ts t end new D

abbrev pub TokenBad : (start : ℕ) → Walk → List Instruction → Type 0
TokenBad start old C = (ts : List Token) (t : Text) (i : ℕ) → i ≤ length old.scope.names.text.now
    → start ≡ i + blanks_in (drop i old.scope.names.text.now) → WalkHeld old.scope.names.text.now ts t i old C
    → first_bad_place (name_checks t) ≡ some start

abbrev pub TokenTaken : (start : ℕ) (old : Walk) (C : List Instruction) → Result ℕ BadName → (new : Walk) (D : List Instruction) → Type 0
TokenTaken start old C (Ok end) new D = TokenGood start old C end new D
TokenTaken start old C (Err bad) new D = (bad.place ≡ start) × TokenBad start old C

-- what a call tells of a text: its first bad name, or its instructions
pub record SoundText (text : List ℕ) (t : Text) (C : List Instruction) : Type 0 where
  pub good_names : first_bad_place (name_checks t) ≡ none
  pub instructions : reverse C ≡ text_instructions t
  pub few : length C ≤ length text

abbrev pub TextResolved : List ℕ → Text → (C : List Instruction) → Result Unit BadName → Type 0
TextResolved text t C (Ok u) = SoundText text t C
TextResolved text t C (Err bad) = first_bad_place (name_checks t) ≡ some bad.place
