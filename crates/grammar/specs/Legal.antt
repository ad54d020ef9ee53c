-- Where a text leaves the grammar (docs/SHEETS.md, "Codes", 13): "first byte of the text, from 0, with which no legal text goes on,
-- 65,535 at the latest; the text's length if it ends too soon".
use Rattle.std.specs.Prelude.{ℕ, suc, ◌≤◌, ◌<◌, List, ◌++◌, length, take}
use Rattle.grammar.specs.Tokens.{Token, Tokens}
use Rattle.grammar.specs.Source.{Text}
use Rattle.grammar.specs.Grammar.{ReadsText}

-- a reading of the bytes: their tokens and the abstract text
pub record Reading (bytes : List ℕ) (tokens : List Token) (t : Text) : Type 0 where
  pub lexed : Tokens 0 bytes tokens
  pub parsed : ReadsText tokens t

-- bytes in the grammar, whatever their number
abbrev pub Legal : List ℕ → Type 0
Legal bytes = (tokens : List Token) × (t : Text) × Reading bytes tokens t

-- some continuation is legal
abbrev pub Viable : List ℕ → Type 0
Viable bytes = (more : List ℕ) × Legal (bytes ++ more)

-- the most bytes that a text has
abbrev pub text_bytes : ℕ
text_bytes = 65535

-- the places that code 13 tells: a byte after which no continuation is legal, where one was before it; the limit, where more bytes follow;
-- the end of a text that could go on
pub data LeavesGrammar : List ℕ → ℕ → Type 0 where
  at_byte : {bytes : List ℕ} {i : ℕ}
      → i < length bytes → i < text_bytes → Viable (take i bytes) → (Viable (take (suc i) bytes) → ⊥) → LeavesGrammar bytes i
  at_limit : {bytes : List ℕ} → text_bytes < length bytes → Viable (take text_bytes bytes) → LeavesGrammar bytes text_bytes
  at_end : {bytes : List ℕ} → length bytes ≤ text_bytes → Viable bytes → (Legal bytes → ⊥) → LeavesGrammar bytes (length bytes)

-- a text that keeps to the grammar: legal, and no longer than the limit
pub record Keeps (bytes : List ℕ) : Type 0 where
  pub legal : Legal bytes
  pub short : length bytes ≤ text_bytes
