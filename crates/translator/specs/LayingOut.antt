-- What the functions ask that lay out the sheet: the bytes are a text whose names are good, and its instructions are held; and then
-- what was assembled from them.
use Rattle.std.specs.Prelude.{ℕ, suc, ◌+◌, ◌*◌, ◌≤◌, ◌≡◌, List, ◌∷◌, length, reverse}
use Rattle.std.proofs.Math.Option.{none}
use Rattle.grammar.specs.Sizes.{text_table}
use Rattle.grammar.specs.Tokens.{Token}
use Rattle.grammar.specs.Source.{identifier, Declaration, Expression, Text, text}
use Rattle.grammar.specs.Legal.{Reading, Keeps, text_bytes}
use Rattle.name_rules.specs.Checks.{first_bad_place}
use Rattle.name_rules.specs.Constants.{constants_of_text}
use Rattle.name_rules.specs.Names.{name_checks}
use Rattle.name_rules.specs.RecordsNeeded.{records_needed}
use Rattle.layout.specs.Resolved.{type_number, type_entries}
use Rattle.instructions.specs.Instruction.{Instruction}
use Rattle.instructions.specs.TextOrder.{text_instructions}
use Rattle.instructions.specs.RecordOrder.{declared_types, text_code}
use Rattle.ordering.specs.Held.{place_of}
use Rattle.ordering.specs.declared.assembly.Assembly.{Assembly}

pub record TranslatingResolved (bytes : List ℕ) (C : List Instruction) : Type 0 where
  pub tokens : List Token
  pub source : Text
  pub keeps : Keeps bytes
  pub reading : Reading bytes tokens source
  pub good : first_bad_place (name_checks source) ≡ none
  pub held : reverse C ≡ text_instructions source
  pub few : length C ≤ text_bytes

pub record TranslatingAssembled (bytes : List ℕ) (a : Assembly) : Type 0 where
  pub tokens : List Token
  pub first : Declaration
  pub more : List Declaration
  pub name : List ℕ
  pub named_at : ℕ
  pub root : Expression
  pub keeps : Keeps bytes
  pub reading : Reading bytes tokens (text first more (identifier name named_at) root)
  pub good : first_bad_place (name_checks (text first more (identifier name named_at) root)) ≡ none
  pub types_are : a.types ≡ declared_types (first ∷ more)
  pub input_is : a.input ≡ type_number (type_entries (first ∷ more)) name
  pub code_is : a.code ≡ text_code (text first more (identifier name named_at) root)
  pub counted : suc (length a.types) + a.records ≡ records_needed (text first more (identifier name named_at) root)
  pub types_many : length a.types ≡ length (first ∷ more)
  pub untyped_is : place_of a.untyped ≡ first_bad_place (constants_of_text (text first more (identifier name named_at) root))
  pub code_few : length a.code ≤ text_bytes
  pub small : length a.types + a.records ≤ 66 * text_table
