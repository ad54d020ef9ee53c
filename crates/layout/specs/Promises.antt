-- What is promised of the records of a text. One term of each promise stands in `proofs/Kept.antt`.
use Rattle.std.specs.Prelude.{ℕ, ◌≡◌, List, ◌∷◌, length}
use Rattle.std.proofs.Math.Option.{some}
use Rattle.picoella.specs.Language.{Expr}
use Rattle.records.specs.Words.{word_a}
use Rattle.records.specs.Trees.{type_at}
use Rattle.records.specs.Decoding.{decode}
use Rattle.grammar.specs.Tokens.{Token}
use Rattle.grammar.specs.Source.{Text, text}
use Rattle.grammar.specs.Grammar.{ReadsText}
use Rattle.name_rules.specs.Checks.{AllPass}
use Rattle.name_rules.specs.Constants.{letters}
use Rattle.name_rules.specs.Names.{text_checks}
use Rattle.name_rules.specs.RecordsNeeded.{records_needed}
use Rattle.layout.specs.Resolved.{TypeEntry, type_meant, type_number, type_entries}
use Rattle.layout.specs.Distances.{expression_meant, unplaced}
use Rattle.layout.specs.Layout.{text_records, sheet_of_text}

-- 1. As many records are laid as are counted, also above the limit of a sheet.
abbrev pub AsManyRecords : Type 0
AsManyRecords = (ts : List Token) (t : Text) → ReadsText ts t → AllPass (text_checks t) → length (text_records t) ≡ records_needed t

-- 2. Without supposing that the sheet is accepted: it decodes to the text's expression with names as distances, but for the places that
-- delays carry.
abbrev pub DecodesToText : Type 0
DecodesToText =
    (ts : List Token) (t : Text) → ReadsText ts t → AllPass (text_checks t)
    → (e : Expr) × (decode (sheet_of_text t) ≡ some e) × (unplaced e ≡ expression_meant t)

-- the type names of a text
abbrev pub types_of : Text → List TypeEntry
types_of (text d ds n e) = type_entries (d ∷ ds)

-- 3. What a type name stands for is what the record of its number says.
abbrev pub TypesAsDeclared : Type 0
TypesAsDeclared =
    (t : Text) → AllPass (text_checks t) → (w : List ℕ) → type_at (sheet_of_text t) (type_number (types_of t) w) ≡ type_meant (types_of t) w

-- the name of the input's type
abbrev pub input_name : Text → List ℕ
input_name (text d ds n e) = letters n

-- 4. The input has the type that the text says.
abbrev pub InputAsDeclared : Type 0
InputAsDeclared =
    (t : Text) → AllPass (text_checks t) → type_at (sheet_of_text t) (word_a (sheet_of_text t) 0) ≡ type_meant (types_of t) (input_name t)

pub record TranslationPromises : Type 0 where
  pub as_many_records : AsManyRecords
  pub decodes_to_text : DecodesToText
  pub types_as_declared : TypesAsDeclared
  pub input_as_declared : InputAsDeclared
