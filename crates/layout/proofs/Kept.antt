-- One term of each promise.
-- Assumes nothing.
use Prim.Native.Nat.{ℕ, suc, ◌+◌, ◌≤◌}
use mathlib.Core.Path.{◌≡◌, refl, ap, ◌∙◌}
use mathlib.Core.Bool.{true}
use mathlib.Core.List.{List, [], ◌∷◌, ◌++◌}
use mathlib.Core.Option.{some}
use native.Mathlib.Omega.{arith}
use lib.ListN.{length, length-append}
use Rattle.picoella.specs.Language.{Expr}
use Rattle.records.specs.Words.{count, word_a, word_b}
use Rattle.records.specs.SheetOf.{sheet_of}
use Rattle.records.specs.Trees.{tree_at, circuit}
use Rattle.records.specs.Decoding.{expression_of, decode}
use Rattle.grammar.specs.Tokens.{Token}
use Rattle.grammar.specs.Source.{Identifier, identifier, Declaration, Expression, Text, text}
use Rattle.grammar.specs.Grammar.{ReadsText, reads_text}
use Rattle.name_rules.specs.Declared.{at_first, type_role}
use Rattle.name_rules.specs.Checks.{AllPass}
use Rattle.name_rules.specs.Constants.{letters, constants_of_text}
use Rattle.name_rules.specs.Names.{after_all, is_one, declarations_checks, expression_checks, name_checks, text_checks}
use Rattle.name_rules.specs.RecordsNeeded.{records_needed}
use Rattle.layout.specs.Resolved.{type_number, type_entries}
use Rattle.layout.specs.Distances.{expression_meant, unplaced}
use Rattle.layout.specs.Layout.{types_laid, room_of, laid, text_records, sheet_of_text}
use Rattle.layout.specs.Promises.{AsManyRecords, DecodesToText, TypesAsDeclared, InputAsDeclared, TranslationPromises}
use Rattle.layout.proofs.Standing.{Stands, one-stands, sheet-stands, stands-append, sheet-count}
use Rattle.layout.proofs.TypesMeant.{Headed}
use Rattle.layout.proofs.ConstructorTables.{pass-both, pass-rest}
use Rattle.layout.proofs.Tables.{TablesMeant, tables-meant}
use Rattle.layout.proofs.Sizes.{types-length, expression-length}
use Rattle.layout.proofs.Decodes.{SaysExpression, expression-read}

-- a text as it stands in a sheet: the tables hold, and the expression stands after the types, where the header says
pub record Laid (s : List ℕ) (d : Declaration) (ds : List Declaration) (n : Identifier) (e : Expression) : Type 0 where
  pub held : TablesMeant s (d ∷ ds)
  pub there : Stands s (suc (length (d ∷ ds))) (laid (d ∷ ds) [] (suc (length (d ∷ ds))) e)
  pub takes : word_a s 0 ≡ type_number (type_entries (d ∷ ds)) (letters n)
  pub root : word_b s 0 ≡ suc (length (d ∷ ds))

pub names-good : (d : Declaration) (ds : List Declaration) (w : List ℕ) (p : ℕ) (e : Expression) → AllPass (text_checks (text d ds (identifier w p) e))
    → AllPass (declarations_checks at_first (d ∷ ds)) × AllPass (expression_checks (after_all at_first (d ∷ ds)) [] e)
names-good d ds w p e h =
    let t = text d ds (identifier w p) e in
    let names = (pass-both (name_checks t) (constants_of_text t) h).0 in
    let parted =
    pass-both (declarations_checks at_first (d ∷ ds))
    (is_one type_role (after_all at_first (d ∷ ds)) (identifier w p) ∷ expression_checks (after_all at_first (d ∷ ds)) [] e) names in
    (parted.0, pass-rest parted.1)

text-laid : (s : List ℕ) (d : Declaration) (ds : List Declaration) (n : Identifier) (e : Expression)
    → Stands s 0 (text_records (text d ds n e)) → AllPass (declarations_checks at_first (d ∷ ds)) → Laid s d ds n e
text-laid s d ds n e (one-stands x st) good =
    let parted = stands-append 1 (types_laid 1 [] (d ∷ ds)) (laid (d ∷ ds) [] (suc (length (d ∷ ds))) e) st in
    let l = types-length 1 [] (d ∷ ds) in
    let after : 1 + length (d ∷ ds) ≡ suc (length (d ∷ ds)) = omega arith in
    record {
      held = tables-meant (record { kind-one = x.kind-is }) (d ∷ ds) parted.0 good;
      there = rw (l, after) at parted.1;
      takes = x.a-is;
      root = x.b-is;
    }

pub in-its-sheet : (d : Declaration) (ds : List Declaration) (w : List ℕ) (p : ℕ) (e : Expression)
    → AllPass (text_checks (text d ds (identifier w p) e))
    → Laid (sheet_of (text_records (text d ds (identifier w p) e))) d ds (identifier w p) e
in-its-sheet d ds w p e h =
    let t = text d ds (identifier w p) e in
    text-laid (sheet_of (text_records t)) d ds (identifier w p) e (sheet-stands (text_records t)) (names-good d ds w p e h).0

as_many : AsManyRecords
as_many ts (text d ds (identifier w p) e) rd h =
    let x = in-its-sheet d ds w p e h in
    let n = expression-length x.held [] (suc (length (d ∷ ds))) e (names-good d ds w p e h).1 in
    let l = types-length 1 [] (d ∷ ds) in
    rw (length-append, l, n) (omega arith)

-- what is there decodes
decoded : (s : List ℕ) (r : ℕ) (e : Expr) → word_b s 0 ≡ r → SaysExpression s (tree_at s r) e
    → (f : Expr) × (decode s ≡ some f) × (unplaced f ≡ e)
unfolding decode circuit
decoded s r e b x = (expression_of s (tree_at s r), rw (b, x.all), x.reads)

decodes : DecodesToText
unfolding sheet_of_text tree_at
decodes ts (text d ds (identifier w p) e) (reads_text rd rm re) h =
    let t = text d ds (identifier w p) e in
    let s = sheet_of (text_records t) in
    let x = in-its-sheet d ds w p e h in
    let c : count s ≡ records_needed t = sheet-count (text_records t) ∙ as_many ts t (reads_text rd rm re) h in
    let fits : room_of (d ∷ ds) [] e ≤ count s = omega arith in
    decoded s (suc (length (d ∷ ds))) (expression_meant t) x.root
    (expression-read x.held [] re (count s) (suc (length (d ∷ ds))) fits fits x.there (names-good d ds w p e h).1)

as-declared : TypesAsDeclared
unfolding sheet_of_text
as-declared (text d ds (identifier w p) e) h v = (in-its-sheet d ds w p e h).held.types v

input-declared : InputAsDeclared
unfolding sheet_of_text
input-declared (text d ds (identifier w p) e) h =
    let x = in-its-sheet d ds w p e h in rw x.takes (x.held.types w)

pub kept : TranslationPromises
kept = record { as_many_records = as_many; decodes_to_text = decodes; types_as_declared = as-declared; input_as_declared = input-declared }
