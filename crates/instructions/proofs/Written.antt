-- What the instructions of a text write, with the header and the types, are the text's records.
-- Assumes nothing.
use Prim.Native.Nat.{ℕ, suc, ◌+◌}
use native.Mathlib.Omega.{arith}
use mathlib.Core.Path.{◌≡◌, refl, sym, ap, ap₂, ◌∙◌}
use mathlib.Core.List.{List, [], ◌∷◌, ◌++◌, append-nil}
use lib.ListN.{length}
use Rattle.records.specs.SheetOf.{Record, words}
use Rattle.grammar.specs.Source.{identifier, Declaration, Constructors, PairOf, Expression, text}
use Rattle.name_rules.specs.Checks.{AllPass}
use Rattle.name_rules.specs.Constants.{letters}
use Rattle.name_rules.specs.Names.{text_checks}
use Rattle.name_rules.specs.RecordsNeeded.{records_needed}
use Rattle.layout.specs.Resolved.{TypeEntry, after_entry, type_number, type_entries}
use Rattle.layout.specs.Layout.{next_type, types_laid, laid, text_records}
use Rattle.layout.proofs.Sizes.{expression-length}
use Rattle.layout.proofs.Kept.{names-good, in-its-sheet}
use Rattle.instructions.specs.Assembly.{DeclaredType, flat_type, paired_type}
use Rattle.instructions.specs.RecordOrder.{types_onto, declared_types, text_code}
use Rattle.instructions.specs.Emission.{emission, of_number, emit_all, types_written, records_written}
use Rattle.instructions.proofs.Emitted.{expression-emitted}

types_many : (i : ℕ) (E : List TypeEntry) (ds : List Declaration) (T : List DeclaredType) → length (types_onto i E ds T) ≡ length T + length ds
types_many i E [] T = omega arith
types_many i E (Constructors t c cs ∷ ds) T =
    let e = types_many (suc i) (after_entry i E (Constructors t c cs)) ds (flat_type (length (c ∷ cs)) ∷ T) in omega (arith, e)
types_many i E (PairOf t a b ∷ ds) T =
    let e = types_many (suc i) (after_entry i E (PairOf t a b)) ds (paired_type (type_number E (letters a)) (type_number E (letters b)) ∷ T) in omega (arith, e)

pub declared-many : (ds : List Declaration) → length (declared_types ds) ≡ length ds
declared-many ds = let e = types_many 1 [] ds [] in omega (arith, e)

-- the types, the last first, are the type records in order
types-written : (i : ℕ) (E : List TypeEntry) (ds : List Declaration) (T : List DeclaredType) (R : List Record) → i ≡ suc (length T)
    → types_written (types_onto i E ds T) 0 R ≡ types_written T (next_type (length T) ds) (types_laid i E ds ++ R)
types-written i E [] T R e = refl
types-written i E (Constructors t c cs ∷ ds) T R e =
    let F = after_entry i E (Constructors t c cs) in
    types-written (suc i) F ds (flat_type (length (c ∷ cs)) ∷ T) R (ap suc e)
    ∙ ap (λ k. types_written T (suc (length T)) (words 16 (next_type k ds) (length (c ∷ cs)) 0 0 0 ∷ (types_laid (suc i) F ds ++ R))) (sym e)
types-written i E (PairOf t a b ∷ ds) T R e =
    let F = after_entry i E (PairOf t a b) in
    let m = type_number E (letters a) in
    let n = type_number E (letters b) in
    types-written (suc i) F ds (paired_type m n ∷ T) R (ap suc e)
    ∙ ap (λ k. types_written T (suc (length T)) (words 17 (next_type k ds) m n 0 0 ∷ (types_laid (suc i) F ds ++ R))) (sym e)

module _ (d : Declaration) (ds : List Declaration) (w : List ℕ) (p : ℕ) (e : Expression) (h : AllPass (text_checks (text d ds (identifier w p) e))) where
  abbrev laid_after : List Record
  laid_after = laid (d ∷ ds) [] (suc (length (d ∷ ds))) e

  pub emitted :
      emit_all (declared_types (d ∷ ds)) (emission [] (records_needed (text d ds (identifier w p) e)) [] 0) (text_code (text d ds (identifier w p) e))
      ≡ emission laid_after (suc (length (d ∷ ds))) (of_number (suc (length (d ∷ ds))) ∷ []) 0
  emitted =
      expression-emitted (in-its-sheet d ds w p e h).held [] e (suc (length (d ∷ ds))) (records_needed (text d ds (identifier w p) e)) 0 [] [] []
      (names-good d ds w p e h).1 (omega arith)
      ∙ ap (λ l. emission l (suc (length (d ∷ ds))) (of_number (suc (length (d ∷ ds))) ∷ []) 0) (append-nil laid_after)

  pub laid-many : suc (length (d ∷ ds)) + length laid_after ≡ records_needed (text d ds (identifier w p) e)
  laid-many =
      let n = expression-length (in-its-sheet d ds w p e h).held [] (suc (length (d ∷ ds))) e (names-good d ds w p e h).1 in
      omega (arith, n)

  pub records-written :
      records_written (declared_types (d ∷ ds)) (type_number (type_entries (d ∷ ds)) w) laid_after ≡ text_records (text d ds (identifier w p) e)
  records-written =
      ap (λ k. words 1 1 (type_number (type_entries (d ∷ ds)) w) (suc k) (suc k + length laid_after) 0 ∷ types_written (declared_types (d ∷ ds)) 0 laid_after)
      (declared-many (d ∷ ds))
      ∙ ap₂ (λ k l. words 1 1 (type_number (type_entries (d ∷ ds)) w) (suc (length (d ∷ ds))) k 0 ∷ l) laid-many
      (types-written 1 [] (d ∷ ds) [] laid_after refl)
