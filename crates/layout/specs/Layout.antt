-- The records of a text (docs/SHEETS.md, "The sheet of a text"): "Record 0 is the header, record `i` the declaration `i`, counted from
-- 1. Then comes the expression in preorder: a record, then each part with its whole subtree, in the order of the words that name the
-- parts." An IF's parts are tested, then, else and last its pattern; a delay's are its leaves and then its part. Where
-- the part after another begins is told by how many records that one needs (`records_of_expression`, `pattern_records`).
use Rattle.std.specs.Prelude.{ℕ, suc, ◌+◌, cond, List, [], ◌∷◌, ◌++◌, length, replicate}
use Rattle.std.proofs.Math.Option.{Option, none, some}
use Rattle.records.specs.SheetOf.{Record, words, sheet_of}
use Rattle.grammar.specs.Source.{Declaration, Constructors, PairOf}
use Rattle.grammar.specs.Source.{SourcePattern, Alone, PatternPair, Either, Text, text}
use Rattle.grammar.specs.Source.{Expression, NameUse, UndefinedOf, PairExpression, FirstOf, SecondOf, LetExpression, LetRecExpression, IfExpression, DelayExpression}
use Rattle.name_rules.specs.Declared.{is_among, is_declared, type_role, constructor_role, at_first}
use Rattle.name_rules.specs.Constants.{letters, constant_type}
use Rattle.name_rules.specs.Names.{after_all, bind}
use Rattle.name_rules.specs.RecordsNeeded.{leaf_count_of, leaf_counts, pattern_records, constant_leaves, records_of_expression, records_needed}
use Rattle.layout.specs.Resolved.{TypeEntry, after_entry, type_number, type_entries, constructor_meant, constructor_entries, distance}
use Rattle.layout.specs.Distances.{constant_values}

-- record i is declaration i, and its next the one after it, 0 at the last
abbrev pub next_type : ℕ → List Declaration → ℕ
next_type i [] = 0
next_type i (d ∷ ds) = suc i

abbrev pub types_laid : ℕ → List TypeEntry → List Declaration → List Record
types_laid i T [] = []
types_laid i T (Constructors t c cs ∷ ds) =
    words 16 (next_type i ds) (length (c ∷ cs)) 0 0 0 ∷ types_laid (suc i) (after_entry i T (Constructors t c cs)) ds
types_laid i T (PairOf t a b ∷ ds) =
    words 17 (next_type i ds) (type_number T (letters a)) (type_number T (letters b)) 0 0
    ∷ types_laid (suc i) (after_entry i T (PairOf t a b)) ds

-- a chain of leaves that begins at record r
abbrev pub leaves_laid : ℕ → List ℕ → List Record
leaves_laid r [] = []
leaves_laid r (v ∷ []) = words 64 0 v 0 0 0 ∷ []
leaves_laid r (v ∷ w ∷ vs) = words 64 (suc r) v 0 0 0 ∷ leaves_laid (suc r) (w ∷ vs)

abbrev pub constant_laid : (type r : ℕ) → List ℕ → List Record
constant_laid t r vs = words 32 0 t (suc r) 0 0 ∷ leaves_laid (suc r) vs

abbrev pub number_or : List TypeEntry → Option (List ℕ) → ℕ
number_or T none = 0
number_or T (some w) = type_number T w

module _ (ds : List Declaration) where
  -- how many records an expression needs
  abbrev pub room_of : List (List ℕ) → Expression → ℕ
  room_of bound e = records_of_expression (leaf_counts [] ds) (after_all at_first ds) bound e

  -- a pattern that begins at record r, and the next of its last alternative
  abbrev pub pattern_laid : (next r : ℕ) → SourcePattern → List Record
  pattern_laid next r (Alone n) =
      cond (is_declared type_role (letters n) (after_all at_first ds))
      (words 48 next (type_number (type_entries ds) (letters n)) 0 0 0 ∷ [])
      (words 49 next (constructor_meant (constructor_entries ds) (letters n)).type
      (constructor_meant (constructor_entries ds) (letters n)).number 0 0 ∷ [])
  pattern_laid next r (PatternPair m n) =
      words 50 next (suc r) (suc r + pattern_records m) 0 0
      ∷ pattern_laid 0 (suc r) m ++ pattern_laid 0 (suc r + pattern_records m) n
  pattern_laid next r (Either m n) =
      pattern_laid (r + pattern_records m) r m ++ pattern_laid next (r + pattern_records m) n

  abbrev pub name_laid : List (List ℕ) → ℕ → List ℕ → List Record
  name_laid bound r w =
      cond (is_among w bound)
      (words 33 0 (distance w bound) 0 0 0 ∷ [])
      (cond (is_declared constructor_role w (after_all at_first ds))
      (constant_laid (constructor_meant (constructor_entries ds) w).type r ((constructor_meant (constructor_entries ds) w).number ∷ []))
      (words 33 0 (distance w bound) 0 0 0 ∷ []))

  -- an expression that begins at record r
  abbrev pub laid : List (List ℕ) → ℕ → Expression → List Record
  laid bound r (NameUse n) = name_laid bound r (letters n)
  laid bound r (UndefinedOf t) =
      constant_laid (type_number (type_entries ds) (letters t)) r (replicate (leaf_count_of (leaf_counts [] ds) (letters t)) 0)
  laid bound r (PairExpression e f) =
      words 34 0 (suc r) (suc r + room_of bound e) 0 0 ∷ laid bound (suc r) e ++ laid bound (suc r + room_of bound e) f
  laid bound r (FirstOf e) = words 35 0 (suc r) 0 0 0 ∷ laid bound (suc r) e
  laid bound r (SecondOf e) = words 36 0 (suc r) 0 0 0 ∷ laid bound (suc r) e
  laid bound r (LetExpression n e f) =
      words 37 0 (suc r) (suc r + room_of bound e) 0 0 ∷ laid bound (suc r) e ++ laid (bind n bound) (suc r + room_of bound e) f
  laid bound r (LetRecExpression t n e f) =
      words 38 0 (type_number (type_entries ds) (letters t)) (suc r) (suc r + room_of (bind n bound) e) 0
      ∷ laid (bind n bound) (suc r) e ++ laid (bind n bound) (suc r + room_of (bind n bound) e) f
  laid bound r (IfExpression e m f g) =
      let then = suc r + room_of bound e in
      let otherwise = then + room_of bound f in
      let pattern = otherwise + room_of bound g in
      words 39 0 (suc r) then otherwise pattern
      ∷ laid bound (suc r) e ++ (laid bound then f ++ (laid bound otherwise g ++ pattern_laid 0 pattern m))
  laid bound r (DelayExpression c e) =
      let part = suc r + constant_leaves (leaf_counts [] ds) c in
      words 40 0 (number_or (type_entries ds) (constant_type ds c)) (suc r) part 0
      ∷ leaves_laid (suc r) (constant_values ds c) ++ laid bound part e

-- the root is the first record after the types
abbrev pub text_records : Text → List Record
text_records (text d ds t e) =
    words 1 1 (type_number (type_entries (d ∷ ds)) (letters t)) (suc (length (d ∷ ds))) (records_needed (text d ds t e)) 0
    ∷ types_laid 1 [] (d ∷ ds) ++ laid (d ∷ ds) [] (suc (length (d ∷ ds))) e

-- the sheet's bytes
unfoldable pub sheet_of_text : Text → List ℕ
sheet_of_text t = sheet_of (text_records t)
