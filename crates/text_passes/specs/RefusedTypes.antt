-- Which declared types the check refuses (docs/SHEETS.md, "Codes"), by the number of the
-- declaration, from 1, which is the number of its record: by 3 a flat type of more than 255
-- constructors, by 5 "a pair type whose two parts a lower pair type has, or that has more than 64
-- leaves".
use Rattle.std.specs.Prelude.{ℕ, zero, suc, ◌-◌, Bool, false, ◌||◌, List, [], ◌∷◌, length, take, ltb}
use Rattle.std.proofs.Math.Option.{Option, none, some}
use Rattle.picoella.specs.Language.{leaves}
use Rattle.grammar.specs.Source.{Declaration, Constructors, PairOf}
use Rattle.name_rules.specs.Constants.{letters, first_pair_type, is_typed}
use Rattle.layout.specs.Resolved.{type_meant, type_entries}

-- declaration number i, where there is one
abbrev pub declaration_at : List Declaration → ℕ → Option Declaration
declaration_at [] i = none
declaration_at (d ∷ ds) zero = none
declaration_at (d ∷ ds) (suc zero) = some d
declaration_at (d ∷ ds) (suc (suc i)) = declaration_at ds (suc i)

abbrev pub where_declared : (Declaration → Bool) → Option Declaration → Bool
where_declared test none = false
where_declared test (some d) = test d

abbrev pub has_many_constructors : Declaration → Bool
has_many_constructors (Constructors t c cs) = ltb 255 (length (c ∷ cs))
has_many_constructors (PairOf t a b) = false

-- 3: declaration number i is a flat type of more than 255 constructors
unfoldable pub over_counted : List Declaration → ℕ → Bool
over_counted ds i = where_declared has_many_constructors (declaration_at ds i)

-- of the declarations ds: those before it declare a pair of the same two types, or it has more than
-- 64 leaves
abbrev pub is_refused_pair : (ds before : List Declaration) → Declaration → Bool
is_refused_pair ds before (Constructors t c cs) = false
is_refused_pair ds before (PairOf t a b) =
    is_typed (first_pair_type before (letters a) (letters b)) || ltb 64 (leaves (type_meant (type_entries ds) (letters t)))

-- 5: declaration number i is such a pair type
unfoldable pub refused_pair : List Declaration → ℕ → Bool
refused_pair ds i = where_declared (is_refused_pair ds (take (i - 1) ds)) (declaration_at ds i)
