-- What is promised of the check: each promise a named type, and at the end the list of them. One term of each stands in
-- `proofs/Kept.antt`; the list wants them all.
use Rattle.std.specs.Prelude.{ℕ, ◌<◌, ◌↔◌, ◌⊎◌, ◌≡◌, true, false}
use mathlib.Core.List.{List, [], ◌∷◌, ◌++◌, Memᴰ}
use Rattle.std.proofs.Math.Option.{none, some}
use Rattle.picoella.specs.Language.{Expr, Typed}
use Rattle.records.specs.Words.{count, word_a}
use Rattle.records.specs.Kinds.{expression, expressions, if_matches, parts, pattern, patterns}
use Rattle.records.specs.Says.{kind_at, sort_at, Naming, namings}
use Rattle.records.specs.Trees.{type_at, TypeRecord, Declared, circuit}
use Rattle.records.specs.Decoding.{decode}
use Rattle.answers.specs.Answers.{lowest, place, verdict_answer}
use Rattle.answers.specs.StandardLaws.{StandardLaws}
use Rattle.answers.specs.Promises.{LowestBreaking}
use Rattle.structure.specs.Rules.{wrong_length, wrong_header, wrong_record, wrong_naming, wrong_type, too_deep, Passes}
use Rattle.typing.specs.Judgements.{Judgement, holds, judgements}
use Rattle.verdict.specs.Verdict.{output_type, sheet_checks, verdict}
use Rattle.verdict.specs.Scopes.{inputs}
use Rattle.verdict.specs.Scopes.{Scope, FirstIllTyped}
use Rattle.verdict.specs.Widths.{Widths}
use Rattle.answers.specs.Answers.{Verdict}
use Rattle.answers.specs.Answers.{
  Accepted,
  WrongLength,
  WrongHeader,
  WrongRecord,
  WrongNaming,
  WrongType,
  TooDeep,
  IllTyped,
}

-- each judgement of the list holds
abbrev pub AllHold : List ℕ → List Judgement → Type 0
AllHold s js = (j : Judgement) → Memᴰ j js → holds s j.rule ≡ true

-- r is the record of the first judgement of the list that fails: it fails, and all before it hold
pub record FailsFirst (s : List ℕ) (js : List Judgement) (r : ℕ) : Type 0 where
  pub before : List Judgement
  pub failing : Judgement
  pub after : List Judgement
  pub split : js ≡ before ++ (failing ∷ after)
  pub hold : AllHold s before
  pub fails : holds s failing.rule ≡ false
  pub place : failing.at ≡ r

-- what each verdict says of the sheet: its code applies at its place, at no place before, and no lower code applies
abbrev pub Says : List ℕ → Verdict → Type 0
Says s (Accepted t) =
    Passes s × AllHold s (judgements s (inputs s) (circuit s)) × (t ≡ output_type s)
Says s WrongLength = wrong_length s ≡ true
Says s WrongHeader = (wrong_length s ≡ false) × (wrong_header s ≡ true)
Says s (WrongRecord r) = (wrong_length s ≡ false) × (wrong_header s ≡ false) × LowestBreaking (wrong_record s) (count s) r
Says s (WrongNaming r) =
    (wrong_length s ≡ false)
    × (wrong_header s ≡ false)
    × (lowest (wrong_record s) (count s) ≡ none)
    × LowestBreaking (wrong_naming s) (count s) r
Says s (WrongType r) =
    (wrong_length s ≡ false)
    × (wrong_header s ≡ false)
    × (lowest (wrong_record s) (count s) ≡ none)
    × (lowest (wrong_naming s) (count s) ≡ none)
    × LowestBreaking (wrong_type s) (count s) r
Says s (TooDeep r) =
    (wrong_length s ≡ false)
    × (wrong_header s ≡ false)
    × (lowest (wrong_record s) (count s) ≡ none)
    × (lowest (wrong_naming s) (count s) ≡ none)
    × (lowest (wrong_type s) (count s) ≡ none)
    × LowestBreaking (too_deep s) (count s) r
Says s (IllTyped r) = Passes s × FailsFirst s (judgements s (inputs s) (circuit s)) r

-- the verdict says so of the sheet
abbrev pub Places : Type 0
Places = (s : List ℕ) → Says s (verdict s)

-- and it is the only one that does: a verdict is given exactly where what it says holds, so that no search need be believed
abbrev pub SaysExactly : Type 0
SaysExactly = (s : List ℕ) (v : Verdict) → verdict s ≡ v ↔ Says s v

-- What every call promises (`StandardLaws` of `answers`): the verdict is the answer of the first check of a sheet that applies, and done
-- where the sheet passes codes 1 to 6 and every judgement holds. The check writes to no slice.
abbrev pub CheckLaws : Type 0
CheckLaws =
    (s : List ℕ)
    → StandardLaws (sheet_checks s) (Passes s × AllHold s (judgements s (inputs s) (circuit s))) (output_type s) (verdict_answer (verdict s)) []

-- The place of a verdict is a record's number or 0, so below 4,096.
abbrev pub PlacesBelow : Type 0
PlacesBelow = (s : List ℕ) → place (verdict_answer (verdict s)) < 4096

-- The sheet decodes to an expression that has the type of record t by the rules of picoELLA, over the types that the sheet
-- declares, where the input has the type in the header's word a.
abbrev pub WellTyped : List ℕ → ℕ → Type 0
WellTyped s t =
    TypeRecord s t
    × ((e : Expr) × (decode s ≡ some e) × Typed (Declared s) (type_at s (word_a s 0) ∷ []) e (type_at s t))

-- A sheet is accepted with output type t exactly where it passes codes 1 to 6 and is well typed with t.
abbrev pub Exact : Type 0
Exact = (s : List ℕ) (t : ℕ) → verdict s ≡ Accepted t ↔ (Passes s × WellTyped s t)

-- Code 7 is reported at r exactly where r is the first expression without a type.
abbrev pub IllTypedExactly : Type 0
IllTypedExactly = (s : List ℕ) (r : ℕ) → verdict s ≡ IllTyped r ↔ (Passes s × FirstIllTyped s r)

-- record r is an expression of the circuit, in one scope
pub record ScopedOnce (s : List ℕ) (r : ℕ) : Type 0 where
  pub names : List ℕ
  pub scope : Scope s r names
  pub only : (Γ : List ℕ) → Scope s r Γ → Γ ≡ names

-- Every expression record has one scope, in each sheet to which none of the codes 1 to 6 applies.
abbrev pub EveryScoped : Type 0
EveryScoped = (s : List ℕ) → Passes s → (r : ℕ) → r < count s → sort_at s r ≡ expressions → ScopedOnce s r

-- So what `check_into` leaves in the table of an accepted sheet is fixed at every record.
abbrev pub TableFixed : Type 0
TableFixed = (s : List ℕ) → Passes s → (table other : List ℕ) → Widths s table → Widths s other → table ≡ other

-- Record r is named, and every naming of it is the word d of an IF.
pub record NamedByIfs (s : List ℕ) (r : ℕ) : Type 0 where
  pub some : (n : Naming) × Memᴰ n (namings s r)
  pub by_if : (n : Naming) → Memᴰ n (namings s r) → kind_at s n.by ≡ expression if_matches
  pub at_d : (n : Naming) → Memᴰ n (namings s r) → n.at ≡ 5

-- It has exactly one naming, or is a pattern that is named so.
abbrev pub OnceOrShared : List ℕ → ℕ → Type 0
OnceOrShared s r = ((n : Naming) × (namings s r ≡ n ∷ [])) ⊎ ((sort_at s r ≡ patterns) × NamedByIfs s r)

-- That holds of every record but 0; and what a `next`, word 1, or a pair pattern names has no
-- other naming.
pub record NamedOnce (s : List ℕ) : Type 0 where
  pub once_or_shared : (r : ℕ) → 0 < r → r < count s → OnceOrShared s r
  pub by_next : (r : ℕ) → 0 < r → (n : Naming) → Memᴰ n (namings s r) → n.at ≡ 1 → namings s r ≡ n ∷ []
  pub by_pair_pattern : (r : ℕ) → 0 < r → (n : Naming) → Memᴰ n (namings s r) → kind_at s n.by ≡ pattern parts
      → namings s r ≡ n ∷ []

-- So it is in each sheet to which none of the codes 1 to 6 applies, and by `Exact` in each that is
-- accepted.
abbrev pub EveryNamedOnce : Type 0
EveryNamedOnce = (s : List ℕ) → Passes s → NamedOnce s

-- And code 4 refuses no more: where none of the codes 1 to 3 applies, it does not apply to a record
-- exactly where that is named so.
abbrev pub NamedOnceExactly : Type 0
NamedOnceExactly =
    (s : List ℕ) → wrong_length s ≡ false → wrong_header s ≡ false → lowest (wrong_record s) (count s) ≡ none
    → (r : ℕ) → 0 < r → r < count s → wrong_naming s r ≡ false ↔ OnceOrShared s r

-- all of them
pub record CheckPromises : Type 0 where
  pub places : Places
  pub says_exactly : SaysExactly
  pub check_laws : CheckLaws
  pub places_below : PlacesBelow
  pub exact : Exact
  pub ill_typed_exactly : IllTypedExactly
  pub every_scoped : EveryScoped
  pub table_fixed : TableFixed
  pub every_named_once : EveryNamedOnce
  pub named_once_exactly : NamedOnceExactly
