-- The law of places: each verdict's code applies at its place and not before, and no lower code applies. Each search and each
-- test of the verdict either refuses, with what its law says, or leaves its negation to what comes after.
-- Assumes nothing.
use Prim.Native.Nat.{ℕ}
use mathlib.Core.Bool.{Bool, true, false}
use mathlib.Core.List.{List}
use mathlib.Core.Option.{Option, none, some}
use mathlib.Core.Path.{◌≡◌, refl, sym, ◌∙◌}
use mathlib.Core.Logic.{◌↔◌}
use Rattle.records.specs.Words.{count}
use Rattle.records.specs.Trees.{circuit, type_record_of}
use Rattle.answers.specs.Answers.{lowest}
use Rattle.structure.specs.Rules.{wrong_length, wrong_header, wrong_record, wrong_naming, wrong_type, too_deep, Passes}
use Rattle.typing.specs.Judgements.{judgements, first_failing}
use Rattle.verdict.specs.Verdict.{unless, refusing, by_types, by_records, verdict}
use Rattle.verdict.specs.Scopes.{inputs}
use Rattle.verdict.specs.Promises.{Says, Places}
use Rattle.answers.specs.Answers.{Verdict}
use Rattle.answers.specs.Answers.{
  Accepted,
  WrongLength,
  WrongHeader,
  WrongRecord,
  WrongNaming,
  WrongType,
  TooDeep,
  IllTyped,
}
use Rattle.answers.proofs.Lowest.{lowest-some-passes}
use Rattle.verdict.proofs.FirstFailure.{none-fails, first-failure}

tested : (P : Verdict → Type 0) (b : Bool) (v w : Verdict) → (b ≡ true → P v) → (b ≡ false → P w) → P (unless b v w)
tested P true v w passed failed = passed refl
tested P false v w passed failed = failed refl

searched : (P : Verdict → Type 0) (o : Option ℕ) (f : ℕ → Verdict) (v : Verdict) → ((r : ℕ) → o ≡ some r → P (f r))
    → (o ≡ none → P v)
    → P (refusing o f v)
searched P (some r) f v found nothing = found r refl
searched P none f v found nothing = nothing refl

types-say : (s : List ℕ) → Passes s → Says s (by_types s)
unfolding by_types
types-say s p =
    searched (Says s) (first_failing s (judgements s (inputs s) (circuit s))) IllTyped (Accepted (type_record_of s (inputs s) (circuit s)))
    (λ r e. (p, first-failure s (judgements s (inputs s) (circuit s)) r e))
    (λ e. (p, none-fails s (judgements s (inputs s) (circuit s)) e, refl))

records-say : (s : List ℕ) → wrong_length s ≡ false → wrong_header s ≡ false → Says s (by_records s)
unfolding by_records
records-say s l h =
    searched (Says s) (lowest (wrong_record s) (count s)) WrongRecord
    (refusing (lowest (wrong_naming s) (count s)) WrongNaming
    (refusing (lowest (wrong_type s) (count s)) WrongType (refusing (lowest (too_deep s) (count s)) TooDeep (by_types s))))
    (λ r e. (l, h, lowest-some-passes (wrong_record s) (count s) r e))
    (λ records. searched (Says s) (lowest (wrong_naming s) (count s)) WrongNaming
    (refusing (lowest (wrong_type s) (count s)) WrongType (refusing (lowest (too_deep s) (count s)) TooDeep (by_types s)))
    (λ r e. (l, h, records, lowest-some-passes (wrong_naming s) (count s) r e))
    (λ namings. searched (Says s) (lowest (wrong_type s) (count s)) WrongType
    (refusing (lowest (too_deep s) (count s)) TooDeep (by_types s))
    (λ r e. (l, h, records, namings, lowest-some-passes (wrong_type s) (count s) r e))
    (λ types. searched (Says s) (lowest (too_deep s) (count s)) TooDeep (by_types s)
    (λ r e. (l, h, records, namings, types, lowest-some-passes (too_deep s) (count s) r e))
    (λ depths. types-say s (record { length = l; header = h; records = records; namings = namings; types = types; depths = depths })))))

pub places-right : Places
unfolding verdict
places-right s =
    tested (Says s) (wrong_length s) WrongLength (unless (wrong_header s) WrongHeader (by_records s)) (λ e. e)
    (λ l. tested (Says s) (wrong_header s) WrongHeader (by_records s) (λ e. (l, e)) (λ h. records-say s l h))

-- on a sheet that passes codes 1 to 6 the verdict is that of the type rules
pub passes-by-types : {s : List ℕ} → Passes s → verdict s ≡ by_types s
unfolding verdict by_records
passes-by-types {s} p = rw (p.length, p.header, p.records, p.namings, p.types, p.depths)

-- a sheet is accepted exactly where it passes codes 1 to 6 and the type rules accept it
pub accepted-by-types : (s : List ℕ) (t : ℕ) → verdict s ≡ Accepted t ↔ (Passes s × (by_types s ≡ Accepted t))
accepted-by-types s t = (there, λ p. passes-by-types p.0 ∙ p.1)
  where
    there : verdict s ≡ Accepted t → Passes s × (by_types s ≡ Accepted t)
    there e = let p = (rw e at (places-right s)).0 in (p, sym (passes-by-types p) ∙ e)
