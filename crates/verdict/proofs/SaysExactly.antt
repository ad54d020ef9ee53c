-- What a verdict says holds of a sheet for that verdict alone. A search finds the lowest record that breaks a rule where one does
-- and no lower one; the first judgement that fails is found where all before it hold, and none where all hold. So what a verdict
-- says decides each test and each search on the way to it.
-- Assumes nothing.
use Prim.Native.Nat.{ℕ}
use mathlib.Core.Bool.{false}
use mathlib.Core.List.Memᴰ
use mathlib.Core.List.{List, [], ◌∷◌, ◌++◌}
use mathlib.Core.Option.{none, some}
use mathlib.Core.Path.{◌≡◌, refl, ap, ◌∙◌}
use Rattle.records.specs.Trees.{circuit}
use Rattle.answers.proofs.Lowest.{lowest-is}
use Rattle.typing.specs.Judgements.{Judgement, holds, judgements, first_failing}
use Rattle.verdict.specs.Verdict.{verdict, by_records, by_types}
use Rattle.verdict.specs.Scopes.{inputs}
use Rattle.verdict.specs.Promises.{AllHold, FailsFirst, Says, SaysExactly}
use Rattle.answers.specs.Answers.{Verdict}
use Rattle.answers.specs.Answers.{
  Accepted,
  WrongLength,
  WrongHeader,
  WrongRecord,
  WrongNaming,
  WrongType,
  TooDeep,
  IllTyped,
}
use Rattle.verdict.proofs.Places.{places-right, passes-by-types}

pub all-hold-none : (s : List ℕ) (js : List Judgement) → AllHold s js → first_failing s js ≡ none
all-hold-none s [] f = refl
all-hold-none s (j ∷ js) f = rw (f j (Memᴰ.head refl)) (all-hold-none s js (λ k m. f k (Memᴰ.tail m)))

failing-after : (s : List ℕ) (js : List Judgement) (j : Judgement) (ks : List Judgement) → AllHold s js
    → holds s j.rule ≡ false → first_failing s (js ++ (j ∷ ks)) ≡ some j.at
failing-after s [] j ks f e = rw e
failing-after s (i ∷ js) j ks f e =
    rw (f i (Memᴰ.head refl)) (failing-after s js j ks (λ k m. f k (Memᴰ.tail m)) e)

pub failing-first : (s : List ℕ) (js : List Judgement) (r : ℕ) → FailsFirst s js r → first_failing s js ≡ some r
failing-first s js r f =
    rw f.split (failing-after s f.before f.failing f.after f.hold f.fails) ∙ ap some f.place

said-only : (s : List ℕ) (v : Verdict) → Says s v → verdict s ≡ v
unfolding verdict by_records by_types
said-only s (Accepted t) (p, h, e) =
    passes-by-types p ∙ rw (all-hold-none s (judgements s (inputs s) (circuit s)) h, e)
said-only s WrongLength e = rw e
said-only s WrongHeader (l, e) = rw (l, e)
said-only s (WrongRecord r) (l, h, f) = rw (l, h, lowest-is _ _ r f.0 f.1 f.2)
said-only s (WrongNaming r) (l, h, a, f) = rw (l, h, a, lowest-is _ _ r f.0 f.1 f.2)
said-only s (WrongType r) (l, h, a, b, f) = rw (l, h, a, b, lowest-is _ _ r f.0 f.1 f.2)
said-only s (TooDeep r) (l, h, a, b, c, f) = rw (l, h, a, b, c, lowest-is _ _ r f.0 f.1 f.2)
said-only s (IllTyped r) (p, f) = passes-by-types p ∙ rw (failing-first s (judgements s (inputs s) (circuit s)) r f)

pub says_exactly : SaysExactly
says_exactly s v = (λ e. rw e at (places-right s), said-only s v)
