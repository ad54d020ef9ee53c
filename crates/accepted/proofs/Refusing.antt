-- A verdict that is not the first of its cases refuses: its answer has a code and a place.
-- Assumes nothing.
use Prim.Native.Nat.{ℕ}
use mathlib.Core.Path.{◌≡◌, refl}
use Rattle.answers.specs.Answers.{Refused}
use Rattle.answers.specs.Answers.{verdict_answer}
use Rattle.answers.specs.Answers.{Verdict}
use Rattle.answers.specs.Answers as Verdicts

-- what code knows of a verdict that it has not matched with `Accepted`
abbrev pub Refusing : Verdict → Type 0
Refusing w = (t : ℕ) → w ≡ Verdicts.Accepted t → ⊥

pub refusing-answer : (w : Verdict) → Refusing w → (c : ℕ) × (p : ℕ) × (verdict_answer w ≡ Refused c p)
refusing-answer (Verdicts.Accepted t) o = absurd (o t refl)
refusing-answer Verdicts.WrongLength o = (1, 0, refl)
refusing-answer Verdicts.WrongHeader o = (2, 0, refl)
refusing-answer (Verdicts.WrongRecord r) o = (3, r, refl)
refusing-answer (Verdicts.WrongNaming r) o = (4, r, refl)
refusing-answer (Verdicts.WrongType r) o = (5, r, refl)
refusing-answer (Verdicts.TooDeep r) o = (6, r, refl)
refusing-answer (Verdicts.IllTyped r) o = (7, r, refl)
