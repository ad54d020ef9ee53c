-- One term of each promise of answers. Assumes nothing.
use Prim.Native.Nat.{ℕ}
use mathlib.Core.Path.{◌≡◌, subst}
use native.Mathlib.Omega.{arith}
use Rattle.answers.specs.Answers.{SaysOf, first_applying, Check}
use Rattle.answers.specs.Answers.{Answer}
use Rattle.answers.specs.Answers.{Done}
use Rattle.answers.specs.Promises.{AnswerPromises}
use mathlib.Core.List.{List}
use Rattle.answers.proofs.Lowest as Low
use Rattle.answers.proofs.First.{first_says, says_first}

says-of-equal : (ks : List Check) (done : ℕ) (a : Answer) → first_applying ks (Done done) ≡ a → SaysOf ks done a
says-of-equal ks done a e = subst (λ (x : Answer). SaysOf ks done x) e (first_says ks done)

pub kept : AnswerPromises
kept =
    record {
      lowest_found = λ wrong n r. (Low.lowest-some-passes wrong n r, λ h. Low.lowest-is wrong n r h.0 h.1 h.2);
      lowest_none = λ wrong n. (Low.lowest-none-fails wrong n, Low.lowest_none wrong n);
      first_that_applies = λ ks done a. (says-of-equal ks done a, says_first ks done a);
      taken_apart = λ c p h. (omega arith, omega arith);
    }
