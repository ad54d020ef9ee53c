-- One term of each promise of the front page, `specs/Promises.antt`; the theorems stand in the files beside this one. A promise
-- without a term is refused here.
-- Assumes nothing.
use mathlib.Core.Path.{refl}
use native.Mathlib.Omega.{arith}
use Rattle.answers.specs.GivenSlices.{no_slice}
use Rattle.answers.specs.Answers.{Accepted}
use Rattle.answers.proofs.StandardLaws.{standard-laws}
use Rattle.verdict.specs.Verdict.{output_type}
use Rattle.verdict.specs.Promises.{CheckPromises, CheckLaws}
use Rattle.verdict.proofs.Places.{places-right}
use Rattle.verdict.proofs.SaysExactly.{says_exactly}
use Rattle.verdict.proofs.VerdictFirst.{verdict-first, first-accepted, accepted-first}
use Rattle.verdict.proofs.PlacesSmall.{verdict-place}
use Rattle.verdict.proofs.Exact.{exact}
use Rattle.verdict.proofs.IllTypedExactly.{ill_typed_exactly}
use Rattle.verdict.proofs.OneScope.{every_scoped}
use Rattle.verdict.proofs.TableFixed.{table_fixed}
use Rattle.verdict.proofs.NamedOnce.{every_named_once, named_once_exactly}

check_laws : CheckLaws
check_laws s =
    standard-laws (
      λ h. let r = (says_exactly s (Accepted (output_type s))).0 (first-accepted s h) in (r.0, r.1),
      λ h. (accepted-first s (output_type s) ((says_exactly s (Accepted (output_type s))).1 (h.0, h.1, refl))).0,
    )
    refl (verdict-first s)
    (let h = verdict-place s in omega arith)
    no_slice

pub kept : CheckPromises
kept = record {
  places = places-right;
  says_exactly = says_exactly;
  check_laws = check_laws;
  places_below = verdict-place;
  exact = exact;
  ill_typed_exactly = ill_typed_exactly;
  every_scoped = every_scoped;
  table_fixed = table_fixed;
  every_named_once = every_named_once;
  named_once_exactly = named_once_exactly;
}
