-- The delays of an accepted sheet: each has a type and a chain of as many leaves, which hold a value of the type.
-- Assumes nothing.
use Prim.Native.Nat.{ℕ, ◌<◌}
use mathlib.Core.List.{List}
use mathlib.Core.Path.{◌≡◌, refl}
use native.Mathlib.Omega.{arith}
use lib.ListN.{length}
use Rattle.picoella.specs.Language.{leaves, OfType}
use Rattle.records.specs.Words.{count, word_a, word_b}
use Rattle.records.specs.Kinds.{expression, delay, leafs}
use Rattle.records.specs.Says.{kind_at}
use Rattle.records.specs.Written.{Written, WellNamed}
use Rattle.records.proofs.Table.{ask_of_kind}
use Rattle.records.proofs.Asked.{part-of-kind, past-header}
use Rattle.records.proofs.TypeRecords.{type-word}
use Rattle.verdict.specs.Verdict.{verdict}
use Rattle.answers.specs.Answers.{Accepted}
use Rattle.accepted.proofs.Laws.{written, well-named}
use Rattle.accepted.proofs.Small.{accepted-passes}
use Rattle.accepted.proofs.Scopes.{scope-checked, delay-fits, as-many-leaves}
use Rattle.behaviour.proofs.Scoped.{every-expression}
use Rattle.carry.specs.Labels.{delay_type}
use Rattle.carry.specs.Carried.{leaves_at, held_at}
use Rattle.carry.specs.Carrying.{OfTypes, OfLeaves, SheetAccepted}

module _ {s : List ℕ} {t : ℕ} (v : verdict s ≡ Accepted t) where
  pub is-written : Written s
  is-written = written (accepted-passes v)

-- no signature here determines the sheet
module _ (s : List ℕ) {t : ℕ} (v : verdict s ≡ Accepted t) where
  pub is-well-named : WellNamed s
  is-well-named = well-named (accepted-passes v)

  module _ (r : ℕ) (h : r < count s) (e : kind_at s r ≡ expression delay) where
    -- the value that it holds is of its type
    pub delay-holds : OfType (delay_type s r) (held_at s r)
    delay-holds =
        let c = every-expression (is-written v) is-well-named r (past-header (is-written v) r (rw e refl)) h (rw e refl) in
        delay-fits (accepted-passes v) (scope-checked t (accepted-passes v) v c.1) e

    pub delay-many : length (leaves_at s r) ≡ leaves (delay_type s r)
    delay-many = as-many-leaves s (delay_type s r) (leaves_at s r) delay-holds

module _ {s : List ℕ} {n : ℕ} (g : SheetAccepted s n) (r : ℕ) (h : r < n) (e : kind_at s r ≡ expression delay) where
  pub delay-in : r < count s
  delay-in = let c = g.sized.counted in omega arith

  pub delay-type : (t : ℕ) → t ≡ word_a s r → OfTypes s n t
  delay-type t et =
      let w = is-written g.accepted in
      rw et
      (record { sized = g.sized; written = w; type = type-word w r (expression delay) delay-in e 2 refl (unfold ask_of_kind in refl) })

  pub delay-leaves : (b : ℕ) → b ≡ word_b s r → OfLeaves s n b
  delay-leaves b eb =
      let w = is-written g.accepted in
      let p = part-of-kind w r (expression delay) leafs delay-in e 3 refl (unfold ask_of_kind in refl) in
      let c = g.sized.counted in
      rw eb (record { sized = g.sized; written = w; there = let i = p.1 in omega arith; sort = p.2 })
