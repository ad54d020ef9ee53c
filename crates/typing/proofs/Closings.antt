-- The last judgement of an expression: where its rule fails it is the fault, and where it holds the type's leaf count is noted.
-- Assumes nothing.
use mathlib.Core.Path.{◌≡◌, refl, sym, ◌∙◌, ap}
use mathlib.Core.Bool.{true, false}
use mathlib.Core.List.{List}
use Prim.Native.Nat.{ℕ, zero, suc, ◌<◌}
use native.Mathlib.Omega.{arith}
use borrow.Author.Tests.{lt-ltb}
use lib.ListN.{set, length-set}
use lib.Seq.{get_or-set_other}
use Rattle.picoella.specs.Language.{leaves}
use Rattle.records.specs.Words.{word}
use Rattle.records.specs.Kinds.{types, expressions, sort_number, is_pair}
use Rattle.records.specs.Says.{kind_at, sort_at}
use Rattle.records.specs.Trees.{type_at, TypeRecord, pair_of, pair_below}
use Rattle.records.proofs.TypeRecords.{found-pair, first_part, second-part}
use Rattle.typing.specs.Judgements.{Rule, holds, pair_declared, pair_type}
use Rattle.typing.specs.Judging.{TypesCounted, Closing, Closed}
use Rattle.structure.specs.PairIndex.{some_record}
use Rattle.std.specs.Prelude.{Some, None}
use Rattle.records.proofs.Table.{is-pair}
use Rattle.typing.specs.Outcomes.{Sound, Fault}
use Rattle.typing.proofs.Bounds.{ground-written}

not-typed : (r u : ℕ) → Fault r ≡ Sound u → ⊥
not-typed r u e = let z : ◌≡◌ {A = ℕ} 0 1 = cc in omega arith

-- a record that a search gives
no-record : (x : ℕ) → some_record x ≡ None → x ≡ 0
no-record zero e = refl
no-record (suc x) e = let z : ◌≡◌ {A = ℕ} 0 1 = cc in absurd (omega arith)

a-record : (x p : ℕ) → some_record x ≡ Some p → (p ≡ x) × (0 < p)
a-record zero p e = let z : ◌≡◌ {A = ℕ} 0 1 = cc in absurd (omega arith)
a-record (suc x) p e = let q : p ≡ suc x = cc in (q, omega arith)

module _ {s : List ℕ} {n : ℕ} {rec : ℕ} {before : List ℕ} (c : Closing s n rec before) where
  pub closing-counted : TypesCounted s before
  closing-counted = record { long = c.long; leaves = c.ground.leaves }

  -- a store at an expression's record leaves the types
  pub note-counted : (v : ℕ) → TypesCounted s (set before rec v)
  note-counted v = record {
    long = length-set before rec v ∙ c.long;
    leaves = λ t r. get_or-set_other before rec t v 0 (λ e. other t r e) ∙ c.ground.leaves t r;
  }
    where
      other : (t : ℕ) → TypeRecord s t → t ≡ rec → ⊥
      other t r e =
          let z : sort_number types ≡ sort_number expressions = ap sort_number (sym r.sort ∙ ap (sort_at s) e ∙ c.sort) in
          omega arith

  pub fails-closed : (rule : Rule) (t r : ℕ) → holds s rule ≡ false → r ≡ rec → Closed s rule rec t (Fault r) before before
  fails-closed rule t r e here = record {
    answered = rw (e, here);
    counted = closing-counted;
    notes = λ u q. absurd (not-typed r u q);
  }

  pub noted-closed : (rule : Rule) (t : ℕ) (after : List ℕ) → holds s rule ≡ true → after ≡ set before rec (leaves (type_at s t))
      → Closed s rule rec t (Sound t) before after
  noted-closed rule t after e en = record {
    answered = rw e;
    counted = rw en (note-counted (leaves (type_at s t)));
    notes = λ u q. en;
  }

  -- the pair record of two types
  pair-of-closing : (t u p : ℕ) → p ≡ pair_below s t u n → p ≡ pair_of s t u
  unfolding pair_of
  pair-of-closing t u p e = e ∙ ap (λ (m : ℕ). pair_below s t u m) c.ground.sized.counted

  pub no-pair-closed : (t u r : ℕ) → some_record (pair_below s t u n) ≡ None → r ≡ rec
      → Closed s (pair_declared t u) rec (pair_of s t u) (Fault r) before before
  no-pair-closed t u r e here =
      fails-closed (pair_declared t u) (pair_of s t u) r
      (rw (← pair-of-closing t u _ refl, no-record (pair_below s t u n) e)) here

  module _ (t u p : ℕ) (e : some_record (pair_below s t u n) ≡ Some p) where
    found : (p ≡ pair_of s t u) × (0 < p)
    found = let q = a-record (pair_below s t u n) p e in (pair-of-closing t u p q.0, q.1)

    pub pair-is-type : TypeRecord s p
    pair-is-type = rw found.0 (found-pair (ground-written c.ground) t u (rw (← found.0) found.1))

    pub pair-closed : (after : List ℕ) → after ≡ set before rec (leaves (type_at s p))
        → Closed s (pair_declared t u) rec (pair_of s t u) (Sound p) before after
    pair-closed after en =
        rw (← found.0) (noted-closed (pair_declared t u) p after (rw (← found.0) (lt-ltb 0 p found.1)) en)

  -- the part of a pair type in word k of its record
  pub part-is-type : (t k y : ℕ) → TypeRecord s t → is_pair (kind_at s t) ≡ true → y ≡ word s t k → 1 < k → k < 4 → TypeRecord s y
  part-is-type t zero y r e ey l h = absurd (omega arith)
  part-is-type t (suc zero) y r e ey l h = absurd (omega arith)
  part-is-type t (suc (suc zero)) y r e ey l h = rw ey (first_part (ground-written c.ground) t r.there (is-pair (kind_at s t) e))
  part-is-type t (suc (suc (suc zero))) y r e ey l h =
      rw ey (second-part (ground-written c.ground) t r.there (is-pair (kind_at s t) e))
  part-is-type t (suc (suc (suc (suc k)))) y r e ey l h = absurd (omega arith)

  pub part-closed : (t k y : ℕ) (after : List ℕ) → is_pair (kind_at s t) ≡ true → y ≡ word s t k
      → after ≡ set before rec (leaves (type_at s y)) → Closed s (pair_type t) rec (word s t k) (Sound y) before after
  part-closed t k y after e ey en = rw (← ey) (noted-closed (pair_type t) y after e en)
