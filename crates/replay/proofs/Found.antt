-- What is found says of each cycle before it that it agrees, and of the one found that it differs
-- at the leaf found and at none lower; and nothing else does. Parts that agree are the outputs' own
-- bytes, and all parts together the record.
-- Assumes nothing.
use Prim.Native.Nat.{ℕ, zero, suc, ◌*◌, ◌≤◌, ◌<◌}
use mathlib.Core.Bool.{false}
use mathlib.Core.List.{List, []}
use mathlib.Core.Option.{Option, none, some}
use mathlib.Core.Path.{◌≡◌, refl, sym, ap, subst, ◌∙◌}
use native.Mathlib.Omega.{arith}
use native.Mathlib.Decide.{dec_lt}
use native.Mathlib.Nat.{mul-le-mul_right}
use lib.ListN.{length, get_or, drop, length-drop}
use lib.Seq.{ext_get_or, length-take-le}
use borrow.Author.Tests.{eqb-true, eqb-false, not-true, not-false}
use lib.Dec.{eqb}
use Rattle.answers.proofs.Lowest.{at-or-below, lowest-none-fails, lowest-some-passes, lowest-is, lowest_none}
use Rattle.meaning.specs.Undecided.{undecided_rule}
use Rattle.meaning.proofs.UndecidedRule.{rule-lawful}
use Rattle.stimulus.specs.Stimulus.{cycle_count, pieces, end_to_end, cycles}
use Rattle.stimulus.proofs.Stimulus.{cycles-typed, cycles-counted}
use Rattle.stimulus.proofs.Pieces.{pieces-length, piece-at, pieces-joined, Wide, wide_at, joined_at, typed-wide}
use Rattle.behaviour.specs.Run.{outputs_by, output_leaves}
use Rattle.behaviour.proofs.Run.{outputs-counted, outputs_typed}
use Rattle.replay.specs.Replay.{Finding}
use Rattle.replay.specs.Replay.{Agrees, Differs}
use Rattle.replay.specs.Replay.{output_of, recorded_of, leaf_differs, or_cycle, found_in, finding}
use Rattle.replay.specs.Promises.{FormedReplay, AgreesExactly, OneRecordAgrees, FirstDifference, DiffersExactly}
use Rattle.replay.proofs.Comparing.{leaf-differing, leaf-agrees, InCycle}

module _ (s stim recorded : List ℕ) where
  abbrev pub FoundUpTo : ℕ → Finding → Type 0
  FoundUpTo m (Agrees n) = (n ≡ m) × ((j : ℕ) → j < m → InCycle s stim recorded j none)
  FoundUpTo m (Differs k l) =
      (k < m) × ((j : ℕ) → j < k → InCycle s stim recorded j none) × InCycle s stim recorded k (some l)

  one-cycle-more : (m : ℕ) (f : Finding) (o : Option ℕ) → InCycle s stim recorded m o → FoundUpTo m f → FoundUpTo (suc m) (or_cycle f m o)
  one-cycle-more m (Differs k l) o e h = (let b = h.0 in omega arith, h.1, h.2)
  one-cycle-more m (Agrees n) none e h = (refl, at-or-below (λ j. InCycle s stim recorded j none) m e h.1)
  one-cycle-more m (Agrees n) (some l) e h = (omega arith, h.1, e)

  found-up-to : (m : ℕ) → FoundUpTo m (found_in s stim recorded m)
  found-up-to zero = (refl, λ j b. absurd (omega arith))
  found-up-to (suc m) = one-cycle-more m (found_in s stim recorded m) _ refl (found-up-to m)

  -- and no other finding is so
  never_both : (k l : ℕ) → InCycle s stim recorded k none → InCycle s stim recorded k (some l) → ⊥
  never_both k l e f = let z : ◌≡◌ {A = ℕ} 0 1 = cc in omega arith

  same-finding : (m : ℕ) (f g : Finding) → FoundUpTo m f → FoundUpTo m g → f ≡ g
  same-finding m (Agrees a) (Agrees b) h q = ap Agrees (h.0 ∙ sym q.0)
  same-finding m (Agrees a) (Differs k l) h q = absurd (never_both k l (h.1 k q.0) q.2)
  same-finding m (Differs k l) (Agrees b) h q = absurd (never_both k l (q.1 k h.0) h.2)
  same-finding m (Differs k l) (Differs j i) h q = go (dec_lt k j) (dec_lt j k)
    where
      same : k ≡ j → Differs k l ≡ Differs j i
      same e =
          let f : InCycle s stim recorded j (some l) = rw e at h.2 in
          let g : InCycle s stim recorded j (some i) = q.2 in
          let y : l ≡ i = cc in
          rw (e, y) refl

      go : Dec (k < j) → Dec (j < k) → Differs k l ≡ Differs j i
      go (yes b) d = absurd (never_both k l (q.1 k b) h.2)
      go (no b) (yes d) = absurd (never_both j i (h.1 j d) q.2)
      go (no b) (no d) = same (omega arith)

  pub found_is : (f : Finding) → FoundUpTo (cycle_count s stim) f → finding s stim recorded ≡ f
  unfolding finding
  found_is f h = same-finding (cycle_count s stim) (found_in s stim recorded (cycle_count s stim)) f (found-up-to (cycle_count s stim)) h

  pub found-says : (f : Finding) → finding s stim recorded ≡ f → FoundUpTo (cycle_count s stim) f
  unfolding finding
  found-says f e = subst (λ (g : Finding). FoundUpTo (cycle_count s stim) g) e (found-up-to (cycle_count s stim))

-- a formed call
module _ {s stim recorded next : List ℕ} (h : FormedReplay s stim recorded next) where
  abbrev w : ℕ
  w = output_leaves s

  abbrev outs : List (List ℕ)
  outs = outputs_by undecided_rule s (cycles s stim)

  pub outs-wide : Wide w outs
  outs-wide = typed-wide (outputs_typed rule-lawful s h.accepted (cycles-typed s stim h.whole h.fitting))

  pub outs-counted : length outs ≡ cycle_count s stim
  outs-counted = outputs-counted s (cycles s stim) ∙ cycles-counted s stim

  module _ (k : ℕ) (b : k < cycle_count s stim) where
    output-wide : length (output_of s stim k) ≡ w
    output-wide = wide_at w outs outs-wide k (let e = outs-counted in omega arith)

    pub recorded-wide : length (recorded_of s recorded k) ≡ w
    recorded-wide =
        let l = h.recorded_long in
        let d = length-drop (k * w) recorded in
        let m : suc k * w ≤ cycle_count s stim * w = mul-le-mul_right w (omega arith) in
        length-take-le w (drop (k * w) recorded) (omega arith)

    leaf-same : (l : ℕ) → leaf_differs (output_of s stim k) (recorded_of s recorded k) l ≡ false
        → get_or (recorded_of s recorded k) l 0 ≡ get_or (output_of s stim k) l 0
    leaf-same l e =
        sym (eqb-true (get_or (output_of s stim k) l 0) (get_or (recorded_of s recorded k) l 0)
        (not-false (eqb (get_or (output_of s stim k) l 0) (get_or (recorded_of s recorded k) l 0)) e))

    pub part_same : InCycle s stim recorded k none → recorded_of s recorded k ≡ output_of s stim k
    part_same e =
        ext_get_or 0 (recorded_of s recorded k) (output_of s stim k) (recorded-wide ∙ sym output-wide)
        (λ l c. leaf-same l
        (lowest-none-fails (leaf_differs (output_of s stim k) (recorded_of s recorded k)) w e l (let q = recorded-wide in omega arith)))

    pub same-part : recorded_of s recorded k ≡ output_of s stim k → InCycle s stim recorded k none
    same-part e =
        lowest_none (leaf_differs (output_of s stim k) (recorded_of s recorded k)) w
        (λ l c. leaf-agrees (output_of s stim k) (recorded_of s recorded k) l (rw e refl))

  pub differs-says : (k l : ℕ) → finding s stim recorded ≡ Differs k l → FirstDifference s stim recorded k l
  differs-says k l e =
      let f = found-says s stim recorded (Differs k l) e in
      let p = lowest-some-passes (leaf_differs (output_of s stim k) (recorded_of s recorded k)) w l f.2 in
      record {
        in_list = f.0;
        none_before = λ j b. part_same j (let c = f.0 in omega arith) (f.1 j b);
        a_leaf = p.0;
        none_lower = λ m b. leaf-same k f.0 m (p.2 m b);
        differs = λ y.
            eqb-false (get_or (output_of s stim k) l 0) (get_or (recorded_of s recorded k) l 0)
            (not-true (eqb (get_or (output_of s stim k) l 0) (get_or (recorded_of s recorded k) l 0)) p.1) (sym y);
      }

  pub says-differs : (k l : ℕ) → FirstDifference s stim recorded k l → finding s stim recorded ≡ Differs k l
  says-differs k l d =
      found_is s stim recorded (Differs k l) (
        d.in_list,
        (λ j b. same-part j (let c = d.in_list in omega arith) (d.none_before j b)),
        lowest-is (leaf_differs (output_of s stim k) (recorded_of s recorded k)) w l d.a_leaf
            (leaf-differing (output_of s stim k) (recorded_of s recorded k) l (λ y. d.differs (sym y)))
            (λ m b. leaf-agrees (output_of s stim k) (recorded_of s recorded k) m (sym (d.none_lower m b))),
      )

  -- all parts together
  pub agrees-says : (n : ℕ) → finding s stim recorded ≡ Agrees n → (recorded ≡ end_to_end outs) × (n ≡ cycle_count s stim)
  agrees-says n e =
      let f = found-says s stim recorded (Agrees n) e in
      let parts : pieces w (cycle_count s stim) recorded ≡ outs =
      ext_get_or [] (pieces w (cycle_count s stim) recorded) outs (pieces-length w (cycle_count s stim) recorded ∙ sym outs-counted)
      (λ k c. let b : k < cycle_count s stim = let p = pieces-length w (cycle_count s stim) recorded in omega arith in
      piece-at w (cycle_count s stim) recorded k b ∙ part_same k b (f.1 k b))
      in
      (sym (pieces-joined w (cycle_count s stim) recorded h.recorded_long) ∙ ap end_to_end parts, f.0)

  pub says-agrees : recorded ≡ end_to_end outs → finding s stim recorded ≡ Agrees (cycle_count s stim)
  says-agrees e =
      found_is s stim recorded (Agrees (cycle_count s stim))
      (refl, λ k b. same-part k b (rw e (joined_at w outs outs-wide k (let c = outs-counted in omega arith))))

pub agrees_exactly : AgreesExactly
agrees_exactly s stim recorded next h n = (agrees-says h n, λ q. says-agrees h q.0 ∙ ap Agrees (sym q.1))

pub one_record_agrees : OneRecordAgrees
one_record_agrees s stim recorded other next h g n m e f = (agrees-says h n e).0 ∙ sym (agrees-says g m f).0

pub differs_exactly : DiffersExactly
differs_exactly s stim recorded next h k l = (differs-says h k l, says-differs h k l)
