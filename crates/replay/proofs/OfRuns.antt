-- A run and a replay of what it gave: the outputs agree, and with one byte changed they differ in
-- that byte's cycle and leaf.
-- Assumes nothing.
use Prim.Native.Nat.{ℕ, suc, ◌+◌, ◌-◌, ◌*◌, ◌/◌, ◌%◌, ◌≤◌, ◌<◌}
use mathlib.Core.List.{List}
use mathlib.Core.Path.{◌≡◌, refl, sym, ap, ◌∙◌}
use mathlib.Core.Logic.{◌≢◌}
use native.Mathlib.Omega.{arith}
use native.Mathlib.Nat.{div-add-mod', mod-lt, div-lt_iff_lt-mul, mul-le-mul_right}
use lib.ListN.{length, get_or, set, take, drop, length-set}
use lib.Seq.{get_or-take, get_or-drop, get_or-set_same, get_or-set_other, drop-set-add, take-set-le}
use Rattle.records.specs.Trees.{type_at}
use Rattle.records.proofs.Types.{some-leaves}
use Rattle.answers.specs.Answers.{Done}
use Rattle.verdict.specs.Verdict.{output_type}
use Rattle.accepted.proofs.Calls.{accepted-output}
use Rattle.meaning.specs.Undecided.{undecided_rule}
use Rattle.stimulus.specs.Stimulus.{cycle_count, end_to_end, cycles}
use Rattle.stimulus.proofs.Pieces.{joined_at}
use Rattle.behaviour.specs.Run.{outputs_by, sheet_after, output_leaves, output_needed, answer, final_out}
use Rattle.behaviour.specs.Afterwards.{WellFormed}
use Rattle.behaviour.proofs.Answers.{run_laws}
use Rattle.behaviour.proofs.Afterwards as After
use Rattle.replay.specs.Replay.{Agrees, Differs}
use Rattle.replay.specs.Replay.{output_of, recorded_of, finding, replay_answer, final_replay, ReplayGiven}
use Rattle.replay.specs.Promises.{FormedReplay, FirstDifference, OwnOutputsAgree, ChangedByteFound, NextAsRun}
use Rattle.replay.proofs.Found.{outs-wide, outs-counted, says-agrees, agrees-says, says-differs}
use Rattle.replay.proofs.Answered.{formed-answer, replay_laws}

-- a formed call with another next slice of the right length
with-next : {s stim recorded next lent : List ℕ} → FormedReplay s stim recorded next → length lent ≡ length s → FormedReplay s stim recorded lent
with-next h l =
    record { accepted = h.accepted; whole = h.whole; fitting = h.fitting; recorded_long = h.recorded_long; next_long = l }

-- a run that is done
module _ (s stim out next : List ℕ) (n : ℕ) (e : answer s stim out next ≡ Done n) where
  says : ((t : ℕ) × WellFormed s stim out next t) × (n ≡ cycle_count s stim)
  says = ((run_laws s stim out next).lowest_first (Done n)).0 e

  formed : WellFormed s stim out next says.0.0
  formed = says.0.1

  same-type : says.0.0 ≡ output_type s
  same-type = accepted-output s says.0.0 formed.accepted

  counted : n ≡ cycle_count s stim
  counted = says.1

  abbrev outs : List (List ℕ)
  outs = outputs_by undecided_rule s (cycles s stim)

  outputs-are : final_out s stim out next ≡ end_to_end outs
  outputs-are = After.out_is formed

  outputs-long : length (final_out s stim out next) ≡ output_needed s (output_type s) stim
  outputs-long = rw same-type at (After.afterwards formed).out_length

  -- a record of that length is formed
  replay-formed : (recorded : List ℕ) → length recorded ≡ length (final_out s stim out next) → FormedReplay s stim recorded next
  replay-formed recorded l =
      record {
        accepted = rw same-type at formed.accepted;
        whole = formed.whole;
        fitting = formed.fitting;
        recorded_long = l ∙ outputs-long;
        next_long = formed.long;
      }

  agreed : finding s stim (final_out s stim out next) ≡ Agrees n
  agreed = says-agrees (replay-formed (final_out s stim out next) refl) outputs-are ∙ ap Agrees (sym counted)

  -- one byte changed
  module _ (i b : ℕ) (inside : i < length (final_out s stim out next)) (other : b ≢ get_or (final_out s stim out next) i 0) where
    abbrev w : ℕ
    w = output_leaves s

    abbrev old : List ℕ
    old = final_out s stim out next

    abbrev changed : List ℕ
    changed = set old i b

    some : 0 < w
    some = some-leaves (type_at s (output_type s))

    whole : i / w * w + i % w ≡ i
    whole = div-add-mod' i w

    leaf-there : i % w < w
    leaf-there = mod-lt i some

    cycle-there : i / w < cycle_count s stim
    cycle-there = (div-lt_iff_lt-mul some).1 (let l = outputs-long in omega arith)

    changed-formed : FormedReplay s stim changed next
    changed-formed = replay-formed changed (length-set old i b)

    -- the parts of the outputs
    own-part : (k : ℕ) → k < cycle_count s stim → recorded_of s old k ≡ output_of s stim k
    own-part k h =
        rw outputs-are
        (joined_at w outs (outs-wide (replay-formed old refl)) k (let c = outs-counted (replay-formed old refl) in omega arith))

    before-part : (j : ℕ) → j < i / w → recorded_of s changed j ≡ recorded_of s old j
    before-part j h =
        let m : suc j * w ≤ i / w * w = mul-le-mul_right w (omega arith) in
        let q = whole in
        let e : j * w + (i - j * w) ≡ i = omega arith in
        let d : drop (j * w) changed ≡ set (drop (j * w) old) (i - j * w) b =
        ap (λ (x : ℕ). drop (j * w) (set old x b)) (sym e) ∙ drop-set-add (j * w) old (i - j * w) b in
        ap (take w) d ∙ take-set-le w (drop (j * w) old) (i - j * w) b (omega arith)

    leaf-of : (l : List ℕ) (m : ℕ) → m < w → get_or (recorded_of s l (i / w)) m 0 ≡ get_or l (i / w * w + m) 0
    leaf-of l m h = get_or-take w (drop (i / w * w) l) m 0 h ∙ get_or-drop (i / w * w) l m 0

    first : FirstDifference s stim changed (i / w) (i % w)
    first =
        record {
          in_list = cycle-there;
          none_before = λ j h. before-part j h ∙ own-part j (let c = cycle-there in omega arith);
          a_leaf = leaf-there;
          none_lower = λ m h.
              let t = leaf-there in
              let q = whole in
              leaf-of changed m (omega arith)
              ∙ get_or-set_other old i (i / w * w + m) b 0 (λ z. omega arith)
              ∙ sym (leaf-of old m (omega arith))
              ∙ ap (λ (v : List ℕ). get_or v m 0) (own-part (i / w) cycle-there);
          differs = λ z.
              other
              (sym (get_or-set_same old i b 0 inside)
              ∙ ap (λ (x : ℕ). get_or changed x 0) (sym whole)
              ∙ sym (leaf-of changed (i % w) leaf-there)
              ∙ z
              ∙ ap (λ (v : List ℕ). get_or v (i % w) 0) (sym (own-part (i / w) cycle-there))
              ∙ leaf-of old (i % w) leaf-there
              ∙ ap (λ (x : ℕ). get_or old x 0) whole);
        }

    changed-found : finding s stim changed ≡ Differs (i / w) (i % w)
    changed-found = says-differs changed-formed (i / w) (i % w) first

-- by what the calls give
module _ {s stim recorded lent : List ℕ} {result differs cycle leaf : ℕ} {lent' : List ℕ}
    (r : ReplayGiven s stim recorded lent result differs cycle leaf lent') (a : replay_answer s stim recorded lent ≡ Done 0)
  where
    agreeing-given : (n : ℕ) → finding s stim recorded ≡ Agrees n
        → (result ≡ 0) × (differs ≡ 0) × (cycle ≡ n) × (leaf ≡ 0) × (lent' ≡ sheet_after undecided_rule s (cycles s stim))
    unfolding final_replay
    agreeing-given n f =
        (r.result_is ∙ rw a refl, r.differs_is ∙ rw (a, f) refl, r.cycle_is ∙ rw (a, f) refl, r.leaf_is ∙ rw (a, f) refl, r.next_is ∙ rw (a, f) refl)

    differing-given : (k l : ℕ) → finding s stim recorded ≡ Differs k l
        → (result ≡ 0) × (differs ≡ 1) × (cycle ≡ k) × (leaf ≡ l) × (lent' ≡ lent)
    unfolding final_replay
    differing-given k l f =
        (r.result_is ∙ rw a refl, r.differs_is ∙ rw (a, f) refl, r.cycle_is ∙ rw (a, f) refl, r.leaf_is ∙ rw (a, f) refl, r.next_is ∙ rw (a, f) refl)

pub own_outputs_agree : OwnOutputsAgree
own_outputs_agree s stim out next n ran out' next' g e lent result differs cycle leaf lent' l r =
    let f : finding s stim out' ≡ Agrees n = rw g.out_is (agreed s stim out next n e) in
    let d = replay-formed s stim out next n e out' (ap length g.out_is) in
    let q = agreeing-given r (formed-answer s stim out' lent (with-next d l)) n f in
    (q.0, q.1, q.2, q.3, q.4 ∙ sym (After.next_is (formed s stim out next n e)) ∙ sym g.next_is)

pub changed_byte_found : ChangedByteFound
changed_byte_found s stim out next n ran out' next' g e i b inside other lent result differs cycle leaf lent' l r =
    let h : i < length (final_out s stim out next) = rw g.out_is at inside in
    let o : b ≢ get_or (final_out s stim out next) i 0 = rw g.out_is at other in
    let f : finding s stim (set out' i b) ≡ Differs (i / output_leaves s) (i % output_leaves s) =
    rw g.out_is (changed-found s stim out next n e i b h o) in
    let d = replay-formed s stim out next n e (set out' i b) (length-set out' i b ∙ ap length g.out_is) in
    differing-given r (formed-answer s stim (set out' i b) lent (with-next d l)) (i / output_leaves s) (i % output_leaves s) f

pub next_as_run : NextAsRun
unfolding final_replay
next_as_run s stim recorded out next n l a f =
    let h : FormedReplay s stim recorded next = (((replay_laws s stim recorded next).lowest_first (Done 0)).0 a).0 in
    let formed : WellFormed s stim out next (output_type s) =
    record {
      accepted = h.accepted;
      whole = h.whole;
      fitting = h.fitting;
      room = l ∙ h.recorded_long;
      long = h.next_long;
    }
    in
    (rw (a, f) (sym (After.next_is formed)), (agrees-says h n f).0 ∙ sym (After.out_is formed))
