-- Cycle after cycle: before cycle k no cycle was found to differ; the cycle is ready to be run, and
-- what it is compared by is its own outputs and its own part of the record.
-- Assumes nothing.
use Prim.Native.Nat.{ℕ, suc, ◌+◌, ◌-◌, ◌*◌, ◌≤◌, ◌<◌}
use mathlib.Core.List.{List, ◌++◌}
use mathlib.Core.Path.{◌≡◌, refl, sym, ap, ◌∙◌}
use native.Mathlib.Omega.{arith}
use native.Mathlib.Numerals.{add-one}
use native.Mathlib.Nat.{zero-mul, mul-le-mul_left, mul-le-mul_right}
use lib.ListN.{length, take, drop, replicate, length-replicate}
use lib.Seq.{length-take-le, take_at}
use Rattle.picoella.specs.Language.{leaves}
use Rattle.records.specs.Trees.{type_at}
use Rattle.answers.specs.Answers.{lowest}
use Rattle.answers.specs.Searches.{found}
use Rattle.std.specs.Prelude as Std
use Rattle.accepted.proofs.Calls.{accepted-output}
use Rattle.stimulus.specs.Stimulus.{cycle_count}
use Rattle.behaviour.specs.Cycle.{output, sheet_after_cycle}
use Rattle.behaviour.specs.Run.{output_leaves}
use Rattle.stepper.specs.Cycling.{Cycling, Cycled}
use Rattle.stepper.specs.CycleByCycle.{WholeCycles}
use Rattle.stepper.proofs.BeforeCycle.{
  from-there,
  BeforeCycle,
  stimulus-few,
  count_small,
  output-small,
  before-first,
  cycle-inside,
  cycle-ready,
  cycle-output,
  before-next,
  sheet_long,
  last-sheet,
}
use Rattle.replay.specs.Replay.{Agrees, Differs}
use Rattle.replay.specs.Replay.{leaf_differs, lowest_differing, found_in, finding}
use Rattle.replay.specs.Replaying.{ReplayingCycles, ReplayedCycles}
use Rattle.replay.proofs.Comparing.{InCycle, cycle-agrees, cycle-differs, found-stays}

-- one cycle is lent its parts of the stimulus, from `from`, and of the record, from `at`
pub record ReplayingCycle
    (s : List ℕ)
    (n : ℕ)
    (widths env held stim : List ℕ)
    (from wi : ℕ)
    (recorded : List ℕ)
    (at wo : ℕ)
    (current out : List ℕ)
    : Type 0
  where
    pub inside : from + wi ≤ length stim
    pub few : length stim ≤ 65535
    pub there : at + wo ≤ length recorded
    pub small : length recorded ≤ 4194240
    pub room : length out ≡ wo
    pub cycling : Cycling s n widths env held (take wi (drop from stim)) current out

pub record ReplayedCycle
    (stim : List ℕ)
    (from wi : ℕ)
    (recorded : List ℕ)
    (at wo : ℕ)
    (current env' held' current' out' : List ℕ)
    (told : Std.Option ℕ)
    : Type 0
  where
    pub compared : found told ≡ lowest_differing wo (output current (take wi (drop from stim))) (take wo (drop at recorded))
    pub next : current' ≡ sheet_after_cycle current (take wi (drop from stim))
    pub wide : length env' ≡ 4096
    pub long : length held' ≡ 4096
    pub same : length out' ≡ wo

-- room for a value has the outputs of a cycle in front
module _ {s : List ℕ} {n : ℕ} {W stim : List ℕ} {wi wo count : ℕ} (r : WholeCycles s n W stim wi wo count) {A : List ℕ} (e : A ≡ replicate 64 0) where
  pub outputs-fit : wo ≤ length A
  outputs-fit = let l : length A ≡ 64 = rw e (length-replicate {A = ℕ} 64 0) in let w = output-small r in omega arith

  pub outputs-part : length (take wo A) ≡ wo
  outputs-part = length-take-le wo A outputs-fit

-- what is written there is what stands there
pub outputs-written : (wo : ℕ) (A o : List ℕ) → length o ≡ length (take wo A) → length (take wo A) ≡ wo → take wo (o ++ drop wo A) ≡ o
outputs-written wo A o l w = take_at o (drop wo A) wo (l ∙ w)

module _ {s : List ℕ} {n : ℕ} {W env held stim : List ℕ} {from wi : ℕ} {recorded : List ℕ} {at wo : ℕ} {current out : List ℕ}
    (r : ReplayingCycle s n W env held stim from wi recorded at wo current out)
  where
    pub replay-cycling : Cycling s n W env held (take (from + wi - from) (drop from stim)) current out
    replay-cycling = rw (from-there from wi) r.cycling

    pub replay-compared : {env' held' current' out' : List ℕ} → Cycled (take (from + wi - from) (drop from stim)) current env' held' current' out'
        → length out' ≡ length out → {told : Std.Option ℕ}
        → found told ≡ lowest (leaf_differs out' (take (at + wo - at) (drop at recorded))) (length out')
        → ReplayedCycle stim from wi recorded at wo current env' held' current' out' told
    replay-compared {out' = out'} c l {told} f =
        let w : length out' ≡ wo = l ∙ r.room in
        let v : out' ≡ output current (take wi (drop from stim)) = rw (from-there from wi) at c.value in
        let g : found told ≡ lowest_differing wo out' (take wo (drop at recorded)) = rw (from-there at wo, w) at f in
        record {
          compared = g ∙ ap (λ (o : List ℕ). lowest_differing wo o (take wo (drop at recorded))) v;
          next = rw (from-there from wi) at c.next;
          wide = c.wide;
          long = c.long;
          same = w;
        }

-- before cycle k, whose part of the record begins at `at`
pub record BeforeReplay (s stim recorded : List ℕ) (wi wo count k from at : ℕ) (env held current out : List ℕ) : Type 0 where
  pub cycle : BeforeCycle s stim wi count k from env held current
  pub compared-to : at ≡ k * wo
  pub same : length out ≡ wo
  pub agreed : found_in s stim recorded k ≡ Agrees k

module _ {s : List ℕ} {n : ℕ} {W stim recorded : List ℕ} {wi wo count : ℕ} {current₀ : List ℕ}
    (r : ReplayingCycles s n W stim recorded wi wo count current₀)
  where
    pub replay-few : count ≤ 65535
    replay-few = count_small r.over

    pub before-replay : {env held out : List ℕ} → length env ≡ 4096 → length held ≡ 4096 → length out ≡ wo
        → BeforeReplay s stim recorded wi wo count 0 0 0 env held current₀ out
    before-replay w l o =
        record { cycle = before-first r.over r.start w l; compared-to = sym (zero-mul wo); same = o; agreed = refl }

    leaves_are : wo ≡ output_leaves s
    leaves_are = r.over.gives ∙ ap (λ (t : ℕ). leaves (type_at s t)) (accepted-output s r.over.type r.over.accepted)

    module _ {k from at : ℕ} {env held current out : List ℕ} (b : BeforeReplay s stim recorded wi wo count k from at env held current out)
        (h : k < count)
      where
        at_next : at + wo ≡ (k + 1) * wo
        at_next = rw b.compared-to (omega arith)

        part-there : at + wo ≤ length recorded
        part-there =
            let e = r.recorded_long in
            let m : (k + 1) * wo ≤ count * wo = mul-le-mul_right wo (omega arith) in
            let t = at_next in
            omega arith

        recorded-few : length recorded ≤ 4194240
        recorded-few =
            let e = r.recorded_long in
            let c = replay-few in
            let o : count * wo ≤ count * 64 = mul-le-mul_left count (output-small r.over) in
            omega arith

        pub replaying : ReplayingCycle s n W env held stim from wi recorded at wo current out
        replaying =
            record {
              inside = cycle-inside r.over b.cycle h;
              few = stimulus-few r.over;
              there = part-there;
              small = recorded-few;
              room = b.same;
              cycling = cycle-ready r.over b.cycle h b.same;
            }

        module _ {env' held' current' out' : List ℕ} {told : Std.Option ℕ}
            (q : ReplayedCycle stim from wi recorded at wo current env' held' current' out' told)
          where
            ran : Cycled (take wi (drop from stim)) current env' held' current' (output current (take wi (drop from stim)))
            ran = record { value = refl; next = q.next; wide = q.wide; long = q.long }

            in-cycle : InCycle s stim recorded k (found told)
            in-cycle =
                sym (q.compared ∙ rw (cycle-output r.over b.cycle h ran, b.compared-to, leaves_are) refl)

            pub differs-here : (l : ℕ) → told ≡ Std.Some l → ReplayedCycles s stim recorded current' (Differs k l)
            unfolding finding
            differs-here l e =
                let f = cycle-differs s stim recorded k l b.agreed (in-cycle ∙ ap found e) in
                let c = r.over.counted in
                let more : count - suc k + suc k ≡ cycle_count s stim = omega arith in
                record {
                  compared = sym (rw more at (found-stays s stim recorded (count - suc k) (suc k) k l f));
                  next = λ m z. let y : ◌≡◌ {A = ℕ} 0 1 = cc in absurd (omega arith);
                }

            pub agrees-here : {from' at' : ℕ} → told ≡ Std.None → from' ≡ from + wi → at' ≡ at + wo
                → BeforeReplay s stim recorded wi wo count (k + 1) from' at' env' held' current' out'
            agrees-here e ef ea =
                record {
                  cycle = before-next r.over b.cycle h ran ef;
                  compared-to = ea ∙ at_next;
                  same = q.same;
                  agreed = rw (add-one k) (cycle-agrees s stim recorded k b.agreed (in-cycle ∙ ap found e));
                }

            pub current-after : length current' ≡ length current₀
            current-after =
                sheet_long r.over (before-next r.over b.cycle h ran refl) ∙ ap length (sym r.start)

    module _ {k from at : ℕ} {env held current out : List ℕ} (b : BeforeReplay s stim recorded wi wo count k from at env held current out)
      where
        pub current-same : length current ≡ length current₀
        current-same = sheet_long r.over b.cycle ∙ ap length (sym r.start)

        pub replay-ended : count ≤ k → ReplayedCycles s stim recorded current (Agrees count)
        unfolding finding
        replay-ended h =
            let f = b.cycle.few in
            let e : k ≡ count = omega arith in
            record {
              compared = ap Agrees r.over.counted ∙ sym (rw (e, r.over.counted) at b.agreed);
              next = λ m z. last-sheet r.over b.cycle h;
            }
