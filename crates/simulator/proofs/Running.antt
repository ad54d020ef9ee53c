-- Cycle after cycle: the outputs of the cycles before cycle k stand at the front of the output
-- slice.
-- Assumes nothing.
use Prim.Native.Nat.{ℕ, ◌+◌, ◌-◌, ◌*◌, ◌≤◌, ◌<◌}
use mathlib.Core.List.{List, [], ◌∷◌, ◌++◌, append_assoc, append-nil}
use mathlib.Core.Path.{◌≡◌, refl, sym, ap, ◌∙◌}
use native.Mathlib.Omega.{arith}
use native.Mathlib.Numerals.{add-one}
use native.Mathlib.Nat.{zero-mul, mul-le-mul_left, mul-le-mul_right}
use lib.ListN.{length, get_or, take, drop, length-append, length-drop}
use lib.Seq.{take_all, take-length, take-suc, take_at, length-take-le, drop-drop}
use Rattle.meaning.specs.Undecided.{undecided_rule}
use Rattle.behaviour.specs.Cycle.{output, sheet_after_cycle}
use Rattle.stimulus.specs.Stimulus.{end_to_end, cycles}
use Rattle.behaviour.specs.Run.{outputs_by}
use Rattle.stimulus.proofs.Stimulus.{cycles-counted}
use Rattle.behaviour.proofs.Run.{outputs-counted}
use Rattle.stepper.specs.Cycling.{Cycling, Cycled}
use Rattle.stepper.proofs.BeforeCycle.{
  from-there,
  BeforeCycle,
  output-listed,
  stimulus-few,
  count_small,
  output-small,
  before-first,
  cycle-inside,
  cycle-ready,
  cycle-output,
  cycle-output-long,
  before-next,
  sheet_long,
  last-sheet,
}
use Rattle.simulator.specs.Running.{RunningCycles, RanCycles}

-- one cycle is lent its parts of the stimulus, from `from`, and of the output, from `at`
pub record Lending
    (s : List ℕ)
    (n : ℕ)
    (widths env held stim : List ℕ)
    (from wi : ℕ)
    (current out : List ℕ)
    (at wo : ℕ)
    : Type 0
  where
    pub inside : from + wi ≤ length stim
    pub few : length stim ≤ 65535
    pub room : at + wo ≤ length out
    pub small : length out ≤ 4194240
    pub cycling : Cycling s n widths env held (take wi (drop from stim)) current (take wo (drop at out))

-- and fills only that
pub record Lent (stim : List ℕ) (from wi : ℕ) (current out : List ℕ) (at wo : ℕ) (env' held' current' out' : List ℕ) : Type 0 where
  pub filled : out' ≡ take at out ++ (output current (take wi (drop from stim)) ++ drop (at + wo) out)
  pub next : current' ≡ sheet_after_cycle current (take wi (drop from stim))
  pub wide : length env' ≡ 4096
  pub long : length held' ≡ 4096

module _ {s : List ℕ} {n : ℕ} {W env held stim : List ℕ} {from wi : ℕ} {current out : List ℕ} {at wo : ℕ}
    (l : Lending s n W env held stim from wi current out at wo)
  where
    pub lent-cycling
        : Cycling s n W env held (take (from + wi - from) (drop from stim)) current (take (at + wo - at) (drop at out))
    lent-cycling = rw (from-there from wi, from-there at wo) l.cycling

    pub lent_back : {env' held' current' o : List ℕ}
        → Cycled (take (from + wi - from) (drop from stim)) current env' held' current' o
        → Lent stim from wi current out at wo env' held' current' (take at out ++ (o ++ drop (at + wo - at) (drop at out)))
    lent_back {o = o} c =
        let v : o ≡ output current (take wi (drop from stim)) = rw (from-there from wi) at c.value in
        record {
          filled = rw (from-there at wo, drop-drop wo at out, v) refl;
          next = rw (from-there from wi) at c.next;
          wide = c.wide;
          long = c.long;
        }

-- one piece more, laid end to end
joined-one : (vs : List (List ℕ)) (v : List ℕ) → end_to_end (vs ++ (v ∷ [])) ≡ end_to_end vs ++ v
joined-one [] v = append-nil v
joined-one (u ∷ vs) v = ap (λ l. u ++ l) (joined-one vs v) ∙ sym (append_assoc u (end_to_end vs) v)

-- before cycle k, whose outputs come to `at`
pub record Before (s stim : List ℕ) (wi wo count : ℕ) (out₀ : List ℕ) (k from at : ℕ) (env held current out : List ℕ) : Type 0 where
  pub cycle : BeforeCycle s stim wi count k from env held current
  pub done : at ≡ k * wo
  pub same : length out ≡ length out₀
  pub outputs : take at out ≡ end_to_end (take k (outputs_by undecided_rule s (cycles s stim)))

module _ {s : List ℕ} {n : ℕ} {W stim : List ℕ} {wi wo count : ℕ} {current₀ out₀ : List ℕ}
    (r : RunningCycles s n W stim wi wo count current₀ out₀)
  where
    abbrev outs : List (List ℕ)
    outs = outputs_by undecided_rule s (cycles s stim)

    one_more : (k : ℕ) → k < length outs → end_to_end (take k outs) ++ get_or outs k [] ≡ end_to_end (take (k + 1) outs)
    one_more k h = sym (rw (add-one k, take-suc outs k [] h) (joined-one (take k outs) (get_or outs k [])))

    pub cycles-few : count ≤ 65535
    cycles-few = count_small r.over

    pub before-all : {env held : List ℕ} → length env ≡ 4096 → length held ≡ 4096
        → Before s stim wi wo count out₀ 0 0 0 env held current₀ out₀
    before-all w l =
        record { cycle = before-first r.over r.start w l; done = sym (zero-mul wo); same = refl; outputs = refl }

    module _ {k from at : ℕ} {env held current out : List ℕ} (b : Before s stim wi wo count out₀ k from at env held current out) (h : k < count)
      where
        done-to : at + wo ≡ (k + 1) * wo
        done-to = rw b.done (omega arith)

        cycle-room : at + wo ≤ length out
        cycle-room =
            let e = r.room in
            let l = b.same in
            let m : (k + 1) * wo ≤ count * wo = mul-le-mul_right wo (omega arith) in
            let t = done-to in
            omega arith

        out-part : length (take wo (drop at out)) ≡ wo
        out-part =
            let d = length-drop at out in let c = cycle-room in length-take-le wo (drop at out) (omega arith)

        out-few : length out ≤ 4194240
        out-few =
            let e = r.room in
            let l = b.same in
            let c = cycles-few in
            let o : count * wo ≤ count * 64 = mul-le-mul_left count (output-small r.over) in
            omega arith

        pub lending : Lending s n W env held stim from wi current out at wo
        lending =
            record {
              inside = cycle-inside r.over b.cycle h;
              few = stimulus-few r.over;
              room = cycle-room;
              small = out-few;
              cycling = cycle-ready r.over b.cycle h out-part;
            }

        module _ {env' held' current' out' : List ℕ} (l : Lent stim from wi current out at wo env' held' current' out') where
          abbrev put-out : List ℕ
          put-out = output current (take wi (drop from stim))

          ran : Cycled (take wi (drop from stim)) current env' held' current' put-out
          ran = record { value = refl; next = l.next; wide = l.wide; long = l.long }

          pub cycle-gone-on : {from' at' : ℕ} → from' ≡ from + wi → at' ≡ at + wo
              → Before s stim wi wo count out₀ (k + 1) from' at' env' held' current' out'
          cycle-gone-on ef ea =
              let c = cycle-room in
              let front : length (take at out) ≡ at = length-take-le at out (omega arith) in
              let part : length (take at out ++ put-out) ≡ at + wo =
              length-append (take at out) put-out ∙ rw (front, cycle-output-long r.over b.cycle h ran) refl in
              let split : out' ≡ (take at out ++ put-out) ++ drop (at + wo) out =
              l.filled ∙ sym (append_assoc (take at out) put-out (drop (at + wo) out)) in
              record {
                cycle = before-next r.over b.cycle h ran ef;
                done = ea ∙ done-to;
                same =
                    ap length split
                    ∙ (let a = length-append (take at out ++ put-out) (drop (at + wo) out) in
                    let d = length-drop (at + wo) out in
                    let m = b.same in
                    omega arith);
                outputs =
                    rw (ea, split)
                    (take_at (take at out ++ put-out) (drop (at + wo) out) (at + wo) part
                    ∙ rw (b.outputs, cycle-output r.over b.cycle h ran) (one_more k (output-listed r.over k h)));
              }

    module _ {k from at : ℕ} {env held current out : List ℕ} (b : Before s stim wi wo count out₀ k from at env held current out) where
      pub current-long : length current ≡ length current₀
      current-long = sheet_long r.over b.cycle ∙ ap length (sym r.start)

      pub run-ended : count ≤ k → RanCycles s stim current out
      run-ended h =
          let f = b.cycle.few in
          let e : k ≡ count = omega arith in
          let all : at ≡ length out = b.done ∙ rw e (sym (b.same ∙ r.room)) in
          let m : length outs ≤ k =
          let q = outputs-counted s (cycles s stim) in let c = cycles-counted s stim in let l = r.over.counted in omega arith in
          record {
            outputs = sym (take-length out) ∙ rw all at b.outputs ∙ ap end_to_end (take_all k outs m);
            next = last-sheet r.over b.cycle h;
          }
