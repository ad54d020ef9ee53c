-- Cycle after cycle: before cycle k the sheet is the one that it begins from, the cycle is ready to
-- be run on its part of the stimulus, and after it the sheet is the next cycle's.
-- Assumes nothing.
use Prim.Native.Nat.{ℕ, ◌+◌, ◌-◌, ◌*◌, ◌≤◌, ◌<◌}
use mathlib.Core.List.{List, []}
use mathlib.Core.Path.{◌≡◌, refl, sym, ap, ◌∙◌}
use native.Mathlib.Omega.{arith}
use native.Mathlib.Numerals.{add-one}
use native.Mathlib.Nat.{zero-mul, mul-le-mul_left, mul-le-mul_right}
use lib.ListN.{length, get_or, take, drop}
use Rattle.picoella.specs.Language.{OfType}
use Rattle.records.specs.Words.{word_a}
use Rattle.records.specs.Trees.{type_at}
use Rattle.records.specs.Rewritten.{Rewritten}
use Rattle.records.proofs.Rewritten.{same-type}
use Rattle.records.proofs.Types.{few-leaves, some-leaves}
use Rattle.accepted.proofs.Laws.{types-fit, exact}
use Rattle.verdict.specs.Verdict.{verdict}
use Rattle.answers.specs.Answers.{Accepted}
use Rattle.meaning.specs.Values.{AllOf}
use Rattle.meaning.specs.Undecided.{undecided_rule}
use Rattle.meaning.proofs.UndecidedRule.{rule-lawful}
use Rattle.meaning.proofs.Order.{value-length}
use Rattle.behaviour.specs.Afterwards.{OnlyDelays}
use Rattle.behaviour.specs.Cycle.{output}
use Rattle.behaviour.proofs.Cycle.{output-of-type}
use Rattle.behaviour.proofs.Sheets.{only-leaves, header-same, accepted-written}
use Rattle.stimulus.specs.Stimulus.{input_type, cycles}
use Rattle.behaviour.specs.Run.{outputs_by, sheet_after}
use Rattle.behaviour.specs.Midway.{sheet_before}
use Rattle.stimulus.proofs.Stimulus.{stimulus-whole, cycles-typed, cycles-counted, cycle-at}
use Rattle.behaviour.proofs.Run.{sheet-last, sheet-first, sheet-next, output-at, outputs-counted, accepted-before, sheet-only-delays}
use Rattle.behaviour.proofs.Afterwards.{all-at}
use Rattle.stepper.specs.Cycling.{Cycling, Cycled}
use Rattle.stepper.specs.CycleByCycle.{WholeCycles}

-- a part from a, of b bytes
pub from-there : (a b : ℕ) → a + b - a ≡ b
from-there a b = omega arith

-- before cycle k, whose input begins at `from`
pub record BeforeCycle (s stim : List ℕ) (wi count k from : ℕ) (env held current : List ℕ) : Type 0 where
  pub few : k ≤ count
  pub read : from ≡ k * wi
  pub wide : length env ≡ 4096
  pub long : length held ≡ 4096
  pub sheet : current ≡ sheet_before undecided_rule s (cycles s stim) k

module _ {s : List ℕ} {n : ℕ} {W stim : List ℕ} {wi wo count : ℕ} (r : WholeCycles s n W stim wi wo count) where
  inputs_typed : AllOf (input_type s) (cycles s stim)
  inputs_typed = cycles-typed s stim r.whole r.fitting

  pub cycle-listed : (k : ℕ) → k < count → k < length (cycles s stim)
  cycle-listed k h = let c = cycles-counted s stim in let e = r.counted in omega arith

  pub output-listed : (k : ℕ) → k < count → k < length (outputs_by undecided_rule s (cycles s stim))
  output-listed k h = let c = outputs-counted s (cycles s stim) in let i = cycle-listed k h in omega arith

  stim-long : length stim ≡ count * wi
  stim-long = (stimulus-whole s stim r.whole).1 ∙ rw (r.counted, r.takes) refl

  pub stimulus-few : length stim ≤ 65535
  stimulus-few = (stimulus-whole s stim r.whole).0

  pub count_small : count ≤ 65535
  count_small =
      let e = stim-long in
      let t = r.takes in
      let some = some-leaves (input_type s) in
      let m : count * 1 ≤ count * wi = mul-le-mul_left count (omega arith) in
      omega (arith, stimulus-few)

  pub output-small : wo ≤ 64
  output-small =
      let p = (exact s r.type).0 r.accepted in
      let u = p.1.0 in
      let f = few-leaves (types-fit p.0) r.type u.there u.sort in
      let g = r.gives in
      omega arith

  pub before-first : {current env held : List ℕ} → current ≡ s → length env ≡ 4096 → length held ≡ 4096
      → BeforeCycle s stim wi count 0 0 env held current
  before-first e w l =
      record {
        few = omega arith;
        read = sym (zero-mul wi);
        wide = w;
        long = l;
        sheet = e ∙ sym (sheet-first s (cycles s stim));
      }

  module _ {k from : ℕ} {env held current : List ℕ} (b : BeforeCycle s stim wi count k from env held current) (h : k < count) where
    read-to : from + wi ≡ (k + 1) * wi
    read-to = rw b.read (omega arith)

    pub cycle-inside : from + wi ≤ length stim
    cycle-inside =
        let e = stim-long in let m : (k + 1) * wi ≤ count * wi = mul-le-mul_right wi (omega arith) in let t = read-to in omega arith

    abbrev begins : List ℕ
    begins = sheet_before undecided_rule s (cycles s stim) k

    abbrev input : List ℕ
    input = take wi (drop from stim)

    input_is : get_or (cycles s stim) k [] ≡ input
    input_is = cycle-at s stim k (rw (← r.counted) h) ∙ rw (b.read, r.takes) refl

    delays : OnlyDelays s begins
    delays = sheet-only-delays rule-lawful s r.accepted inputs_typed k

    begins-leaves : Rewritten s begins
    begins-leaves = only-leaves (accepted-written s r.accepted) delays

    begins-accepted : verdict begins ≡ Accepted r.type
    begins-accepted = accepted-before rule-lawful s r.accepted inputs_typed k ∙ r.accepted

    input-typed : OfType (input_type s) input
    input-typed = rw input_is at (all-at inputs_typed k (cycle-listed k h))

    pub cycle-ready : {out : List ℕ} → length out ≡ wo → Cycling s n W env held input current out
    cycle-ready l =
        rw b.sheet
        (record {
          sized = r.sized;
          type = r.type;
          accepted = r.accepted;
          table = r.table;
          leaves_alone = begins-leaves;
          again = begins-accepted;
          wide = b.wide;
          long = b.long;
          typed = input-typed;
          room = l ∙ r.gives;
        })

    output-long : length (output begins input) ≡ wo
    output-long =
        value-length (type_at begins r.type)
        (output-of-type rule-lawful begins begins-accepted {i = input}
        (rw (header-same (accepted-written s r.accepted) delays 2 (omega arith), same-type begins-leaves (word_a s 0)) input-typed))
        ∙ rw (same-type begins-leaves r.type) (sym r.gives)

    next-output : get_or (outputs_by undecided_rule s (cycles s stim)) k [] ≡ output begins input
    next-output = output-at s (cycles s stim) k (cycle-listed k h) ∙ ap (output begins) input_is

    module _ {env' held' current' o : List ℕ} (c : Cycled input current env' held' current' o) where
      -- what a cycle puts out is its own of all outputs
      pub cycle-output : o ≡ get_or (outputs_by undecided_rule s (cycles s stim)) k []
      cycle-output = c.value ∙ rw b.sheet (sym next-output)

      pub cycle-output-long : length o ≡ wo
      cycle-output-long = ap length c.value ∙ rw b.sheet output-long

      -- and then comes the next cycle
      pub before-next : {from' : ℕ} → from' ≡ from + wi → BeforeCycle s stim wi count (k + 1) from' env' held' current'
      before-next ef =
          record {
            few = omega arith;
            read = ef ∙ read-to;
            wide = c.wide;
            long = c.long;
            sheet = c.next ∙ rw (b.sheet, add-one k, ← input_is) (sym (sheet-next s (cycles s stim) k (cycle-listed k h)));
          }

  module _ {k from : ℕ} {env held current : List ℕ} (b : BeforeCycle s stim wi count k from env held current) where
    pub sheet_long : length current ≡ length s
    sheet_long = ap length b.sheet ∙ (sheet-only-delays rule-lawful s r.accepted inputs_typed k).length

    -- before the cycle after the last
    pub last-sheet : count ≤ k → current ≡ sheet_after undecided_rule s (cycles s stim)
    last-sheet h =
        let f = b.few in
        let e : k ≡ count = omega arith in
        let l : count ≡ length (cycles s stim) = r.counted ∙ sym (cycles-counted s stim) in
        b.sheet ∙ rw (e, l) (sheet-last s (cycles s stim))
