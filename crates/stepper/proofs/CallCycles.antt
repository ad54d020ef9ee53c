-- A call over the cycles of a stimulus: what an accepted sheet and a stimulus that is not refused
-- say of its output type and of its cycles.
-- Assumes nothing.
use Prim.Native.Nat.{ℕ, ◌*◌, ◌≤◌, ◌<◌}
use mathlib.Core.Bool.{false}
use mathlib.Core.List.{List}
use mathlib.Core.Option.{none}
use mathlib.Core.Path.{◌≡◌, refl, sym, ap, subst, ◌∙◌}
use native.Mathlib.Omega.{arith}
use native.Mathlib.Nat.{mul-le-mul_left}
use lib.ListN.{length, get_or}
use Rattle.picoella.specs.Language.{leaves}
use Rattle.records.specs.Words.{word}
use Rattle.records.specs.Trees.{type_at}
use Rattle.answers.specs.Answers.{place, first_applying, SaysOf, lowest}
use Rattle.answers.specs.Answers.{Answer}
use Rattle.answers.specs.Answers.{Done}
use Rattle.answers.proofs.First.{when-none, first_says}
use Rattle.verdict.specs.Verdict.{verdict}
use Rattle.answers.specs.Answers.{Accepted}
use Rattle.accepted.specs.Accepting.{Accepting}
use Rattle.accepted.proofs.Small.{output-typed, accepted-few}
use Rattle.stimulus.specs.Stimulus.{cycle_count, wrong_stimulus, wrong_byte, stimulus_checks}
use Rattle.stimulus.specs.Holding.{Held}
use Rattle.stimulus.proofs.Holding as Holding
use Rattle.behaviour.specs.Run.{output_needed}
use Rattle.stepper.specs.CycleByCycle.{WholeCycles}

module _ {s : List ℕ} {n : ℕ} {W : List ℕ} {t : ℕ} (g : Accepting s n W) (v : verdict s ≡ Accepted t) where
  pub output-there : t < 4096
  output-there =
      let c = g.sized.counted in let f = g.sized.few in let h = (output-typed v).there in omega arith

  pub output-width : get_or W t 0 ≡ leaves (type_at s t)
  output-width = g.table.types t (output-typed v)

  pub output-few : get_or W t 0 ≤ 64
  output-few = let f = accepted-few s v in let e = output-width in omega arith

  module _ {stim : List ℕ} {a : Answer} (h : Held s stim a) {count : ℕ} (e : a ≡ Done count) where
    says : SaysOf (stimulus_checks s stim) (cycle_count s stim) (Done count)
    says =
        subst (λ (b : Answer). SaysOf (stimulus_checks s stim) (cycle_count s stim) b) (sym h.answered ∙ e)
        (first_says (stimulus_checks s stim) (cycle_count s stim))

    pub cycles-done : count ≡ cycle_count s stim
    cycles-done = says.1

    pub held-stimulus : wrong_stimulus s stim ≡ false
    held-stimulus = when-none (wrong_stimulus s stim) 0 says.0.0

    pub held_bytes : lowest (wrong_byte s stim) (length stim) ≡ none
    held_bytes = says.0.1.0

    pub stimulus-done : first_applying (stimulus_checks s stim) (Done (cycle_count s stim)) ≡ Done (cycle_count s stim)
    stimulus-done = sym h.answered ∙ e ∙ ap Done cycles-done

    pub count-few : count ≤ 65535
    count-few = let f = h.small in let z = ap place e in omega arith

    pub needed-few : count * get_or W t 0 ≤ 4194240
    needed-few =
        let m : count * get_or W t 0 ≤ count * 64 = mul-le-mul_left count output-few in let l = count-few in omega arith

    pub needed : count * get_or W t 0 ≡ output_needed s t stim
    needed = rw (cycles-done, output-width) refl

    pub whole-cycles : {b : ℕ} → b ≡ word s 0 2 → WholeCycles s n W stim (get_or W b 0) (get_or W t 0) count
    whole-cycles eb =
        record {
          sized = g.sized;
          type = t;
          accepted = v;
          table = g.table;
          whole = held-stimulus;
          fitting = held_bytes;
          takes = Holding.takes g eb;
          gives = output-width;
          counted = cycles-done;
        }
