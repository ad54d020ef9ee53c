-- A well-formed call is a run of 000's rules: each cycle's input and output is of its type, so there are the constants with those leaves;
-- the run of the sheet over them is the run of the rules, and the stimulus is its cycles laid end to end.
-- Assumes nothing.
use Prim.Native.Nat.{ℕ}
use mathlib.Core.List.{List, [], ◌∷◌, map}
use mathlib.Core.Path.{◌≡◌, refl, sym, ap, ap₂, ◌∙◌}
use lib.ListN.{length, length-map}
use lib.Seq.{take_at, drop_at}
use Rattle.picoella.specs.Language.{Ty, leaves}
use Rattle.records.specs.Trees.{type_at}
use Rattle.meaning.specs.Elaboration.{erase}
use Rattle.meaning.specs.Values.{AllOf, all_none, all_more}
use Rattle.meaning.specs.Constants.{ConstantTree, AllConstantsOf, of_all_none, of_all_more, flatten}
use Rattle.meaning.specs.Undecided.{undecided_rule}
use Rattle.meaning.specs.Run.{after}
use Rattle.meaning.proofs.FlattenOneToOne.{flatten-typed, flatten-onto}
use Rattle.meaning.proofs.Order.{value-length}
use Rattle.meaning.proofs.UndecidedRule.{rule-lawful}
use Rattle.stimulus.specs.Stimulus.{input_type, cycles, pieces, end_to_end}
use Rattle.stimulus.proofs.Stimulus.{cycles-typed, cycles-joined, cycles-counted}
use Rattle.behaviour.specs.Terms.{circuit_term}
use Rattle.behaviour.specs.Run.{outputs_by, final_out, final_next, sheet_after, RunsByRules}
use Rattle.behaviour.specs.Afterwards.{WellFormed}
use Rattle.behaviour.specs.Promises.{CallByRules}
use Rattle.behaviour.proofs.Run.{outputs-counted, outputs_typed}
use Rattle.behaviour.proofs.Reduces.{decodes-to, decodes-after, run_reduces}
use Rattle.behaviour.proofs.Afterwards as Afterwards

-- constants of one type, flattened end to end, are cut into them again
pub pieces-back : {τ : Ty} {cs : List ConstantTree} → AllConstantsOf τ cs → pieces (leaves τ) (length cs) (end_to_end (map flatten cs)) ≡ map flatten cs
pieces-back of_all_none = refl
pieces-back {τ} (of_all_more {c = c} {cs = cs} h hs) =
    let l = value-length τ (flatten-typed h) in
    ap₂ (λ v vs. v ∷ vs) (take_at (flatten c) (end_to_end (map flatten cs)) (leaves τ) l)
    (ap (pieces (leaves τ) (length cs)) (drop_at (flatten c) (end_to_end (map flatten cs)) (leaves τ) l) ∙ pieces-back hs)

-- values of a type are constants of it, flattened
all-onto : (τ : Ty) {vs : List (List ℕ)} → AllOf τ vs → (cs : List ConstantTree) × AllConstantsOf τ cs × (map flatten cs ≡ vs)
all-onto τ all_none = ([], of_all_none, refl)
all-onto τ (all_more h r) =
    let (c, i, p) = flatten-onto τ h in
    let (cs, j, q) = all-onto τ r in
    (c ∷ cs, of_all_more i j, ap₂ (λ v vs. v ∷ vs) p q)

module _ {s stim out next : List ℕ} {t : ℕ} (h : WellFormed s stim out next t) where
  inputs_typed : AllOf (input_type s) (cycles s stim)
  inputs_typed = cycles-typed s stim h.whole h.fitting

  runs-by-rules : RunsByRules s stim t (final_out s stim out next) (final_next s stim out next)
  runs-by-rules =
      let (is, i, p) = all-onto (input_type s) inputs_typed in
      let (os, o, q) = all-onto (type_at s t) (outputs_typed rule-lawful s h.accepted inputs_typed) in
      let before = decodes-to s t h.accepted in
      let last = decodes-after s t h.accepted (cycles s stim) inputs_typed in
      let counted : length is ≡ length (cycles s stim) = sym (length-map is flatten) ∙ ap length p in
      record {
        expression = erase (circuit_term s);
        decoded = before;
        inputs = is;
        inputs_typed = i;
        one_each = counted ∙ cycles-counted s stim;
        outputs = os;
        outputs_typed = o;
        equally_many = sym (length-map os flatten) ∙ ap length q ∙ outputs-counted s (cycles s stim) ∙ sym counted;
        expression_after = erase (after undecided_rule [] (circuit_term s) (cycles s stim));
        stimulus_is = sym (ap end_to_end p ∙ cycles-joined s stim h.whole);
        reduces =
            (run_reduces s t h.accepted _ _ before is os i).1
            (o, q ∙ ap (outputs_by undecided_rule s) (sym p), rw p last);
        out_is = Afterwards.out_is h ∙ ap end_to_end (sym q);
        next_decodes = rw (Afterwards.next_is h) last;
      }

pub call_by_rules : CallByRules
call_by_rules s stim out next t result out' next' g h = rw (g.out_is, g.next_is) (runs-by-rules h)
