-- Calls of the run in turn are one run of 000's rules: each next sheet decodes to the expression
-- that the rules leave, with the types of the sheet before.
-- Assumes nothing.
use Prim.Native.Nat.{ℕ, ◌+◌, ◌*◌}
use mathlib.Core.Path.{◌≡◌, refl, ap, ap₂, sym, subst, ◌∙◌}
use mathlib.Core.List.{List, [], ◌∷◌, ◌++◌, map, append_assoc}
use mathlib.Core.Option.{Option, some}
use native.Mathlib.Omega.{arith}
use lib.ListN.{length, length-append}
use Rattle.picoella.specs.Language.{Ty, leaves, Expr}
use Rattle.records.specs.Words.{word_a}
use Rattle.records.specs.Trees.{type_at}
use Rattle.records.specs.Decoding.{decode}
use Rattle.records.proofs.Rewritten.{same-type}
use Rattle.meaning.specs.Undecided.{undecided_constant}
use Rattle.meaning.specs.Constants.{ConstantTree, AllConstantsOf, of_all_none, of_all_more, flatten}
use Rattle.meaning.specs.Rules.{ReducesSeq, s_end, s_cycle}
use Rattle.meaning.proofs.Order.{value-length}
use Rattle.meaning.proofs.FlattenOneToOne.{flatten-typed}
use Rattle.stimulus.specs.Stimulus.{input_type, end_to_end}
use Rattle.behaviour.specs.Afterwards.{OnlyDelays}
use Rattle.behaviour.proofs.Answers.{gives-afterwards}
use Rattle.behaviour.proofs.ByRules.{call_by_rules}
use Rattle.behaviour.proofs.Sheets.{only-leaves, header-same, accepted-written}
use Rattle.text_meaning.specs.Promises.{CallsInTurn, no_call_left, one_call}

-- a run of the rules over all stimuli, as one call's is in `RunsByRules`
pub record OneRun (σ θ : Ty) (e : Expr) (stims outs : List (List ℕ)) : Type 0 where
  pub inputs : List ConstantTree
  pub inputs_typed : AllConstantsOf σ inputs
  pub outputs : List ConstantTree
  pub outputs_typed : AllConstantsOf θ outputs
  pub equally_many : length outputs ≡ length inputs
  pub stimuli-are : end_to_end stims ≡ end_to_end (map flatten inputs)
  pub outputs-are : end_to_end outs ≡ end_to_end (map flatten outputs)
  pub after : Expr
  pub reduces : ReducesSeq undecided_constant [] e inputs outputs after

both_run : {l is os js ps : List ConstantTree} {e f g : Expr} → ReducesSeq undecided_constant l e is os f
    → ReducesSeq undecided_constant l f js ps g → ReducesSeq undecided_constant l e (is ++ js) (os ++ ps) g
both_run s_end y = y
both_run (s_cycle x r) y = s_cycle x (both_run r y)

both_typed : {τ : Ty} {cs ds : List ConstantTree} → AllConstantsOf τ cs → AllConstantsOf τ ds → AllConstantsOf τ (cs ++ ds)
both_typed of_all_none k = k
both_typed (of_all_more h hs) k = of_all_more h (both_typed hs k)

both-laid : (cs ds : List ConstantTree) → end_to_end (map flatten (cs ++ ds)) ≡ end_to_end (map flatten cs) ++ end_to_end (map flatten ds)
both-laid [] ds = refl
both-laid (c ∷ cs) ds = ap (λ l. flatten c ++ l) (both-laid cs ds) ∙ sym (append_assoc (flatten c) (end_to_end (map flatten cs)) (end_to_end (map flatten ds)))

same-decoded : {o : Option Expr} {e f : Expr} → o ≡ some e → o ≡ some f → e ≡ f
same-decoded p q = cc

pub one-run : {τ : ℕ} {s : List ℕ} {stims outs : List (List ℕ)} → CallsInTurn τ s stims outs → (e : Expr) → decode s ≡ some e
    → OneRun (input_type s) (type_at s τ) e stims outs
one-run no_call_left e d =
    record {
      inputs = [];
      inputs_typed = of_all_none;
      outputs = [];
      outputs_typed = of_all_none;
      equally_many = refl;
      stimuli-are = refl;
      outputs-are = refl;
      after = e;
      reduces = s_end;
    }
one-run {τ} {s} (one_call {stim = stim} {out = out} {next = next} {out' = out'} {next' = next'} {result = result} {stims = stims} {outs = outs} w g rest) e d =
    let r = call_by_rules s stim out next τ result out' next' g w in
    let same : r.expression ≡ e = same-decoded r.decoded d in
    let written = accepted-written s w.accepted in
    let only : OnlyDelays s next' = (gives-afterwards g w).equals_first in
    let types = same-type (only-leaves written only) in
    let input : input_type next' ≡ input_type s = ap (type_at next') (header-same written only 2 (omega arith)) ∙ types (word_a s 0) in
    let more : OneRun (input_type s) (type_at s τ) r.expression_after stims outs =
    subst (λ σ. OneRun σ (type_at s τ) r.expression_after stims outs) input
    (subst (λ θ. OneRun (input_type next') θ r.expression_after stims outs) (types τ) (one-run rest r.expression_after r.next_decodes)) in
    let is = r.inputs in
    let os = r.outputs in
    let first : length os ≡ length is = r.equally_many in
    let later : length more.outputs ≡ length more.inputs = more.equally_many in
    record {
      inputs = is ++ more.inputs;
      inputs_typed = both_typed r.inputs_typed more.inputs_typed;
      outputs = os ++ more.outputs;
      outputs_typed = both_typed r.outputs_typed more.outputs_typed;
      equally_many = rw (length-append os more.outputs, length-append is more.inputs, first, later);
      stimuli-are = ap₂ ◌++◌ r.stimulus_is more.stimuli-are ∙ sym (both-laid is more.inputs);
      outputs-are = ap₂ ◌++◌ r.out_is more.outputs-are ∙ sym (both-laid os more.outputs);
      after = more.after;
      reduces = both_run (subst (λ f. ReducesSeq undecided_constant [] f is os r.expression_after) same r.reduces) more.reduces;
    }

-- constants of a type laid end to end are as many bytes as the type has leaves for each
pub laid-length : {τ : Ty} {cs : List ConstantTree} → AllConstantsOf τ cs → length (end_to_end (map flatten cs)) ≡ length cs * leaves τ
laid-length {τ} of_all_none = omega arith
laid-length {τ} (of_all_more {c = c} {cs = cs} h hs) =
    let l = value-length τ (flatten-typed h) in
    let m = laid-length hs in
    let a = length-append (flatten c) (end_to_end (map flatten cs)) in
    omega arith
