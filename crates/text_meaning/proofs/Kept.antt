-- One term of each promise.
-- Assumes nothing.
use Prim.Native.Nat.{ℕ, ◌<◌}
use mathlib.Core.Path.{◌≡◌, refl, ap, ap₂, sym, subst, ◌∙◌}
use mathlib.Core.List.{List, [], ◌∷◌, map}
use mathlib.Core.Option.{Option, some}
use native.Mathlib.Omega.{arith}
use native.Mathlib.Nat.{zero-div, div-eq_of_eq-mul_left}
use lib.ListN.{length}
use Rattle.picoella.specs.Language.{Ty, Flat, TyTuple, leaves, Expr, Typed}
use Rattle.records.specs.Trees.{type_at, Declared}
use Rattle.records.specs.Decoding.{decode}
use Rattle.grammar.specs.Tokens.{Token}
use Rattle.grammar.specs.Source.{Identifier, identifier, Declaration, Expression, text}
use Rattle.grammar.specs.Grammar.{ReadsText}
use Rattle.name_rules.specs.Declared.{at_first}
use Rattle.name_rules.specs.Checks.{AllPass}
use Rattle.name_rules.specs.Constants.{constants_of_text, constant_checks}
use Rattle.name_rules.specs.Names.{after_all, name_checks, text_checks}
use Rattle.accepted.proofs.Laws.{exact}
use Rattle.meaning.specs.Undecided.{undecided_constant}
use Rattle.meaning.specs.Constants.{ConstantTree, of_none, of_more, AllConstantsOf, of_all_none, of_all_more, flatten}
use Rattle.meaning.specs.Rules.{ReducesSeq, s_end, s_cycle}
use Rattle.meaning.proofs.FlattenOneToOne.{flatten-onto}
use Rattle.stimulus.specs.Stimulus.{input_type, cycle_count, cycles, pieces, end_to_end}
use Rattle.answers.specs.Answers.{packed}
use Rattle.answers.specs.Answers.{Accepted}
use Rattle.verdict.specs.Verdict.{verdict}
use Rattle.behaviour.specs.Run.{answer, final_out, final_next}
use Rattle.behaviour.proofs.ByRules.{pieces-back, call_by_rules}
use Rattle.layout.specs.Resolved.{type_meant, type_entries}
use Rattle.layout.specs.Layout.{sheet_of_text}
use Rattle.layout.specs.Distances.{unplaced}
use Rattle.layout.proofs.ConstructorTables.{pass-both}
use Rattle.layout.proofs.Kept as Translation
use Rattle.layout.proofs.Kept.{names-good}
use Rattle.text_meaning.specs.NamedValues.{value_of}
use Rattle.text_meaning.specs.Circuits.{NamedCircuit, circuit_of}
use Rattle.text_meaning.specs.NamedRules.{GivesSeq, no_cycle, one_cycle}
use Rattle.text_meaning.specs.Promises.{
  Means,
  OneMeaning,
  RunGivesMeaning,
  MeaningExists,
  no_call_left,
  one_call,
  CallsGiveMeaning,
  ValuesOneToOne,
  TextPromises,
}
use Rattle.text_meaning.proofs.OneMeaning.{run-one}
use Rattle.text_meaning.proofs.Naming.{name_tree, KnownType, value-of, name-one}
use Rattle.text_meaning.proofs.Related.{Related, scoped-input, none-known, one_known}
use Rattle.text_meaning.proofs.Simulates.{rules-follow}
use Rattle.text_meaning.proofs.NamesStand.{all-differ, constructor-has-number, type-known}
use Rattle.text_meaning.proofs.InTurn.{laid-length, one-run}
use Rattle.text_meaning.proofs.Begins.{circuit-related, unplaced-related}

one_meaning : OneMeaning
one_meaning t inputs outputs others x y = (run-one x.1 y.1).0

-- values of a list of constants
all_values : (ds : List Declaration) {τ : Ty} {cs : List ConstantTree} → AllConstantsOf τ cs
    → map (value_of ds τ) (map flatten cs) ≡ map (name_tree ds) cs
all_values ds of_all_none = refl
all_values ds (of_all_more h hs) = ap₂ (λ v vs. v ∷ vs) (value-of ds h) (all_values ds hs)

-- bytes that are constants laid end to end, read as values
in_pieces : (ds : List Declaration) {τ : Ty} {cs : List ConstantTree} (n : ℕ) (bytes : List ℕ) → AllConstantsOf τ cs → length cs ≡ n
    → bytes ≡ end_to_end (map flatten cs) → map (value_of ds τ) (pieces (leaves τ) n bytes) ≡ map (name_tree ds) cs
in_pieces ds {τ} n bytes h l e =
    rw (e, ← l) (ap (map (value_of ds τ)) (pieces-back h) ∙ all_values ds h)

as-pieces : (s stim : List ℕ) → cycles s stim ≡ pieces (leaves (input_type s)) (cycle_count s stim) stim
unfolding cycles
as-pieces s stim = refl

-- a run of 000's rules is a run over names
runs : (ds : List Declaration) (declared : Ty → Type 0) {e f : Expr} {c : NamedCircuit} {σ τ : Ty} {is os : List ConstantTree}
    → ReducesSeq undecided_constant [] e is os f → Typed declared (σ ∷ []) e τ → AllConstantsOf σ is → KnownType ds σ → Related ds [] e c
    → (after : NamedCircuit) × GivesSeq (after_all at_first ds) c (map (name_tree ds) is) (map (name_tree ds) os) after
runs ds declared {c = c} s_end t env k r = (c, no_cycle)
runs ds declared (s_cycle x y) t (of_all_more h hs) k r =
    let u = rules-follow (constructor-has-number ds) x t (of_more h of_none) (one_known k none-known) scoped-input r in
    let v = runs ds declared y u.typed hs k u.related in
    (v.0, one_cycle u.gives v.1)

-- a text whose names and constants are good
constants-good : (d : Declaration) (ds : List Declaration) (n : Identifier) (e : Expression) → AllPass (text_checks (text d ds n e))
    → AllPass (constant_checks (d ∷ ds) e)
constants-good d ds n e h = (pass-both (name_checks (text d ds n e)) (constants_of_text (text d ds n e)) h).1

same-expression : {o : Option Expr} {e f : Expr} → o ≡ some e → o ≡ some f → e ≡ f
same-expression p q = cc

-- a run of the rules from the expression that the sheet of a text decodes to is a run of the text over its names
means-so : (ts : List Token) (d : Declaration) (ds : List Declaration) (w : List ℕ) (p : ℕ) (e : Expression)
    → ReadsText ts (text d ds (identifier w p) e) → AllPass (text_checks (text d ds (identifier w p) e))
    → {τ : ℕ} → verdict (sheet_of_text (text d ds (identifier w p) e)) ≡ Accepted τ
    → {f g : Expr} {is os : List ConstantTree} → decode (sheet_of_text (text d ds (identifier w p) e)) ≡ some f
    → AllConstantsOf (input_type (sheet_of_text (text d ds (identifier w p) e))) is → ReducesSeq undecided_constant [] f is os g
    → Means (text d ds (identifier w p) e) (map (name_tree (d ∷ ds)) is) (map (name_tree (d ∷ ds)) os)
means-so ts d ds w p e rd h {τ} accepted {f} decoded inputs reduces =
    let t = text d ds (identifier w p) e in
    let s = sheet_of_text t in
    let good = names-good d ds w p e h in
    let typed = ((exact s τ).0 accepted).1.1 in
    let meant = (Translation.kept).decodes_to_text ts t rd h in
    let same : typed.0 ≡ f = same-expression typed.1 decoded in
    let also : meant.0 ≡ f = same-expression meant.1 decoded in
    let related =
    unplaced-related f
    (subst (λ f. Related (d ∷ ds) [] f (circuit_of (d ∷ ds) e)) (sym (ap unplaced (sym also) ∙ meant.2))
    (circuit-related good.0 [] e good.1 (constants-good d ds (identifier w p) e h))) in
    let known =
    subst (KnownType (d ∷ ds)) (sym ((Translation.kept).input_as_declared t h))
    (type-known (d ∷ ds) (all-differ at_first (d ∷ ds) good.0) w) in
    runs (d ∷ ds) (Declared s) reduces (subst (λ f. Typed (Declared s) (input_type s ∷ []) f (type_at s τ)) same typed.2) inputs known related

run_gives_meaning : RunGivesMeaning
run_gives_meaning ts (text d ds (identifier w p) e) rd h stim out next τ result out' next' formed gave =
    let s = sheet_of_text (text d ds (identifier w p) e) in
    let rules = call_by_rules s stim out next τ result out' next' gave formed in
    let run = means-so ts d ds w p e rd h formed.accepted rules.decoded rules.inputs_typed rules.reduces in
    let inputs =
    ap (map (value_of (d ∷ ds) (input_type s))) (as-pieces s stim)
    ∙ in_pieces (d ∷ ds) (cycle_count s stim) stim rules.inputs_typed rules.one_each rules.stimulus_is in
    let outputs =
    in_pieces (d ∷ ds) (cycle_count s stim) out' rules.outputs_typed (rules.equally_many ∙ rules.one_each) rules.out_is in
    (run.0, rw (inputs, outputs) run.1)

-- and so are calls in turn; with none there is nothing to read
type-some : (τ : Ty) → 0 < leaves τ
type-some (Flat r n) = omega arith
type-some (TyTuple σ τ) = let h = type-some σ in omega arith

as-many-cycles : (s : List ℕ) {cs : List ConstantTree} (bytes : List ℕ) → AllConstantsOf (input_type s) cs → bytes ≡ end_to_end (map flatten cs)
    → length cs ≡ cycle_count s bytes
as-many-cycles s {cs} bytes h e =
    sym (div-eq_of_eq-mul_left {m = length bytes} {k = length cs} (type-some (input_type s)) (ap length e ∙ laid-length h))

calls_give_meaning : CallsGiveMeaning
calls_give_meaning ts (text d ds (identifier w p) e) rd h τ stims outs no_call_left =
    let s = sheet_of_text (text d ds (identifier w p) e) in
    let none : cycle_count s [] ≡ 0 = zero-div (leaves (input_type s)) in
    let empty : cycles s [] ≡ [] = as-pieces s [] ∙ ap (λ n. pieces (leaves (input_type s)) n []) none in
    let inputs : map (value_of (d ∷ ds) (input_type s)) (cycles s []) ≡ [] = ap (map (value_of (d ∷ ds) (input_type s))) empty in
    (circuit_of (d ∷ ds) e, rw (inputs, none) no_cycle)
calls_give_meaning ts (text d ds (identifier w p) e) rd h τ stims outs (one_call formed gave rest) =
    let t = text d ds (identifier w p) e in
    let s = sheet_of_text t in
    let meant = (Translation.kept).decodes_to_text ts t rd h in
    let all = one-run (one_call formed gave rest) meant.0 meant.1 in
    let run = means-so ts d ds w p e rd h formed.accepted meant.1 all.inputs_typed all.reduces in
    let many = as-many-cycles s (end_to_end stims) all.inputs_typed all.stimuli-are in
    let inputs =
    ap (map (value_of (d ∷ ds) (input_type s))) (as-pieces s (end_to_end stims))
    ∙ in_pieces (d ∷ ds) (cycle_count s (end_to_end stims)) (end_to_end stims) all.inputs_typed many all.stimuli-are in
    let outputs =
    in_pieces (d ∷ ds) (cycle_count s (end_to_end stims)) (end_to_end outs) all.outputs_typed (all.equally_many ∙ many) all.outputs-are in
    (run.0, rw (inputs, outputs) run.1)

-- bytes of a known type are the leaves of one constant, and that has one name
values_one_to_one : ValuesOneToOne
values_one_to_one (text d ds (identifier w p) e) h name u v x y same =
    let τ = type_meant (type_entries (d ∷ ds)) name in
    let known = type-known (d ∷ ds) (all-differ at_first (d ∷ ds) (names-good d ds w p e h).0) name in
    let (c, i, q) = flatten-onto τ x in
    let (b, j, r) = flatten-onto τ y in
    let one : c ≡ b = name-one (d ∷ ds) known i j (sym (value-of (d ∷ ds) i) ∙ rw (q, r) same ∙ value-of (d ∷ ds) j) in
    sym q ∙ ap flatten one ∙ r

-- what the call's definition gives is such a meaning
meaning_exists : MeaningExists
meaning_exists ts t rd h stim out next τ formed = (
  _,
  run_gives_meaning ts t rd h stim out next τ (packed (answer (sheet_of_text t) stim out next)) (final_out (sheet_of_text t) stim out next)
      (final_next (sheet_of_text t) stim out next) formed (record { result_is = refl; out_is = refl; next_is = refl }),
)

pub kept : TextPromises
kept =
    record {
      one_meaning = one_meaning;
      run_gives_meaning = run_gives_meaning;
      meaning_exists = meaning_exists;
      calls_give_meaning = calls_give_meaning;
      values_one_to_one = values_one_to_one;
    }
