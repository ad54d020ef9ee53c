-- What is promised of the run: each promise a named type, and at the end the list of them. One term of each stands in
-- `proofs/Kept.antt`; the list wants them all.
use Rattle.std.specs.Prelude.{ℕ, ◌≡◌, ◌↔◌, ◌≢◌, false, List, [], ◌∷◌, map, length}
use Rattle.std.proofs.Math.Option.{some}
use Rattle.picoella.specs.Language.{Expr}
use Rattle.records.specs.Trees.{type_at, Declared, tree_at, type_record_of}
use Rattle.records.specs.Decoding.{decode, expression_of}
use Rattle.answers.specs.StandardLaws.{lent_slice, StandardLaws}
use Rattle.answers.specs.Answers.{Done, Refused}
use Rattle.verdict.specs.Verdict.{verdict}
use Rattle.verdict.specs.Scopes.{Scope}
use Rattle.answers.specs.Answers.{Accepted}
use Rattle.meaning.specs.Elaboration.{Term, Elaborated, erase}
use Rattle.meaning.specs.Values.{◌⊑◌, AllOf}
use Rattle.meaning.specs.Constants.{ConstantTree, AllConstantsOf, flatten}
use Rattle.meaning.specs.Undecided.{undecided_rule, undecided_constant}
use Rattle.meaning.specs.RuleLaws.{undefined_leaves, Lawful}
use Rattle.meaning.specs.Ordered.{RuleBelow, AllBoth}
use Rattle.meaning.specs.Rules.{ReducesSeq}
use Rattle.meaning.specs.Run as Meaning
use Rattle.behaviour.specs.Terms.{term, circuit_term}
use Rattle.behaviour.specs.Sheets.{write}
use Rattle.behaviour.specs.Writable.{Writable}
use Rattle.behaviour.specs.Afterwards.{OnlyDelays, WellFormed, Afterwards}
use Rattle.stimulus.specs.Stimulus.{input_type, end_to_end, cycles, cycle_count, wrong_stimulus}
use Rattle.behaviour.specs.Run.{outputs_by, sheet_after, call_checks, answer, final_out, final_next, RunGiven, RunsByRules}
use Rattle.behaviour.specs.SheetOrder.{SheetBelow, FormedCall, StrictlyBelow, holding}
use Rattle.behaviour.specs.Bench.{toggle, agreeing, agreed}

-- What every call promises (`StandardLaws` of `answers`): done, with all cycles, exactly where the call is well formed.
abbrev pub RunLaws : Type 0
RunLaws =
    (s stim out next : List ℕ)
    → StandardLaws (call_checks s stim out next) ((t : ℕ) × WellFormed s stim out next t) (cycle_count s stim) (answer s stim out next)
    (lent_slice out (final_out s stim out next) ∷ lent_slice next (final_next s stim out next) ∷ [])

-- An empty stimulus is a run of no cycles: on an accepted sheet it is answered with no cycles, no outputs and the sheet as it is. An
-- output slice that is not empty is 10 at place 0, and a next slice of another length than the sheet 11.
pub record RunsNone (s : List ℕ) : Type 0 where
  pub done : (next : List ℕ) → length next ≡ length s
      → (answer s [] [] next ≡ Done 0) × (final_out s [] [] next ≡ []) × (final_next s [] [] next ≡ s)
  pub some_output : (out next : List ℕ) → length out ≢ 0 → answer s [] out next ≡ Refused 10 0
  pub wrong_next : (next : List ℕ) → length next ≢ length s → answer s [] [] next ≡ Refused 11 (length s)

abbrev pub ZeroCycles : Type 0
ZeroCycles = (s : List ℕ) (t : ℕ) → verdict s ≡ Accepted t → RunsNone s

-- Any term of the circuit's frame and type, written to an accepted sheet, changes the delay leaves alone, is what the sheet then
-- reads as, and leaves the sheet accepted with the same type. What a sheet holds, written to it, changes nothing.
pub record WritesBack (s : List ℕ) (e : Term) : Type 0 where
  pub only_delays : OnlyDelays s (write s e)
  pub reads : circuit_term (write s e) ≡ e
  pub again : verdict (write s e) ≡ verdict s

abbrev pub WriteReads : Type 0
WriteReads = (s : List ℕ) (t : ℕ) → verdict s ≡ Accepted t → (e : Term) → Writable s t e → WritesBack s e

abbrev pub WriteOwn : Type 0
WriteOwn = (s : List ℕ) (t : ℕ) → verdict s ≡ Accepted t → write s (circuit_term s) ≡ s

-- The list of cycles is the stimulus, in as many pieces as its length divided by the input leaves.
abbrev pub CyclesWhole : Type 0
CyclesWhole =
    (s stim : List ℕ) → wrong_stimulus s stim ≡ false
    → (end_to_end (cycles s stim) ≡ stim) × (length (cycles s stim) ≡ cycle_count s stim)

-- The run on bytes is the run of the meaning, under every lawful rule for an undecided IF and over every list of inputs.
abbrev pub RunMeans : Type 0
RunMeans =
    (undecided : List ℕ → List ℕ → List ℕ) → Lawful undecided
    → (s : List ℕ) (t : ℕ) → verdict s ≡ Accepted t → (inputs : List (List ℕ)) → AllOf (input_type s) inputs
    → (outputs_by undecided s inputs ≡ Meaning.outputs undecided [] (circuit_term s) inputs)
    × (sheet_after undecided s inputs ≡ write s (Meaning.after undecided [] (circuit_term s) inputs))

-- So it is the run of 000: its rules, with `glb` of the branches for an undecided IF, on the expression that the sheet decodes to, give
-- exactly the constants with the outputs' leaves, and lead to the expression that the sheet after the last cycle decodes to.
abbrev pub RunReduces : Type 0
RunReduces =
    (s : List ℕ) (t : ℕ) → verdict s ≡ Accepted t → (e f : Expr) → decode s ≡ some e
    → (inputs outputs : List ConstantTree) → AllConstantsOf (input_type s) inputs
    → ReducesSeq undecided_constant [] e inputs outputs f
    ↔ (AllConstantsOf (type_at s t) outputs
    × (map flatten outputs ≡ outputs_by undecided_rule s (map flatten inputs))
    × (decode (sheet_after undecided_rule s (map flatten inputs)) ≡ some f))

-- And from the bytes of a call to those rules in one statement: whatever a well-formed call gave by the contract.
abbrev pub CallByRules : Type 0
CallByRules =
    (s stim out next : List ℕ) (t result : ℕ) (out' next' : List ℕ)
    → RunGiven s stim out next result out' next' → WellFormed s stim out next t → RunsByRules s stim t out' next'

-- Demand 3, of whatever a well-formed call gave by the contract.
abbrev pub HoldsAfterwards : Type 0
HoldsAfterwards =
    (s stim out next : List ℕ) (t result : ℕ) (out' next' : List ℕ)
    → RunGiven s stim out next result out' next' → WellFormed s stim out next t → Afterwards s stim t result out' next'

-- Two accepted sheets that are the same or differ only in delay leaves, each of the first at or below that of the second, run over
-- two lists of inputs, cycle by cycle the first at or below the second, under two lawful rules for an undecided IF, the first at or
-- below the second: so are the outputs, cycle by cycle, and the sheets after. Any number of cycles, none included.
abbrev pub SheetRunOrdered : Type 0
SheetRunOrdered =
    (rule other : List ℕ → List ℕ → List ℕ) → Lawful rule → Lawful other → RuleBelow rule other
    → (s s' : List ℕ) (t t' : ℕ) → verdict s ≡ Accepted t → verdict s' ≡ Accepted t' → SheetBelow s s'
    → (inputs inputs' : List (List ℕ)) → AllBoth (input_type s) inputs inputs'
    → AllBoth (type_at s t) (outputs_by rule s inputs) (outputs_by other s' inputs')
    × SheetBelow (sheet_after rule s inputs) (sheet_after other s' inputs')

-- A late scanner (docs/SHEETS.md, "Runs in order"): two well-formed calls on sheets in order, whose stimuli are of equal length and the
-- first leaf by leaf at or below the second. Every output leaf of the first is at or below that of the second, and so is each
-- delay leaf of the next sheets, which again differ in delay leaves alone. Any number of cycles, none included.
abbrev pub LateScanner : Type 0
LateScanner =
    (s s' stimulus stimulus' outputs outputs' next next' : List ℕ)
    → FormedCall s stimulus outputs next → FormedCall s' stimulus' outputs' next'
    → SheetBelow s s' → stimulus ⊑ stimulus'
    → (outputs ⊑ outputs') × SheetBelow next next'

-- There are such calls that are not equal: the sheet T, whose delay's leaf is record 4, with a first input that is not there yet; and
-- T with nothing in its delay yet.
abbrev pub LateInput : Type 0
LateInput = StrictlyBelow toggle toggle (0 ∷ 1 ∷ []) (1 ∷ 1 ∷ []) (2 ∷ 0 ∷ []) (2 ∷ 1 ∷ []) (holding 0) toggle

abbrev pub LateDelay : Type 0
LateDelay = StrictlyBelow (holding 0) toggle (1 ∷ []) (1 ∷ []) (0 ∷ []) (2 ∷ []) (holding 0) (holding 1)

-- The earlier rule for an undecided IF, undefined in every leaf, stays as a definition (docs/SHEETS.md, "Runs in order"): on every accepted
-- sheet, over any number of cycles of well-formed input, each output leaf and each delay leaf under it is at or below what the run
-- gives.
abbrev pub EarlierBelow : Type 0
EarlierBelow =
    (s : List ℕ) (t : ℕ) → verdict s ≡ Accepted t → (inputs : List (List ℕ)) → AllOf (input_type s) inputs
    → AllBoth (type_at s t) (outputs_by undefined_leaves s inputs) (outputs_by undecided_rule s inputs)
    × SheetBelow (sheet_after undefined_leaves s inputs) (sheet_after undecided_rule s inputs)

-- On one sheet it is strictly below, in the leaves of the second output and of the delay.
abbrev pub EarlierStrictlyBelow : Type 0
EarlierStrictlyBelow =
    (verdict agreeing ≡ Accepted 2)
    × (outputs_by undefined_leaves agreeing ((0 ∷ []) ∷ (0 ∷ []) ∷ []) ≡ (0 ∷ 0 ∷ []) ∷ (0 ∷ 0 ∷ []) ∷ [])
    × (outputs_by undecided_rule agreeing ((0 ∷ []) ∷ (0 ∷ []) ∷ []) ≡ (0 ∷ 0 ∷ []) ∷ (1 ∷ 1 ∷ []) ∷ [])
    × (sheet_after undefined_leaves agreeing ((0 ∷ []) ∷ (0 ∷ []) ∷ []) ≡ agreeing)
    × (sheet_after undecided_rule agreeing ((0 ∷ []) ∷ (0 ∷ []) ∷ []) ≡ agreed)

-- At every expression of an accepted sheet, in a scope that it has, `term` is the elaboration of the expression that the record says, of
-- the type of its type record; by `ElaborationUnique` there is one. So what is evaluated inside, as the part of a feedback or what an IF
-- tests, is what the rules speak of.
abbrev pub TermsElaborate : Type 0
TermsElaborate =
    (s : List ℕ) (t : ℕ) → verdict s ≡ Accepted t → (q : ℕ) (Γ : List ℕ) → Scope s q Γ
    → Elaborated (Declared s) (map (type_at s) Γ) (term s Γ (tree_at s q)) (type_at s (type_record_of s Γ (tree_at s q)))
    × (erase (term s Γ (tree_at s q)) ≡ expression_of s (tree_at s q))

-- all of them
pub record RunPromises : Type 0 where
  pub run_laws : RunLaws
  pub zero_cycles : ZeroCycles
  pub write_reads : WriteReads
  pub write_own : WriteOwn
  pub cycles_whole : CyclesWhole
  pub run_means : RunMeans
  pub run_reduces : RunReduces
  pub call_by_rules : CallByRules
  pub holds_afterwards : HoldsAfterwards
  pub terms_elaborate : TermsElaborate
  pub sheet_run_ordered : SheetRunOrdered
  pub late_scanner : LateScanner
  pub late_input : LateInput
  pub late_delay : LateDelay
  pub earlier_below : EarlierBelow
  pub earlier_strictly_below : EarlierStrictlyBelow
