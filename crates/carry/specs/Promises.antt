-- What is promised of carrying: each promise a named type, and at the end the list of them. One term of each stands in
-- `proofs/Kept.antt`; the list wants them all.
use Rattle.std.specs.Prelude.{ℕ, ◌<◌, ◌≡◌, true, List, [], ◌∷◌, length}
use Rattle.std.proofs.Math.Option.{none}
use Rattle.records.specs.Words.{count}
use Rattle.records.specs.Kinds.{expression, delay}
use Rattle.records.specs.Says.{kind_at}
use Rattle.records.specs.OnlyLabels.{OnlyLabels}
use Rattle.answers.specs.Answers.{lowest, in_one}
use Rattle.answers.specs.StandardLaws.{lent_slice, StandardLaws}
use Rattle.answers.specs.Answers.{Done}
use Rattle.verdict.specs.Verdict.{verdict}
use Rattle.answers.specs.Answers.{Accepted}
use Rattle.meaning.specs.Values.{AllOf}
use Rattle.meaning.specs.RuleLaws.{Lawful}
use Rattle.stimulus.specs.Stimulus.{input_type}
use Rattle.behaviour.specs.Afterwards.{OnlyDelays}
use Rattle.behaviour.specs.Run.{outputs_by, sheet_after, answer, final_out, final_next}
use Rattle.behaviour.specs.SheetOrder.{FormedCall}
use Rattle.carry.specs.Labels.{label, label_twice, delay_type, same_shape}
use Rattle.carry.specs.Carried.{held_at, carried}
use Rattle.carry.specs.Carry.{carry_checks, carry_answer, final_carried, CarryGiven}

-- a call that nothing refuses: both sheets are accepted, no label stands twice in either, and the next slice is as long as the new one
pub record CarryFormed (old new next : List ℕ) : Type 0 where
  pub old_type : ℕ
  pub new_type : ℕ
  pub old_accepted : verdict old ≡ Accepted old_type
  pub new_accepted : verdict new ≡ Accepted new_type
  pub old_once : lowest (label_twice old) (count old) ≡ none
  pub new_once : lowest (label_twice new) (count new) ≡ none
  pub long : length next ≡ length new

-- What every call promises (`StandardLaws` of `answers`).
abbrev pub CarryLaws : Type 0
CarryLaws =
    (old new next : List ℕ)
    → StandardLaws (carry_checks old new next) (CarryFormed old new next) 0 (carry_answer old new next)
    (lent_slice next (final_carried old new next) ∷ [])

-- delay r of the new sheet and delay q of the old one have the same label and types of the same shape
pub record Partners (old new : List ℕ) (q r : ℕ) : Type 0 where
  pub old_there : q < count old
  pub old_delay : kind_at old q ≡ expression delay
  pub new_there : r < count new
  pub new_delay : kind_at new r ≡ expression delay
  pub labelled : 0 < label new r
  pub same_label : label old q ≡ label new r
  pub same-shape : same_shape (delay_type old q) (delay_type new r) ≡ true

-- what the carried sheet is: the new sheet with other delay leaves alone, accepted with its type; each delay holds what its partner in
-- the old sheet holds, and where it has none what it held
pub record CarriesOver (old new : List ℕ) : Type 0 where
  pub only_delays : OnlyDelays new (carried old new)
  pub again : verdict (carried old new) ≡ verdict new
  pub taken : (q r : ℕ) → Partners old new q r → held_at (carried old new) r ≡ held_at old q
  pub kept : (r : ℕ) → r < count new → kind_at new r ≡ expression delay → ((q : ℕ) → Partners old new q r → ⊥)
      → held_at (carried old new) r ≡ held_at new r

-- A call that nothing refuses leaves that sheet in the next slice.
abbrev pub CarriedOver : Type 0
CarriedOver =
    (old new next : List ℕ) → CarryFormed old new next
    → (final_carried old new next ≡ carried old new) × CarriesOver old new

-- every delay of the sheet is labelled, and no label stands twice
pub record AllLabels (s : List ℕ) : Type 0 where
  pub each : (r : ℕ) → r < count s → kind_at s r ≡ expression delay → 0 < label s r
  pub once : lowest (label_twice s) (count s) ≡ none

-- When every delay is labelled and no label stands twice, carrying a running sheet into the sheet that it began as gives the running
-- sheet: one that is accepted and differs from it in delay leaves alone,
abbrev pub CarriedBack : Type 0
CarriedBack =
    (s running : List ℕ) (t t' : ℕ) → verdict s ≡ Accepted t → verdict running ≡ Accepted t' → AllLabels s → OnlyDelays s running
    → (next : List ℕ) → length next ≡ length s
    → (carry_answer running s next ≡ Done 0) × (final_carried running s next ≡ running)

-- so in particular one to which a run leads, over any list of inputs and under every lawful rule for an undecided IF.
abbrev pub CarriedAfterRun : Type 0
CarriedAfterRun =
    (undecided : List ℕ → List ℕ → List ℕ) → Lawful undecided
    → (s : List ℕ) (t : ℕ) → verdict s ≡ Accepted t → AllLabels s
    → (inputs : List (List ℕ)) → AllOf (input_type s) inputs
    → (next : List ℕ) → length next ≡ length s
    → (carry_answer (sheet_after undecided s inputs) s next ≡ Done 0)
    × (final_carried (sheet_after undecided s inputs) s next ≡ sheet_after undecided s inputs)

-- And of two calls, the run and then carrying, whatever they gave by their contracts: the running
-- sheet is what a well-formed call of the run left in its next slice, over any number of cycles,
-- none included; carrying answers 0 at place 0 and leaves it in the next slice again, byte for
-- byte, whatever that slice held.
abbrev pub CarriedBackByCalls : Type 0
CarriedBackByCalls =
    (s stimulus outputs running : List ℕ) → FormedCall s stimulus outputs running → AllLabels s
    → (lent : List ℕ) → length lent ≡ length s
    → (result : ℕ) (next : List ℕ) → CarryGiven running s lent result next
    → (result ≡ in_one 0 0) × (next ≡ running)

-- Nothing else depends on labels: two sheets that differ in the delays' words d alone have the same verdict; run over any inputs, under
-- any rule, they give the same outputs and sheets that differ in those words alone; and so does each call of the run.
pub record LabelsIgnored (s s' : List ℕ) : Type 0 where
  pub same_verdict : verdict s' ≡ verdict s
  pub same_outputs : (undecided : List ℕ → List ℕ → List ℕ) (inputs : List (List ℕ))
      → outputs_by undecided s' inputs ≡ outputs_by undecided s inputs
  pub same_after : (undecided : List ℕ → List ℕ → List ℕ) (inputs : List (List ℕ))
      → OnlyLabels (sheet_after undecided s inputs) (sheet_after undecided s' inputs)
  pub same_answer : (stimulus out next : List ℕ) → answer s' stimulus out next ≡ answer s stimulus out next
  pub same_out : (stimulus out next : List ℕ) → final_out s' stimulus out next ≡ final_out s stimulus out next
  pub same_next : (stimulus out next : List ℕ) → OnlyLabels (final_next s stimulus out next) (final_next s' stimulus out next)

abbrev pub LabelsAlone : Type 0
LabelsAlone = (s s' : List ℕ) → OnlyLabels s s' → LabelsIgnored s s'

-- A run keeps the labels: each sheet after it has those of the sheet that it began from.
abbrev pub LabelsKept : Type 0
LabelsKept =
    (undecided : List ℕ → List ℕ → List ℕ) → Lawful undecided
    → (s : List ℕ) (t : ℕ) → verdict s ≡ Accepted t → (inputs : List (List ℕ)) → AllOf (input_type s) inputs
    → (r : ℕ) → label (sheet_after undecided s inputs) r ≡ label s r

-- all of them
pub record CarryPromises : Type 0 where
  pub carry_laws : CarryLaws
  pub carried_over : CarriedOver
  pub carried_back : CarriedBack
  pub carried_after_run : CarriedAfterRun
  pub carried_back_by_calls : CarriedBackByCalls
  pub labels_alone : LabelsAlone
  pub labels_kept : LabelsKept
