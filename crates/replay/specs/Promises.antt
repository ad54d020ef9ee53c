-- What is promised of a replay: each promise a named type, and at the end the list of them. One
-- term of each stands in `proofs/Kept.antt`; the list wants them all.
use Rattle.std.specs.Prelude.{ℕ, ◌+◌, ◌/◌, ◌%◌, ◌<◌, ◌≡◌, ◌↔◌, ◌≢◌, Bool, true, false, List, [], ◌∷◌, ◌++◌, length, get_or, set, eqb}
use Rattle.std.proofs.Math.Option.{none}
use Rattle.answers.specs.Answers.{lowest}
use Rattle.answers.specs.StandardLaws.{lent_slice, StandardLaws}
use Rattle.answers.specs.Answers.{Answer}
use Rattle.answers.specs.Answers.{Done, Refused}
use Rattle.verdict.specs.Verdict.{output_type, verdict}
use Rattle.answers.specs.Answers.{Accepted}
use Rattle.meaning.specs.Undecided.{undecided_rule}
use Rattle.stimulus.specs.Stimulus.{cycle_count, end_to_end, cycles, wrong_stimulus, wrong_byte}
use Rattle.behaviour.specs.Run.{outputs_by, output_leaves, output_needed, answer, final_out, final_next, RunGiven, RunsByRules}
use Rattle.behaviour.specs.Bench.{toggle}
use Rattle.replay.specs.Replay.{Agrees, Differs}
use Rattle.replay.specs.Replay.{output_of, recorded_of, finding, replay_checks, replay_answer, final_replay, ReplayGiven}

-- a call to which no check applies
pub record FormedReplay (sheet stimulus recorded next : List ℕ) : Type 0 where
  pub accepted : verdict sheet ≡ Accepted (output_type sheet)
  pub whole : wrong_stimulus sheet stimulus ≡ false
  pub fitting : lowest (wrong_byte sheet stimulus) (length stimulus) ≡ none
  pub recorded_long : length recorded ≡ output_needed sheet (output_type sheet) stimulus
  pub next_long : length next ≡ length sheet

-- What every call promises (`StandardLaws` of `answers`). The call is lent one slice to write to.
abbrev pub ReplayLaws : Type 0
ReplayLaws =
    (s stim recorded next : List ℕ)
    → StandardLaws (replay_checks s stim recorded next) (FormedReplay s stim recorded next) 0 (replay_answer s stim recorded next)
    (lent_slice next (final_replay s stim recorded next) ∷ [])

-- 17 stands where 10 stands in a run: the answer is that of a run whose output slice is as long as the
-- record, with 17 for 10, and where that run is done 0 at place 0.
abbrev pub code_for10 : Bool → ℕ → ℕ
code_for10 true c = 17
code_for10 false c = c

abbrev pub as_replay : Answer → Answer
as_replay (Done n) = Done 0
as_replay (Refused c p) = Refused (code_for10 (eqb c 10) c) p

abbrev pub ReplayAsRun : Type 0
ReplayAsRun =
    (s stim recorded out next : List ℕ) → length out ≡ length recorded
    → replay_answer s stim recorded next ≡ as_replay (answer s stim out next)

-- A record that differs leaves the next slice unaltered, as a refusal does.
abbrev pub DifferingUnaltered : Type 0
DifferingUnaltered =
    (s stim recorded next : List ℕ) (k l : ℕ) → finding s stim recorded ≡ Differs k l → final_replay s stim recorded next ≡ next

-- Where nothing refuses, the record is found to agree exactly where it is the outputs of the run,
-- byte for byte, and then in all cycles.
abbrev pub AgreesExactly : Type 0
AgreesExactly =
    (s stim recorded next : List ℕ) → FormedReplay s stim recorded next
    → (n : ℕ) → finding s stim recorded ≡ Agrees n
    ↔ ((recorded ≡ end_to_end (outputs_by undecided_rule s (cycles s stim))) × (n ≡ cycle_count s stim))

-- So no two different records of one shift agree.
abbrev pub OneRecordAgrees : Type 0
OneRecordAgrees =
    (s stim recorded other next : List ℕ) → FormedReplay s stim recorded next → FormedReplay s stim other next
    → (n m : ℕ) → finding s stim recorded ≡ Agrees n → finding s stim other ≡ Agrees m → recorded ≡ other

-- By what a call gives that refuses nothing: where no difference is found, the call's bytes are a
-- run of 000's rules, with the record for its outputs and the bytes left in the next slice for its
-- next sheet; and where the record is the outputs of such a run, no difference is found.
abbrev pub AgreesByRules : Type 0
AgreesByRules =
    (s stim recorded next : List ℕ) (result differs cycle leaf : ℕ) (next' : List ℕ)
    → ReplayGiven s stim recorded next result differs cycle leaf next' → result ≡ 0
    → (differs ≡ 0 → RunsByRules s stim (output_type s) recorded next')
    × ((after : List ℕ) → RunsByRules s stim (output_type s) recorded after → differs ≡ 0)

-- cycle k is the first whose outputs differ, and l its lowest differing leaf
pub record FirstDifference (s stim recorded : List ℕ) (k l : ℕ) : Type 0 where
  pub in_list : k < cycle_count s stim
  pub none_before : (j : ℕ) → j < k → recorded_of s recorded j ≡ output_of s stim j
  pub a_leaf : l < output_leaves s
  pub none_lower : (m : ℕ) → m < l → get_or (recorded_of s recorded k) m 0 ≡ get_or (output_of s stim k) m 0
  pub differs : get_or (recorded_of s recorded k) l 0 ≢ get_or (output_of s stim k) l 0

-- It is found to differ at a cycle and a leaf exactly where these are the first and the lowest.
abbrev pub DiffersExactly : Type 0
DiffersExactly =
    (s stim recorded next : List ℕ) → FormedReplay s stim recorded next
    → (k l : ℕ) → finding s stim recorded ≡ Differs k l ↔ FirstDifference s stim recorded k l

-- An agreeing record leaves the same next sheet as a run with slices of the right lengths, and is
-- what that run puts out.
abbrev pub NextAsRun : Type 0
NextAsRun =
    (s stim recorded out next : List ℕ) (n : ℕ) → length out ≡ length recorded → replay_answer s stim recorded next ≡ Done 0
    → finding s stim recorded ≡ Agrees n
    → (final_replay s stim recorded next ≡ final_next s stim out next) × (recorded ≡ final_out s stim out next)

-- A run and a replay, by what both calls give. Of whatever outputs a run gave, a replay with a next
-- slice of the right length says that they agree, in as many cycles, and leaves the run's next
-- sheet;
abbrev pub OwnOutputsAgree : Type 0
OwnOutputsAgree =
    (s stim out next : List ℕ) (n ran : ℕ) (out' next' : List ℕ) → RunGiven s stim out next ran out' next'
    → answer s stim out next ≡ Done n
    → (lent : List ℕ) (result differs cycle leaf : ℕ) (lent' : List ℕ) → length lent ≡ length s
    → ReplayGiven s stim out' lent result differs cycle leaf lent'
    → (result ≡ 0) × (differs ≡ 0) × (cycle ≡ n) × (leaf ≡ 0) × (lent' ≡ next')

-- and where byte i of them is another, that they differ in that byte's cycle and leaf.
abbrev pub ChangedByteFound : Type 0
ChangedByteFound =
    (s stim out next : List ℕ) (n ran : ℕ) (out' next' : List ℕ) → RunGiven s stim out next ran out' next'
    → answer s stim out next ≡ Done n
    → (i b : ℕ) → i < length out' → b ≢ get_or out' i 0
    → (lent : List ℕ) (result differs cycle leaf : ℕ) (lent' : List ℕ) → length lent ≡ length s
    → ReplayGiven s stim (set out' i b) lent result differs cycle leaf lent'
    → (result ≡ 0) × (differs ≡ 1) × (cycle ≡ i / output_leaves s) × (leaf ≡ i % output_leaves s) × (lent' ≡ lent)

-- Two parts of a shift, one after the other. Of a whole record that agrees, the first part agrees.
abbrev pub FrontAgrees : Type 0
FrontAgrees =
    (s stim rest recorded others next : List ℕ) (n : ℕ)
    → replay_answer s stim recorded next ≡ Done 0 → replay_answer s (stim ++ rest) (recorded ++ others) next ≡ Done 0
    → finding s (stim ++ rest) (recorded ++ others) ≡ Agrees n → finding s stim recorded ≡ Agrees (cycle_count s stim)

-- Replayed in two parts: where the first agrees, in n cycles, the rest is replayed from the sheet
-- that it left, `after`. It agrees exactly where the whole does; it differs exactly where the whole
-- does, at the same leaf and n cycles earlier; and it leaves what the whole leaves.
pub record InParts (s stim rest recorded others next : List ℕ) (n : ℕ) (after : List ℕ) : Type 0 where
  pub rest_done : replay_answer after rest others next ≡ Done 0
  pub agrees_where : (m : ℕ) → finding after rest others ≡ Agrees m ↔ finding s (stim ++ rest) (recorded ++ others) ≡ Agrees (n + m)
  pub differs_where : (k l : ℕ)
      → finding after rest others ≡ Differs k l ↔ finding s (stim ++ rest) (recorded ++ others) ≡ Differs (n + k) l
  pub same_next : final_replay after rest others next ≡ final_replay s (stim ++ rest) (recorded ++ others) next

abbrev pub ReplayInParts : Type 0
ReplayInParts =
    (s stim rest recorded others next : List ℕ) (n : ℕ)
    → replay_answer s stim recorded next ≡ Done 0 → finding s stim recorded ≡ Agrees n
    → replay_answer s (stim ++ rest) (recorded ++ others) next ≡ Done 0
    → InParts s stim rest recorded others next n (final_replay s stim recorded next)

-- So it is with the sheet T on 1 2 1, whose outputs are 2 1 1.
abbrev pub ReplayToggle : Type 0
ReplayToggle =
    (replay_answer toggle (1 ∷ 2 ∷ 1 ∷ []) (2 ∷ 1 ∷ 1 ∷ []) toggle ≡ Done 0)
    × (finding toggle (1 ∷ 2 ∷ 1 ∷ []) (2 ∷ 1 ∷ 1 ∷ []) ≡ Agrees 3)
    × (finding toggle (1 ∷ 2 ∷ 1 ∷ []) (2 ∷ 9 ∷ 9 ∷ []) ≡ Differs 1 0)
    × (finding toggle [] [] ≡ Agrees 0)
    × (replay_answer toggle (1 ∷ 2 ∷ 1 ∷ []) (2 ∷ 1 ∷ []) toggle ≡ Refused 17 3)
    × (replay_answer toggle (1 ∷ 2 ∷ 1 ∷ []) (2 ∷ 1 ∷ []) [] ≡ Refused 17 3)
    × (replay_answer toggle (1 ∷ 2 ∷ 1 ∷ []) (2 ∷ 1 ∷ 2 ∷ []) [] ≡ Refused 11 204)

-- all of them
pub record ReplayPromises : Type 0 where
  pub replay_laws : ReplayLaws
  pub as_run : ReplayAsRun
  pub differing_unaltered : DifferingUnaltered
  pub agrees_exactly : AgreesExactly
  pub one_record_agrees : OneRecordAgrees
  pub agrees_by_rules : AgreesByRules
  pub differs_exactly : DiffersExactly
  pub next_as_run : NextAsRun
  pub own_outputs_agree : OwnOutputsAgree
  pub changed_byte_found : ChangedByteFound
  pub front_agrees : FrontAgrees
  pub in_parts : ReplayInParts
  pub toggle : ReplayToggle
