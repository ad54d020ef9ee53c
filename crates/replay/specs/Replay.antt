-- Replaying a record (docs/SHEETS.md, "Replaying a record"): whether recorded outputs are those
-- that the sheet makes for the stimulus, and if not, "the first cycle whose outputs differ and its
-- lowest differing leaf". The checks are those of a run, where 17, for recorded outputs of another
-- length, stands in the place of 10. Where nothing refuses, the answer is 0 at place 0, with what
-- is found beside it.
use Rattle.std.specs.Prelude.{ℕ, zero, suc, ◌≡◌, Bool, not, List, [], ◌∷◌, ◌++◌, length, get_or, eqb}
use Rattle.std.proofs.Math.Option.{Option, none, some}
use Rattle.answers.specs.Answers.{packed, when_done, lowest, Check, check, when, first_applying}
use Rattle.answers.specs.Answers.{Answer}
use Rattle.answers.specs.Answers.{Done, Refused}
use Rattle.verdict.specs.Verdict.{sheet_checks, output_type}
use Rattle.meaning.specs.Undecided.{undecided_rule}
use Rattle.stimulus.specs.Stimulus.{cycle_count, cycles, stimulus_checks}
use Rattle.behaviour.specs.Run.{outputs_by, sheet_after, output_leaves, output_needed}
use Rattle.behaviour.specs.Afterwards.{output_in}

-- what is found of a record: its outputs are those of the run, in so many cycles, or the first cycle whose outputs differ, and its
-- lowest differing leaf
pub data Finding : Type 0 where
  Agrees : (cycles : ℕ) → Finding
  Differs : (cycle leaf : ℕ) → Finding

-- the outputs of cycle k of the run, and the part of the record that is cycle k's
abbrev pub output_of : (sheet stimulus : List ℕ) → ℕ → List ℕ
output_of s stim k = get_or (outputs_by undecided_rule s (cycles s stim)) k []

abbrev pub recorded_of : (sheet recorded : List ℕ) → ℕ → List ℕ
recorded_of s recorded k = output_in s (output_type s) recorded k

-- leaf l of two values differs
abbrev pub leaf_differs : (value other : List ℕ) → ℕ → Bool
leaf_differs v u l = not (eqb (get_or v l 0) (get_or u l 0))

-- the lowest leaf, of so many, in which they differ
abbrev pub lowest_differing : (leaves : ℕ) (value other : List ℕ) → Option ℕ
lowest_differing w v u = lowest (leaf_differs v u) w

-- what is found up to a cycle, from what was found before it and its lowest differing leaf
abbrev pub or_cycle : Finding → (cycle : ℕ) → Option ℕ → Finding
or_cycle (Differs k l) n found = Differs k l
or_cycle (Agrees m) n none = Agrees (suc n)
or_cycle (Agrees m) n (some l) = Differs n l

-- what is found in the first so many cycles
abbrev pub found_in : (sheet stimulus recorded : List ℕ) → ℕ → Finding
found_in s stim recorded zero = Agrees 0
found_in s stim recorded (suc k) =
    or_cycle (found_in s stim recorded k) k
    (lowest_differing (output_leaves s) (output_of s stim k) (recorded_of s recorded k))

-- and in all of them
unfoldable pub finding : (sheet stimulus recorded : List ℕ) → Finding
finding s stim recorded = found_in s stim recorded (cycle_count s stim)

-- the checks after those of the sheet: 8 and 9, then 17, where the record is not as long as the
-- outputs of all cycles, then 11
abbrev pub record_checks : (sheet stimulus recorded next : List ℕ) → List Check
record_checks s stim recorded next =
    stimulus_checks s stim
    ++ (check 17 (when (not (eqb (length recorded) (output_needed s (output_type s) stim))) (output_needed s (output_type s) stim))
    ∷ check 11 (when (not (eqb (length next) (length s))) (length s))
    ∷ [])

-- all checks of a replay, in their order
abbrev pub replay_checks : (sheet stimulus recorded next : List ℕ) → List Check
replay_checks s stim recorded next = sheet_checks s ++ record_checks s stim recorded next

unfoldable pub replay_answer : (sheet stimulus recorded next : List ℕ) → Answer
replay_answer s stim recorded next = first_applying (replay_checks s stim recorded next) (Done 0)

-- the numbers beside the answer: whether the record differs, the first differing cycle or else the
-- cycles done, and its lowest differing leaf; all 0 on a refusal
abbrev pub differs_given : Answer → Finding → ℕ
differs_given (Refused c p) f = 0
differs_given (Done p) (Agrees n) = 0
differs_given (Done p) (Differs k l) = 1

abbrev pub cycle_given : Answer → Finding → ℕ
cycle_given (Refused c p) f = 0
cycle_given (Done p) (Agrees n) = n
cycle_given (Done p) (Differs k l) = k

abbrev pub leaf_given : Answer → Finding → ℕ
leaf_given (Refused c p) f = 0
leaf_given (Done p) (Agrees n) = 0
leaf_given (Done p) (Differs k l) = l

-- an agreeing record leaves the same next sheet as a run; a differing one leaves the next slice
-- unaltered
abbrev pub when_agreed : Finding → (computed entry : List ℕ) → List ℕ
when_agreed (Agrees n) new old = new
when_agreed (Differs k l) new old = old

-- the next slice at the end
unfoldable pub final_replay : (sheet stimulus recorded next : List ℕ) → List ℕ
final_replay s stim recorded next =
    when_done (replay_answer s stim recorded next)
    (when_agreed (finding s stim recorded) (sheet_after undecided_rule s (cycles s stim)) next) next

-- what a call gives, for every content and length of the four slices: the numbers returned and the
-- final bytes
pub record ReplayGiven (sheet stimulus recorded next : List ℕ) (result differs cycle leaf : ℕ) (next' : List ℕ) : Type 0 where
  pub result_is : result ≡ packed (replay_answer sheet stimulus recorded next)
  pub differs_is : differs ≡ differs_given (replay_answer sheet stimulus recorded next) (finding sheet stimulus recorded)
  pub cycle_is : cycle ≡ cycle_given (replay_answer sheet stimulus recorded next) (finding sheet stimulus recorded)
  pub leaf_is : leaf ≡ leaf_given (replay_answer sheet stimulus recorded next) (finding sheet stimulus recorded)
  pub next_is : next' ≡ final_replay sheet stimulus recorded next
