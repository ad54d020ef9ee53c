-- The promises of what can still happen: what every call promises, and of calls that return 0 what
-- the theorems on sheets and sets say of their bytes.
-- Assumes nothing.
use Prim.Native.Nat.{ℕ, zero, suc, ◌≤◌}
use mathlib.Core.Bool.{true, not}
use mathlib.Core.List.{List, [], ◌∷◌, map}
use mathlib.Core.Logic.{◌⊎◌, inl, inr, ◌≢◌}
use mathlib.Core.Path.{◌≡◌, refl, ap, ap₂, ◌∙◌}
use native.Mathlib.Omega.{arith}
use lib.Dec.{eqb}
use lib.ListN.{length, get_or, replicate}
use borrow.Author.Tests.{eq-eqb}
use Rattle.picoella.specs.Language.{bounds, OfType}
use Rattle.records.specs.Words.{count}
use Rattle.records.specs.Trees.{type_at}
use Rattle.answers.specs.Answers.{Check, check, when, NoneApplies}
use Rattle.answers.specs.GivenSlices.{SmallPlaces, no_slice, one_slice}
use Rattle.answers.specs.Answers.{Done}
use Rattle.answers.proofs.First.{when-none, when-some, none-split, same-length-by}
use Rattle.answers.proofs.Lowest.{lowest-some-passes}
use Rattle.answers.proofs.StandardLaws.{zero-done}
use Rattle.verdict.specs.Verdict.{sheet_checks, verdict, output_type}
use Rattle.answers.specs.Answers.{Accepted}
use Rattle.accepted.proofs.Calls.{none-of-call, call-laws, accepted-output}
use Rattle.accepted.proofs.Laws.{first-accepted}
use Rattle.accepted.proofs.Small.{accepted-few, accepted-sized}
use Rattle.stimulus.specs.Stimulus.{input_type}
use Rattle.stimulus.specs.OneCycle.{not_one_cycle, one_cycle_checks}
use Rattle.stimulus.specs.OneCycleCalls.{FormedOneCycle}
use Rattle.stimulus.proofs.OneCycle.{one-cycle-typed}
use Rattle.stimulus.proofs.OneCycleCalls.{after-cycle-small}
use Rattle.meaning.specs.Undecided.{undecided_rule}
use Rattle.meaning.specs.RuleLaws.{undefined_leaves, Lawful}
use Rattle.meaning.proofs.Order.{bounds-length}
use Rattle.meaning.proofs.UndecidedRule.{rule-lawful}
use Rattle.meaning.proofs.UndefinedLeavesLawful.{undefined_lawful}
use Rattle.behaviour.specs.Cycle.{output_by, output}
use Rattle.behaviour.specs.Run.{output_leaves}
use Rattle.preview.specs.Preview.{final_preview, Previewed}
use Rattle.preview.proofs.Answered.{preview_laws}
use Rattle.possibilities.specs.Sets.{ConstructorSet, is_in, every_one, only_one, members}
use Rattle.possibilities.specs.Filling.{SomeOf, Subset, InsideLeaves, inside_none, inside_leaf, Narrowed, narrowed_none, narrowed_leaf, Full, full_none, full_leaf}
use Rattle.possibilities.proofs.SetLaws.{in-every, only-members, every-members}
use Rattle.possibilities.proofs.Kept.{members-some, members-inside}
use Rattle.possible.specs.Possible.{possible_sets, possible_counts, past_sets, own_set_checks, possible_checks, possible_answer, final_counts, PossibleGiven}
use Rattle.possible.specs.Fillings.{CallFilled}
use Rattle.possible.proofs.Kept.{outputs-lie-in, sets-shrink-filled, defined-alone, outputs-full}
use Rattle.remaining.specs.Promises.{FormedPossible, PossibleLaws, CountsOfSets, FilledShown, ShownAlone, FilledLess, AllOnes, ByRule, UnderBothRules}

-- what every call promises
module _ (s stim out : List ℕ) where
  abbrev last : List Check
  last = check 10 (when (not (eqb (length out) (output_leaves s))) (output_leaves s)) ∷ []

  possible-formed : NoneApplies (possible_checks s stim out) → FormedPossible s stim out
  possible-formed h =
      let p = none-split (sheet_checks s) (own_set_checks s stim out) h in
      record {
        accepted = first-accepted s p.0;
        for_sets = p.1.0;
        one_cycle = when-none (not_one_cycle s stim) 0 p.1.1.0;
        fitting = p.1.1.1.0;
        room = same-length-by (length out) (output_leaves s) (output_leaves s) p.1.1.1.1.0;
      }

  formed-possible : FormedPossible s stim out → NoneApplies (possible_checks s stim out)
  formed-possible h =
      none-of-call s (own_set_checks s stim out) (output_type s) h.accepted
      (h.for_sets, (rw h.one_cycle refl, (h.fitting, (rw (eq-eqb (length out) (output_leaves s) h.room) refl, tt))))

  own-places : (t : ℕ) → verdict s ≡ Accepted t → SmallPlaces (own_set_checks s stim out) 0
  own-places t v = (
    λ p e.
        let l = (lowest-some-passes (past_sets s) (count s) p e).0 in
        let z = accepted-sized v in
        let c = z.counted in
        let f = z.few in
        omega arith,
    λ e.
        after-cycle-small s stim last (
          λ p h.
              let z = when-some (not (eqb (length out) (output_leaves s))) (output_leaves s) p h in
              let f : output_leaves s ≤ 64 = rw (accepted-output s t v) at (accepted-few s v) in
              omega arith,
          λ h. omega arith,
        ),
  )

pub possible_laws : PossibleLaws
unfolding possible_answer final_counts
possible_laws s stim out =
    call-laws s (own_set_checks s stim out) (possible-formed s stim out, formed-possible s stim out) refl refl (own-places s stim out)
    (one_slice (possible_counts s stim) no_slice)

-- calls that return 0
done-counts : {s i out counts : List ℕ} → PossibleGiven s i out 0 counts → FormedPossible s i out × (counts ≡ possible_counts s i)
unfolding final_counts
done-counts {s} {i} {out} g =
    let e = zero-done (possible_laws s i out) g.result_is in
    ((((possible_laws s i out).lowest_first (Done 0)).0 e).0, g.out_is ∙ rw e refl)

done-preview : {s i out shown : List ℕ} → Previewed s i out 0 shown → FormedOneCycle s i out (output_leaves s) × (shown ≡ output s i)
unfolding final_preview
done-preview {s} {i} {out} g =
    let e = zero-done (preview_laws s i out) g.result_is in
    ((((preview_laws s i out).lowest_first (Done 0)).0 e).0, g.out_is ∙ rw e refl)

input-typed : {s i out : List ℕ} → FormedPossible s i out → OfType (input_type s) i
input-typed {s} {i} h =
    let passes : NoneApplies (one_cycle_checks s i) = (rw h.one_cycle refl, (h.fitting, tt)) in one-cycle-typed s i passes

-- leaf by leaf
alone-leaf : (v : ℕ) (S : ConstructorSet) → v ≢ 0 → (v ≡ 0) ⊎ (S ≡ only_one v) → (S ≡ only_one v) × (members S ≡ 1)
alone-leaf v S f (inl e) = absurd (f e)
alone-leaf zero S f (inr e) = absurd (f refl)
alone-leaf (suc v) S f (inr e) = (e, ap members e ∙ only-members v)

alone_at : {b v : List ℕ} {Ss : List ConstructorSet} → Narrowed b v Ss → (k : ℕ) → get_or v k 0 ≢ 0
    → (get_or Ss k [] ≡ only_one (get_or v k 0)) × (get_or (map members Ss) k 0 ≡ 1)
alone_at narrowed_none k f = absurd (f refl)
alone_at (narrowed_leaf {v = v} {S = S} i j o n) zero f = alone-leaf v S f o
alone_at (narrowed_leaf i j o n) (suc k) f = alone_at n k f

less-at : {b : List ℕ} {Ss Ts : List ConstructorSet} → InsideLeaves b Ss Ts → (k : ℕ)
    → Subset (get_or Ss k []) (get_or Ts k []) × (get_or (map members Ss) k 0 ≤ get_or (map members Ts) k 0)
less-at inside_none k = (λ c h. h, omega arith)
less-at (inside_leaf {S = S} {T = T} h j u r) zero = (u, members-inside S T u)
less-at (inside_leaf h j u r) (suc k) = less-at r k

in_all : (n : ℕ) (S : ConstructorSet) (c : ℕ) → is_in S c ≡ true → c ≤ n → is_in (every_one n) c ≡ true
in_all n S zero h l = h
in_all n S (suc i) h l = in-every n i l

members-few : (n : ℕ) (S : ConstructorSet) → SomeOf n S → members S ≤ n
members-few n S j = rw (every-members n) at (members-inside S (every_one n) (λ c h. in_all n S c h (j.within c h)))

counts-full : {b v : List ℕ} {Ss : List ConstructorSet} → Narrowed b v Ss → Full b (map members Ss)
counts-full narrowed_none = full_none
counts-full (narrowed_leaf {n = n} {S = S} i j o r) =
    full_leaf (members-some S j.one j.not_empty) (members-few n S j) (counts-full r)

ones-all : {b v : List ℕ} {Ss : List ConstructorSet} → Full b v → Narrowed b v Ss → map members Ss ≡ replicate (length b) 1
ones-all full_none narrowed_none = refl
ones-all (full_leaf {v = v} h k f) (narrowed_leaf {S = S} i j o r) =
    ap₂ ◌∷◌ (alone-leaf v S (λ z. omega arith) o).1 (ones-all f r)

-- the sets beside the outputs by a lawful rule
narrowed-by : (rule : List ℕ → List ℕ → List ℕ) → Lawful rule → {s i out : List ℕ} → FormedPossible s i out
    → Narrowed (bounds (type_at s (output_type s))) (output_by rule s i) (possible_sets s i)
narrowed-by rule law {s} {i} h = defined-alone rule law s i (output_type s) h.accepted h.for_sets (input-typed h)

pub counts_of_sets : CountsOfSets
unfolding possible_counts
counts_of_sets s i counts p =
    let a = done-counts p.1 in
    (a.1, rw a.1 (counts-full (narrowed-by undecided_rule rule-lawful a.0)))

pub filled_shown : FilledShown
filled_shown s s' i i' counts shown p q f fs fi =
    let a = done-counts p.1 in
    let b = done-preview q.1 in
    rw b.1
    (outputs-lie-in undecided_rule rule-lawful s s' i i'
    (record {
      type = output_type s;
      type' = output_type s';
      accepted = a.0.accepted;
      accepted' = b.0.accepted;
      for_sets = a.0.for_sets;
      sheet_filled = f.sheet_filled;
      input_filled = f.input_filled;
    })
    fs fi)

pub shown_alone : ShownAlone
unfolding possible_counts
shown_alone s i counts shown p q k =
    let a = done-counts p.1 in
    let b = done-preview q.1 in
    rw (a.1, b.1) (alone_at (narrowed-by undecided_rule rule-lawful a.0) k)

pub filled_less : FilledLess
unfolding possible_counts
filled_less s s' i i' counts counts' p q f k =
    let a = done-counts p.1 in
    let b = done-counts q.1 in
    let c : CallFilled s s' i i' =
    record {
      type = output_type s;
      type' = output_type s';
      accepted = a.0.accepted;
      accepted' = b.0.accepted;
      for_sets = a.0.for_sets;
      sheet_filled = f.sheet_filled;
      input_filled = f.input_filled;
    } in
    rw (a.1, b.1) (less-at (sets-shrink-filled s s' i i' c) k)

pub all_ones : AllOnes
unfolding possible_counts
all_ones s i counts p fs fi =
    let a = done-counts p.1 in
    a.1
    ∙ ones-all (outputs-full undecided_rule rule-lawful s i (output_type s) a.0.accepted a.0.for_sets fs fi)
    (narrowed-by undecided_rule rule-lawful a.0)
    ∙ ap (λ (n : ℕ). replicate n 1) (bounds-length (type_at s (output_type s)))

by-rule : (rule : List ℕ → List ℕ → List ℕ) → Lawful rule → ByRule rule
unfolding possible_counts
by-rule rule law =
    record {
      lie_in = outputs-lie-in rule law;
      alone = λ s i t v none typed k f. alone_at (defined-alone rule law s i t v none typed) k f;
      defined = outputs-full rule law;
    }

pub both_rules : UnderBothRules
both_rules = (by-rule undecided_rule rule-lawful, by-rule undefined_leaves undefined_lawful)
