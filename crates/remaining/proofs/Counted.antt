-- The call: what each way out gives.
-- Assumes nothing.
use Prim.Native.Nat.{ℕ, ◌≤◌, ◌<◌}
use mathlib.Core.Bool.{not}
use mathlib.Core.List.{List, [], ◌∷◌}
use mathlib.Core.Option.{none, some}
use mathlib.Core.Path.{◌≡◌, refl, sym, ap, ◌∙◌}
use native.Mathlib.Omega.{arith}
use lib.Dec.{eqb}
use lib.ListN.{length, get_or}
use borrow.Author.Tests.{eq-eqb, ne_eqb}
use Rattle.picoella.specs.Language.{leaves}
use Rattle.records.specs.Words.{count}
use Rattle.records.specs.Trees.{type_at}
use Rattle.answers.specs.Answers.{on_done, lowest, Check, check, when, first_applying}
use Rattle.answers.specs.Searches.{found}
use Rattle.std.specs.Prelude as Std
use Rattle.std.specs.Prelude.{Result, Ok, Err, IsErrAnd}
use Rattle.answers.specs.Results.{refusal_of, answer_of, verdict_of}
use Rattle.answers.specs.declared.Refusal.{Refusal}
use Rattle.answers.specs.declared.Fault.{Fault}
use Rattle.answers.specs.Answers.{Answer}
use Rattle.answers.specs.Answers.{Done, Refused}
use Rattle.answers.specs.Answers.{Accepted}
use Rattle.answers.proofs.Lowest.{lowest-some-passes}
use Rattle.answers.proofs.First.{first-both, first_then}
use Rattle.verdict.specs.Verdict.{verdict}
use Rattle.accepted.specs.Accepting.{Accepting}
use Rattle.accepted.proofs.Calls.{accepted-output, sheet-fault, sheet-accepted}
use Rattle.accepted.proofs.Small.{output-typed, accepted-few}
use Rattle.stimulus.specs.Holding.{HeldToOne}
use Rattle.stimulus.specs.OneCycle.{one_cycle_checks}
use Rattle.stimulus.proofs.OneCycle.{one-cycle-passes, one-cycle-typed}
use Rattle.behaviour.specs.Run.{output_leaves}
use Rattle.possible.specs.Possible.{past_sets, own_set_checks, possible_answer, possible_counts, final_counts}
use Rattle.remaining.specs.Remaining.{Counting, PossibleAnswered}

counts-refused : (s stim out : List ℕ) (c p : ℕ) → Refused c p ≡ possible_answer s stim out → PossibleAnswered s stim out (Refused c p) out
unfolding final_counts
counts-refused s stim out c p e = record { answer_is = e; out_is = rw (← e) refl }

-- 1 to 7
pub counts-refused-sheet : (s stim out : List ℕ) (r : Result ℕ Refusal) (f : Fault) → IsErrAnd r (λ e. e ≡ refusal_of f)
    → verdict_of (Err f) ≡ verdict s → PossibleAnswered s stim out (answer_of r) out
unfolding possible_answer
counts-refused-sheet s stim out (Ok x) f p q = absurd p
counts-refused-sheet s stim out (Err x) f p q = counts-refused s stim out _ _ (sheet-fault s (own_set_checks s stim out) (Done 0) (Err x) f p q)

module _ {s W : List ℕ} {t : ℕ} (g : Accepting s (count s) W) (v : verdict s ≡ Accepted t) where
  pub counts-type-there : t < 4096
  counts-type-there = let c = g.sized.counted in let f = g.sized.few in let h = (output-typed v).there in omega arith

  output-width : get_or W t 0 ≡ leaves (type_at s t)
  output-width = g.table.types t (output-typed v)

  pub counts-room-few : get_or W t 0 ≤ 64
  counts-room-few = let f = accepted-few s v in let e = output-width in omega arith

  needed : get_or W t 0 ≡ output_leaves s
  needed = output-width ∙ ap (λ (u : ℕ). leaves (type_at s u)) (accepted-output s t v)

  module _ (stim out : List ℕ) where
    -- 22
    pub past-small : (f : Std.Option ℕ) (r : ℕ) → found f ≡ lowest (past_sets s) (count s) → f ≡ Std.Some r → r < 4096
    past-small f r e h =
        let l : lowest (past_sets s) (count s) ≡ some r = sym e ∙ ap found h in
        let b = (lowest-some-passes (past_sets s) (count s) r l).0 in
        let w = g.sized.few in
        omega arith

    pub counts-refused-past : (f : Std.Option ℕ) (r : ℕ) → found f ≡ lowest (past_sets s) (count s) → f ≡ Std.Some r → PossibleAnswered s stim out (Refused 22 r) out
    unfolding possible_answer
    counts-refused-past f r e h =
        let l : lowest (past_sets s) (count s) ≡ some r = sym e ∙ ap found h in
        counts-refused s stim out 22 r (sym (sheet-accepted s (own_set_checks s stim out) (Done 0) t v ∙ rw l refl))

    module _ (f : Std.Option ℕ) (e : found f ≡ lowest (past_sets s) (count s)) (h : f ≡ Std.None) where
      none-past : lowest (past_sets s) (count s) ≡ none
      none-past = sym e ∙ ap found h

      abbrev last : List Check
      last = check 10 (when (not (eqb (length out) (output_leaves s))) (output_leaves s)) ∷ []

      module _ (a : Answer) (k : HeldToOne s stim a) where
        by_length : possible_answer s stim out ≡ on_done a (λ (i : ℕ). first_applying last (Done 0))
        unfolding possible_answer
        by_length =
            let rest : ℕ → Answer = λ i. first_applying last (Done 0) in
            sheet-accepted s (own_set_checks s stim out) (Done 0) t v
            ∙ rw none-past refl
            ∙ first-both (one_cycle_checks s stim) last (Done 0)
            ∙ first_then (one_cycle_checks s stim) 1 rest
            ∙ ap (λ (b : Answer). on_done b rest) (sym k.answered)

        -- 8 and 9
        pub counts-refused-input : (c p : ℕ) → a ≡ Refused c p → PossibleAnswered s stim out a out
        counts-refused-input c p ea = rw ea (counts-refused s stim out c p (sym (by_length ∙ rw ea refl)))

        module _ (i : ℕ) (ea : a ≡ Done i) where
          -- 10
          pub counts-refused-output : (length out ≡ get_or W t 0 → ⊥) → PossibleAnswered s stim out (Refused 10 (get_or W t 0)) out
          counts-refused-output d =
              rw needed
              (counts-refused s stim out 10 (output_leaves s)
              (sym (by_length ∙ rw (ea, ne_eqb (length out) (output_leaves s) (λ y. d (y ∙ sym needed))) refl)))

          module _ (y : length out ≡ get_or W t 0) where
            pub counting : Counting s (count s) W stim out
            counting =
                record {
                  accepting = g;
                  type = t;
                  accepted = v;
                  for_sets = none-past;
                  typed = one-cycle-typed s stim (one-cycle-passes s stim k ea);
                  room = y ∙ output-width;
                }

            pub counts-given : (out' : List ℕ) → out' ≡ possible_counts s stim → PossibleAnswered s stim out (Done 0) out'
            unfolding final_counts
            counts-given out' o =
                let d : possible_answer s stim out ≡ Done 0 =
                by_length ∙ rw (ea, eq-eqb (length out) (output_leaves s) (y ∙ needed)) refl in
                record { answer_is = sym d; out_is = rw (o, d) refl }
