-- Nothing else depends on labels: two sheets that differ in the delays' words d alone have the same term, so each cycle gives the
-- same output and the same delay values; what is put into both leaves them different in labels alone. By induction on the tree, the
-- entries and the inputs.
-- Assumes nothing.
use Prim.Native.Nat.{ℕ, zero, suc, ◌+◌, ◌*◌}
use mathlib.Core.Bool.{Bool}
use mathlib.Core.List.{List, [], ◌∷◌, ◌++◌}
use mathlib.Core.Path.{◌≡◌, refl, sym, ap, ap₂, fun_ext, ◌∙◌}
use native.Mathlib.Omega.{arith}
use lib.ListN.{length, get_or, set, length-set}
use Rattle.records.specs.Words.{word, word_a, low_byte, high_byte}
use Rattle.records.specs.Kinds.{kind_of}
use Rattle.records.specs.Says.{kind_at}
use Rattle.records.specs.Trees.{
  type_at,
  Alternatives,
  end,
  no_pattern,
  whole_type,
  one_constructor,
  pair_of_patterns,
  Tree,
  no_expression,
  constant_of,
  name_of,
  tuple_of,
  first_of,
  second_of,
  let_of,
  feedback_of,
  if_of,
  delay_of,
  circuit,
  type_record_of,
}
use Rattle.records.specs.Decoding.{pattern_of}
use Rattle.records.specs.Rewritten.{Rewritten}
use Rattle.records.specs.OnlyLabels.{OnlyLabels}
use Rattle.records.proofs.Rewritten.{same-type, same-circuit}
use Rattle.records.proofs.Labels.{labels-words, labels-rewritten}
use Rattle.answers.specs.Answers.{lowest, when_done, on_done, check, when, first_applying, verdict_answer}
use Rattle.answers.specs.Answers.{Answer}
use Rattle.answers.specs.Answers.{Done, Refused}
use Rattle.verdict.specs.Scopes.{inputs}
use Rattle.accepted.proofs.LabelsAgain.{leaf-values-same, type-record-same, verdict-same}
use Rattle.meaning.specs.Undecided.{undecided_rule}
use Rattle.meaning.specs.Evaluation.{eval, next}
use Rattle.stimulus.specs.Stimulus.{input_type, cycle_count, cycles, wrong_stimulus, wrong_byte, stimulus_checks}
use Rattle.behaviour.specs.Terms.{term, circuit_term}
use Rattle.behaviour.specs.Delays.{entries}
use Rattle.behaviour.specs.Entries.{Entry, put_all, put_word}
use Rattle.behaviour.specs.Sheets.{write}
use Rattle.behaviour.specs.Cycle.{output_by, after_by}
use Rattle.behaviour.specs.Run.{outputs_by, sheet_after, length_checks, by_slices, answer, final_out, final_next}
use Rattle.behaviour.proofs.Cells.{put-length, put_byte}
use Rattle.carry.specs.Promises.{LabelsAlone}

-- the same term
module _ {s s' : List ℕ} (o : OnlyLabels s s') where
  only : Rewritten s s'
  only = labels-rewritten o

  pattern-same : (m : Alternatives) → pattern_of s' m ≡ pattern_of s m
  pattern-same end = refl
  pattern-same no_pattern = refl
  pattern-same (whole_type r t m) = rw (same-type only t, pattern-same m)
  pattern-same (one_constructor r t k m) = rw (labels-words o t 2 (omega arith), pattern-same m)
  pattern-same (pair_of_patterns r a b m) = rw (pattern-same a, pattern-same b, pattern-same m)

  first-type : (Γ : List ℕ) (a : Tree) → type_at s' (word_a s' (type_record_of s' Γ a)) ≡ type_at s (word_a s (type_record_of s Γ a))
  first-type Γ a =
      same-type only (word_a s' (type_record_of s' Γ a))
      ∙ ap (type_at s) (ap (word_a s') (type-record-same o Γ a) ∙ labels-words o (type_record_of s Γ a) 2 (omega arith))

  term-same : (Γ : List ℕ) (e : Tree) → term s' Γ e ≡ term s Γ e
  term-same Γ no_expression = refl
  term-same Γ (constant_of r t ls) = rw (same-type only t, leaf-values-same o ls)
  term-same Γ (name_of r k) = refl
  term-same Γ (tuple_of r a b) = rw (term-same Γ a, term-same Γ b)
  term-same Γ (first_of r a) = rw (first-type Γ a, term-same Γ a)
  term-same Γ (second_of r a) = rw (first-type Γ a, term-same Γ a)
  term-same Γ (let_of r a b) = rw (term-same Γ a, type-record-same o Γ a, term-same (type_record_of s Γ a ∷ Γ) b)
  term-same Γ (feedback_of r t a b) = rw (same-type only t, term-same (t ∷ Γ) a, term-same (t ∷ Γ) b)
  term-same Γ (if_of r a p b c) = rw (term-same Γ a, pattern-same p, term-same Γ b, term-same Γ c)
  term-same Γ (delay_of r t ls a) = rw (same-type only t, leaf-values-same o ls, term-same Γ a)

  circuit-term-same : circuit_term s' ≡ circuit_term s
  unfolding circuit_term
  circuit-term-same = rw (labels-words o 0 2 (omega arith), same-circuit only) (term-same (inputs s) (circuit s))

  input-same : input_type s' ≡ input_type s
  input-same = same-type only (word_a s' 0) ∙ ap (type_at s) (labels-words o 0 2 (omega arith))

-- a put changes no kind
put-kind : (l v : ℕ) (a : List ℕ) (r : ℕ) → kind_at (put_word l v a) r ≡ kind_at a r
unfolding word
put-kind l v a r =
    ap kind_of
    (ap₂ (λ x y. x + 256 * y) (put_byte (12 * r + 2 * 0) l v a (λ e. omega arith) (λ e. omega arith))
    (put_byte (12 * r + 2 * 0 + 1) l v a (λ e. omega arith) (λ e. omega arith)))

-- a byte set in two lists of one length
set_both : (xs ys : List ℕ) (j v i : ℕ) → length ys ≡ length xs → get_or ys i 0 ≡ get_or xs i 0 → get_or (set ys j v) i 0 ≡ get_or (set xs j v) i 0
set_both [] [] j v i l e = e
set_both [] (y ∷ ys) j v i l e = absurd (omega arith)
set_both (x ∷ xs) [] j v i l e = absurd (omega arith)
set_both (x ∷ xs) (y ∷ ys) zero v zero l e = refl
set_both (x ∷ xs) (y ∷ ys) zero v (suc i) l e = e
set_both (x ∷ xs) (y ∷ ys) (suc j) v zero l e = e
set_both (x ∷ xs) (y ∷ ys) (suc j) v (suc i) l e = set_both xs ys j v i (omega arith) e

put-labels : (l v : ℕ) (a b : List ℕ) → OnlyLabels a b → OnlyLabels (put_word l v a) (put_word l v b)
put-labels l v a b o =
    record {
      length = put-length l v b ∙ o.length ∙ sym (put-length l v a);
      bytes = λ i other.
          set_both (set a (low_byte l) v) (set b (low_byte l) v) (high_byte l) 0 i
          (length-set b (low_byte l) v ∙ o.length ∙ sym (length-set a (low_byte l) v))
          (set_both a b (low_byte l) v i o.length (o.bytes i (λ r e. other r (put-kind l v a r ∙ e))));
    }

entries-labels : (es : List Entry) (a b : List ℕ) → OnlyLabels a b → OnlyLabels (put_all put_word es a) (put_all put_word es b)
entries-labels [] a b o = o
entries-labels (e ∷ es) a b o =
    entries-labels es (put_word e.place e.value a) (put_word e.place e.value b) (put-labels e.place e.value a b o)

labels-refl : (s : List ℕ) → OnlyLabels s s
labels-refl s = record { length = refl; bytes = λ i other. refl }

-- a cycle, and a run
module _ (undecided : List ℕ → List ℕ → List ℕ) where
  output-same : {s s' : List ℕ} → OnlyLabels s s' → (i : List ℕ) → output_by undecided s' i ≡ output_by undecided s i
  unfolding output_by
  output-same o i = ap (eval undecided (i ∷ [])) (circuit-term-same o)

  after-labels : {s s' : List ℕ} → OnlyLabels s s' → (i : List ℕ) → OnlyLabels (after_by undecided s i) (after_by undecided s' i)
  unfolding after_by write
  after-labels {s} {s'} o i =
      rw (circuit-term-same o) (entries-labels (entries (next undecided (i ∷ []) (circuit_term s))) s s' o)

  outputs-same : (is : List (List ℕ)) (s s' : List ℕ) → OnlyLabels s s' → outputs_by undecided s' is ≡ outputs_by undecided s is
  outputs-same [] s s' o = refl
  outputs-same (i ∷ is) s s' o =
      ap₂ ◌∷◌ (output-same o i) (outputs-same is (after_by undecided s i) (after_by undecided s' i) (after-labels o i))

  run-labels : (is : List (List ℕ)) (s s' : List ℕ) → OnlyLabels s s' → OnlyLabels (sheet_after undecided s is) (sheet_after undecided s' is)
  run-labels [] s s' o = o
  run-labels (i ∷ is) s s' o = run-labels is (after_by undecided s i) (after_by undecided s' i) (after-labels o i)

-- a call of the run
module _ {s s' : List ℕ} (o : OnlyLabels s s') (stim : List ℕ) where
  count_same : cycle_count s' stim ≡ cycle_count s stim
  count_same = rw (input-same o) refl

  cycles-same : cycles s' stim ≡ cycles s stim
  unfolding cycles
  cycles-same = rw (input-same o) refl

  whole_same : wrong_stimulus s' stim ≡ wrong_stimulus s stim
  unfolding wrong_stimulus
  whole_same = rw (input-same o) refl

  byte-same : (i : ℕ) → wrong_byte s' stim i ≡ wrong_byte s stim i
  unfolding wrong_byte
  byte-same i = rw (input-same o) refl

  stimulus-checks-same : stimulus_checks s' stim ≡ stimulus_checks s stim
  stimulus-checks-same =
      ap₂ (λ (b : Bool) (p : ℕ → Bool). check 8 (when b 0) ∷ check 9 (lowest p (length stim)) ∷ []) whole_same (fun_ext byte-same)

  module _ (out next_slice : List ℕ) where
    length-checks-same : (t : ℕ) → length_checks s' t stim out next_slice ≡ length_checks s t stim out next_slice
    length-checks-same t = rw (input-same o, same-type (labels-rewritten o) t, o.length) refl

    slices-same : (t : ℕ) → by_slices s' t stim out next_slice ≡ by_slices s t stim out next_slice
    unfolding by_slices
    slices-same t =
        ap₂ (λ ks n. first_applying ks (Done n)) (ap₂ ◌++◌ stimulus-checks-same (length-checks-same t)) count_same

    answer-same : answer s' stim out next_slice ≡ answer s stim out next_slice
    unfolding answer
    answer-same = ap₂ on_done (ap verdict_answer (verdict-same o)) (fun_ext slices-same)

    final-out-same : final_out s' stim out next_slice ≡ final_out s stim out next_slice
    unfolding final_out
    final-out-same = rw (answer-same, cycles-same, outputs-same undecided_rule (cycles s stim) s s' o) refl

    final-next-labels : OnlyLabels (final_next s stim out next_slice) (final_next s' stim out next_slice)
    unfolding final_next
    final-next-labels = rw (answer-same, cycles-same) (go (answer s stim out next_slice))
      where
        go : (a : Answer)
            → OnlyLabels (when_done a (sheet_after undecided_rule s (cycles s stim)) next_slice) (when_done a (sheet_after undecided_rule s' (cycles s stim)) next_slice)
        go (Done p) = run-labels undecided_rule (cycles s stim) s s' o
        go (Refused c p) = labels-refl next_slice

pub labels_alone : LabelsAlone
labels_alone s s' o =
    record {
      same_verdict = verdict-same o;
      same_outputs = λ undecided is. outputs-same undecided is s s' o;
      same_after = λ undecided is. run-labels undecided is s s' o;
      same_answer = λ stim out next_slice. answer-same o stim out next_slice;
      same_out = λ stim out next_slice. final-out-same o stim out next_slice;
      same_next = λ stim out next_slice. final-next-labels o stim out next_slice;
    }
