-- What judging an expression of each kind gives from what judging its parts gave: one law for each way out. A part that faults is
-- the fault; where none does, the last judgement decides. Assumes nothing.
use mathlib.Core.Path.{◌≡◌, refl, sym, ◌∙◌, ap, subst}
use mathlib.Core.List.{List, ◌∷◌, ◌++◌}
use mathlib.Core.Option.{Option, none, some}
use Prim.Native.Nat.{ℕ}
use lib.ListN.{length, get_or, set}
use Rattle.picoella.specs.Language.{leaves}
use Rattle.records.specs.Words.{word_a, word_b}
use Rattle.records.specs.Trees.{
  type_at,
  pair_of,
  Alternatives,
  Tree,
  constant_of,
  name_of,
  tuple_of,
  first_of,
  second_of,
  let_of,
  feedback_of,
  if_of,
  delay_of,
  type_record_of,
}
use Rattle.typing.specs.Judgements.{
  Judgement,
  leaves_fit,
  in_scope,
  pair_declared,
  pair_type,
  same_type,
  pattern_has,
  judge,
  judgements,
  first_failing,
}
use Rattle.typing.specs.Judging.{noted, TypesCounted, Judged, Closed}
use Rattle.typing.specs.ExpressionWidth.{width}
use Rattle.typing.specs.Outcomes.{Outcome}
use Rattle.typing.specs.Outcomes.{Sound, Fault}
use Rattle.typing.proofs.Outcomes.{Passed, faulted, fault-done, typed-done, closing-done, fault-first, then-second}

-- the width noted last, where the table before it is what the parts noted
noted-last : (e : Tree) (s Γ : List ℕ) (rec : ℕ) (middle parts : List ℕ) → middle ≡ parts → set middle rec (width s Γ e) ≡ set parts rec (width s Γ e)
noted-last e s Γ rec middle parts q = ap (λ (x : List ℕ). set x rec (width s Γ e)) q

-- no signature here determines the record
module _ (s Γ : List ℕ) (rec : ℕ) where
  -- IF: what is judged after the pattern
  abbrev last : (B C : Tree) → List Judgement
  last B C = judge rec (same_type (type_record_of s Γ B) (type_record_of s Γ C))

  abbrev branches : (B C : Tree) → List Judgement
  branches B C = judgements s Γ B ++ (judgements s Γ C ++ last B C)

matches : {s Γ : List ℕ} {A : Tree} {t : ℕ} {w0 w1 : List ℕ} (rec : ℕ) (m : Alternatives) → Passed s Γ A t w0 w1 → (o : Option ℕ)
    → first_failing s (judge rec (pattern_has t m)) ≡ o → first_failing s (judge rec (pattern_has (type_record_of s Γ A) m)) ≡ o
matches rec m pa o f = rw pa.typed f

module _ {s Γ : List ℕ} {ans : Outcome} where
  -- a part faults: first, after one that passed
  pub first-faults : (Δ : List ℕ) (e A : Tree) (rest : List Judgement) (p : ℕ) (w0 w1 : List ℕ) → judgements s Γ e ≡ judgements s Δ A ++ rest
      → Judged s Δ A ans w0 w1 → ans ≡ Fault p → Judged s Γ e ans w0 w1
  first-faults Δ e A rest p w0 w1 q d a =
      fault-done p (rw q (fault-first s (judgements s Δ A) rest p (faulted p d a))) a d.counted

module _ {s Γ : List ℕ} {rec : ℕ} {ans : Outcome} where
  -- tuples
  module _ (A B : Tree) where
    pub tuple-second-faults : (t p : ℕ) (w0 w1 w2 : List ℕ) → Passed s Γ A t w0 w1 → Judged s Γ B ans w1 w2 → ans ≡ Fault p
        → Judged s Γ (tuple_of rec A B) ans w0 w2
    tuple-second-faults t p w0 w1 w2 pa d a =
        fault-done p
        (then-second s (judgements s Γ A) _ (some p) pa.none-fails
        (fault-first s (judgements s Γ B) _ p (faulted p d a))) a d.counted

    pub tuple-closes : (t u : ℕ) (w0 w1 w2 w3 : List ℕ) → Passed s Γ A t w0 w1 → Passed s Γ B u w1 w2
        → Closed s (pair_declared t u) rec (pair_of s t u) ans w2 w3 → Judged s Γ (tuple_of rec A B) ans w0 w3
    tuple-closes t u w0 w1 w2 w3 pa pb c =
        closing-done rec (pair_declared (type_record_of s Γ A) (type_record_of s Γ B)) w2
        (then-second s (judgements s Γ A) _ _ pa.none-fails (then-second s (judgements s Γ B) _ _ pb.none-fails refl))
        (rw (pa.typed, pb.typed) c)
        (noted-last (tuple_of rec A B) s Γ rec w2 _ (pb.notes ∙ ap (noted s Γ B) pa.notes))

    -- LET: no judgement of its own
    pub let-body-faults : (t p : ℕ) (w0 w1 w2 : List ℕ) → Passed s Γ A t w0 w1 → Judged s (t ∷ Γ) B ans w1 w2 → ans ≡ Fault p
        → Judged s Γ (let_of rec A B) ans w0 w2
    let-body-faults t p w0 w1 w2 pa d a =
        let f = faulted p d a in
        fault-done p (then-second s (judgements s Γ A) _ (some p) pa.none-fails (rw pa.typed f)) a d.counted

    pub let-passes : (t u : ℕ) (w0 w1 w2 w3 : List ℕ) → Passed s Γ A t w0 w1 → Passed s (t ∷ Γ) B u w1 w2 → ans ≡ Sound u
        → w3 ≡ set w2 rec (leaves (type_at s u)) → TypesCounted s w3 → Judged s Γ (let_of rec A B) ans w0 w3
    let-passes t u w0 w1 w2 w3 pa pb a q l =
        let pc : Passed s (type_record_of s Γ A ∷ Γ) B u w1 w2 = subst (λ (x : ℕ). Passed s (x ∷ Γ) B u w1 w2) (sym pa.typed) pb in
        typed-done
        (then-second s (judgements s Γ A) _ none pa.none-fails pc.none-fails)
        (a ∙ ap Sound (sym pc.typed))
        l
        (q
        ∙ ap (λ (x : ℕ). set w2 rec (leaves (type_at s x))) (sym pc.typed)
        ∙ noted-last (let_of rec A B) s Γ rec w2 _ (pc.notes ∙ ap (noted s (type_record_of s Γ A ∷ Γ) B) pa.notes))

    -- feedback
    module _ (t : ℕ) where
      pub feedback-body-faults : (d p : ℕ) (w0 w1 w2 : List ℕ) → Passed s (t ∷ Γ) A d w0 w1 → Judged s (t ∷ Γ) B ans w1 w2 → ans ≡ Fault p
          → Judged s Γ (feedback_of rec t A B) ans w0 w2
      feedback-body-faults d p w0 w1 w2 pa db a =
          fault-done p
          (then-second s (judgements s (t ∷ Γ) A) _ (some p) pa.none-fails
          (fault-first s (judgements s (t ∷ Γ) B) _ p (faulted p db a))) a db.counted

      pub feedback-closes : (d u : ℕ) (w0 w1 w2 w3 : List ℕ) → Passed s (t ∷ Γ) A d w0 w1 → Passed s (t ∷ Γ) B u w1 w2
          → Closed s (same_type d t) rec u ans w2 w3 → Judged s Γ (feedback_of rec t A B) ans w0 w3
      feedback-closes d u w0 w1 w2 w3 pa pb c =
          closing-done rec (same_type (type_record_of s (t ∷ Γ) A) t) w2
          (then-second s (judgements s (t ∷ Γ) A) _ _ pa.none-fails (then-second s (judgements s (t ∷ Γ) B) _ _ pb.none-fails refl))
          (rw (pa.typed, pb.typed) c)
          (noted-last (feedback_of rec t A B) s Γ rec w2 _ (pb.notes ∙ ap (noted s (t ∷ Γ) B) pa.notes))

  -- parts of a pair
  module _ (A : Tree) where
    pub first-closes : (t : ℕ) (w0 w1 w2 : List ℕ) → Passed s Γ A t w0 w1 → Closed s (pair_type t) rec (word_a s t) ans w1 w2
        → Judged s Γ (first_of rec A) ans w0 w2
    first-closes t w0 w1 w2 pa c =
        closing-done rec (pair_type (type_record_of s Γ A)) w1
        (then-second s (judgements s Γ A) _ _ pa.none-fails refl)
        (rw pa.typed c)
        (noted-last (first_of rec A) s Γ rec w1 _ pa.notes)

    pub second-closes : (t : ℕ) (w0 w1 w2 : List ℕ) → Passed s Γ A t w0 w1 → Closed s (pair_type t) rec (word_b s t) ans w1 w2
        → Judged s Γ (second_of rec A) ans w0 w2
    second-closes t w0 w1 w2 pa c =
        closing-done rec (pair_type (type_record_of s Γ A)) w1
        (then-second s (judgements s Γ A) _ _ pa.none-fails refl)
        (rw pa.typed c)
        (noted-last (second_of rec A) s Γ rec w1 _ pa.notes)

    -- delays
    module _ (t : ℕ) (ls : List ℕ) where
      pub delay-leaves-fault : (u p : ℕ) (w0 w1 : List ℕ) → Passed s Γ A u w0 w1 → first_failing s (judge rec (leaves_fit t ls)) ≡ some p
          → ans ≡ Fault p → Judged s Γ (delay_of rec t ls A) ans w0 w1
      delay-leaves-fault u p w0 w1 pa f a =
          fault-done p
          (then-second s (judgements s Γ A) _ (some p) pa.none-fails (fault-first s (judge rec (leaves_fit t ls)) (judge rec (same_type (type_record_of s Γ A) t)) p f)) a pa.counted

      pub delay-closes : (u : ℕ) (w0 w1 w2 : List ℕ) → Passed s Γ A u w0 w1 → first_failing s (judge rec (leaves_fit t ls)) ≡ none
          → Closed s (same_type u t) rec t ans w1 w2 → Judged s Γ (delay_of rec t ls A) ans w0 w2
      delay-closes u w0 w1 w2 pa f c =
          closing-done rec (same_type (type_record_of s Γ A) t) w1
          (then-second s (judgements s Γ A) _ _ pa.none-fails (then-second s (judge rec (leaves_fit t ls)) (judge rec (same_type (type_record_of s Γ A) t)) _ f refl))
          (rw pa.typed c)
          (noted-last (delay_of rec t ls A) s Γ rec w1 _ pa.notes)

  -- IF
  module _ (A B C : Tree) (m : Alternatives) (t : ℕ) (w0 w1 : List ℕ) (pa : Passed s Γ A t w0 w1) where
    pub if-pattern-faults : (p : ℕ) → first_failing s (judge rec (pattern_has t m)) ≡ some p → ans ≡ Fault p → Judged s Γ (if_of rec A m B C) ans w0 w1
    if-pattern-faults p f a =
        fault-done p
        (then-second s (judgements s Γ A) _ (some p) pa.none-fails
        (fault-first s (judge rec (pattern_has (type_record_of s Γ A) m)) (branches s Γ rec B C) p (matches rec m pa (some p) f))) a pa.counted

    module _ (fm : first_failing s (judge rec (pattern_has t m)) ≡ none) where
      pub if-then-faults : (p : ℕ) (w2 : List ℕ) → Judged s Γ B ans w1 w2 → ans ≡ Fault p → Judged s Γ (if_of rec A m B C) ans w0 w2
      if-then-faults p w2 d a =
          fault-done p
          (then-second s (judgements s Γ A) _ (some p) pa.none-fails
          (then-second s (judge rec (pattern_has (type_record_of s Γ A) m)) (branches s Γ rec B C) (some p) (matches rec m pa none fm)
          (fault-first s (judgements s Γ B) (judgements s Γ C ++ last s Γ rec B C) p (faulted p d a)))) a d.counted

      module _ (u : ℕ) (w2 : List ℕ) (pb : Passed s Γ B u w1 w2) where
        pub if-else-faults : (p : ℕ) (w3 : List ℕ) → Judged s Γ C ans w2 w3 → ans ≡ Fault p → Judged s Γ (if_of rec A m B C) ans w0 w3
        if-else-faults p w3 d a =
            fault-done p
            (then-second s (judgements s Γ A) _ (some p) pa.none-fails
            (then-second s (judge rec (pattern_has (type_record_of s Γ A) m)) (branches s Γ rec B C) (some p) (matches rec m pa none fm)
            (then-second s (judgements s Γ B) (judgements s Γ C ++ last s Γ rec B C) (some p) pb.none-fails
            (fault-first s (judgements s Γ C) (last s Γ rec B C) p (faulted p d a))))) a d.counted

        pub if-closes : (v : ℕ) (w3 w4 : List ℕ) → Passed s Γ C v w2 w3 → Closed s (same_type u v) rec u ans w3 w4
            → Judged s Γ (if_of rec A m B C) ans w0 w4
        if-closes v w3 w4 pc c =
            closing-done rec (same_type (type_record_of s Γ B) (type_record_of s Γ C)) w3
            (then-second s (judgements s Γ A) _ _ pa.none-fails
            (then-second s (judge rec (pattern_has (type_record_of s Γ A) m)) (branches s Γ rec B C) _ (matches rec m pa none fm)
            (then-second s (judgements s Γ B) (judgements s Γ C ++ last s Γ rec B C) _ pb.none-fails
            (then-second s (judgements s Γ C) (last s Γ rec B C) _ pc.none-fails refl))))
            (rw (pb.typed, pc.typed) c)
            (noted-last (if_of rec A m B C) s Γ rec w3 _
            (pc.notes ∙ ap (noted s Γ C) (pb.notes ∙ ap (noted s Γ B) pa.notes)))

  -- constants and names
  pub constant-faults : (t p : ℕ) (ls w0 : List ℕ) → first_failing s (judge rec (leaves_fit t ls)) ≡ some p → ans ≡ Fault p → TypesCounted s w0
      → Judged s Γ (constant_of rec t ls) ans w0 w0
  constant-faults t p ls w0 f a l = fault-done p f a l

  pub constant-passes : (t : ℕ) (ls w0 w1 : List ℕ) → first_failing s (judge rec (leaves_fit t ls)) ≡ none → ans ≡ Sound t → TypesCounted s w1
      → w1 ≡ set w0 rec (leaves (type_at s t)) → Judged s Γ (constant_of rec t ls) ans w0 w1
  constant-passes t ls w0 w1 f a l q =
      typed-done f a l q

  pub name-closes : (k : ℕ) (w0 w1 : List ℕ) → Closed s (in_scope k (length Γ)) rec (get_or Γ k 0) ans w0 w1 → Judged s Γ (name_of rec k) ans w0 w1
  name-closes k w0 w1 c = closing-done rec (in_scope k (length Γ)) w0 refl c refl
