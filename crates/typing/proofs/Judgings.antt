-- The laws of `Parts` at a record: the tree of a record of each kind is made of the trees of its parts, so what judging the parts gave
-- is what judging the record gives. Assumes nothing.
use mathlib.Core.Path.{◌≡◌, refl, ◌∙◌}
use mathlib.Core.Bool.{true, false}
use mathlib.Core.List.{List, ◌∷◌}
use Prim.Native.Nat.{ℕ, ◌≤◌, ◌<◌}
use borrow.Author.Tests.{lt-ltb, le-ltb}
use lib.ListN.{length, get_or, set}
use Rattle.picoella.specs.Language.{leaves}
use Rattle.records.specs.Words.{count, word, word_a, word_b, word_c}
use Rattle.records.specs.Kinds.{
  expression,
  constant,
  name,
  tuple,
  first,
  second,
  let_in,
  feedback,
  if_matches,
  delay,
}
use Rattle.records.specs.Says.{kind_at}
use Rattle.records.specs.Trees.{type_at, TypeRecord, pair_of, tree_at, chain, alternatives, constant_of, tuple_of, let_of, feedback_of, if_of, delay_of}
use Rattle.records.specs.Written.{Written}
use Rattle.records.proofs.Trees.{tree-of}
use Rattle.typing.specs.Judgements.{holds, leaves_fit, in_scope, pair_declared, pair_type, same_type, pattern_has}
use Rattle.typing.specs.Judging.{TypesCounted, Judged, Closed, Closing, PartAt, at_first, at_second, Context}
use Rattle.typing.specs.Outcomes.{Outcome}
use Rattle.typing.specs.Outcomes.{Sound, Fault}
use Rattle.typing.proofs.Outcomes.{Passed, rule-holds, rule-fails}
use Rattle.typing.proofs.Closings.{fails-closed, noted-closed}
use Rattle.typing.proofs.Parts.{
  first-faults,
  tuple-second-faults,
  tuple-closes,
  let-body-faults,
  let-passes,
  feedback-body-faults,
  feedback-closes,
  first-closes,
  second-closes,
  delay-leaves-fault,
  delay-closes,
  if-pattern-faults,
  if-then-faults,
  if-else-faults,
  if-closes,
  constant-faults,
  constant-passes,
  name-closes,
}
use Rattle.typing.proofs.TypeRecordsOf.{in-context}

module _ {s : List ℕ} {rec : ℕ} (w : Written s) (h : rec < count s) where
  module _ (e : kind_at s rec ≡ expression tuple) (a b : ℕ) (ea : a ≡ word s rec 2) (eb : b ≡ word s rec 3) where
    pair-tree : tree_at s rec ≡ tuple_of rec (tree_at s (word_a s rec)) (tree_at s (word_b s rec))
    pair-tree = tree-of w rec h (expression tuple) e

    module _ {Γ : List ℕ} {ans : Outcome} where
      pub pair-first-faults : (p : ℕ) (w0 w1 : List ℕ) → Judged s Γ (tree_at s a) ans w0 w1 → ans ≡ Fault p → Judged s Γ (tree_at s rec) ans w0 w1
      pair-first-faults p w0 w1 d f = rw pair-tree (first-faults Γ _ (tree_at s (word_a s rec)) _ p w0 w1 refl (rw ea at d) f)

      pub pair-second-faults : (t p : ℕ) (w0 w1 w2 : List ℕ) → Passed s Γ (tree_at s a) t w0 w1 → Judged s Γ (tree_at s b) ans w1 w2 → ans ≡ Fault p
          → Judged s Γ (tree_at s rec) ans w0 w2
      pair-second-faults t p w0 w1 w2 pa d f = rw pair-tree (tuple-second-faults _ _ t p w0 w1 w2 (rw ea at pa) (rw eb at d) f)

      pub pair-closes : (t u : ℕ) (w0 w1 w2 w3 : List ℕ) → Passed s Γ (tree_at s a) t w0 w1 → Passed s Γ (tree_at s b) u w1 w2
          → Closed s (pair_declared t u) rec (pair_of s t u) ans w2 w3 → Judged s Γ (tree_at s rec) ans w0 w3
      pair-closes t u w0 w1 w2 w3 pa pb c = rw pair-tree (tuple-closes _ _ t u w0 w1 w2 w3 (rw ea at pa) (rw eb at pb) c)

  module _ (k : ℕ) (e : PartAt s rec k) (a : ℕ) (ea : a ≡ word s rec 2) {Γ : List ℕ} {ans : Outcome} where
    pub part-faults : (p : ℕ) (w0 w1 : List ℕ) → Judged s Γ (tree_at s a) ans w0 w1 → ans ≡ Fault p → Judged s Γ (tree_at s rec) ans w0 w1
    part-faults p w0 w1 d f = go k e
      where
        go : (k : ℕ) → PartAt s rec k → Judged s Γ (tree_at s rec) ans w0 w1
        go k (at_first q) =
            rw (tree-of w rec h (expression first) q) (first-faults Γ _ (tree_at s (word_a s rec)) _ p w0 w1 refl (rw ea at d) f)
        go k (at_second q) =
            rw (tree-of w rec h (expression second) q) (first-faults Γ _ (tree_at s (word_a s rec)) _ p w0 w1 refl (rw ea at d) f)

    pub part-closes : (t : ℕ) (w0 w1 w2 : List ℕ) → Passed s Γ (tree_at s a) t w0 w1 → Closed s (pair_type t) rec (word s t k) ans w1 w2
        → Judged s Γ (tree_at s rec) ans w0 w2
    part-closes t w0 w1 w2 pa c = go k e c
      where
        go : (k : ℕ) → PartAt s rec k → Closed s (pair_type t) rec (word s t k) ans w1 w2 → Judged s Γ (tree_at s rec) ans w0 w2
        go k (at_first q) c = rw (tree-of w rec h (expression first) q) (first-closes _ t w0 w1 w2 (rw ea at pa) c)
        go k (at_second q) c = rw (tree-of w rec h (expression second) q) (second-closes _ t w0 w1 w2 (rw ea at pa) c)

  module _ (e : kind_at s rec ≡ expression let_in) (a b : ℕ) (ea : a ≡ word s rec 2) (eb : b ≡ word s rec 3) where
    let-tree : tree_at s rec ≡ let_of rec (tree_at s (word_a s rec)) (tree_at s (word_b s rec))
    let-tree = tree-of w rec h (expression let_in) e

    module _ {Γ : List ℕ} {ans : Outcome} where
      pub let-defining-faults : (p : ℕ) (w0 w1 : List ℕ) → Judged s Γ (tree_at s a) ans w0 w1 → ans ≡ Fault p → Judged s Γ (tree_at s rec) ans w0 w1
      let-defining-faults p w0 w1 d f = rw let-tree (first-faults Γ _ (tree_at s (word_a s rec)) _ p w0 w1 refl (rw ea at d) f)

      -- the body is judged in a scope Δ that has the defining part's type
      pub let-body-fault : (Δ : List ℕ) (t p : ℕ) (w0 w1 w2 : List ℕ) → Δ ≡ t ∷ Γ → Passed s Γ (tree_at s a) t w0 w1
          → Judged s Δ (tree_at s b) ans w1 w2 → ans ≡ Fault p → Judged s Γ (tree_at s rec) ans w0 w2
      let-body-fault Δ t p w0 w1 w2 q pa d f =
          rw let-tree (let-body-faults _ _ t p w0 w1 w2 (rw ea at pa) (rw (eb, q) at d) f)

      pub let-closes : (Δ : List ℕ) (t u : ℕ) (w0 w1 w2 w3 : List ℕ) → Δ ≡ t ∷ Γ → Passed s Γ (tree_at s a) t w0 w1
          → Passed s Δ (tree_at s b) u w1 w2 → ans ≡ Sound u → w3 ≡ set w2 rec (leaves (type_at s u)) → TypesCounted s w3
          → Judged s Γ (tree_at s rec) ans w0 w3
      let-closes Δ t u w0 w1 w2 w3 q pa pb f n l =
          rw let-tree (let-passes _ _ t u w0 w1 w2 w3 (rw ea at pa) (rw (eb, q) at pb) f n l)

  module _ (e : kind_at s rec ≡ expression feedback) (t a b : ℕ) (et : t ≡ word s rec 2) (ea : a ≡ word s rec 3) (eb : b ≡ word s rec 4)
      {Γ : List ℕ} (Δ : List ℕ) (q : Δ ≡ t ∷ Γ) where
    feedback-tree : tree_at s rec ≡ feedback_of rec t (tree_at s (word_b s rec)) (tree_at s (word_c s rec))
    feedback-tree = tree-of w rec h (expression feedback) e ∙ rw (← et)

    module _ {ans : Outcome} where
      pub feedback-defining-faults : (p : ℕ) (w0 w1 : List ℕ) → Judged s Δ (tree_at s a) ans w0 w1 → ans ≡ Fault p → Judged s Γ (tree_at s rec) ans w0 w1
      feedback-defining-faults p w0 w1 d f =
          rw feedback-tree (first-faults (t ∷ Γ) _ (tree_at s (word_b s rec)) _ p w0 w1 refl (rw (ea, q) at d) f)

      pub feedback-body-fault : (d p : ℕ) (w0 w1 w2 : List ℕ) → Passed s Δ (tree_at s a) d w0 w1 → Judged s Δ (tree_at s b) ans w1 w2 → ans ≡ Fault p
          → Judged s Γ (tree_at s rec) ans w0 w2
      feedback-body-fault d p w0 w1 w2 pa db f =
          rw feedback-tree (feedback-body-faults _ _ t d p w0 w1 w2 (rw (ea, q) at pa) (rw (eb, q) at db) f)

      pub feedback-closing : (d u : ℕ) (w0 w1 w2 w3 : List ℕ) → Passed s Δ (tree_at s a) d w0 w1 → Passed s Δ (tree_at s b) u w1 w2
          → Closed s (same_type d t) rec u ans w2 w3 → Judged s Γ (tree_at s rec) ans w0 w3
      feedback-closing d u w0 w1 w2 w3 pa pb c =
          rw feedback-tree (feedback-closes _ _ t d u w0 w1 w2 w3 (rw (ea, q) at pa) (rw (eb, q) at pb) c)

  module _ (e : kind_at s rec ≡ expression if_matches) (a m b c : ℕ) (ea : a ≡ word s rec 2) (em : m ≡ word s rec 5) (eb : b ≡ word s rec 3)
      (ec : c ≡ word s rec 4) where
    if-tree : tree_at s rec ≡ if_of rec (tree_at s (word_a s rec)) (alternatives s m) (tree_at s (word_b s rec)) (tree_at s (word_c s rec))
    if-tree = tree-of w rec h (expression if_matches) e ∙ rw (← em)

    module _ {Γ : List ℕ} {ans : Outcome} where
      pub if-tested-faults : (p : ℕ) (w0 w1 : List ℕ) → Judged s Γ (tree_at s a) ans w0 w1 → ans ≡ Fault p → Judged s Γ (tree_at s rec) ans w0 w1
      if-tested-faults p w0 w1 d f = rw if-tree (first-faults Γ _ (tree_at s (word_a s rec)) _ p w0 w1 refl (rw ea at d) f)

      module _ (t : ℕ) (w0 w1 : List ℕ) (pa : Passed s Γ (tree_at s a) t w0 w1) where
        pub if-pattern-fault : (p : ℕ) → holds s (pattern_has t (alternatives s m)) ≡ false → p ≡ rec → ans ≡ Fault p
            → Judged s Γ (tree_at s rec) ans w0 w1
        if-pattern-fault p f r g =
            rw if-tree
            (if-pattern-faults _ _ _ _ t w0 w1 (rw ea at pa) p
            (rule-fails s rec (pattern_has t (alternatives s m)) p f r) g)

        module _ (held : holds s (pattern_has t (alternatives s m)) ≡ true) where
          pub if-then-fault : (p : ℕ) (w2 : List ℕ) → Judged s Γ (tree_at s b) ans w1 w2 → ans ≡ Fault p → Judged s Γ (tree_at s rec) ans w0 w2
          if-then-fault p w2 d g = rw if-tree (if-then-faults _ _ _ _ t w0 w1 (rw ea at pa) (rule-holds s rec (pattern_has t (alternatives s m)) held) p w2 (rw eb at d) g)

          module _ (u : ℕ) (w2 : List ℕ) (pb : Passed s Γ (tree_at s b) u w1 w2) where
            pub if-else-fault : (p : ℕ) (w3 : List ℕ) → Judged s Γ (tree_at s c) ans w2 w3 → ans ≡ Fault p → Judged s Γ (tree_at s rec) ans w0 w3
            if-else-fault p w3 d g =
                rw if-tree (if-else-faults _ _ _ _ t w0 w1 (rw ea at pa) (rule-holds s rec (pattern_has t (alternatives s m)) held) u w2 (rw eb at pb) p w3 (rw ec at d) g)

            pub if-closing : (v : ℕ) (w3 w4 : List ℕ) → Passed s Γ (tree_at s c) v w2 w3 → Closed s (same_type u v) rec u ans w3 w4
                → Judged s Γ (tree_at s rec) ans w0 w4
            if-closing v w3 w4 pc d =
                rw if-tree (if-closes _ _ _ _ t w0 w1 (rw ea at pa) (rule-holds s rec (pattern_has t (alternatives s m)) held) u w2 (rw eb at pb) v w3 w4 (rw ec at pc) d)

  module _ (e : kind_at s rec ≡ expression delay) (a t l : ℕ) (ea : a ≡ word s rec 4) (et : t ≡ word s rec 2) (el : l ≡ word s rec 3) where
    delay-tree : tree_at s rec ≡ delay_of rec t (chain s l) (tree_at s (word_c s rec))
    delay-tree = tree-of w rec h (expression delay) e ∙ rw (← et, ← el)

    module _ {Γ : List ℕ} {ans : Outcome} where
      pub delay-part-faults : (p : ℕ) (w0 w1 : List ℕ) → Judged s Γ (tree_at s a) ans w0 w1 → ans ≡ Fault p → Judged s Γ (tree_at s rec) ans w0 w1
      delay-part-faults p w0 w1 d f = rw delay-tree (first-faults Γ _ (tree_at s (word_c s rec)) _ p w0 w1 refl (rw ea at d) f)

      pub delay-leaves-faults : (u p : ℕ) (w0 w1 : List ℕ) → Passed s Γ (tree_at s a) u w0 w1
          → holds s (leaves_fit t (chain s l)) ≡ false → p ≡ rec → ans ≡ Fault p → Judged s Γ (tree_at s rec) ans w0 w1
      delay-leaves-faults u p w0 w1 pa f r g =
          rw delay-tree
          (delay-leaves-fault _ t (chain s l) u p w0 w1 (rw ea at pa)
          (rule-fails s rec (leaves_fit t (chain s l)) p f r) g)

      pub delay-closing : (u : ℕ) (w0 w1 w2 : List ℕ) → Passed s Γ (tree_at s a) u w0 w1 → holds s (leaves_fit t (chain s l)) ≡ true
          → Closed s (same_type u t) rec t ans w1 w2 → Judged s Γ (tree_at s rec) ans w0 w2
      delay-closing u w0 w1 w2 pa f c =
          rw delay-tree
          (delay-closes _ t (chain s l) u w0 w1 w2 (rw ea at pa) (rule-holds s rec (leaves_fit t (chain s l)) f) c)

  module _ (e : kind_at s rec ≡ expression constant) (t l : ℕ) (et : t ≡ word s rec 2) (el : l ≡ word s rec 3) (w0 : List ℕ) where
    constant-tree : tree_at s rec ≡ constant_of rec t (chain s l)
    constant-tree = tree-of w rec h (expression constant) e ∙ rw (← et, ← el)

    module _ {Γ : List ℕ} {ans : Outcome} where
      pub constant-fault : (p : ℕ) → holds s (leaves_fit t (chain s l)) ≡ false → p ≡ rec → ans ≡ Fault p → TypesCounted s w0
          → Judged s Γ (tree_at s rec) ans w0 w0
      constant-fault p f r g n =
          rw constant-tree
          (constant-faults t p (chain s l) w0 (rule-fails s rec (leaves_fit t (chain s l)) p f r) g n)

      pub constant_typed : (w1 : List ℕ) → holds s (leaves_fit t (chain s l)) ≡ true → ans ≡ Sound t
          → w1 ≡ set w0 rec (leaves (type_at s t)) → TypesCounted s w1 → Judged s Γ (tree_at s rec) ans w0 w1
      constant_typed w1 f g n k =
          rw constant-tree
          (constant-passes t (chain s l) w0 w1 (rule-holds s rec (leaves_fit t (chain s l)) f) g k n)

  module _ (e : kind_at s rec ≡ expression name) (k : ℕ) (ek : k ≡ word s rec 2) {Γ : List ℕ} {ans : Outcome} where
    pub name-closing : (w0 w1 : List ℕ) → Closed s (in_scope k (length Γ)) rec (get_or Γ k 0) ans w0 w1 → Judged s Γ (tree_at s rec) ans w0 w1
    name-closing w0 w1 c = rw (tree-of w rec h (expression name) e, ← ek) (name-closes k w0 w1 c)

-- a name by its distance
module _ {s : List ℕ} {n : ℕ} {rec : ℕ} {w0 : List ℕ} (c : Closing s n rec w0) (Γ : List ℕ) (k : ℕ) where
  pub name-outside : (r : ℕ) → length Γ ≤ k → r ≡ rec → Closed s (in_scope k (length Γ)) rec (get_or Γ k 0) (Fault r) w0 w0
  name-outside r h e = fails-closed c (in_scope k (length Γ)) (get_or Γ k 0) r (le-ltb k (length Γ) h) e

  pub name-inside : (x : ℕ) (w1 : List ℕ) → k < length Γ → x ≡ get_or Γ k 0 → w1 ≡ set w0 rec (leaves (type_at s x))
      → Closed s (in_scope k (length Γ)) rec (get_or Γ k 0) (Sound x) w0 w1
  name-inside x w1 h e n = rw (← e) (noted-closed c (in_scope k (length Γ)) x w1 (lt-ltb k (length Γ) h) n)

pub name_typed : {s : List ℕ} (Γ : List ℕ) (k x : ℕ) → k < length Γ → x ≡ get_or Γ k 0 → Context s Γ → TypeRecord s x
name_typed {s} Γ k x h e ctx = rw e (in-context s Γ k ctx h)
