-- Runs of two accepted sheets in order over inputs in order, under two lawful rules in order, give outputs in order and sheets in
-- order: the run on bytes is that of the meaning on the sheets' terms, which are in order, and the sheets after it read as the
-- terms after it. Of two calls: the stimuli's pieces are in order, cycle by cycle, since the two sheets have one input type.
-- Assumes nothing.
use Prim.Native.Nat.{ℕ, zero, suc}
use mathlib.Core.List.{List, [], ◌∷◌, ◌++◌}
use mathlib.Core.Path.{◌≡◌, refl, ap, ◌∙◌}
use native.Mathlib.Omega.{arith}
use lib.ListN.{length, take, drop}
use Rattle.picoella.specs.Language.{Ty}
use Rattle.records.specs.Words.{word_a}
use Rattle.records.specs.Trees.{type_at, Declared}
use Rattle.records.proofs.Rewritten.{same-type}
use Rattle.verdict.specs.Verdict.{verdict}
use Rattle.answers.specs.Answers.{Accepted}
use Rattle.meaning.specs.Values.{◌⊑◌, below_none, below_leaf, both_no_values, AllOf, all_none, all_more}
use Rattle.meaning.specs.Undecided.{undecided_rule}
use Rattle.meaning.specs.RuleLaws.{Lawful}
use Rattle.meaning.specs.Ordered.{RuleBelow, Ordered, AllBoth, both_all_none, both_all_more}
use Rattle.meaning.proofs.Order.{both-lower, both-upper, both_below, both_of}
use Rattle.meaning.proofs.EvaluationOrdered.{rule-below-itself, outputs-ordered, after-ordered}
use Rattle.meaning.proofs.UndecidedRule.{rule-lawful}
use Rattle.behaviour.specs.Terms.{circuit_term}
use Rattle.stimulus.specs.Stimulus.{input_type, input_leaves, cycle_count, pieces, end_to_end, cycles}
use Rattle.behaviour.specs.Run.{outputs_by, sheet_after}
use Rattle.behaviour.specs.SheetOrder.{SheetBelow}
use Rattle.behaviour.specs.Promises.{SheetRunOrdered, LateScanner}
use Rattle.behaviour.proofs.Sheets.{only-leaves, header-same, accepted-written}
use Rattle.behaviour.proofs.OnlyDelays.{only-delays-back, only-delays-chain}
use Rattle.stimulus.proofs.Stimulus.{cycles-typed}
use Rattle.behaviour.proofs.Run.{run-outputs}
use Rattle.behaviour.proofs.AfterRun.{run-only-delays, run-read, run-accepted}
use Rattle.behaviour.proofs.SheetOrder.{terms-ordered, sheets-below}
use Rattle.behaviour.proofs.Afterwards.{out_is, next_is}

-- values in order: the halves, and laid end to end
all-lower : {τ : Ty} {vs ws : List (List ℕ)} → AllBoth τ vs ws → AllOf τ vs
all-lower both_all_none = all_none
all-lower (both_all_more h r) = all_more (both-lower h) (all-lower r)

all_upper : {τ : Ty} {vs ws : List (List ℕ)} → AllBoth τ vs ws → AllOf τ ws
all_upper both_all_none = all_none
all_upper (both_all_more h r) = all_more (both-upper h) (all_upper r)

below-append : {v w x y : List ℕ} → v ⊑ w → x ⊑ y → (v ++ x) ⊑ (w ++ y)
below-append below_none s = s
below-append (below_leaf o r) s = below_leaf o (below-append r s)

joined-below : {τ : Ty} {vs ws : List (List ℕ)} → AllBoth τ vs ws → end_to_end vs ⊑ end_to_end ws
joined-below both_all_none = below_none
joined-below (both_all_more h r) = below-append (both_below h) (joined-below r)

-- pieces of two lists in order
below_length : {v w : List ℕ} → v ⊑ w → length v ≡ length w
below_length below_none = refl
below_length (below_leaf o r) = ap suc (below_length r)

below-take : (n : ℕ) {v w : List ℕ} → v ⊑ w → take n v ⊑ take n w
below-take zero r = below_none
below-take (suc n) below_none = below_none
below-take (suc n) (below_leaf o r) = below_leaf o (below-take n r)

below-drop : (n : ℕ) {v w : List ℕ} → v ⊑ w → drop n v ⊑ drop n w
below-drop zero r = r
below-drop (suc n) below_none = below_none
below-drop (suc n) (below_leaf o r) = below-drop n r

pieces-ordered : {τ : Ty} (w n : ℕ) {l m : List ℕ} → l ⊑ m → AllOf τ (pieces w n l) → AllOf τ (pieces w n m)
    → AllBoth τ (pieces w n l) (pieces w n m)
pieces-ordered w zero b r s = both_all_none
pieces-ordered w (suc n) b (all_more h r) (all_more k s) =
    both_all_more (both_of h k (below-take w b)) (pieces-ordered w n (below-drop w b) r s)

-- two sheets in order have one input type
inputs-same : (s s' : List ℕ) (t : ℕ) → verdict s ≡ Accepted t → SheetBelow s s' → input_type s' ≡ input_type s
inputs-same s s' t v b =
    let w = accepted-written s v in
    same-type (only-leaves w b.only_delays) (word_a s' 0)
    ∙ ap (type_at s) (header-same w b.only_delays 2 (omega arith))

module _
    {rule other : List ℕ → List ℕ → List ℕ}
    (law : Lawful rule)
    (law' : Lawful other)
    (under : RuleBelow rule other)
    {s s' : List ℕ}
    {t t' : ℕ}
    (v : verdict s ≡ Accepted t)
    (v' : verdict s' ≡ Accepted t')
    (b : SheetBelow s s')
    {is is' : List (List ℕ)}
    (given : AllBoth (input_type s) is is')
  where
    given' : AllOf (input_type s') is'
    given' = rw (inputs-same s s' t v b) (all_upper given)

    terms : Ordered (Declared s) (type_at s (word_a s 0) ∷ []) (circuit_term s) (circuit_term s') (type_at s t)
    terms = terms-ordered v v' b

    outputs-below : AllBoth (type_at s t) (outputs_by rule s is) (outputs_by other s' is')
    outputs-below =
        rw (run-outputs law s v (all-lower given), run-outputs law' s' v' given')
        (outputs-ordered rule other law under (Declared s) terms both_no_values given)

    next-below : SheetBelow (sheet_after rule s is) (sheet_after other s' is')
    next-below =
        let lower = all-lower given in
        let mine = run-only-delays law v lower in
        let w = run-accepted law s v lower ∙ v in
        let ordered : Ordered (Declared s) (type_at s (word_a s 0) ∷ []) (circuit_term (sheet_after rule s is))
        (circuit_term (sheet_after other s' is')) (type_at s t) =
        rw (run-read law s v lower, run-read law' s' v' given')
        (after-ordered rule other law under (Declared s) terms both_no_values given) in
        sheets-below w (run-accepted law' s' v' given' ∙ v')
        (only-delays-chain w (only-delays-back v mine) (only-delays-chain v b.only_delays (run-only-delays law' v' given')))
        ordered

pub sheet_run_ordered : SheetRunOrdered
sheet_run_ordered rule other law law' under s s' t t' v v' b is is' given = (
  outputs-below law law' under v v' b given,
  next-below law law' under v v' b given,
)

-- the cycles of two stimuli in order
cycles-ordered : (s s' stim stim' : List ℕ) → input_type s' ≡ input_type s → stim ⊑ stim'
    → AllOf (input_type s) (cycles s stim) → AllOf (input_type s') (cycles s' stim')
    → AllBoth (input_type s) (cycles s stim) (cycles s' stim')
unfolding cycles
cycles-ordered s s' stim stim' same below r r' =
    rw (same, ← below_length below)
    (pieces-ordered (input_leaves s) (cycle_count s stim) below r (rw (same, ← below_length below) at r'))

pub late_scanner : LateScanner
late_scanner s s' stim stim' outs outs' next next' c c' b below =
    let f = c.formed in
    let f' = c'.formed in
    let same = inputs-same s s' c.type f.accepted b in
    let both = sheet_run_ordered undecided_rule undecided_rule rule-lawful rule-lawful (rule-below-itself rule-lawful)
    s s' c.type c'.type f.accepted f'.accepted b (cycles s stim) (cycles s' stim')
    (cycles-ordered s s' stim stim' same below (cycles-typed s stim f.whole f.fitting)
    (cycles-typed s' stim' f'.whole f'.fitting)) in (
      rw (
        c.gives.out_is,
        out_is f,
        c'.gives.out_is,
        out_is f',
      ) (joined-below both.0),
      rw (
        c.gives.next_is,
        next_is f,
        c'.gives.next_is,
        next_is f',
      ) both.1,
    )
