-- A stimulus that neither 8 nor 9 refuses is its cycles laid end to end, as many as its length divided by the input leaves, each of
-- the input type: byte i stands at leaf i % w of its cycle.
-- Assumes nothing.
use Prim.Native.Nat.{ℕ, zero, suc, ◌+◌, ◌*◌, ◌-◌, ◌%◌, ◌≤◌, ◌<◌}
use mathlib.Core.Bool.{false, not}
use mathlib.Core.List.{List, [], ◌∷◌}
use mathlib.Core.Option.{none}
use mathlib.Core.Path.{◌≡◌, ◌∙◌}
use native.Mathlib.Omega.{arith}
use native.Mathlib.Nat.{div-add-mod', mod-eq_of_lt, add-mod_left}
use lib.ListN.{length, get_or, take, drop, length-drop}
use lib.Seq.{get_or-take, get_or-drop, length-take-le}
use lib.Dec.{eqb, ltb}
use borrow.Author.Tests.{ltb-false, not-false, eqb-true}
use Rattle.picoella.specs.Language.{Ty, bounds, leaves, Within, within_leaf}
use Rattle.picoella.specs.Language as Language
use Rattle.records.proofs.Tests.{neither_left, neither_right}
use Rattle.records.proofs.Types.{leaves-of-bounds}
use Rattle.answers.specs.Answers.{lowest}
use Rattle.answers.proofs.Lowest.{lowest-none-fails}
use Rattle.meaning.specs.Values.{AllOf, all_none, all_more}
use Rattle.stimulus.specs.Stimulus.{input_type, input_leaves, cycle_count, pieces, end_to_end, cycles, wrong_stimulus, wrong_byte}
use Rattle.stimulus.proofs.Pieces.{pieces-length, piece-at, pieces-joined}

pub stimulus-whole : (s stim : List ℕ) → wrong_stimulus s stim ≡ false
    → (length stim ≤ 65535) × (length stim ≡ cycle_count s stim * input_leaves s)
unfolding wrong_stimulus
stimulus-whole s stim e =
    let few : length stim ≤ 65535 =
    ltb-false 65535 (length stim) (neither_left (ltb 65535 (length stim)) (not (eqb (length stim % input_leaves s) 0)) e) in
    let over : length stim % input_leaves s ≡ 0 = eqb-true (length stim % input_leaves s) 0
    (not-false (eqb (length stim % input_leaves s) 0)
    (neither_right (ltb 65535 (length stim)) (not (eqb (length stim % input_leaves s) 0)) e)) in
    let whole = div-add-mod' (length stim) (input_leaves s) in
    (few, omega arith)

-- a value is within bounds where each leaf is
within-by-leaf : (ns vs : List ℕ) → length vs ≡ length ns → ((j : ℕ) → j < length ns → get_or vs j 0 ≤ get_or ns j 0) → Within ns vs
within-by-leaf [] [] e f = Language.within_none
within-by-leaf [] (v ∷ vs) e f = absurd (omega arith)
within-by-leaf (n ∷ ns) [] e f = absurd (omega arith)
within-by-leaf (n ∷ ns) (v ∷ vs) e f =
    within_leaf (f 0 (omega arith)) (within-by-leaf ns vs (omega arith) (λ j h. f (suc j) (omega arith)))

pieces-typed : (τ : Ty) (n : ℕ) (l : List ℕ) → length l ≡ n * leaves τ
    → ((i : ℕ) → i < length l → get_or l i 0 ≤ get_or (bounds τ) (i % leaves τ) 0) → AllOf τ (pieces (leaves τ) n l)
pieces-typed τ zero l e f = all_none
pieces-typed τ (suc n) l e f =
    let w = leaves τ in
    let b = leaves-of-bounds τ in
    all_more
    (within-by-leaf (bounds τ) (take w l) (length-take-le w l (omega arith) ∙ b)
    (λ j h. let low : j < w = omega arith in
    let same : j % w ≡ j = mod-eq_of_lt low in rw (get_or-take w l j 0 low) (rw same at (f j (omega arith)))))
    (pieces-typed τ n (drop w l) (rw (length-drop w l) (omega arith))
    (λ i h. let k : w + i < length l = let g : i < length l - w = rw (length-drop w l) at h in omega arith in
    rw (get_or-drop w l i 0, ← add-mod_left w i) (f (w + i) k)))

pub cycles-typed : (s stim : List ℕ) → wrong_stimulus s stim ≡ false → lowest (wrong_byte s stim) (length stim) ≡ none
    → AllOf (input_type s) (cycles s stim)
unfolding cycles wrong_byte
cycles-typed s stim whole fits =
    pieces-typed (input_type s) (cycle_count s stim) stim (stimulus-whole s stim whole).1
    (λ i h. ltb-false (get_or (bounds (input_type s)) (i % input_leaves s) 0) (get_or stim i 0)
    (lowest-none-fails (wrong_byte s stim) (length stim) fits i h))

pub cycles-joined : (s stim : List ℕ) → wrong_stimulus s stim ≡ false → end_to_end (cycles s stim) ≡ stim
unfolding cycles
cycles-joined s stim whole = pieces-joined (input_leaves s) (cycle_count s stim) stim (stimulus-whole s stim whole).1

pub cycles-counted : (s stim : List ℕ) → length (cycles s stim) ≡ cycle_count s stim
unfolding cycles
cycles-counted s stim = pieces-length (input_leaves s) (cycle_count s stim) stim

pub cycle-at : (s stim : List ℕ) (k : ℕ) → k < cycle_count s stim
    → get_or (cycles s stim) k [] ≡ take (input_leaves s) (drop (k * input_leaves s) stim)
unfolding cycles
cycle-at s stim k h = piece-at (input_leaves s) (cycle_count s stim) stim k h
