-- The stimulus (docs/SHEETS.md, "The run", "Codes" and "After a run"): its bytes taken in pieces of the input type's leaves, and when
-- the run refuses it. Code 8: over 65,535 bytes, or not whole cycles; code 9: "the byte is above the number of constructors of its
-- leaf", at the first such byte, from 0.
use Rattle.std.specs.Prelude.{ℕ, zero, suc, ◌%◌, ◌/◌, Bool, not, ◌||◌, List, [], ◌∷◌, ◌++◌, length, get_or, take, drop, eqb, ltb}
use Rattle.answers.specs.Answers.{lowest, Check, check, when}
use Rattle.picoella.specs.Language.{Ty, bounds, leaves}
use Rattle.records.specs.Words.{word_a}
use Rattle.records.specs.Trees.{type_at}

-- the input type is in the header's word a
abbrev pub input_type : List ℕ → Ty
input_type s = type_at s (word_a s 0)

abbrev pub input_leaves : List ℕ → ℕ
input_leaves s = leaves (input_type s)

-- there are "as many cycles as the length of the stimulus, divided by those leaves", the input type's
abbrev pub cycle_count : (sheet stimulus : List ℕ) → ℕ
cycle_count s stim = length stim / input_leaves s

-- the first so many pieces of width w
abbrev pub pieces : (width count : ℕ) → List ℕ → List (List ℕ)
pieces w zero bytes = []
pieces w (suc n) bytes = take w bytes ∷ pieces w n (drop w bytes)

-- pieces laid end to end
abbrev pub end_to_end : List (List ℕ) → List ℕ
end_to_end [] = []
end_to_end (v ∷ vs) = v ++ end_to_end vs

-- the list "comes from cutting the stimulus into pieces, each as long as the input type has leaves": each cycle's input
unfoldable pub cycles : (sheet stimulus : List ℕ) → List (List ℕ)
cycles s stim = pieces (input_leaves s) (cycle_count s stim) stim

-- 8: stimulus over 65,535 bytes, or not whole cycles; an empty one is a run of no cycles
unfoldable pub wrong_stimulus : (sheet stimulus : List ℕ) → Bool
wrong_stimulus s stim = ltb 65535 (length stim) || not (eqb (length stim % input_leaves s) 0)

-- 9: byte i is above its leaf's constructor count
unfoldable pub wrong_byte : (sheet stimulus : List ℕ) → ℕ → Bool
wrong_byte s stim i = ltb (get_or (bounds (input_type s)) (i % input_leaves s) 0) (get_or stim i 0)

-- the two checks of a stimulus, in their order
abbrev pub stimulus_checks : (sheet stimulus : List ℕ) → List Check
stimulus_checks s stim =
    check 8 (when (wrong_stimulus s stim) 0) ∷ check 9 (lowest (wrong_byte s stim) (length stim)) ∷ []
