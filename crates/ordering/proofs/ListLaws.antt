-- Lists that have their last element first, read from the bottom; the last pattern that waits, sought from the top.
-- Assumes nothing.
use Prim.Native.Nat.{ℕ, zero, suc, ◌+◌, ◌-◌, ◌≤◌, ◌<◌}
use native.Mathlib.Omega.{arith}
use mathlib.Core.Path.{◌≡◌, refl, sym, ap, ◌∙◌}
use mathlib.Core.Bool.{false, cond}
use mathlib.Core.List.{List, [], ◌∷◌, ◌++◌}
use lib.ListN.{length, get_or, take, drop}
use Rattle.std.proofs.lemmas.List.{drop_more}
use Rattle.instructions.specs.Instruction.{Instruction, close_constant}
use Rattle.instructions.specs.Code.{from_bottom}
use Rattle.instructions.specs.Assembly.{begins_pattern, pattern_onto, patterns_below}
use Rattle.instructions.proofs.FromBottom.{next-instruction}

-- one instruction more of those from number `from` on goes onto others
pub onto-more : (W C : List Instruction) (from k : ℕ) → from ≤ k → k < length W
    → from_bottom k W ∷ (take (k - from) (drop (length W - k) W) ++ C) ≡ take (k + 1 - from) (drop (length W - (k + 1)) W) ++ C
onto-more W C from k l m =
    let e : suc (k - from) ≡ k + 1 - from = omega arith in
    ap (λ n. take n (from_bottom k W ∷ drop (length W - k) W) ++ C) e
    ∙ sym (ap (λ X. take (k + 1 - from) X ++ C) (next-instruction W k m))

-- what is known of those that wait when the last pattern among them is sought from the top and m are passed
pub record PatternSought (W : List Instruction) (m : ℕ) : Type 0 where
  pub below : patterns_below W ≡ patterns_below (drop m W)
  pub onto : (C : List Instruction) → pattern_onto W C ≡ take m W ++ pattern_onto (drop m W) C

take-through : (W Z : List Instruction) (m : ℕ) → m < length W → take m W ++ (get_or W m close_constant ∷ Z) ≡ take (m + 1) W ++ Z
take-through [] Z m l = absurd (omega arith)
take-through (x ∷ W) Z zero l = refl
take-through (x ∷ W) Z (suc m) l =
    let e : suc (m + 1) ≡ suc m + 1 = omega arith in ap (λ Y. x ∷ Y) (take-through W Z m (omega arith)) ∙ ap (λ n. take n (x ∷ W) ++ Z) e

module _ {W : List Instruction} {m : ℕ} (p : PatternSought W m) (l : m < length W) where
  pub pattern-passed : begins_pattern (get_or W m close_constant) ≡ false → PatternSought W (m + 1)
  pattern-passed b =
      let e = drop_more W m close_constant l in
      record {
        below =
            p.below
            ∙ ap patterns_below e
            ∙ ap (λ x. cond x (drop (m + 1) W) (patterns_below (drop (m + 1) W))) b;
        onto =
            λ C.
            p.onto C
            ∙ ap (λ X. take m W ++ pattern_onto X C) e
            ∙ ap (λ x. take m W ++ cond x (get_or W m close_constant ∷ C) (get_or W m close_constant ∷ pattern_onto (drop (m + 1) W) C)) b
            ∙ take-through W (pattern_onto (drop (m + 1) W) C) m l;
      }

drop-all : (W : List Instruction) → drop (length W) W ≡ []
drop-all [] = refl
drop-all (x ∷ W) = drop-all W
