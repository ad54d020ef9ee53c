-- The part of some room in front, and the counts of the input's leaves in one.
-- Assumes nothing.
use Prim.Native.Nat.{ℕ, ◌-◌, ◌≤◌}
use mathlib.Core.Path.{◌≡◌, ap, ◌∙◌}
use mathlib.Core.List.{List, ◌++◌}
use native.Mathlib.Omega.{arith}
use lib.ListN.{length, get_or, take, drop, replicate, length-append, length-replicate}
use lib.Seq.{take_at, length-take-le}
use Rattle.picoella.specs.Language.{bounds}
use Rattle.records.specs.Words.{word}
use Rattle.records.specs.Trees.{type_at}
use Rattle.records.proofs.Types.{leaves-of-bounds}
use Rattle.accepted.specs.Accepting.{Accepting}
use Rattle.stimulus.specs.Stimulus.{input_type}
use Rattle.stimulus.proofs.Holding.{input-takes}

-- the part of some room in front
pub front_long : {A : List ℕ} {w : ℕ} → A ≡ replicate 64 0 → w ≤ 64 → w ≤ length A
front_long {A} {w} e h = let l : length A ≡ 64 = rw e (length-replicate {A = ℕ} 64 0) in omega arith

pub part-long : {A : List ℕ} {w : ℕ} → A ≡ replicate 64 0 → w ≤ 64 → length (take (w - 0) A) ≡ w
part-long {A} {w} e h = let l = front_long e h in length-take-le (w - 0) A (omega arith) ∙ omega arith

module _ (o A : List ℕ) {w : ℕ} (k : length o ≡ w) where
  pub front-inside : w ≤ length (o ++ drop (w - 0) A)
  front-inside = let l = length-append o (drop (w - 0) A) in omega arith

  pub front-is : take (w - 0) (o ++ drop (w - 0) A) ≡ o
  front-is = take_at o (drop (w - 0) A) (w - 0) (omega arith)

pub counts-front : {s : List ℕ} {n : ℕ} {W : List ℕ} (g : Accepting s n W) {a : ℕ} → a ≡ word s 0 2 → (A : List ℕ) {o : List ℕ} → A ≡ replicate 64 0
    → o ≡ bounds (type_at s a) → take (get_or W a 0) (o ++ drop (get_or W a 0) A) ≡ bounds (input_type s)
counts-front {s} {W = W} g {a} e A {o} z b =
    let l = ap length b in
    let m = leaves-of-bounds (type_at s a) in
    let k = input-takes g e in
    take_at o (drop (get_or W a 0) A) (get_or W a 0) (omega arith) ∙ b ∙ ap (λ (x : ℕ). bounds (type_at s x)) e
