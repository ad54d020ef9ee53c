-- Matching on leaves says what 000's `match` says on constants, for a pattern and a constant of one type: the tables for pairs
-- and chains are 000's `and3` and `or3`, entry by entry, and a pair pattern cuts the leaves where the first part's end.
-- Assumes nothing.
use Prim.Native.Nat.{ℕ, zero, suc}
use mathlib.Core.Path.{◌≡◌, refl, ap₂, ◌∙◌}
use mathlib.Core.Bool.{Bool, true, false}
use lib.Dec.{eqb}
use Rattle.picoella.specs.Language.{Ty, Pattern, HasType, p_whole, p_constructor, p_parts, p_bar}
use Rattle.meaning.specs.Matching.{matches}
use Rattle.meaning.specs.Decisions.{Decision, Yes, No, Undecided, decided, constructor_decision, pair_decision, chain_decision}
use Rattle.meaning.specs.Constants.{
  ConstantTree,
  ConstantOf,
  of_cons,
  of_tuple,
  flatten,
  answer3,
  bool3,
  and3,
  or3,
  match_constructor,
  match,
}
use Rattle.meaning.proofs.MatchMonotone.{width-leaves}
use Rattle.meaning.proofs.FlattenOneToOne.{flatten-first, flatten-second}

decided-agrees : (b : Bool) → answer3 (decided b) ≡ bool3 b
decided-agrees true = refl
decided-agrees false = refl

constructor-agrees : (k i : ℕ) → answer3 (constructor_decision k i) ≡ match_constructor k i
constructor-agrees k zero = refl
constructor-agrees k (suc i) = decided-agrees (eqb (suc i) k)

pair-agrees : (a b : Decision) → answer3 (pair_decision a b) ≡ and3 (answer3 a) (answer3 b)
pair-agrees Yes Yes = refl
pair-agrees Yes No = refl
pair-agrees Yes Undecided = refl
pair-agrees No b = refl
pair-agrees Undecided Yes = refl
pair-agrees Undecided No = refl
pair-agrees Undecided Undecided = refl

chain-agrees : (a b : Decision) → answer3 (chain_decision a b) ≡ or3 (answer3 a) (answer3 b)
chain-agrees Yes b = refl
chain-agrees No Yes = refl
chain-agrees No No = refl
chain-agrees No Undecided = refl
chain-agrees Undecided Yes = refl
chain-agrees Undecided No = refl
chain-agrees Undecided Undecided = refl

pub match_agrees
    : {p : Pattern} {τ : Ty} {c : ConstantTree} → HasType p τ → ConstantOf τ c
    → answer3 (matches p (flatten c)) ≡ match p c
match_agrees p_whole h = refl
match_agrees (p_constructor {k}) (of_cons {i} h) = constructor-agrees k i
match_agrees (p_parts {p} {q} h k) (of_tuple {c} {d} i j) =
    rw (width-leaves h, flatten-first d i, flatten-second d i)
    (pair-agrees (matches p (flatten c)) (matches q (flatten d)) ∙ ap₂ and3 (match_agrees h i) (match_agrees k j))
match_agrees {c} (p_bar {p} {q} h k) i =
    chain-agrees (matches p (flatten c)) (matches q (flatten c)) ∙ ap₂ or3 (match_agrees h i) (match_agrees k i)
