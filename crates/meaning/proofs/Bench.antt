-- The bench values of docs/SHEETS.md ("Bench cases", those marked P) that need no bytes, by computation: bit has constructors
-- 1 hi and 2 lo. The circuit T stands here as a term; its sheet is read elsewhere. It is well typed, so the promises speak of
-- it, whatever pair types are declared.
-- Assumes nothing.
use Prim.Native.Nat.{ℕ}
use native.Mathlib.Omega.{arith}
use mathlib.Core.Path.{◌≡◌, refl}
use mathlib.Core.List.{List, [], ◌∷◌}
use Rattle.picoella.specs.Language.{
  Ty,
  Flat,
  TyTuple,
  within_none,
  within_leaf,
  OfType,
  Pattern,
  Whole,
  Constructor,
  Parts,
  Bar,
  p_constructor,
  here,
  there,
}
use Rattle.meaning.specs.Matching.{matches}
use Rattle.meaning.specs.Decisions.{Yes, Undecided}
use Rattle.meaning.specs.Elaboration.{
  Term,
  Constant,
  Name,
  Pair,
  First,
  Feedback,
  IfThenElse,
  Delayed,
  Elaborated,
  e_constant,
  e_name,
  e_feedback,
  e_if,
  e_delay,
}
use Rattle.meaning.specs.Undecided.{undecided_rule}
use Rattle.meaning.specs.Evaluation.{application, applications, iter, eval, next}
use Rattle.meaning.specs.Run.{outputs, after}

abbrev bit : Ty
bit = Flat 1 2

abbrev hi : Pattern
hi = Constructor 1 2 1

abbrev lo : Pattern
lo = Constructor 1 2 2

abbrev value : List (List ℕ) → Term → List ℕ
value ρ t = eval undecided_rule ρ t

abbrev gate_and : Term
gate_and = IfThenElse (Name 0) (Parts hi hi) (Constant bit (1 ∷ [])) (Constant bit (2 ∷ []))

and_no : value ((2 ∷ 0 ∷ []) ∷ []) gate_and ≡ 2 ∷ []
unfolding eval undecided_rule
and_no = refl

and-undecided : value ((1 ∷ 0 ∷ []) ∷ []) gate_and ≡ 0 ∷ []
unfolding eval undecided_rule
and-undecided = refl

and_yes : value ((1 ∷ 1 ∷ []) ∷ []) gate_and ≡ 1 ∷ []
unfolding eval undecided_rule
and_yes = refl

bar-on-undefined-undecided : matches (Bar hi lo) (0 ∷ []) ≡ Undecided
bar-on-undefined-undecided = refl

whole-on-undefined-yes : matches (Whole bit) (0 ∷ []) ≡ Yes
whole-on-undefined-yes = refl

parts-on-undefined-undecided : matches (Bar (Parts hi hi) (Parts lo lo)) (0 ∷ 0 ∷ []) ≡ Undecided
parts-on-undefined-undecided = refl

abbrev gate_not : Term
gate_not = IfThenElse (Name 0) hi (Constant bit (2 ∷ [])) (Constant bit (1 ∷ []))

-- a NOT fed back on itself
not-fed-back-undefined : value [] (Feedback bit gate_not (Name 0)) ≡ 0 ∷ []
unfolding eval undecided_rule
not-fed-back-undefined = refl

self-fed-back-undefined : value [] (Feedback bit (Name 0) (Name 0)) ≡ 0 ∷ []
unfolding eval undecided_rule
self-fed-back-undefined = refl

-- the pair (hi, its own first part)
abbrev own_first : Term
own_first = Pair (Constant bit (1 ∷ [])) (First bit (Name 0))

own-first-in-two : applications undecided_rule [] (TyTuple bit bit) own_first ≡ 2
unfolding eval undecided_rule
own-first-in-two = refl

own-first-after-one : iter (application undecided_rule [] own_first) 1 (0 ∷ 0 ∷ []) ≡ 1 ∷ 0 ∷ []
unfolding eval undecided_rule
own-first-after-one = refl

-- T: a bit that flips when the input is 1
abbrev toggle : (held : ℕ) → Term
toggle held =
    Feedback bit
    (Delayed [] bit (held ∷ [])
    (IfThenElse (Name 1) hi
    (IfThenElse (Name 0) lo (Constant bit (1 ∷ [])) (Constant bit (2 ∷ []))) (Name 0))) (Name 0)

toggle-outputs
    : outputs undecided_rule [] (toggle 2) ((1 ∷ []) ∷ (2 ∷ []) ∷ (1 ∷ []) ∷ []) ≡ (2 ∷ []) ∷ (1 ∷ []) ∷ (1 ∷ []) ∷ []
unfolding outputs eval next undecided_rule
toggle-outputs = refl

toggle-after : after undecided_rule [] (toggle 2) ((1 ∷ []) ∷ (2 ∷ []) ∷ (1 ∷ []) ∷ []) ≡ toggle 2
unfolding after eval next undecided_rule
toggle-after = refl

hi-typed : OfType bit (1 ∷ [])
hi-typed = within_leaf {n = 2} {v = 1} (omega arith) within_none

lo-typed : OfType bit (2 ∷ [])
lo-typed = within_leaf {n = 2} {v = 2} (omega arith) within_none

toggle-typed : (Declared : Ty → Type 0) → Elaborated Declared (bit ∷ []) (toggle 2) bit
toggle-typed Declared =
    e_feedback
    (e_delay lo-typed
    (e_if (e_name (there here)) p_constructor
    (e_if (e_name here) p_constructor (e_constant hi-typed) (e_constant lo-typed)) (e_name here))) (e_name here)
