-- The expressions of a text with their records, how deep each lies, and in how many feedbacks'
-- defining parts (docs/SHEETS.md, "Limits": the root has depth 1, "and an expression that is a part
-- of another one more than that other"), in the order of the records; and the first that 6 refuses.
use Rattle.std.specs.Prelude.{ℕ, suc, ◌+◌, Bool, ◌||◌, cond, List, [], ◌∷◌, ◌++◌, length, ltb}
use Rattle.std.proofs.Math.Option.{Option, none, some}
use Rattle.grammar.specs.Source.{Declaration, Text, text}
use Rattle.grammar.specs.Source.{
  Expression,
  NameUse,
  UndefinedOf,
  PairExpression,
  FirstOf,
  SecondOf,
  LetExpression,
  LetRecExpression,
  IfExpression,
  DelayExpression,
}
use Rattle.name_rules.specs.Names.{bind}
use Rattle.name_rules.specs.RecordsNeeded.{leaf_counts, constant_leaves}
use Rattle.layout.specs.Layout.{room_of}

pub data LaidExpression : Type 0 where
  laid_at : (number depth nesting : ℕ) → LaidExpression

-- an expression that begins at record r, lies at this depth and in so many defining parts
module _ (ds : List Declaration) where
  abbrev pub expressions_laid : (bound : List (List ℕ)) (r depth nesting : ℕ) → Expression → List LaidExpression
  expressions_laid bound r k f (NameUse n) = laid_at r k f ∷ []
  expressions_laid bound r k f (UndefinedOf t) = laid_at r k f ∷ []
  expressions_laid bound r k f (PairExpression e g) =
      laid_at r k f ∷ expressions_laid bound (suc r) (suc k) f e ++ expressions_laid bound (suc r + room_of ds bound e) (suc k) f g
  expressions_laid bound r k f (FirstOf e) = laid_at r k f ∷ expressions_laid bound (suc r) (suc k) f e
  expressions_laid bound r k f (SecondOf e) = laid_at r k f ∷ expressions_laid bound (suc r) (suc k) f e
  expressions_laid bound r k f (LetExpression n e g) =
      laid_at r k f ∷ expressions_laid bound (suc r) (suc k) f e ++ expressions_laid (bind n bound) (suc r + room_of ds bound e) (suc k) f g
  expressions_laid bound r k f (LetRecExpression t n e g) =
      laid_at r k f
      ∷ expressions_laid (bind n bound) (suc r) (suc k) (suc f) e
      ++ expressions_laid (bind n bound) (suc r + room_of ds (bind n bound) e) (suc k) f g
  expressions_laid bound r k f (IfExpression e m g h) =
      let then = suc r + room_of ds bound e in
      let otherwise = then + room_of ds bound g in
      laid_at r k f
      ∷ expressions_laid bound (suc r) (suc k) f e
      ++ (expressions_laid bound then (suc k) f g ++ expressions_laid bound otherwise (suc k) f h)
  expressions_laid bound r k f (DelayExpression c e) =
      laid_at r k f ∷ expressions_laid bound (suc r + constant_leaves (leaf_counts [] ds) c) (suc k) f e

abbrev pub text_expressions : Text → List LaidExpression
text_expressions (text d ds n e) = expressions_laid (d ∷ ds) [] (suc (length (d ∷ ds))) 1 0 e

-- deeper than 64, or in four defining parts or more
abbrev pub lies_too_deep : (depth nesting : ℕ) → Bool
lies_too_deep k f = ltb 64 k || ltb 3 f

-- the record of the first that lies so
abbrev pub first_too_deep : List LaidExpression → Option ℕ
first_too_deep [] = none
first_too_deep (laid_at r k f ∷ more) = cond (lies_too_deep k f) (some r) (first_too_deep more)
