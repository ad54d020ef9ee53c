-- A text has no more instructions than tokens: each is said by a token of its own.
-- Assumes nothing.
use Prim.Native.Nat.{ℕ, suc, ◌+◌, ◌≤◌}
use native.Mathlib.Omega.{arith}
use mathlib.Core.List.{List, [], ◌∷◌}
use lib.ListN.{length, length-append}
use Rattle.grammar.specs.Tokens.{Token}
use Rattle.grammar.specs.Source.{Identifier, Declaration, SourceConstant, SourcePattern, Expression, Text}
use Rattle.grammar.specs.Grammar.{ReadsOthers, no_other, one_other, ReadsDeclaration, reads_constructors, reads_pair_of}
use Rattle.grammar.specs.Grammar.{ReadsConstant, reads_constructor, reads_undefined, reads_both}
use Rattle.grammar.specs.Grammar.{ReadsPattern, reads_alone, reads_parts, reads_alone_or, reads_parts_or}
use Rattle.grammar.specs.Grammar.{ReadsExpression, reads_named, reads_undefined_of, reads_pair, reads_first, reads_second, reads_let}
use Rattle.grammar.specs.Grammar.{reads_let_rec, reads_if, reads_delay, ReadsMore, no_more, one_more, ReadsText, reads_text}
use Rattle.layout.specs.Resolved.{TypeEntry, after_entry}
use Rattle.instructions.specs.Instruction.{Instruction}
use Rattle.instructions.specs.TextOrder.{
  count_each,
  declaration_instructions,
  constant_instructions,
  pattern_instructions,
  expression_instructions,
  text_instructions,
}

module _ (ds : List Declaration) where
  constant-few : {a r : List Token} {c : SourceConstant} → ReadsConstant a c r → length (constant_instructions ds c) + length r ≤ length a
  constant-few reads_constructor = omega arith
  constant-few reads_undefined = omega arith
  constant-few (reads_both h k) = simp length-append (omega (arith, constant-few h, constant-few k))

  pattern-few : {a r : List Token} {m : SourcePattern} → ReadsPattern a m r → length (pattern_instructions ds m) + length r ≤ length a
  pattern-few reads_alone = omega arith
  pattern-few (reads_parts h k) = simp length-append (omega (arith, pattern-few h, pattern-few k))
  pattern-few (reads_alone_or h) = omega (arith, pattern-few h)
  pattern-few (reads_parts_or h k l) = simp length-append (omega (arith, pattern-few h, pattern-few k, pattern-few l))

  expression-few : {a r : List Token} {e : Expression} (bound : List (List ℕ)) → ReadsExpression a e r
      → length (expression_instructions ds bound e) + length r ≤ length a
  expression-few bound reads_named = omega arith
  expression-few bound reads_undefined_of = omega arith
  expression-few bound (reads_pair h k) = simp length-append (omega (arith, expression-few bound h, expression-few bound k))
  expression-few bound (reads_first h) = simp length-append (omega (arith, expression-few bound h))
  expression-few bound (reads_second h) = simp length-append (omega (arith, expression-few bound h))
  expression-few bound (reads_let {w} h k) = simp length-append (omega (arith, expression-few bound h, expression-few (w ∷ bound) k))
  expression-few bound (reads_let_rec {n} h k) = simp length-append (omega (arith, expression-few (n ∷ bound) h, expression-few (n ∷ bound) k))
  expression-few bound (reads_if h m k l) =
      simp length-append (omega (arith, expression-few bound h, pattern-few m, expression-few bound k, expression-few bound l))
  expression-few bound (reads_delay h k) = simp length-append (omega (arith, constant-few h, expression-few bound k))

counted-few : {a r : List Token} {cs : List Identifier} (l : List Instruction) → ReadsOthers a cs r → length (count_each cs l) + length r + 1 ≤ length l + length a
counted-few l no_other = omega arith
counted-few l (one_other h) = omega (arith, counted-few l h)

declaration-few : {a r : List Token} {d : Declaration} (i : ℕ) (T : List TypeEntry) (ds : List Declaration) → ReadsDeclaration a d r
    → length (declaration_instructions i T (d ∷ ds)) + length r ≤ length (declaration_instructions (suc i) (after_entry i T d) ds) + length a
declaration-few {d} i T ds (reads_constructors h) = omega (arith, counted-few (declaration_instructions (suc i) (after_entry i T d) ds) h)
declaration-few i T ds reads_pair_of = omega arith

more-few : {a r : List Token} {ds : List Declaration} (i : ℕ) (T : List TypeEntry) → ReadsMore a ds r
    → length (declaration_instructions i T ds) + length r ≤ length a
more-few i T no_more = omega arith
more-few i T (one_more {d} {ds} h k) = omega (arith, declaration-few i T ds h, more-few (suc i) (after_entry i T d) k)

pub few_instructions : {ts : List Token} {t : Text} → ReadsText ts t → length (text_instructions t) ≤ length ts
few_instructions (reads_text {d} {ds} h k l) =
    simp length-append (omega (arith, declaration-few 1 [] ds h, more-few 2 (after_entry 1 [] d) k, expression-few (d ∷ ds) [] l))
