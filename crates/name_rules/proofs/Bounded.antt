-- A text needs at most 65 records a byte: each token has at most 65, and each token has a byte.
-- Assumes nothing.
use Prim.Native.Nat.{ℕ, ◌+◌, ◌*◌, ◌≤◌, min}
use native.Mathlib.Omega.{arith}
use mathlib.Core.Bool.{Bool, true, false, cond}
use mathlib.Core.List.{List, [], ◌∷◌}
use lib.ListN.{length}
use Rattle.grammar.specs.Tokens.{Token, Tokens, no_token, a_blank, a-symbol, a_word, LetterRun, run_last, run_more}
use Rattle.grammar.specs.Source.{Identifier, Declaration, Constructors, PairOf, SourceConstant, SourcePattern, Expression, Text}
use Rattle.grammar.specs.Grammar.{ReadsOthers, no_other, one_other, ReadsDeclaration, reads_constructors, reads_pair_of}
use Rattle.grammar.specs.Grammar.{ReadsMore, no_more, one_more, ReadsConstant, reads_constructor, reads_undefined, reads_both}
use Rattle.grammar.specs.Grammar.{ReadsPattern, reads_alone, reads_parts, reads_alone_or, reads_parts_or}
use Rattle.grammar.specs.Grammar.{ReadsExpression, reads_named, reads_undefined_of, reads_pair, reads_first, reads_second, reads_let}
use Rattle.grammar.specs.Grammar.{reads_let_rec, reads_if, reads_delay, ReadsText, reads_text}
use Rattle.name_rules.specs.Declared.{DeclaredName, same_name, is_among, is_declared, constructor_role, at_first}
use Rattle.name_rules.specs.Constants.{letters}
use Rattle.name_rules.specs.Names.{after_all}
use Rattle.name_rules.specs.RecordsNeeded.{LeafCount, leaf_count, leaf_count_of, leaf_counts, pattern_records, constant_leaves, name_records}
use Rattle.name_rules.specs.RecordsNeeded.{records_of_expression, records_needed}

-- no type has more than 64 leaves
abbrev Few : List LeafCount → Type 0
Few L = (w : List ℕ) → leaf_count_of L w ≤ 64

few-more : (L : List LeafCount) (t : List ℕ) (n : ℕ) → Few L → n ≤ 64 → Few (leaf_count t n ∷ L)
few-more L t n f h w = go (same_name w t)
  where
    go : (x : Bool) → cond x n (leaf_count_of L w) ≤ 64
    go true = h
    go false = f w

few-counts : (L : List LeafCount) (ds : List Declaration) → Few L → Few (leaf_counts L ds)
few-counts L [] f = f
few-counts L (Constructors t c cs ∷ ds) f = few-counts (leaf_count (letters t) 1 ∷ L) ds (few-more L (letters t) 1 f (omega arith))
few-counts L (PairOf t a b ∷ ds) f =
    few-counts (leaf_count (letters t) (min 64 (leaf_count_of L (letters a) + leaf_count_of L (letters b))) ∷ L) ds
    (few-more L (letters t) (min 64 (leaf_count_of L (letters a) + leaf_count_of L (letters b))) f (omega arith))

name-few : (D : List DeclaredName) (bound : List (List ℕ)) (w : List ℕ) → name_records D bound w ≤ 2
name-few D bound w = go (is_among w bound) (is_declared constructor_role w D)
  where
    go : (x y : Bool) → cond x 1 (cond y 2 1) ≤ 2
    go true y = omega arith
    go false true = omega arith
    go false false = omega arith

pattern-few : {a r : List Token} {m : SourcePattern} → ReadsPattern a m r → pattern_records m + 65 * length r ≤ 65 * length a
pattern-few reads_alone = omega arith
pattern-few (reads_parts h k) = omega (arith, pattern-few h, pattern-few k)
pattern-few (reads_alone_or h) = omega (arith, pattern-few h)
pattern-few (reads_parts_or h k l) = omega (arith, pattern-few h, pattern-few k, pattern-few l)

module _ (L : List LeafCount) (f : Few L) where
  constant-few : {a r : List Token} {c : SourceConstant} → ReadsConstant a c r → constant_leaves L c + 65 * length r ≤ 65 * length a
  constant-few reads_constructor = omega arith
  constant-few (reads_undefined {w} {r}) = omega (arith, f w)
  constant-few (reads_both h k) = omega (arith, constant-few h, constant-few k)

  expression-few : {a r : List Token} {e : Expression} (D : List DeclaredName) (bound : List (List ℕ))
      → ReadsExpression a e r → records_of_expression L D bound e + 65 * length r ≤ 65 * length a
  expression-few D bound (reads_named {w}) = omega (arith, name-few D bound w)
  expression-few D bound (reads_undefined_of {w}) = omega (arith, f w)
  expression-few D bound (reads_pair h k) = omega (arith, expression-few D bound h, expression-few D bound k)
  expression-few D bound (reads_first h) = omega (arith, expression-few D bound h)
  expression-few D bound (reads_second h) = omega (arith, expression-few D bound h)
  expression-few D bound (reads_let {w} h k) = omega (arith, expression-few D bound h, expression-few D (w ∷ bound) k)
  expression-few D bound (reads_let_rec {n} h k) = omega (arith, expression-few D (n ∷ bound) h, expression-few D (n ∷ bound) k)
  expression-few D bound (reads_if h m k l) =
      omega (arith, expression-few D bound h, pattern-few m, expression-few D bound k, expression-few D bound l)
  expression-few D bound (reads_delay h k) = omega (arith, constant-few h, expression-few D bound k)

others-few : {a r : List Token} {cs : List Identifier} → ReadsOthers a cs r → length r + 1 ≤ length a
others-few no_other = omega arith
others-few (one_other h) = omega (arith, others-few h)

declaration-few : {a r : List Token} {d : Declaration} → ReadsDeclaration a d r → length r + 2 ≤ length a
declaration-few (reads_constructors h) = omega (arith, others-few h)
declaration-few reads_pair_of = omega arith

list-few : {a r : List Token} {ds : List Declaration} → ReadsMore a ds r → length ds + 65 * length r ≤ 65 * length a
list-few no_more = omega arith
list-few (one_more h k) = omega (arith, declaration-few h, list-few k)

records-few : {ts : List Token} {t : Text} → ReadsText ts t → records_needed t ≤ 65 * length ts
records-few (reads_text {d} {ds} h k l) =
    omega (
      arith,
      declaration-few h,
      list-few k,
      expression-few (leaf_counts [] (d ∷ ds)) (few-counts [] (d ∷ ds) (λ w. omega arith)) (after_all at_first (d ∷ ds)) [] l,
    )

run_length : {bs word rest : List ℕ} → LetterRun bs word rest → length rest + 1 ≤ length bs
run_length (run_last h n) = omega arith
run_length (run_more h r) = omega (arith, run_length r)

pub tokens-few : {i : ℕ} {bs : List ℕ} {ts : List Token} → Tokens i bs ts → length ts ≤ length bs
tokens-few no_token = omega arith
tokens-few (a_blank e t) = omega (arith, tokens-few t)
tokens-few (a-symbol e t) = omega (arith, tokens-few t)
tokens-few (a_word r s t) = omega (arith, run_length r, tokens-few t)

pub records_bounded : {bytes : List ℕ} {ts : List Token} {t : Text} → Tokens 0 bytes ts → ReadsText ts t → records_needed t ≤ 65 * length bytes
records_bounded l r = omega (arith, tokens-few l, records-few r)
