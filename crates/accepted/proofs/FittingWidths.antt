-- A pattern that fits a type has as many leaves as the type: a whole type is that type, a constructor's type is a flat one, and
-- the parts of a pair of patterns fit the parts of the pair record. So in the table of an accepted sheet the pattern of an IF has
-- the entry of what is tested, and that is at most 64. By induction on the pattern.
-- Assumes nothing.
use Prim.Native.Nat.{ℕ, ◌≤◌, ◌<◌}
use mathlib.Core.Bool.{true, ◌&&◌}
use mathlib.Core.List.{List}
use mathlib.Core.Path.{◌≡◌, refl, sym, ◌∙◌}
use native.Mathlib.Omega.{arith}
use borrow.Author.Tests.{eqb-true}
use lib.Dec.{eqb}
use lib.ListN.{get_or}
use Rattle.picoella.specs.Language.{leaves}
use Rattle.records.specs.Words.{count, word_a, word_b, word_d}
use Rattle.records.specs.Kinds.{expression, if_matches, patterns, is_pair}
use Rattle.records.specs.Says.{kind_at, sort_at}
use Rattle.records.specs.Trees.{
  type_at,
  TypeRecord,
  Alternatives,
  end,
  no_pattern,
  whole_type,
  one_constructor,
  pair_of_patterns,
  alternatives,
  tree_at,
  type_record_of,
}
use Rattle.records.specs.Written.{Written}
use Rattle.records.proofs.Tests.{both_left, both_right}
use Rattle.records.proofs.Table.{ask_of_kind, is-pair}
use Rattle.records.proofs.Asked.{part-of-kind}
use Rattle.records.proofs.Types.{flat-type, pair-type, few-leaves}
use Rattle.records.proofs.TypeRecords.{first_part, second-part}
use Rattle.records.proofs.Grown.{GrownPattern, grown-pattern}
use Rattle.structure.specs.Rules.{Passes}
use Rattle.structure.proofs.Passes.{written, types-fit}
use Rattle.typing.specs.Judgements.{pattern_fits}
use Rattle.typing.specs.ExpressionWidth.{width}
use Rattle.verdict.specs.Verdict.{verdict}
use Rattle.verdict.specs.Scopes.{Scope, if_tested}
use Rattle.verdict.specs.Widths.{pattern_leaves, Widths}
use Rattle.answers.specs.Answers.{Accepted}
use Rattle.accepted.proofs.Scopes.{scope-checked, judged-by-kind, checked-type}

pub fitting-leaves : {s : List ℕ} → Written s → (p : Alternatives) (t : ℕ) → TypeRecord s t → GrownPattern s p
    → pattern_fits s p t ≡ true → pattern_leaves s p ≡ leaves (type_at s t)
fitting-leaves {s} w end t u g f = absurd g
fitting-leaves {s} w no_pattern t u g f = absurd g
fitting-leaves {s} w (whole_type r v m) t u g f = rw (eqb-true v t (both_left (eqb v t) (pattern_fits s m t) f))
fitting-leaves {s} w (one_constructor r v k m) t u g f =
    rw (← eqb-true v t (both_left (eqb v t) (pattern_fits s m t) f), flat-type s v g.0.kind)
fitting-leaves {s} w (pair_of_patterns r a b m) t u g f =
    let rest = pattern_fits s b (word_b s t) && pattern_fits s m t in
    let k = is-pair (kind_at s t) (both_left (is_pair (kind_at s t)) (pattern_fits s a (word_a s t) && rest) f) in
    let fa = both_right (is_pair (kind_at s t)) (pattern_fits s a (word_a s t) && rest) f in
    let fb = both_right (pattern_fits s a (word_a s t)) rest fa in
    let ea = fitting-leaves w a (word_a s t) (first_part w t u.there k) g.0 (both_left (pattern_fits s a (word_a s t)) rest fa) in
    let eb = fitting-leaves w b (word_b s t) (second-part w t u.there k) g.1
    (both_left (pattern_fits s b (word_b s t)) (pattern_fits s m t) fb) in
    rw (pair-type w t u.there k, ea, eb)

-- an IF of an accepted circuit
module _ {s : List ℕ} {q : ℕ} {Γ : List ℕ} {t : ℕ} (p : Passes s) (v : verdict s ≡ Accepted t) (c : Scope s q Γ)
    (e : kind_at s q ≡ expression if_matches)
  where
    pub tested-type : TypeRecord s (type_record_of s Γ (tree_at s (word_a s q)))
    tested-type = checked-type p (scope-checked t p v (if_tested e c))

    pub tested-few : width s Γ (tree_at s (word_a s q)) ≤ 64
    tested-few = few-leaves (types-fit p) (type_record_of s Γ (tree_at s (word_a s q))) tested-type.there tested-type.sort

    named-pattern : (word_d s q < count s) × (sort_at s (word_d s q) ≡ patterns)
    named-pattern =
        let o = scope-checked t p v c in
        let f = part-of-kind (written p) q (expression if_matches) patterns o.there e 5 refl (unfold ask_of_kind in refl) in
        (f.1, f.2)

    -- its pattern has the leaves of what is tested
    pub tested-leaves : pattern_leaves s (alternatives s (word_d s q)) ≡ width s Γ (tree_at s (word_a s q))
    tested-leaves =
        fitting-leaves (written p) (alternatives s (word_d s q)) (type_record_of s Γ (tree_at s (word_a s q))) tested-type
        (grown-pattern (written p) (word_d s q) named-pattern.0 named-pattern.1)
        (judged-by-kind p (scope-checked t p v c) if_matches e).1

    module _ (table : List ℕ) (o : Widths s table) where
      pub pattern-width : get_or table (word_d s q) 0 ≡ width s Γ (tree_at s (word_a s q))
      pattern-width =
          let few = tested-few in
          o.patterns (word_d s q) named-pattern.0 named-pattern.1 ∙ rw tested-leaves (omega arith)

      pub pattern-few : get_or table (word_d s q) 0 ≤ 64
      pattern-few = let few = tested-few in let w = pattern-width in omega arith

      -- the entry of what is tested
      pub pattern-as-tested : get_or table (word_d s q) 0 ≡ get_or table (word_a s q) 0
      pattern-as-tested = pattern-width ∙ sym (o.expressions (if_tested e c))
