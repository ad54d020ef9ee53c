-- Where only leaves and labels are rewritten the table of an accepted sheet stays: expressions, patterns and types are where they
-- were, with the same scopes and types.
-- Assumes nothing.
use Prim.Native.Nat.{ℕ}
use mathlib.Core.List.{List}
use mathlib.Core.Path.{◌≡◌, refl, sym, ap, ◌∙◌}
use native.Mathlib.Omega.{arith}
use Rattle.picoella.specs.Language.{leaves}
use Rattle.records.specs.Kinds.{sort_of}
use Rattle.records.specs.Says.{sort_at}
use Rattle.records.specs.Sized.{Sized}
use Rattle.records.specs.Trees.{
  TypeRecord,
  Alternatives,
  end,
  no_pattern,
  whole_type,
  one_constructor,
  pair_of_patterns,
  alternatives,
  tree_at,
  type_record_of,
}
use Rattle.records.specs.Rewritten.{Rewritten}
use Rattle.records.proofs.Rewritten.{same_count, same_kind, same-type, same-alternatives, same-tree}
use Rattle.records.proofs.Grown.{grown-tree}
use Rattle.accepted.proofs.Laws.{written, exact}
use Rattle.typing.specs.ExpressionWidth.{width}
use Rattle.verdict.specs.Verdict.{verdict}
use Rattle.verdict.specs.Scopes.{Scope}
use Rattle.verdict.specs.Widths.{pattern_leaves, pattern_entry, Widths}
use Rattle.answers.specs.Answers.{Accepted}
use Rattle.accepted.proofs.Scopes.{scope-checked}
use Rattle.behaviour.proofs.TermsAgain.{type-of-same}
use Rattle.behaviour.proofs.ScopesAgain.{scope-again}

-- and back
pub leaves-back : {s s' : List ℕ} → Rewritten s s' → Rewritten s' s
leaves-back {s} {s'} o =
    record {
      length = sym o.length;
      others = λ r f k h. sym (o.others r (λ e. f (same_kind o r ∙ e)) k h);
      leaves = λ r k h f. sym (o.leaves r k h f);
      unlabelled = λ r f. sym (o.unlabelled r (λ e. f (same_kind o r ∙ e)));
    }

module _ {s s' : List ℕ} (o : Rewritten s s') where
  pub sized-again : {n : ℕ} → Sized s n → Sized s' n
  sized-again z =
      record { counted = z.counted ∙ sym (same_count o); whole = o.length ∙ z.whole; some = z.some; few = z.few }

  same-sort : (r : ℕ) → sort_at s' r ≡ sort_at s r
  same-sort r = ap sort_of (same_kind o r)

  type-back : (t : ℕ) → TypeRecord s' t → TypeRecord s t
  type-back t u =
      let c = same_count o in
      record { past = u.past; there = let h = u.there in omega arith; sort = sym (same-sort t) ∙ u.sort }

  same-pattern : (p : Alternatives) → pattern_leaves s' p ≡ pattern_leaves s p
  same-pattern end = refl
  same-pattern no_pattern = refl
  same-pattern (whole_type r t m) = ap leaves (same-type o t)
  same-pattern (one_constructor r t k m) = refl
  same-pattern (pair_of_patterns r p q m) = rw (same-pattern p, same-pattern q) refl

  same-entry : (p : ℕ) → pattern_entry s' p ≡ pattern_entry s p
  same-entry p = rw (same-alternatives o p, same-pattern (alternatives s p)) refl

  module _ {t : ℕ} (v : verdict s ≡ Accepted t) (v' : verdict s' ≡ Accepted t) where
    same_width : {q : ℕ} {Γ : List ℕ} → Scope s q Γ → width s' Γ (tree_at s' q) ≡ width s Γ (tree_at s q)
    same_width {q} {Γ} c =
        let p = ((exact s t).0 v).0 in
        let k = scope-checked t p v c in
        let w = written p in
        let e = type-of-same o w Γ (tree_at s q) (grown-tree w q k.there k.sort) k.context k.judged in
        rw (same-tree o q, e, same-type o (type_record_of s Γ (tree_at s q))) refl

    pub widths-again : {table : List ℕ} → Widths s table → Widths s' table
    widths-again w =
        let c = same_count o in
        record {
          long = w.long;
          types = λ u k. w.types u (type-back u k) ∙ ap leaves (sym (same-type o u));
          expressions = λ k. let b = scope-again (leaves-back o) v' k in w.expressions b ∙ sym (same_width b);
          patterns = λ p h e. w.patterns p (omega arith) (sym (same-sort p) ∙ e) ∙ sym (same-entry p);
          elsewhere = λ r h f. w.elsewhere r h (λ k. rw (← same-sort r) (f (omega arith)));
        }
