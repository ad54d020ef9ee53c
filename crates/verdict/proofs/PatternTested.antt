-- The pattern of an IF has the tested type, by the typing relation, exactly where it fits the tested part's type record.
-- Assumes nothing.
use Prim.Native.Nat.{ℕ}
use mathlib.Core.Bool.{true}
use mathlib.Core.List.{List}
use mathlib.Core.Path.{◌≡◌, refl}
use Rattle.records.specs.Words.{word_a, word_d}
use Rattle.records.specs.Kinds.{expression, if_matches, patterns}
use Rattle.records.specs.Says.{kind_at}
use Rattle.records.specs.Trees.{type_at, alternatives, tree_at, type_record_of}
use Rattle.records.proofs.Table.{ask_of_kind}
use Rattle.records.proofs.Asked.{part-of-kind}
use Rattle.records.proofs.Grown.{GrownPattern, grown-tree, grown-pattern}
use Rattle.structure.specs.Rules.{Passes}
use Rattle.structure.proofs.Passes.{written, types-fit}
use Rattle.typing.specs.Judgements.{Rule, pattern_has, holds}
use Rattle.typing.proofs.PatternTypes.{fits-typed, typed-fits}
use Rattle.typing.proofs.Typings.{typed-judged}
use Rattle.verdict.specs.Scopes.{WellTypedAt, PatternHasTested}
use Rattle.verdict.proofs.Reached.{Standing, part-standing, typed-type, standing-typed}

-- the rule on the pattern of the IF at record q
abbrev pub pattern_rule : List ℕ → List ℕ → ℕ → Rule
pattern_rule s Γ q = pattern_has (type_record_of s Γ (tree_at s (word_a s q))) (alternatives s (word_d s q))

module _ {s : List ℕ} (p : Passes s) {q : ℕ} {Γ : List ℕ} (o : Standing s q Γ) (e : kind_at s q ≡ expression if_matches) where
  pub tested-standing : Standing s (word_a s q) Γ
  tested-standing = part-standing p o if_matches e 2 refl (unfold ask_of_kind in refl) o.context

  pattern-there : GrownPattern s (alternatives s (word_d s q))
  pattern-there =
      let f = part-of-kind (written p) q (expression if_matches) patterns o.there e 5 refl (unfold ask_of_kind in refl) in
      grown-pattern (written p) (word_d s q) f.1 f.2

  pub tested-fits : PatternHasTested s Γ q → holds s (pattern_rule s Γ q) ≡ true
  tested-fits (σ, d, h) =
      let a = tested-standing in
      let t = type_record_of s Γ (tree_at s (word_a s q)) in
      let j = typed-judged (written p) (types-fit p) Γ (tree_at s (word_a s q)) (grown-tree (written p) (word_a s q) a.there a.sort)
      a.context σ d in
      typed-fits (written p) (types-fit p) (alternatives s (word_d s q)) t (standing-typed p a (σ, d)) pattern-there (rw j.1 h)

  pub fits-tested : (t : WellTypedAt s Γ (word_a s q)) → holds s (pattern_rule s Γ q) ≡ true → PatternHasTested s Γ q
  fits-tested t h =
      let a = tested-standing in
      let r = standing-typed p a t in
      let u = typed-type p a t in
      (type_at s (type_record_of s Γ (tree_at s (word_a s q))), u, fits-typed (written p) (alternatives s (word_d s q)) (type_record_of s Γ (tree_at s (word_a s q))) r pattern-there h)
