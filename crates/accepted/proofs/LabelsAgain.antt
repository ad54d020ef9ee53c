-- Two sheets that differ in the delays' words d alone have the same verdict: each rule on records breaks where it did, the circuit is
-- the same tree, and so are its judgements and whether they hold. By induction on the tree.
-- Assumes nothing.
use Prim.Native.Nat.{ℕ}
use mathlib.Core.Bool.{Bool, cond}
use mathlib.Core.List.{List, [], ◌∷◌}
use mathlib.Core.Option.{some}
use mathlib.Core.Path.{◌≡◌, refl, ap₂, fun_ext}
use native.Mathlib.Omega.{arith}
use Rattle.records.specs.Words.{count}
use Rattle.records.specs.Trees.{
  Tree,
  no_expression,
  constant_of,
  name_of,
  tuple_of,
  first_of,
  second_of,
  let_of,
  feedback_of,
  if_of,
  delay_of,
  circuit,
  type_record_of,
}
use Rattle.records.specs.Decoding.{leaf_values}
use Rattle.records.specs.Rewritten.{Rewritten}
use Rattle.records.specs.OnlyLabels.{OnlyLabels}
use Rattle.records.proofs.Rewritten.{same_count, same_kind, same-type, same-pair-of, same-circuit}
use Rattle.records.proofs.Labels.{labels-words, labels-rewritten, said_same}
use Rattle.answers.specs.Answers.{lowest}
use Rattle.structure.specs.Rules.{wrong_header, wrong_record, wrong_naming, wrong_type, too_deep}
use Rattle.typing.specs.Judgements.{
  Rule,
  leaves_fit,
  in_scope,
  pair_declared,
  pair_type,
  same_type,
  pattern_has,
  no_rule,
  Judgement,
  holds,
  judgements,
  first_failing,
}
use Rattle.verdict.specs.Verdict.{by_types, by_records, verdict}
use Rattle.verdict.specs.Scopes.{inputs}
use Rattle.accepted.proofs.PassesAgain.{same_length, same-naming-rule, same-type-rule, same-depth-rule}
use Rattle.accepted.proofs.AcceptedAgain.{pattern-again}

module _ {s s' : List ℕ} (o : OnlyLabels s s') where
  only : Rewritten s s'
  only = labels-rewritten o

  pub leaf-values-same : (ls : List ℕ) → leaf_values s' ls ≡ leaf_values s ls
  leaf-values-same [] = refl
  leaf-values-same (l ∷ ls) = ap₂ ◌∷◌ (labels-words o l 2 (omega arith)) (leaf-values-same ls)

  pub type-record-same : (Γ : List ℕ) (e : Tree) → type_record_of s' Γ e ≡ type_record_of s Γ e
  type-record-same Γ no_expression = refl
  type-record-same Γ (constant_of r t ls) = refl
  type-record-same Γ (name_of r k) = refl
  type-record-same Γ (tuple_of r a b) =
      rw (type-record-same Γ a, type-record-same Γ b) (same-pair-of only (type_record_of s Γ a) (type_record_of s Γ b))
  type-record-same Γ (first_of r a) = rw (type-record-same Γ a) (labels-words o (type_record_of s Γ a) 2 (omega arith))
  type-record-same Γ (second_of r a) = rw (type-record-same Γ a) (labels-words o (type_record_of s Γ a) 3 (omega arith))
  type-record-same Γ (let_of r a b) = rw (type-record-same Γ a) (type-record-same (type_record_of s Γ a ∷ Γ) b)
  type-record-same Γ (feedback_of r t a b) = type-record-same (t ∷ Γ) b
  type-record-same Γ (if_of r a p b c) = type-record-same Γ b
  type-record-same Γ (delay_of r t ls a) = refl

  holds_same : (j : Rule) → holds s' j ≡ holds s j
  holds_same (leaves_fit t ls) = rw (same-type only t, leaf-values-same ls)
  holds_same (in_scope k n) = refl
  holds_same (pair_declared a b) = rw (same-pair-of only a b)
  holds_same (pair_type t) = rw (same_kind only t)
  holds_same (same_type t u) = refl
  holds_same (pattern_has t p) = pattern-again only p t
  holds_same no_rule = refl

  judgements-same : (Γ : List ℕ) (e : Tree) → judgements s' Γ e ≡ judgements s Γ e
  judgements-same Γ no_expression = refl
  judgements-same Γ (constant_of r t ls) = refl
  judgements-same Γ (name_of r k) = refl
  judgements-same Γ (tuple_of r a b) =
      rw (judgements-same Γ a, judgements-same Γ b, type-record-same Γ a, type-record-same Γ b)
  judgements-same Γ (first_of r a) = rw (judgements-same Γ a, type-record-same Γ a)
  judgements-same Γ (second_of r a) = rw (judgements-same Γ a, type-record-same Γ a)
  judgements-same Γ (let_of r a b) =
      rw (judgements-same Γ a, type-record-same Γ a, judgements-same (type_record_of s Γ a ∷ Γ) b)
  judgements-same Γ (feedback_of r t a b) =
      rw (judgements-same (t ∷ Γ) a, judgements-same (t ∷ Γ) b, type-record-same (t ∷ Γ) a)
  judgements-same Γ (if_of r a p b c) =
      rw (
        judgements-same Γ a,
        judgements-same Γ b,
        judgements-same Γ c,
        type-record-same Γ a,
        type-record-same Γ b,
        type-record-same Γ c,
      )
  judgements-same Γ (delay_of r t ls a) = rw (judgements-same Γ a, type-record-same Γ a)

  failing-same : (js : List Judgement) → first_failing s' js ≡ first_failing s js
  failing-same [] = refl
  failing-same (j ∷ js) = ap₂ (λ b rest. cond b rest (some j.at)) (holds_same j.rule) (failing-same js)

  -- a search finds the same where the rule is the same
  search-same : (rule rule' : ℕ → Bool) → ((r : ℕ) → rule' r ≡ rule r) → lowest rule' (count s') ≡ lowest rule (count s)
  search-same rule rule' same = ap₂ lowest (fun_ext same) (same_count only)

  header-rule : wrong_header s' ≡ wrong_header s
  unfolding wrong_header
  header-rule = rw (same_kind only 0, said_same o 0)

  record-rule : (r : ℕ) → wrong_record s' r ≡ wrong_record s r
  unfolding wrong_record
  record-rule r = rw (same_kind only r, said_same o r)

  by-types : by_types s' ≡ by_types s
  unfolding by_types
  by-types =
      rw (
        labels-words o 0 2 (omega arith),
        same-circuit only,
        judgements-same (inputs s) (circuit s),
        type-record-same (inputs s) (circuit s),
        failing-same (judgements s (inputs s) (circuit s)),
      )

  pub verdict-same : verdict s' ≡ verdict s
  unfolding verdict by_records
  verdict-same =
      rw (
        same_length only,
        header-rule,
        search-same (wrong_record s) (wrong_record s') record-rule,
        search-same (wrong_naming s) (wrong_naming s') (same-naming-rule only),
        search-same (wrong_type s) (wrong_type s') (same-type-rule only),
        search-same (too_deep s) (too_deep s') (same-depth-rule only),
        by-types,
      )
