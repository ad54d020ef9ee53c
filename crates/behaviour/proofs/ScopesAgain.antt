-- Where only leaves and labels are rewritten the scopes of an accepted sheet stay: its expressions are no leaves, so their words up
-- to word c are the same, and types are. By induction on the way down from the root.
-- Assumes nothing.
use Prim.Native.Nat.{ℕ, ◌<◌}
use mathlib.Core.List.{List}
use mathlib.Core.Path.{◌≡◌, ap, ◌∙◌}
use native.Mathlib.Omega.{arith}
use Rattle.records.specs.Words.{word, word_a, word_b}
use Rattle.records.specs.Kinds.{ExpressionKind, expression, tuple, first, second, let_in, feedback, if_matches, delay}
use Rattle.records.specs.Says.{kind_at}
use Rattle.records.specs.Trees.{tree_at, type_record_of}
use Rattle.records.specs.Rewritten.{Rewritten}
use Rattle.records.proofs.Grown.{grown-tree}
use Rattle.records.proofs.Rewritten.{same_kind, same-tree}
use Rattle.accepted.proofs.Laws.{written}
use Rattle.verdict.specs.Verdict.{verdict}
use Rattle.verdict.specs.Scopes.{inputs}
use Rattle.verdict.specs.Scopes.{
  Scope,
  root,
  tuple_first,
  tuple_second,
  of-first,
  of-second,
  let_defining,
  let_body,
  feedback_defining,
  feedback_body,
  if_tested,
  if_then,
  if_else,
  of-delay,
}
use Rattle.answers.specs.Answers.{Accepted}
use Rattle.accepted.proofs.Laws.{accepted-by-types}
use Rattle.accepted.proofs.Scopes.{scope-checked}
use Rattle.behaviour.proofs.TermsAgain.{type-of-same}

module _ {s s' : List ℕ} (o : Rewritten s s') {t : ℕ} (v : verdict s ≡ Accepted t) where
  -- the words of an expression
  expression-words : (q : ℕ) (k : ExpressionKind) → kind_at s q ≡ expression k → (j : ℕ) → j < 5 → word s' q j ≡ word s q j
  expression-words q k e = o.others q (λ f. let z : ◌≡◌ {A = ℕ} 0 1 = cc in omega arith)

  header-words : (j : ℕ) → j < 5 → word s' 0 j ≡ word s 0 j
  header-words =
      o.others 0 (λ f. let g = (written ((accepted-by-types s t).0 v).0).headed in let z : ◌≡◌ {A = ℕ} 0 1 = cc in omega arith)

  kind-again : (q : ℕ) (k : ExpressionKind) → kind_at s q ≡ expression k → kind_at s' q ≡ expression k
  kind-again q k e = same_kind o q ∙ e

  -- the type of a LET's defining part
  defining-type : {q : ℕ} {Γ : List ℕ} → kind_at s q ≡ expression let_in → Scope s q Γ
      → type_record_of s' Γ (tree_at s' (word_a s' q)) ≡ type_record_of s Γ (tree_at s (word_a s q))
  defining-type {q} {Γ} e c =
      let p = ((accepted-by-types s t).0 v).0 in
      let w = written p in
      let d = scope-checked t p v (let_defining e c) in
      ap (type_record_of s' Γ) (ap (tree_at s') (expression-words q let_in e 2 (omega arith)) ∙ same-tree o (word_a s q))
      ∙ type-of-same o w Γ (tree_at s (word_a s q)) (grown-tree w (word_a s q) d.there d.sort) d.context d.judged

  pub scope-again : {q : ℕ} {Γ : List ℕ} → Scope s q Γ → Scope s' q Γ
  scope-again root =
      let r : Scope s' (word_b s' 0) (inputs s') = root in rw (header-words 3 (omega arith), header-words 2 (omega arith)) at r
  scope-again (tuple_first {q = q} e c) =
      rw (expression-words q tuple e 2 (omega arith)) at (tuple_first (kind-again q tuple e) (scope-again c))
  scope-again (tuple_second {q = q} e c) =
      rw (expression-words q tuple e 3 (omega arith)) at (tuple_second (kind-again q tuple e) (scope-again c))
  scope-again (of-first {q = q} e c) =
      rw (expression-words q first e 2 (omega arith)) at (of-first (kind-again q first e) (scope-again c))
  scope-again (of-second {q = q} e c) =
      rw (expression-words q second e 2 (omega arith)) at (of-second (kind-again q second e) (scope-again c))
  scope-again (let_defining {q = q} e c) =
      rw (expression-words q let_in e 2 (omega arith)) at (let_defining (kind-again q let_in e) (scope-again c))
  scope-again (let_body {q = q} e c) =
      rw (defining-type e c, expression-words q let_in e 3 (omega arith)) at (let_body (kind-again q let_in e) (scope-again c))
  scope-again (feedback_defining {q = q} e c) =
      rw (expression-words q feedback e 3 (omega arith), expression-words q feedback e 2 (omega arith)) at
      (feedback_defining (kind-again q feedback e) (scope-again c))
  scope-again (feedback_body {q = q} e c) =
      rw (expression-words q feedback e 4 (omega arith), expression-words q feedback e 2 (omega arith)) at
      (feedback_body (kind-again q feedback e) (scope-again c))
  scope-again (if_tested {q = q} e c) =
      rw (expression-words q if_matches e 2 (omega arith)) at (if_tested (kind-again q if_matches e) (scope-again c))
  scope-again (if_then {q = q} e c) =
      rw (expression-words q if_matches e 3 (omega arith)) at (if_then (kind-again q if_matches e) (scope-again c))
  scope-again (if_else {q = q} e c) =
      rw (expression-words q if_matches e 4 (omega arith)) at (if_else (kind-again q if_matches e) (scope-again c))
  scope-again (of-delay {q = q} e c) =
      rw (expression-words q delay e 4 (omega arith)) at (of-delay (kind-again q delay e) (scope-again c))
