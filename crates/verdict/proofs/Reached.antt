-- Where judging comes to a record, the record is an expression, it stands in that scope, and the names there have type records; and
-- an expression in such a scope has a type exactly where no judgement of it fails. By induction on the way down from the root.
-- Assumes nothing.
use Prim.Native.Nat.{ℕ, ◌<◌}
use mathlib.Core.Bool.{true, ◌&&◌}
use mathlib.Core.List.{List, ◌∷◌}
use mathlib.Core.Path.{◌≡◌, refl}
use lib.Dec.{ltb}
use Rattle.records.specs.Words.{count, word, word_a}
use Rattle.records.specs.Kinds.{
  expression,
  ExpressionKind,
  tuple,
  first,
  second,
  let_in,
  feedback,
  if_matches,
  delay,
  expressions,
  part,
}
use Rattle.records.specs.Says.{kind_at, sort_at}
use Rattle.records.specs.Trees.{type_at, TypeRecord, tree_at, type_record_of}
use Rattle.records.proofs.Table.{ask_of_kind}
use Rattle.records.proofs.Asked.{part-of-kind, root_is}
use Rattle.records.proofs.TypeRecords.{type-word}
use Rattle.records.proofs.Grown.{grown-tree}
use Rattle.structure.specs.Rules.{Passes}
use Rattle.structure.proofs.Passes.{written, types-fit}
use Rattle.typing.specs.Judging.{Context}
use Rattle.typing.proofs.Judged.{RulesHold, NoneFails, passed-judged, judged-passed}
use Rattle.typing.proofs.TypeRecordsOf.{type-of-record}
use Rattle.typing.proofs.Typings.{judged-typed, typed-judged}
use Rattle.verdict.specs.Scopes.{
  Scope,
  root,
  tuple_first,
  tuple_second,
  of-first,
  of-second,
  let_defining,
  let_body,
  feedback_defining,
  feedback_body,
  if_tested,
  if_then,
  if_else,
  of-delay,
  TypedAt,
  WellTypedAt,
  Reached,
  at-root,
  in_tuple_first,
  in_tuple_second,
  in_first,
  in_second,
  in_let_defining,
  in-let-body,
  in_feedback_defining,
  in_feedback_body,
  in_if_tested,
  in_if_then,
  in_if_else,
  in_delay,
}
use Rattle.verdict.proofs.Exact.{input-context}

pub reached-scope : {s : List ℕ} {q : ℕ} {Γ : List ℕ} → Reached s q Γ → Scope s q Γ
reached-scope at-root = root
reached-scope (in_tuple_first e c) = tuple_first e (reached-scope c)
reached-scope (in_tuple_second e c t) = tuple_second e (reached-scope c)
reached-scope (in_first e c) = of-first e (reached-scope c)
reached-scope (in_second e c) = of-second e (reached-scope c)
reached-scope (in_let_defining e c) = let_defining e (reached-scope c)
reached-scope (in-let-body e c t) = let_body e (reached-scope c)
reached-scope (in_feedback_defining e c) = feedback_defining e (reached-scope c)
reached-scope (in_feedback_body e c t) = feedback_body e (reached-scope c)
reached-scope (in_if_tested e c) = if_tested e (reached-scope c)
reached-scope (in_if_then e c m) = if_then e (reached-scope c)
reached-scope (in_if_else e c m t) = if_else e (reached-scope c)
reached-scope (in_delay e c) = of-delay e (reached-scope c)

-- an expression record, where the names in scope have type records
pub record Standing (s : List ℕ) (q : ℕ) (Γ : List ℕ) : Type 0 where
  pub there : q < count s
  pub sort : sort_at s q ≡ expressions
  pub context : Context s Γ

module _ {s : List ℕ} (p : Passes s) where
  -- the rules of an expression hold exactly where it has a type
  typed-rules : {q : ℕ} {Γ : List ℕ} → Standing s q Γ → WellTypedAt s Γ q → RulesHold s Γ (tree_at s q)
  typed-rules {q} {Γ} o (τ, d) =
      (typed-judged (written p) (types-fit p) Γ (tree_at s q) (grown-tree (written p) q o.there o.sort) o.context τ d).0

  pub typed-passes : {q : ℕ} {Γ : List ℕ} → Standing s q Γ → WellTypedAt s Γ q → NoneFails s Γ (tree_at s q)
  typed-passes {q} {Γ} o t = judged-passed s Γ (tree_at s q) (typed-rules o t)

  pub passes-typed : {q : ℕ} {Γ : List ℕ} → Standing s q Γ → NoneFails s Γ (tree_at s q) → WellTypedAt s Γ q
  passes-typed {q} {Γ} o f = (
    type_at s (type_record_of s Γ (tree_at s q)),
    judged-typed (written p) Γ (tree_at s q) (grown-tree (written p) q o.there o.sort) o.context
        (passed-judged s Γ (tree_at s q) f),
  )

  -- and then it has the type of a type record
  pub typed-type : {q : ℕ} {Γ : List ℕ} → Standing s q Γ → WellTypedAt s Γ q
      → TypedAt s Γ q (type_at s (type_record_of s Γ (tree_at s q)))
  typed-type {q} {Γ} o t =
      judged-typed (written p) Γ (tree_at s q) (grown-tree (written p) q o.there o.sort) o.context (typed-rules o t)

  pub standing-typed : {q : ℕ} {Γ : List ℕ} → Standing s q Γ → WellTypedAt s Γ q → TypeRecord s (type_record_of s Γ (tree_at s q))
  standing-typed {q} {Γ} o t =
      type-of-record (written p) Γ (tree_at s q) (grown-tree (written p) q o.there o.sort) o.context (typed-rules o t)

  -- the part in word j, in a scope whose names have type records
  pub part-standing : {q : ℕ} {Γ Δ : List ℕ} → Standing s q Γ → (k : ExpressionKind) → kind_at s q ≡ expression k → (j : ℕ)
      → (ltb 0 j && ltb j 6) ≡ true → ask_of_kind (expression k) j ≡ part expressions → Context s Δ → Standing s (word s q j) Δ
  part-standing {q} o k e j t a c =
      let f = part-of-kind (written p) q (expression k) expressions o.there e j t a in
      record { there = f.1; sort = f.2; context = c }

  pub feedback-context : {q : ℕ} {Γ : List ℕ} → Standing s q Γ → kind_at s q ≡ expression feedback → Context s (word_a s q ∷ Γ)
  feedback-context {q} o e =
      (type-word (written p) q (expression feedback) o.there e 2 refl (unfold ask_of_kind in refl), o.context)

  pub reached-standing : {q : ℕ} {Γ : List ℕ} → Reached s q Γ → Standing s q Γ
  reached-standing at-root = let f = root_is (written p) in record { there = f.1; sort = f.2; context = input-context p }
  reached-standing (in_tuple_first e c) =
      let o = reached-standing c in part-standing o tuple e 2 refl (unfold ask_of_kind in refl) o.context
  reached-standing (in_tuple_second e c t) =
      let o = reached-standing c in part-standing o tuple e 3 refl (unfold ask_of_kind in refl) o.context
  reached-standing (in_first e c) =
      let o = reached-standing c in part-standing o first e 2 refl (unfold ask_of_kind in refl) o.context
  reached-standing (in_second e c) =
      let o = reached-standing c in part-standing o second e 2 refl (unfold ask_of_kind in refl) o.context
  reached-standing (in_let_defining e c) =
      let o = reached-standing c in part-standing o let_in e 2 refl (unfold ask_of_kind in refl) o.context
  reached-standing (in-let-body e c t) =
      let o = reached-standing c in
      let a = part-standing o let_in e 2 refl (unfold ask_of_kind in refl) o.context in
      part-standing o let_in e 3 refl (unfold ask_of_kind in refl) (standing-typed a t, o.context)
  reached-standing (in_feedback_defining e c) =
      let o = reached-standing c in part-standing o feedback e 3 refl (unfold ask_of_kind in refl) (feedback-context o e)
  reached-standing (in_feedback_body e c t) =
      let o = reached-standing c in part-standing o feedback e 4 refl (unfold ask_of_kind in refl) (feedback-context o e)
  reached-standing (in_if_tested e c) =
      let o = reached-standing c in part-standing o if_matches e 2 refl (unfold ask_of_kind in refl) o.context
  reached-standing (in_if_then e c m) =
      let o = reached-standing c in part-standing o if_matches e 3 refl (unfold ask_of_kind in refl) o.context
  reached-standing (in_if_else e c m t) =
      let o = reached-standing c in part-standing o if_matches e 4 refl (unfold ask_of_kind in refl) o.context
  reached-standing (in_delay e c) =
      let o = reached-standing c in part-standing o delay e 4 refl (unfold ask_of_kind in refl) o.context
