-- At an expression of an accepted circuit the rules of its tree hold with the names in scope there; these have type records of
-- at most 64 leaves, and are at most as many as the expression's depth, so at most 64. By induction on the way down from the
-- root: a part's rules are among the whole's, and a part lies one deeper where at most one name is added. So the leaves of each
-- constant and each delay fit its type.
-- Assumes nothing.
use Prim.Native.Nat.{ℕ, suc, ◌≤◌, ◌<◌}
use mathlib.Core.Bool.{true, ◌&&◌}
use mathlib.Core.List.{List, ◌∷◌, map}
use mathlib.Core.Path.{◌≡◌, refl, sym, ap, ◌∙◌}
use native.Mathlib.Omega.{arith}
use lib.ListN.{length, get_or, length-map}
use lib.Dec.{ltb}
use Rattle.picoella.specs.Language.{Ty, leaves, bounds, Within, within_none, within_leaf, OfType, Typed}
use Rattle.records.specs.Words.{word, count, word_a, word_b, word_c, word_d}
use Rattle.records.specs.Kinds.{
  ExpressionKind,
  constant,
  tuple,
  first,
  second,
  let_in,
  feedback,
  if_matches,
  delay,
  expression,
  expressions,
  part,
}
use Rattle.records.specs.Says.{kind_at, sort_at}
use Rattle.records.specs.Trees.{type_at, TypeRecord, Declared, chain, tree_step, tree_at, circuit, type_record_of}
use Rattle.records.specs.Decoding.{leaf_values, expression_of}
use Rattle.records.proofs.Table.{ask_of_kind}
use Rattle.records.proofs.Asked.{part-of-kind, root_is}
use Rattle.records.proofs.Types.{few-leaves, leaves-of-bounds}
use Rattle.records.proofs.TypeRecords.{type-word}
use Rattle.records.proofs.Trees.{tree-of}
use Rattle.records.proofs.Grown.{grown-tree}
use Rattle.structure.specs.Rules.{depth, Passes}
use Rattle.verdict.specs.Verdict.{verdict}
use Rattle.verdict.specs.Scopes.{
  Scope,
  root,
  tuple_first,
  tuple_second,
  of-first,
  of-second,
  let_defining,
  let_body,
  feedback_defining,
  feedback_body,
  if_tested,
  if_then,
  if_else,
  of-delay,
}
use Rattle.answers.specs.Answers.{Accepted}
use Rattle.structure.proofs.Passes.{written, well-named, types-fit, not-deep}
use Rattle.structure.proofs.Depths.{depth-of-part, depth-of-root}
use Rattle.typing.proofs.Judged.{RulesHold}
use Rattle.typing.specs.Judging.{Context}
use Rattle.typing.proofs.TypeRecordsOf.{in-context, type-of-record}
use Rattle.typing.proofs.Typings.{within-fits, judged-typed}
use Rattle.verdict.proofs.Exact.{input-context, accepted-judged}

-- what holds at an expression of an accepted circuit
pub record CheckedAt (s : List ℕ) (q : ℕ) (Γ : List ℕ) : Type 0 where
  pub past : 0 < q
  pub there : q < count s
  pub sort : sort_at s q ≡ expressions
  pub judged : RulesHold s Γ (tree_at s q)
  pub context : Context s Γ
  pub names : length Γ ≤ depth s q

-- the rules of a record's tree, by its kind
pub judged-by-kind : {s : List ℕ} {q : ℕ} {Γ : List ℕ} → Passes s → CheckedAt s q Γ → (k : ExpressionKind)
    → kind_at s q ≡ expression k
    → RulesHold s Γ (tree_step s (tree_at s) (expression k) q (word_a s q) (word_b s q) (word_c s q) (word_d s q))
judged-by-kind {s} {q} p o k e = rw (tree-of (written p) q o.there (expression k) e) at o.judged

-- a part, where its rules hold with at most one name more
part-checked : {s : List ℕ} {q : ℕ} {Γ : List ℕ} → Passes s → CheckedAt s q Γ → (k : ExpressionKind) → kind_at s q ≡ expression k
    → (j : ℕ) → (ltb 0 j && ltb j 6) ≡ true → ask_of_kind (expression k) j ≡ part expressions → (Δ : List ℕ)
    → RulesHold s Δ (tree_at s (word s q j)) → Context s Δ → length Δ ≤ suc (length Γ) → CheckedAt s (word s q j) Δ
part-checked {s} {q} {Γ} p o k e j t a Δ judged context few =
    let w = written p in
    let f = part-of-kind w q (expression k) expressions o.there e j t a in
    let d = depth-of-part w (well-named p) q (expression k) expressions o.past o.there e j t a refl in
    let n = o.names in
    record { past = omega arith; there = f.1; sort = f.2; judged = judged; context = context; names = omega arith }

-- a part with the same names in scope
same_names : {s : List ℕ} {q : ℕ} {Γ : List ℕ} → Passes s → CheckedAt s q Γ → (k : ExpressionKind) → kind_at s q ≡ expression k
    → (j : ℕ) → (ltb 0 j && ltb j 6) ≡ true → ask_of_kind (expression k) j ≡ part expressions → RulesHold s Γ (tree_at s (word s q j))
    → CheckedAt s (word s q j) Γ
same_names {Γ = Γ} p o k e j t a judged = part-checked p o k e j t a Γ judged o.context (omega arith)

pub scope-checked : {s : List ℕ} {q : ℕ} {Γ : List ℕ} (t : ℕ) → Passes s → verdict s ≡ Accepted t → Scope s q Γ → CheckedAt s q Γ
unfolding circuit
scope-checked {s} t p v root =
    let w = written p in
    let f = root_is w in
    let d = depth-of-root w (well-named p) in
    record {
      past = f.0;
      there = f.1;
      sort = f.2;
      judged = (accepted-judged t p v).0;
      context = input-context p;
      names = omega arith;
    }
scope-checked {s} t p v (tuple_first e c) =
    let o = scope-checked t p v c in same_names p o tuple e 2 refl (unfold ask_of_kind in refl) (judged-by-kind p o tuple e).0
scope-checked {s} t p v (tuple_second e c) =
    let o = scope-checked t p v c in same_names p o tuple e 3 refl (unfold ask_of_kind in refl) (judged-by-kind p o tuple e).1
scope-checked {s} t p v (of-first e c) =
    let o = scope-checked t p v c in same_names p o first e 2 refl (unfold ask_of_kind in refl) (judged-by-kind p o first e).0
scope-checked {s} t p v (of-second e c) =
    let o = scope-checked t p v c in same_names p o second e 2 refl (unfold ask_of_kind in refl) (judged-by-kind p o second e).0
scope-checked {s} t p v (let_defining e c) =
    let o = scope-checked t p v c in same_names p o let_in e 2 refl (unfold ask_of_kind in refl) (judged-by-kind p o let_in e).0
scope-checked {s} t p v (let_body {q = q} {Γ = Γ} e c) =
    let o = scope-checked t p v c in
    let j = judged-by-kind p o let_in e in
    let w = written p in
    let f = part-of-kind w q (expression let_in) expressions o.there e 2 refl (unfold ask_of_kind in refl) in
    let u = type-of-record w Γ (tree_at s (word_a s q)) (grown-tree w (word_a s q) f.1 f.2) o.context j.0 in
    part-checked p o let_in e 3 refl (unfold ask_of_kind in refl) (type_record_of s Γ (tree_at s (word_a s q)) ∷ Γ) j.1 (u, o.context)
    (omega arith)
scope-checked {s} t p v (feedback_defining {q = q} {Γ = Γ} e c) =
    let o = scope-checked t p v c in
    let j = judged-by-kind p o feedback e in
    let u = type-word (written p) q (expression feedback) o.there e 2 refl (unfold ask_of_kind in refl) in
    part-checked p o feedback e 3 refl (unfold ask_of_kind in refl) (word_a s q ∷ Γ) j.0 (u, o.context) (omega arith)
scope-checked {s} t p v (feedback_body {q = q} {Γ = Γ} e c) =
    let o = scope-checked t p v c in
    let j = judged-by-kind p o feedback e in
    let u = type-word (written p) q (expression feedback) o.there e 2 refl (unfold ask_of_kind in refl) in
    part-checked p o feedback e 4 refl (unfold ask_of_kind in refl) (word_a s q ∷ Γ) j.1 (u, o.context) (omega arith)
scope-checked {s} t p v (if_tested e c) =
    let o = scope-checked t p v c in same_names p o if_matches e 2 refl (unfold ask_of_kind in refl) (judged-by-kind p o if_matches e).0
scope-checked {s} t p v (if_then e c) =
    let o = scope-checked t p v c in same_names p o if_matches e 3 refl (unfold ask_of_kind in refl) (judged-by-kind p o if_matches e).2
scope-checked {s} t p v (if_else e c) =
    let o = scope-checked t p v c in same_names p o if_matches e 4 refl (unfold ask_of_kind in refl) (judged-by-kind p o if_matches e).3
scope-checked {s} t p v (of-delay e c) =
    let o = scope-checked t p v c in same_names p o delay e 4 refl (unfold ask_of_kind in refl) (judged-by-kind p o delay e).0

-- at most 64 names, each of at most 64 leaves
pub few-names : {s : List ℕ} {q : ℕ} {Γ : List ℕ} → Passes s → CheckedAt s q Γ → length Γ ≤ 64
few-names {s} {q} p o = let d = (not-deep p q o.there o.sort).0 in let n = o.names in omega arith

pub small-names : {s : List ℕ} {q : ℕ} {Γ : List ℕ} → Passes s → CheckedAt s q Γ → (k : ℕ) → k < length Γ
    → leaves (type_at s (get_or Γ k 0)) ≤ 64
small-names {s} {q} {Γ} p o k h =
    let u = in-context s Γ k o.context h in few-leaves (types-fit p) (get_or Γ k 0) u.there u.sort

-- the expression has a type record, and its expression that type
pub checked-type : {s : List ℕ} {q : ℕ} {Γ : List ℕ} → Passes s → CheckedAt s q Γ → TypeRecord s (type_record_of s Γ (tree_at s q))
checked-type {s} {q} {Γ} p o =
    type-of-record (written p) Γ (tree_at s q) (grown-tree (written p) q o.there o.sort) o.context o.judged

pub checked-typed : {s : List ℕ} {q : ℕ} {Γ : List ℕ} → Passes s → CheckedAt s q Γ
    → Typed (Declared s) (map (type_at s) Γ) (expression_of s (tree_at s q)) (type_at s (type_record_of s Γ (tree_at s q)))
checked-typed {s} {q} {Γ} p o =
    judged-typed (written p) Γ (tree_at s q) (grown-tree (written p) q o.there o.sort) o.context o.judged

-- the leaves of a constant and of a delay fit their type
pub constant-fits : {s : List ℕ} {q : ℕ} {Γ : List ℕ} → Passes s → CheckedAt s q Γ → kind_at s q ≡ expression constant
    → OfType (type_at s (word_a s q)) (leaf_values s (chain s (word_b s q)))
constant-fits {s} {q} p o e =
    within-fits (bounds (type_at s (word_a s q))) (leaf_values s (chain s (word_b s q))) (judged-by-kind p o constant e)

pub delay-fits : {s : List ℕ} {q : ℕ} {Γ : List ℕ} → Passes s → CheckedAt s q Γ → kind_at s q ≡ expression delay
    → OfType (type_at s (word_a s q)) (leaf_values s (chain s (word_b s q)))
delay-fits {s} {q} p o e =
    within-fits (bounds (type_at s (word_a s q))) (leaf_values s (chain s (word_b s q))) (judged-by-kind p o delay e).1

-- leaves that fit a type are as many as the type has
same_length : (ns vs : List ℕ) → Within ns vs → length ns ≡ length vs
same_length ns vs within_none = refl
same_length xs ys (within_leaf {ns = ns} {vs = vs} h f) = ap suc (same_length ns vs f)

pub as-many-leaves : (s : List ℕ) (τ : Ty) (ls : List ℕ) → OfType τ (leaf_values s ls) → length ls ≡ leaves τ
as-many-leaves s τ ls f = sym (leaves-of-bounds τ ∙ same_length (bounds τ) (leaf_values s ls) f ∙ length-map ls (word_a s))
