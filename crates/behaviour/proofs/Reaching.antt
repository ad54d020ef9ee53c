-- Every expression record of an accepted sheet is reached exactly once. It is reached since it has a scope, along whose way down the
-- values of the names are found too; and names, values and the way itself are carried down from the root, where one word names each
-- record. Conversely what is reached is an expression record, with the names in scope there.
-- Assumes nothing.
use Prim.Native.Nat.{ℕ, ◌<◌}
use mathlib.Core.Bool.{cond}
use mathlib.Core.List.{List, [], ◌∷◌}
use mathlib.Core.Path.{◌≡◌, refl, ap}
use lib.Dec.{eqb}
use Rattle.records.specs.Words.{count, word_a}
use Rattle.records.specs.Kinds.{
  ExpressionKind,
  constant,
  name,
  tuple,
  first,
  second,
  let_in,
  feedback,
  if_matches,
  delay,
  expressions,
}
use Rattle.records.specs.Says.{sort_at, Naming}
use Rattle.records.specs.Trees.{tree_at, type_record_of}
use Rattle.records.proofs.Table.{ask_of_kind}
use Rattle.records.proofs.Asked.{past-header}
use Rattle.structure.specs.Rules.{Passes}
use Rattle.verdict.specs.Scopes.{inputs}
use Rattle.verdict.specs.Scopes.{
  Scope,
  root,
  tuple_first,
  tuple_second,
  of-first,
  of-second,
  let_defining,
  let_body,
  feedback_defining,
  feedback_body,
  if_tested,
  if_then,
  if_else,
  of-delay,
}
use Rattle.accepted.proofs.Laws.{written, well-named, Carried, to-root, to_part, carried-only}
use Rattle.meaning.specs.Undecided.{undecided_rule}
use Rattle.behaviour.specs.Evaluated.{value_at}
use Rattle.behaviour.specs.Reaching.{
  settled_in,
  Evaluates,
  evaluates_root,
  evaluates_tuple_first,
  evaluates_tuple_second,
  evaluates_first,
  evaluates_second,
  evaluates_let_defining,
  evaluates_let_body,
  evaluates_feedback_defining,
  evaluates_feedback_body,
  evaluates_if_tested,
  evaluates_if_then,
  evaluates_if_else,
  evaluates_delay,
  way,
  EvaluatedOnce,
}
use Rattle.behaviour.proofs.Scoped.{every-expression}

-- an expression that has a scope is reached with values of the names there
abbrev ReachedIn : (s input : List ℕ) → ℕ → List ℕ → Type 0
ReachedIn s input q Γ = (ρ : List (List ℕ)) × Evaluates s input q Γ ρ

scope-evaluates : {s : List ℕ} {q : ℕ} {Γ : List ℕ} (input : List ℕ) → Scope s q Γ → ReachedIn s input q Γ
scope-evaluates i root = (_, evaluates_root)
scope-evaluates i (tuple_first e c) = let o = scope-evaluates i c in (_, evaluates_tuple_first e o.1)
scope-evaluates i (tuple_second e c) = let o = scope-evaluates i c in (_, evaluates_tuple_second e o.1)
scope-evaluates i (of-first e c) = let o = scope-evaluates i c in (_, evaluates_first e o.1)
scope-evaluates i (of-second e c) = let o = scope-evaluates i c in (_, evaluates_second e o.1)
scope-evaluates i (let_defining e c) = let o = scope-evaluates i c in (_, evaluates_let_defining e o.1)
scope-evaluates i (let_body e c) = let o = scope-evaluates i c in (_, evaluates_let_body e o.1)
scope-evaluates i (feedback_defining e c) = let o = scope-evaluates i c in (_, evaluates_feedback_defining e o.1)
scope-evaluates i (feedback_body e c) = let o = scope-evaluates i c in (_, evaluates_feedback_body e o.1)
scope-evaluates i (if_tested e c) = let o = scope-evaluates i c in (_, evaluates_if_tested e o.1)
scope-evaluates i (if_then e c) = let o = scope-evaluates i c in (_, evaluates_if_then e o.1)
scope-evaluates i (if_else e c) = let o = scope-evaluates i c in (_, evaluates_if_else e o.1)
scope-evaluates i (of-delay e c) = let o = scope-evaluates i c in (_, evaluates_delay e o.1)

pub evaluates-scope : {s input : List ℕ} {q : ℕ} {Γ : List ℕ} {ρ : List (List ℕ)} → Evaluates s input q Γ ρ → Scope s q Γ
evaluates-scope evaluates_root = root
evaluates-scope (evaluates_tuple_first e c) = tuple_first e (evaluates-scope c)
evaluates-scope (evaluates_tuple_second e c) = tuple_second e (evaluates-scope c)
evaluates-scope (evaluates_first e c) = of-first e (evaluates-scope c)
evaluates-scope (evaluates_second e c) = of-second e (evaluates-scope c)
evaluates-scope (evaluates_let_defining e c) = let_defining e (evaluates-scope c)
evaluates-scope (evaluates_let_body e c) = let_body e (evaluates-scope c)
evaluates-scope (evaluates_feedback_defining e c) = feedback_defining e (evaluates-scope c)
evaluates-scope (evaluates_feedback_body e c) = feedback_body e (evaluates-scope c)
evaluates-scope (evaluates_if_tested e c) = if_tested e (evaluates-scope c)
evaluates-scope (evaluates_if_then e c) = if_then e (evaluates-scope c)
evaluates-scope (evaluates_if_else e c) = if_else e (evaluates-scope c)
evaluates-scope (evaluates_delay e c) = of-delay e (evaluates-scope c)

-- names, their values and the way are carried down
record Carry : Type 0 where
  names : List ℕ
  values : List (List ℕ)
  path : List Naming

abbrev added : ℕ → List ℕ → Carry → Carry
added t v c = record { names = t ∷ c.names; values = v ∷ c.values; path = c.path }

abbrev carry_further : List ℕ → ℕ → ExpressionKind → ℕ → Carry → Carry
carry_further s q constant j c = c
carry_further s q name j c = c
carry_further s q tuple j c = c
carry_further s q first j c = c
carry_further s q second j c = c
carry_further s q let_in j c =
    cond (eqb j 3)
    (added (type_record_of s c.names (tree_at s (word_a s q))) (value_at undecided_rule s c.names c.values (word_a s q)) c) c
carry_further s q feedback j c = added (word_a s q) (settled_in s c.names c.values q) c
carry_further s q if_matches j c = c
carry_further s q delay j c = c

abbrev carry_on : List ℕ → ℕ → ExpressionKind → ℕ → Carry → Carry
carry_on s q k j c =
    let d = carry_further s q k j c in
    record { names = d.names; values = d.values; path = record { by = q; at = j } ∷ c.path }

abbrev carry : {s input : List ℕ} {q : ℕ} {Γ : List ℕ} {ρ : List (List ℕ)} → Evaluates s input q Γ ρ → Carry
carry {Γ = Γ} {ρ = ρ} e = record { names = Γ; values = ρ; path = way e }

abbrev at_root : (s input : List ℕ) → Carry
at_root s i = record { names = inputs s; values = i ∷ []; path = [] }

evaluates-carried : {s input : List ℕ} {q : ℕ} {Γ : List ℕ} {ρ : List (List ℕ)} (e : Evaluates s input q Γ ρ)
    → Carried s (at_root s input) (carry_on s) q (carry e)
evaluates-carried evaluates_root = to-root
evaluates-carried (evaluates_tuple_first e c) = to_part tuple 2 e refl (unfold ask_of_kind in refl) (evaluates-carried c)
evaluates-carried (evaluates_tuple_second e c) = to_part tuple 3 e refl (unfold ask_of_kind in refl) (evaluates-carried c)
evaluates-carried (evaluates_first e c) = to_part first 2 e refl (unfold ask_of_kind in refl) (evaluates-carried c)
evaluates-carried (evaluates_second e c) = to_part second 2 e refl (unfold ask_of_kind in refl) (evaluates-carried c)
evaluates-carried (evaluates_let_defining e c) = to_part let_in 2 e refl (unfold ask_of_kind in refl) (evaluates-carried c)
evaluates-carried (evaluates_let_body e c) = to_part let_in 3 e refl (unfold ask_of_kind in refl) (evaluates-carried c)
evaluates-carried (evaluates_feedback_defining e c) = to_part feedback 3 e refl (unfold ask_of_kind in refl) (evaluates-carried c)
evaluates-carried (evaluates_feedback_body e c) = to_part feedback 4 e refl (unfold ask_of_kind in refl) (evaluates-carried c)
evaluates-carried (evaluates_if_tested e c) = to_part if_matches 2 e refl (unfold ask_of_kind in refl) (evaluates-carried c)
evaluates-carried (evaluates_if_then e c) = to_part if_matches 3 e refl (unfold ask_of_kind in refl) (evaluates-carried c)
evaluates-carried (evaluates_if_else e c) = to_part if_matches 4 e refl (unfold ask_of_kind in refl) (evaluates-carried c)
evaluates-carried (evaluates_delay e c) = to_part delay 4 e refl (unfold ask_of_kind in refl) (evaluates-carried c)

-- two ways to one record are the same, with the same names and values
pub one-evaluation : {s input : List ℕ} → Passes s → (r : ℕ) (Γ Δ : List ℕ) (ρ π : List (List ℕ))
    (e : Evaluates s input r Γ ρ) (f : Evaluates s input r Δ π) → (Γ ≡ Δ) × (ρ ≡ π) × (way e ≡ way f)
one-evaluation p r Γ Δ ρ π e f =
    let same = carried-only p r (carry e) (carry f) (evaluates-carried e) (evaluates-carried f) in
    (ap (λ (c : Carry). c.names) same, ap (λ (c : Carry). c.values) same, ap (λ (c : Carry). c.path) same)

pub evaluated-once : {s : List ℕ} (input : List ℕ) → Passes s → (r : ℕ) → r < count s → sort_at s r ≡ expressions
    → EvaluatedOnce s input r
evaluated-once {s} input p r h e =
    let c = every-expression (written p) (well-named p) r (past-header (written p) r (rw e)) h e in
    let o = scope-evaluates input c.1 in
    record {
      names = c.0;
      values = o.0;
      reached = o.1;
      only = λ Γ ρ d. one-evaluation p r Γ c.0 ρ o.0 d o.1;
    }
