-- An expression record of a sheet that passes codes 1 to 6 has one scope: the names in scope are carried down from the root.
-- Assumes nothing.
use Prim.Native.Nat.{ℕ}
use mathlib.Core.Bool.{cond}
use mathlib.Core.List.{List, ◌∷◌}
use mathlib.Core.Path.{◌≡◌, refl}
use lib.Dec.{eqb}
use Rattle.records.specs.Words.{word_a}
use Rattle.records.specs.Kinds.{
  ExpressionKind,
  constant,
  name,
  tuple,
  first,
  second,
  let_in,
  feedback,
  if_matches,
  delay,
}
use Rattle.records.specs.Trees.{tree_at, type_record_of}
use Rattle.records.proofs.Table.{ask_of_kind}
use Rattle.structure.specs.Rules.{Passes}
use Rattle.verdict.specs.Scopes.{inputs}
use Rattle.verdict.specs.Scopes.{
  Scope,
  root,
  tuple_first,
  tuple_second,
  of-first,
  of-second,
  let_defining,
  let_body,
  feedback_defining,
  feedback_body,
  if_tested,
  if_then,
  if_else,
  of-delay,
}
use Rattle.verdict.specs.Promises.{EveryScoped}
use Rattle.verdict.proofs.EveryScoped.{scoped}
use Rattle.verdict.proofs.OneWay.{Carried, to-root, to_part, carried-only}

-- the scope of the part in word j, from that of the record
abbrev pub scope_of_part : List ℕ → ℕ → ExpressionKind → ℕ → List ℕ → List ℕ
scope_of_part s q constant j Γ = Γ
scope_of_part s q name j Γ = Γ
scope_of_part s q tuple j Γ = Γ
scope_of_part s q first j Γ = Γ
scope_of_part s q second j Γ = Γ
scope_of_part s q let_in j Γ = cond (eqb j 3) (type_record_of s Γ (tree_at s (word_a s q)) ∷ Γ) Γ
scope_of_part s q feedback j Γ = word_a s q ∷ Γ
scope_of_part s q if_matches j Γ = Γ
scope_of_part s q delay j Γ = Γ

scope-carried : {s : List ℕ} {r : ℕ} {Γ : List ℕ} → Scope s r Γ → Carried s (inputs s) (scope_of_part s) r Γ
scope-carried root = to-root
scope-carried (tuple_first e c) = to_part tuple 2 e refl (unfold ask_of_kind in refl) (scope-carried c)
scope-carried (tuple_second e c) = to_part tuple 3 e refl (unfold ask_of_kind in refl) (scope-carried c)
scope-carried (of-first e c) = to_part first 2 e refl (unfold ask_of_kind in refl) (scope-carried c)
scope-carried (of-second e c) = to_part second 2 e refl (unfold ask_of_kind in refl) (scope-carried c)
scope-carried (let_defining e c) = to_part let_in 2 e refl (unfold ask_of_kind in refl) (scope-carried c)
scope-carried (let_body e c) = to_part let_in 3 e refl (unfold ask_of_kind in refl) (scope-carried c)
scope-carried (feedback_defining e c) = to_part feedback 3 e refl (unfold ask_of_kind in refl) (scope-carried c)
scope-carried (feedback_body e c) = to_part feedback 4 e refl (unfold ask_of_kind in refl) (scope-carried c)
scope-carried (if_tested e c) = to_part if_matches 2 e refl (unfold ask_of_kind in refl) (scope-carried c)
scope-carried (if_then e c) = to_part if_matches 3 e refl (unfold ask_of_kind in refl) (scope-carried c)
scope-carried (if_else e c) = to_part if_matches 4 e refl (unfold ask_of_kind in refl) (scope-carried c)
scope-carried (of-delay e c) = to_part delay 4 e refl (unfold ask_of_kind in refl) (scope-carried c)

pub scope-only : {s : List ℕ} → Passes s → (r : ℕ) (Γ Δ : List ℕ) → Scope s r Γ → Scope s r Δ → Γ ≡ Δ
scope-only p r Γ Δ c d = carried-only p r Γ Δ (scope-carried c) (scope-carried d)

pub every_scoped : EveryScoped
every_scoped s p r h e =
    let o = scoped p r h e in record { names = o.0; scope = o.1; only = λ Γ c. scope-only p r Γ o.0 c o.1 }
