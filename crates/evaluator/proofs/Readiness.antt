-- What is known of an expression at hand: it is one of an accepted circuit, so its names are at most 64 of at most 64 leaves, and its
-- entry in the table is the leaves of its type; its parts are higher, and at hand where their names are in the environment. Where the
-- names have values, so has it, of its type.
-- Assumes nothing.
use Prim.Native.Nat.{ℕ, ◌+◌, ◌*◌, ◌≤◌, ◌<◌}
use mathlib.Core.Bool.{true, ◌&&◌}
use mathlib.Core.List.{List, ◌∷◌, map}
use mathlib.Core.Path.{◌≡◌, sym, ap₂, ◌∙◌}
use native.Mathlib.Omega.{arith}
use lib.Dec.{ltb}
use lib.ListN.{length, get_or, take}
use Rattle.picoella.specs.Language.{leaves, OfType}
use Rattle.records.specs.Words.{word, count}
use Rattle.records.specs.Kinds.{ExpressionKind, expression, expressions, part}
use Rattle.records.specs.Says.{kind_at}
use Rattle.records.specs.Trees.{type_at, TypeRecord, Declared, tree_at, type_record_of}
use Rattle.records.specs.Written.{Written}
use Rattle.records.proofs.Table.{ask_of_kind}
use Rattle.records.proofs.Asked.{part-of-kind}
use Rattle.records.proofs.Types.{few-leaves}
use Rattle.structure.specs.Rules.{Passes}
use Rattle.accepted.proofs.Laws.{written, types-fit}
use Rattle.verdict.specs.Scopes.{Scope}
use Rattle.accepted.proofs.Laws.{exact}
use Rattle.accepted.proofs.Scopes.{CheckedAt, scope-checked, few-names, small-names, checked-type}
use Rattle.meaning.specs.Values.{ValuesOf}
use Rattle.meaning.specs.Elaboration.{Elaborated}
use Rattle.meaning.specs.Undecided.{undecided_rule}
use Rattle.meaning.proofs.Order.{value-length}
use Rattle.meaning.proofs.EvaluationMonotone.{eval-typed}
use Rattle.meaning.proofs.UndecidedRule.{rule-lawful}
use Rattle.behaviour.specs.Terms.{term}
use Rattle.behaviour.specs.Evaluated.{value_at}
use Rattle.behaviour.proofs.Terms.{checked-term}
use Rattle.values.specs.Slots.{slot, entered, frames}
use Rattle.evaluator.specs.Evaluating.{Ready, EvaluatingIn}
use Rattle.evaluator.proofs.Frames.{Small, frames-kept, entered-kept, entered-slot, entered-long}

module _ {s : List ℕ} {n : ℕ} {W env : List ℕ} {names rec : ℕ} {out Γ : List ℕ} (r : Ready s n W env names rec out Γ) where
  pub ready-passes : Passes s
  ready-passes = ((exact s r.type).0 r.accepted).0

  pub ready-written : Written s
  ready-written = written ready-passes

  -- at an expression of the circuit
  module _ {x : ℕ} {Δ : List ℕ} (c : Scope s x Δ) where
    pub in-circuit : CheckedAt s x Δ
    in-circuit = scope-checked r.type ready-passes r.accepted c

    pub names-few : length Δ ≤ 64
    names-few = few-names ready-passes in-circuit

    pub names-small : Small s Δ
    names-small = small-names ready-passes in-circuit

    pub part-typed-there : TypeRecord s (type_record_of s Δ (tree_at s x))
    part-typed-there = checked-type ready-passes in-circuit

    pub entry-is : get_or W x 0 ≡ leaves (type_at s (type_record_of s Δ (tree_at s x)))
    entry-is = r.table.expressions c

    pub entry-few : get_or W x 0 ≤ 64
    entry-few =
        let f = few-leaves (types-fit ready-passes) (type_record_of s Δ (tree_at s x)) part-typed-there.there part-typed-there.sort in
        let e = entry-is in
        omega arith

    pub elaborated : Elaborated (Declared s) (map (type_at s) Δ) (term s Δ (tree_at s x)) (type_at s (type_record_of s Δ (tree_at s x)))
    elaborated = checked-term ready-passes in-circuit

    module _ {ρ : List (List ℕ)} (v : ValuesOf (map (type_at s) Δ) ρ) where
      pub value-typed : OfType (type_at s (type_record_of s Δ (tree_at s x))) (value_at undecided_rule s Δ ρ x)
      unfolding value_at
      value-typed = eval-typed undecided_rule rule-lawful (Declared s) elaborated v

      pub value-long : length (value_at undecided_rule s Δ ρ x) ≡ get_or W x 0
      value-long = value-length (type_at s (type_record_of s Δ (tree_at s x))) value-typed ∙ sym entry-is

    pub ready_at : (env' : List ℕ) (names' : ℕ) (out' : List ℕ) → length Δ ≡ names' → length env' ≡ 4096
        → length out' ≡ get_or W x 0 → Ready s n W env' names' x out' Δ
    ready_at env' names' out' many wide room =
        record {
          sized = r.sized;
          type = r.type;
          accepted = r.accepted;
          table = r.table;
          scope = c;
          many = many;
          wide = wide;
          room = room;
        }

    pub evaluating-at : (env' : List ℕ) (names' : ℕ) (out' : List ℕ) → length Δ ≡ names' → length env' ≡ 4096
        → length out' ≡ get_or W x 0 → ValuesOf (map (type_at s) Δ) (frames s Δ env') → EvaluatingIn s n W env' names' x out' Δ
    evaluating-at env' names' out' many wide room values = record { at_hand = ready_at env' names' out' many wide room; values = values }

  -- the record itself
  pub ready-there : rec < count s
  ready-there = (in-circuit r.scope).there

  pub ready-low : rec < 4096
  ready-low = let c = r.sized.counted in let t = ready-there in let f = r.sized.few in omega arith

  pub ready-word : {k : ℕ} → k < 6 → (rec < count s) × (k < 6)
  ready-word h = (ready-there, h)

  pub room-few : length out ≤ 64
  room-few = let e = entry-few r.scope in let l = r.room in omega arith

  pub ready-few : names ≤ 64
  ready-few = let f = names-few r.scope in let m = r.many in omega arith

  -- names that are kept
  module _ (env' : List ℕ) (kept : take (64 * names) env' ≡ take (64 * names) env) where
    pub same-frames : frames s Γ env' ≡ frames s Γ env
    same-frames = frames-kept s Γ env' env (names-small r.scope) (rw r.many kept)

  -- a name of type t entered, where the names of Γ are kept
  module _ (t : ℕ) (few : length (t ∷ Γ) ≤ 64) (v : List ℕ) (value-leaves : length v ≡ leaves (type_at s t)) (env₁ : List ℕ)
      (wide : length env₁ ≡ 4096) (kept : take (64 * names) env₁ ≡ take (64 * names) env) where
    below : 64 * names ≤ length env₁
    below = let m = r.many in omega arith

    pub room-there : leaves (type_at s t) ≤ 64 → (64 * names + length v ≤ length env₁) × (length env₁ ≤ 4096)
    room-there small = let m = r.many in let l = value-leaves in (omega arith, omega arith)

    module _ (small : leaves (type_at s t) ≤ 64) (env₂ : List ℕ) (e : env₂ ≡ entered names v env₁) where
      pub name-wide : length env₂ ≡ 4096
      name-wide = rw e (entered-long names v env₁ below (room-there small).0 ∙ wide)

      pub name-kept : take (64 * names) env₂ ≡ take (64 * names) env
      name-kept = rw e (entered-kept names v env₁ below ∙ kept)

      pub name-slot : slot names (leaves (type_at s t)) env₂ ≡ v
      name-slot = rw (e, ← value-leaves) (entered-slot names v env₁ below)

      pub name-frames : frames s (t ∷ Γ) env₂ ≡ v ∷ frames s Γ env
      name-frames = ap₂ ◌∷◌ (rw r.many name-slot) (same-frames env₂ name-kept)

  -- a part
  module _ (k : ExpressionKind) (e : kind_at s rec ≡ expression k) (j : ℕ) (t : (ltb 0 j && ltb j 6) ≡ true)
      (a : ask_of_kind (expression k) j ≡ part expressions) {x : ℕ} (ex : x ≡ word s rec j) where
    pub part-higher : (rec < x) × (x < n)
    part-higher =
        let p = part-of-kind ready-written rec (expression k) expressions ready-there e j t a in
        let c = r.sized.counted in
        (rw ex p.0, omega (arith, p.1, ex))

    pub entry-there : x < 4096
    entry-there = let h = part-higher in let f = r.sized.few in omega (arith, h.1)

-- with values of the names
module _ {s : List ℕ} {n : ℕ} {W env : List ℕ} {names rec : ℕ} {out Γ : List ℕ} (r : EvaluatingIn s n W env names rec out Γ) where
  pub ready-value : length (value_at undecided_rule s Γ (frames s Γ env) rec) ≡ length out
  ready-value = value-long r.at_hand r.at_hand.scope r.values ∙ sym r.at_hand.room

  pub values-again : (env' : List ℕ) → take (64 * names) env' ≡ take (64 * names) env → ValuesOf (map (type_at s) Γ) (frames s Γ env')
  values-again env' kept = rw (same-frames r.at_hand env' kept) r.values
