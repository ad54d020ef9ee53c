-- Names and LETs, whatever stands in the slots of the names: a name reads its own, and a LET's body is at hand with one name more.
-- Assumes nothing.
use Prim.Native.Nat.{ℕ, ◌+◌, ◌-◌, ◌*◌, ◌≤◌, ◌<◌}
use mathlib.Core.List.{List, [], ◌∷◌, ◌++◌}
use mathlib.Core.Path.{◌≡◌, refl, sym, ◌∙◌}
use native.Mathlib.Omega.{arith}
use native.Mathlib.Numerals.{add-one}
use borrow.Author.Tests.{ltb-true}
use lib.ListN.{length, get_or, take, drop, replicate}
use Rattle.picoella.specs.Language.{leaves}
use Rattle.records.specs.Words.{word, word_a, count}
use Rattle.records.specs.Kinds.{expression, name, let_in}
use Rattle.records.specs.Says.{kind_at}
use Rattle.records.specs.Trees.{type_at, tree_at, type_record_of}
use Rattle.records.specs.Written.{Written}
use Rattle.records.proofs.Trees.{tree-of}
use Rattle.verdict.specs.Scopes.{Scope, let_defining, let_body}
use Rattle.accepted.proofs.Scopes.{judged-by-kind}
use Rattle.values.specs.Slots.{slot, entered, frames}
use Rattle.evaluator.specs.Evaluating.{Ready}
use Rattle.evaluator.proofs.Frames.{front_kept, frame_at, back-part, back_long}
use Rattle.evaluator.proofs.Readiness.{ready-passes, ready-written, ready-there, ready_at, room-few, in-circuit, names-few, entry-is, entry-few, room-there, name-wide, name-kept, name-frames}
use Rattle.evaluator.proofs.LentParts.{fits-room}

module _ {s : List ℕ} {n : ℕ} {W env : List ℕ} {names rec : ℕ} {out Γ : List ℕ} (r : Ready s n W env names rec out Γ) where
  w : Written s
  w = ready-written r

  b : rec < count s
  b = ready-there r

  own-entry : length out ≡ leaves (type_at s (type_record_of s Γ (tree_at s rec)))
  own-entry = r.room ∙ entry-is r r.scope

  module _ (e : kind_at s rec ≡ expression name) {k : ℕ} (ek : k ≡ word s rec 2) where
    pub name-in-scope : k < names
    name-in-scope =
        let j = judged-by-kind (ready-passes r) (in-circuit r r.scope) name e in
        let h = ltb-true (word_a s rec) (length Γ) j in
        let m = r.many in
        omega (arith, h, ek)

    pub name-room : (64 * (names - 1 - k) + length out ≤ length env) × (length env ≤ 4096)
    name-room =
        let f = names-few r r.scope in
        let o = room-few r in
        let h = name-in-scope in
        let m = r.many in
        let l = r.wide in
        (omega arith, omega arith)

    name-leaves : length out ≡ leaves (type_at s (get_or Γ k 0))
    name-leaves = own-entry ∙ rw (tree-of w rec b (expression name) e, ek) refl

    pub name-stands : slot (names - 1 - k) (length out) env ≡ get_or (frames s Γ env) k []
    name-stands =
        rw (name-leaves, ← r.many) (sym (frame_at s Γ env k (let h = name-in-scope in let m = r.many in omega arith)))

  pub defining-scope : kind_at s rec ≡ expression let_in → {x : ℕ} → x ≡ word s rec 2 → Scope s x Γ
  defining-scope e ex = rw ex (let_defining e r.scope)

  -- a LET, with what its defining part gave in some room
  module _ (e : kind_at s rec ≡ expression let_in) {x : ℕ} (ex : x ≡ word s rec 2) {c : ℕ} (ec : c ≡ get_or W x 0)
      {R : List ℕ} (e_r : R ≡ replicate 64 0) (o₁ : List ℕ) (long : length o₁ ≡ c) where
    scope : Scope s x Γ
    scope = defining-scope e ex

    abbrev t : ℕ
    t = type_record_of s Γ (tree_at s x)

    abbrev value : List ℕ
    value = take (c - 0) (o₁ ++ drop (c - 0) R)

    value-is : value ≡ o₁
    value-is = back-part R o₁ long (fits-room r scope ec e_r)

    pub defined-inside : c ≤ length (o₁ ++ drop (c - 0) R)
    defined-inside = let l = back_long R o₁ long (fits-room r scope ec e_r) in let f = fits-room r scope ec e_r in omega arith

    small : leaves (type_at s t) ≤ 64
    small = let f = entry-few r scope in let i = entry-is r scope in omega arith

    pub defined-leaves : length o₁ ≡ leaves (type_at s (type_record_of s Γ (tree_at s x)))
    defined-leaves = long ∙ ec ∙ entry-is r scope

    module _ {y : ℕ} (ey : y ≡ word s rec 3) (env₁ : List ℕ) (wide : length env₁ ≡ 4096)
        (kept : take (64 * names) env₁ ≡ take (64 * names) env) where
      pub body-scope : Scope s y (type_record_of s Γ (tree_at s x) ∷ Γ)
      body-scope = rw (ex, ey) (let_body e r.scope)

      few : length (t ∷ Γ) ≤ 64
      few = names-few r body-scope

      pub defined-room : (64 * names + length (take (c - 0) (o₁ ++ drop (c - 0) R)) ≤ length env₁) × (length env₁ ≤ 4096)
      defined-room = rw value-is (room-there r t few o₁ defined-leaves env₁ wide kept small)

      body_entry : length out ≡ get_or W y 0
      body_entry = own-entry ∙ rw (tree-of w rec b (expression let_in) e, ey) (sym (entry-is r (let_body e r.scope)))

      module _ {env₂ : List ℕ} (g : env₂ ≡ entered names (take (c - 0) (o₁ ++ drop (c - 0) R)) env₁) where
        entered-is : env₂ ≡ entered names o₁ env₁
        entered-is = rw value-is at g

        pub body-frames : frames s (type_record_of s Γ (tree_at s x) ∷ Γ) env₂ ≡ o₁ ∷ frames s Γ env
        body-frames = name-frames r t few o₁ defined-leaves env₁ wide kept small env₂ entered-is

        pub body-at-hand : Ready s n W env₂ (names + 1) y out (type_record_of s Γ (tree_at s x) ∷ Γ)
        body-at-hand =
            ready_at r body-scope env₂ (names + 1) out (rw (r.many, add-one names) refl)
            (name-wide r t few o₁ defined-leaves env₁ wide kept small env₂ entered-is) body_entry

        pub kept-by-body : (env₃ : List ℕ) → take (64 * (names + 1)) env₃ ≡ take (64 * (names + 1)) env₂
            → take (64 * names) env₃ ≡ take (64 * names) env
        kept-by-body env₃ k =
            front_kept (64 * names) (64 * (names + 1)) env₃ env₂ (omega arith) k
            ∙ name-kept r t few o₁ defined-leaves env₁ wide kept small env₂ entered-is
