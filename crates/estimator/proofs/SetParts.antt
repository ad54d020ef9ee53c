-- Pairs and their parts: from what estimating the parts gives.
-- Assumes nothing.
use Prim.Native.Nat.{ℕ, ◌-◌, ◌≤◌, ◌<◌}
use mathlib.Core.List.{List, ◌++◌}
use mathlib.Core.Path.{◌≡◌, ◌∙◌}
use native.Mathlib.Omega.{arith}
use lib.ListN.{length, get_or, take, drop, replicate}
use Rattle.picoella.specs.Language.{leaves}
use Rattle.records.specs.Words.{word, word_a, count}
use Rattle.records.specs.Kinds.{expression, tuple, first, second}
use Rattle.records.specs.Says.{kind_at}
use Rattle.records.specs.Trees.{type_at, tree_at, type_record_of}
use Rattle.records.specs.Written.{Written}
use Rattle.verdict.specs.Scopes.{Scope}
use Rattle.evaluator.proofs.Readiness.{ready-written, ready-there}
use Rattle.evaluator.proofs.LentParts.{left-scope, right-scope, left-inside, left-lent, right-inside, right-lent, both-stand, first-scope, second-scope, room-lent, stands-wide, whole-inside, front-in-room, front_fits, front-stands, end-narrow, end_fits, end-stands}
use Rattle.possibilities.specs.Sets.{ConstructorSet}
use Rattle.estimator.specs.Estimating.{EstimatingIn, EstimatedIn, Estimated}
use Rattle.estimator.proofs.SetsAt.{words_at, tuple-words, first-words, second-words}
use Rattle.estimator.proofs.SetReadiness.{sets-long, estimating-at, sets-again}

module _ {s : List ℕ} {n : ℕ} {W env : List ℕ} {names rec : ℕ} {out Γ : List ℕ} {ρ : List (List ConstructorSet)} (r : EstimatingIn s n W env names rec out Γ ρ) where
  abbrev val : ℕ → List ℕ
  val x = words_at s Γ ρ x

  sheet-written : Written s
  sheet-written = ready-written r.at_hand

  record-there : rec < count s
  record-there = ready-there r.at_hand

  long : (x : ℕ) → Scope s x Γ → length (val x) ≡ get_or W x 0
  long x c = sets-long r c r.lengths

  module _ (e : kind_at s rec ≡ expression tuple) {x y : ℕ} (ex : x ≡ word s rec 2) (ey : y ≡ word s rec 3) {w : ℕ} (ew : w ≡ get_or W x 0) where
    scope-a : Scope s x Γ
    scope-a = left-scope r.at_hand e ex

    scope-b : Scope s y Γ
    scope-b = right-scope r.at_hand e ey

    parts : val rec ≡ val x ++ val y
    parts = rw (ex, ey) (tuple-words sheet-written Γ ρ record-there e)

    pub set-pair-cut : w ≤ length out
    set-pair-cut = left-inside r.at_hand val long scope-a scope-b parts ew

    pub set-pair-first-ready : EstimatingIn s n W env names x (take (w - 0) out) Γ ρ
    set-pair-first-ready =
        estimating-at r scope-a r.lengths env names (take (w - 0) out) r.at_hand.many r.at_hand.wide
        (left-lent r.at_hand val long scope-a scope-b parts ew) r.sets

    module _ {env₁ o₁ : List ℕ} (p₁ : Estimated s n W env names x (take (w - 0) out) env₁ o₁) where
      d₁ : EstimatedIn s Γ ρ env names x env₁ o₁
      d₁ = p₁.done Γ ρ set-pair-first-ready

      pub set-pair-rest : w ≤ length (o₁ ++ drop (w - 0) out)
      set-pair-rest = right-inside r.at_hand val long scope-a scope-b parts ew d₁.value

      abbrev rest : List ℕ
      rest = take (length (o₁ ++ drop (w - 0) out) - w) (drop w (o₁ ++ drop (w - 0) out))

      pub set-pair-second-ready : EstimatingIn s n W env₁ names y rest Γ ρ
      set-pair-second-ready =
          estimating-at r scope-b r.lengths env₁ names rest r.at_hand.many d₁.wide
          (right-lent r.at_hand val long scope-a scope-b parts ew d₁.value) (sets-again r env₁ d₁.kept)

      pub set-pair-done : {env₂ o₂ : List ℕ} → Estimated s n W env₁ names y rest env₂ o₂
          → EstimatedIn s Γ ρ env names rec env₂
          (take w (o₁ ++ drop (w - 0) out)
          ++ (o₂ ++ drop (length (o₁ ++ drop (w - 0) out) - w) (drop w (o₁ ++ drop (w - 0) out))))
      set-pair-done {env₂} {o₂} p₂ =
          let d₂ = p₂.done Γ ρ set-pair-second-ready in
          record {
            value = both-stand r.at_hand val long scope-a scope-b parts ew d₁.value d₂.value;
            wide = d₂.wide;
            kept = d₂.kept ∙ d₁.kept;
          }

  -- a part, estimated into some room
  module _ {x : ℕ} (c : Scope s x Γ) {w : ℕ} (ew : w ≡ get_or W x 0) {R : List ℕ} (e_r : R ≡ replicate 64 0) where
    pub set-room-ready : EstimatingIn s n W env names x (take (w - 0) R) Γ ρ
    set-room-ready =
        estimating-at r c r.lengths env names (take (w - 0) R) r.at_hand.many r.at_hand.wide (room-lent r.at_hand c ew e_r)
        r.sets

    module _ {env₁ o₁ : List ℕ} (p₁ : Estimated s n W env names x (take (w - 0) R) env₁ o₁) where
      pub set-room-done : EstimatedIn s Γ ρ env names x env₁ o₁
      set-room-done = p₁.done Γ ρ set-room-ready

      pub set-room-wide : length o₁ ≡ w
      set-room-wide = stands-wide r.at_hand val long c ew e_r set-room-done.value

  abbrev cut : ℕ
  cut = leaves (type_at s (word_a s (type_record_of s Γ (tree_at s (word_a s rec)))))

  module _ (e : kind_at s rec ≡ expression first) {x : ℕ} (ex : x ≡ word s rec 2) {w : ℕ} (ew : w ≡ get_or W x 0) {R : List ℕ}
      (e_r : R ≡ replicate 64 0) {env₁ o₁ : List ℕ} (p₁ : Estimated s n W env names x (take (w - 0) R) env₁ o₁) where
    scope : Scope s x Γ
    scope = first-scope r.at_hand e ex

    d : EstimatedIn s Γ ρ env names x env₁ o₁
    d = set-room-done scope ew e_r p₁

    front : val rec ≡ take cut (val x)
    front = rw ex (first-words sheet-written Γ ρ record-there e)

    pub set-first-inside : length out ≤ length (o₁ ++ drop (w - 0) R)
    set-first-inside = front-in-room r.at_hand val long scope ew e_r d.value cut front

    pub set-first-fits : length (take (length out - 0) (o₁ ++ drop (w - 0) R)) ≡ length out
    set-first-fits = front_fits r.at_hand val long scope ew e_r d.value cut front

    pub set-first-done : {out' : List ℕ}
        → out' ≡ take (length out - 0) (o₁ ++ drop (w - 0) R) ++ drop (length (take (length out - 0) (o₁ ++ drop (w - 0) R))) out
        → EstimatedIn s Γ ρ env names rec env₁ out'
    set-first-done g =
        record { value = front-stands r.at_hand val long scope ew e_r d.value cut front g; wide = d.wide; kept = d.kept }

  module _ (e : kind_at s rec ≡ expression second) {x : ℕ} (ex : x ≡ word s rec 2) {w : ℕ} (ew : w ≡ get_or W x 0) {R : List ℕ}
      (e_r : R ≡ replicate 64 0) {env₁ o₁ : List ℕ} (p₁ : Estimated s n W env names x (take (w - 0) R) env₁ o₁) where
    scope' : Scope s x Γ
    scope' = second-scope r.at_hand e ex

    d' : EstimatedIn s Γ ρ env names x env₁ o₁
    d' = set-room-done scope' ew e_r p₁

    end : val rec ≡ drop cut (val x)
    end = rw ex (second-words sheet-written Γ ρ record-there e)

    pub set-second-few : length out ≤ w
    set-second-few = end-narrow r.at_hand val long scope' ew e_r d'.value cut end

    pub set-second-from : w - length out ≤ w
    set-second-from = omega arith

    pub set-second-inside : w ≤ length (o₁ ++ drop (w - 0) R)
    set-second-inside = whole-inside r.at_hand val long scope' ew e_r d'.value

    abbrev piece : List ℕ
    piece = take (w - (w - length out)) (drop (w - length out) (o₁ ++ drop (w - 0) R))

    pub set-second-fits : length piece ≡ length out
    set-second-fits = end_fits r.at_hand val long scope' ew e_r d'.value cut end

    pub set-second-done : {out' : List ℕ} → out' ≡ piece ++ drop (length piece) out → EstimatedIn s Γ ρ env names rec env₁ out'
    set-second-done g =
        record { value = end-stands r.at_hand val long scope' ew e_r d'.value cut end g; wide = d'.wide; kept = d'.kept }
