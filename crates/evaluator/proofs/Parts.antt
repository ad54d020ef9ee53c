-- Constants and pairs, from what evaluating the parts gives, and a part evaluated into some room.
-- Assumes nothing.
use Prim.Native.Nat.{ℕ, ◌-◌, ◌≤◌, ◌<◌}
use mathlib.Core.Bool.{Bool}
use mathlib.Core.List.{List, ◌++◌}
use mathlib.Core.Path.{◌≡◌, refl, sym, ap, ◌∙◌}
use native.Mathlib.Omega.{arith}
use lib.ListN.{length, get_or, take, drop, replicate, length-map}
use Rattle.records.specs.Words.{word, word_a, word_b, count}
use Rattle.records.specs.Kinds.{expression, constant, tuple, leafs}
use Rattle.records.specs.Says.{kind_at}
use Rattle.records.specs.Trees.{chain}
use Rattle.records.specs.Decoding.{leaf_values}
use Rattle.records.specs.Written.{Written}
use Rattle.records.proofs.Table.{ask_of_kind}
use Rattle.records.proofs.Asked.{part-of-kind}
use Rattle.verdict.specs.Scopes.{Scope}
use Rattle.meaning.specs.Undecided.{undecided_rule}
use Rattle.behaviour.specs.Evaluated.{value_at}
use Rattle.behaviour.specs.Midway.{stored_at}
use Rattle.behaviour.proofs.Evaluated.{constant-value, constant-stored, tuple-value, tuple-stored}
use Rattle.behaviour.specs.Midway.{fired_at}
use Rattle.behaviour.proofs.Firings.{constant-fired, tuple-fired}
use Rattle.values.specs.Chained.{Chained}
use Rattle.values.specs.Slots.{frames}
use Rattle.evaluator.specs.Evaluating.{Wanted, EvaluatingIn, EvaluatedIn, Evaluated}
use Rattle.evaluator.proofs.Readiness.{ready-written, ready-there, ready-value, evaluating-at, value-long, same-frames, values-again}
use Rattle.evaluator.proofs.Wanted.{wanted-none, wanted-one, wanted-both}
use Rattle.evaluator.proofs.LentParts.{left-scope, right-scope, left-inside, left-lent, right-lent, both-stand, room-lent, stands-wide}

module _ {s : List ℕ} {n : ℕ} {W env : List ℕ} {names rec : ℕ} {out Γ : List ℕ} (r : EvaluatingIn s n W env names rec out Γ) where
  abbrev ρ : List (List ℕ)
  ρ = frames s Γ env

  abbrev val : ℕ → List ℕ
  val x = value_at undecided_rule s Γ ρ x

  sheet-written : Written s
  sheet-written = ready-written r.at_hand

  record-there : rec < count s
  record-there = ready-there r.at_hand

  long : (x : ℕ) → Scope s x Γ → length (val x) ≡ get_or W x 0
  long x c = value-long r.at_hand c r.values

  -- a chain of leaves in a word of the record
  module _ (e : kind_at s rec ≡ expression constant) where
    pub constant-chained : {x : ℕ} → x ≡ word s rec 3 → Chained s n x (length out)
    constant-chained ex =
        let p = part-of-kind sheet-written rec (expression constant) leafs record-there e 3 refl
        (unfold ask_of_kind in refl) in
        let c = r.at_hand.sized.counted in
        record {
          sized = r.at_hand.sized;
          written = sheet-written;
          there = omega (arith, p.1, ex);
          sort = rw ex p.2;
          many = rw ex (sym (as_many (chain s (word_b s rec))) ∙ ap length (sym (constant-value sheet-written Γ ρ record-there e)) ∙ ready-value r);
        }
      where
        as_many : (ls : List ℕ) → length (leaf_values s ls) ≡ length ls
        as_many ls = length-map ls (word_a s)

    pub constant-done : {x : ℕ} → x ≡ word s rec 3 → {whole : Bool} {held fired out' : List ℕ} → out' ≡ leaf_values s (chain s x)
        → EvaluatedIn whole s Γ env names rec held fired env held fired out'
    constant-done ex {whole} {held} {fired} g =
        record {
          value = g ∙ rw ex (sym (constant-value sheet-written Γ ρ record-there e));
          stored = wanted-none (constant-stored sheet-written Γ ρ record-there e held);
          noted = wanted-none (constant-fired sheet-written Γ ρ record-there e fired);
          wide = r.at_hand.wide;
          kept = refl;
        }

  module _ (e : kind_at s rec ≡ expression tuple) {x y : ℕ} (ex : x ≡ word s rec 2) (ey : y ≡ word s rec 3) {w : ℕ} (ew : w ≡ get_or W x 0) where
    scope-a : Scope s x Γ
    scope-a = left-scope r.at_hand e ex

    scope-b : Scope s y Γ
    scope-b = right-scope r.at_hand e ey

    parts : val rec ≡ val x ++ val y
    parts = rw (ex, ey) (tuple-value sheet-written Γ ρ record-there e)

    pub pair-cut : w ≤ length out
    pair-cut = left-inside r.at_hand val long scope-a scope-b parts ew

    pub pair-first-ready : EvaluatingIn s n W env names x (take (w - 0) out) Γ
    pair-first-ready =
        evaluating-at r.at_hand scope-a env names (take (w - 0) out) r.at_hand.many r.at_hand.wide
        (left-lent r.at_hand val long scope-a scope-b parts ew) r.values

    module _ {whole : Bool} {held fired env₁ held₁ fired₁ o₁ : List ℕ} (p₁ : Evaluated whole s n W env names x held fired (take (w - 0) out) env₁ held₁ fired₁ o₁) where
      d₁ : EvaluatedIn whole s Γ env names x held fired env₁ held₁ fired₁ o₁
      d₁ = p₁.done Γ pair-first-ready

      abbrev rest : List ℕ
      rest = take (length (o₁ ++ drop (w - 0) out) - w) (drop w (o₁ ++ drop (w - 0) out))

      pub pair-second-ready : EvaluatingIn s n W env₁ names y rest Γ
      pair-second-ready =
          evaluating-at r.at_hand scope-b env₁ names rest r.at_hand.many d₁.wide
          (right-lent r.at_hand val long scope-a scope-b parts ew d₁.value) (values-again r env₁ d₁.kept)

      pub pair-done : {env₂ held₂ fired₂ o₂ : List ℕ} → Evaluated whole s n W env₁ names y held₁ fired₁ rest env₂ held₂ fired₂ o₂
          → EvaluatedIn whole s Γ env names rec held fired env₂ held₂ fired₂
          (take w (o₁ ++ drop (w - 0) out)
          ++ (o₂ ++ drop (length (o₁ ++ drop (w - 0) out) - w) (drop w (o₁ ++ drop (w - 0) out))))
      pair-done {env₂} {held₂} {fired₂} {o₂} p₂ =
          let d₂ = p₂.done Γ pair-second-ready in
          let f = same-frames r.at_hand env₁ d₁.kept in
          let v₂ : o₂ ≡ val y = rw f at d₂.value in
          let h₂ : Wanted whole (stored_at undecided_rule s Γ ρ y) held₁ held₂ = rw f at d₂.stored in
          let k₂ : Wanted whole (fired_at undecided_rule s Γ ρ y) fired₁ fired₂ = rw f at d₂.noted in
          record {
            value = both-stand r.at_hand val long scope-a scope-b parts ew d₁.value v₂;
            stored = wanted-one (wanted-both d₁.stored h₂) (rw (ex, ey) (tuple-stored sheet-written Γ ρ record-there e held));
            noted = wanted-one (wanted-both d₁.noted k₂) (rw (ex, ey) (tuple-fired sheet-written Γ ρ record-there e fired));
            wide = d₂.wide;
            kept = d₂.kept ∙ d₁.kept;
          }

  -- a part, evaluated into some room
  module _ {x : ℕ} (c : Scope s x Γ) {w : ℕ} (ew : w ≡ get_or W x 0) {R : List ℕ} (e_r : R ≡ replicate 64 0) where
    pub room-ready : EvaluatingIn s n W env names x (take (w - 0) R) Γ
    room-ready =
        evaluating-at r.at_hand c env names (take (w - 0) R) r.at_hand.many r.at_hand.wide (room-lent r.at_hand c ew e_r)
        r.values

    module _ {whole : Bool} {held fired env₁ held₁ fired₁ o₁ : List ℕ} (p₁ : Evaluated whole s n W env names x held fired (take (w - 0) R) env₁ held₁ fired₁ o₁) where
      pub room-done : EvaluatedIn whole s Γ env names x held fired env₁ held₁ fired₁ o₁
      room-done = p₁.done Γ room-ready

      pub room-wide : length o₁ ≡ w
      room-wide = stands-wide r.at_hand val long c ew e_r room-done.value
