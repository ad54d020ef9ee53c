-- Names and LETs: the value of a name stands in its slot, and a LET's body is evaluated with one name more.
-- Assumes nothing.
use Prim.Native.Nat.{ℕ, ◌+◌, ◌-◌, ◌*◌, ◌≤◌, ◌<◌}
use mathlib.Core.Bool.{Bool}
use mathlib.Core.List.{List, ◌∷◌, ◌++◌, map}
use mathlib.Core.Path.{◌≡◌, refl, sym, ◌∙◌}
use lib.ListN.{length, get_or, take, drop, replicate}
use Rattle.picoella.specs.Language.{OfType}
use Rattle.records.specs.Words.{word, count}
use Rattle.records.specs.Kinds.{expression, name, let_in}
use Rattle.records.specs.Says.{kind_at}
use Rattle.records.specs.Trees.{type_at, tree_at, type_record_of}
use Rattle.records.specs.Written.{Written}
use Rattle.verdict.specs.Scopes.{Scope}
use Rattle.meaning.specs.Values.{ValuesOf, more_values}
use Rattle.meaning.specs.Undecided.{undecided_rule}
use Rattle.behaviour.specs.Evaluated.{value_at}
use Rattle.behaviour.specs.Midway.{stored_at}
use Rattle.behaviour.proofs.Evaluated.{name-value, name-stored, let-value, let-stored}
use Rattle.behaviour.specs.Midway.{fired_at}
use Rattle.behaviour.proofs.Firings.{name-fired, let-fired}
use Rattle.values.specs.Slots.{slot, entered, frames}
use Rattle.evaluator.specs.Evaluating.{Wanted, EvaluatingIn, EvaluatedIn, Evaluated}
use Rattle.evaluator.proofs.Readiness.{ready-written, ready-there, value-typed}
use Rattle.evaluator.proofs.Wanted.{wanted-none, wanted-one, wanted-both}
use Rattle.evaluator.proofs.LentNames.{name-stands, defining-scope, defined-room, body-frames, body-at-hand, kept-by-body}
use Rattle.evaluator.proofs.Parts.{room-done, room-wide}

module _ {s : List ℕ} {n : ℕ} {W env : List ℕ} {names rec : ℕ} {out Γ : List ℕ} (r : EvaluatingIn s n W env names rec out Γ) where
  abbrev ρ : List (List ℕ)
  ρ = frames s Γ env

  w : Written s
  w = ready-written r.at_hand

  b : rec < count s
  b = ready-there r.at_hand

  pub name_done : kind_at s rec ≡ expression name → {k : ℕ} → k ≡ word s rec 2 → {whole : Bool} {held fired out' : List ℕ}
      → out' ≡ slot (names - 1 - k) (length out) env → EvaluatedIn whole s Γ env names rec held fired env held fired out'
  name_done e {k} ek {whole} {held} {fired} g =
      record {
        value = g ∙ name-stands r.at_hand e ek ∙ rw ek (sym (name-value w Γ ρ b e));
        stored = wanted-none (name-stored w Γ ρ b e held);
        noted = wanted-none (name-fired w Γ ρ b e fired);
        wide = r.at_hand.wide;
        kept = refl;
      }

  module _ (e : kind_at s rec ≡ expression let_in) {x y : ℕ} (ex : x ≡ word s rec 2) (ey : y ≡ word s rec 3) {c : ℕ} (ec : c ≡ get_or W x 0)
      {R : List ℕ} (e_r : R ≡ replicate 64 0) {whole : Bool} {held fired env₁ held₁ fired₁ o₁ : List ℕ}
      (p₁ : Evaluated whole s n W env names x held fired (take (c - 0) R) env₁ held₁ fired₁ o₁) where
    scope : Scope s x Γ
    scope = defining-scope r.at_hand e ex

    abbrev t : ℕ
    t = type_record_of s Γ (tree_at s x)

    d₁ : EvaluatedIn whole s Γ env names x held fired env₁ held₁ fired₁ o₁
    d₁ = room-done r scope ec e_r p₁

    long : length o₁ ≡ c
    long = room-wide r scope ec e_r p₁

    typed : OfType (type_at s t) o₁
    typed = rw d₁.value (value-typed r.at_hand scope r.values)

    pub let-room : (64 * names + length (take (c - 0) (o₁ ++ drop (c - 0) R)) ≤ length env₁) × (length env₁ ≤ 4096)
    let-room = defined-room r.at_hand e ex ec e_r o₁ long ey env₁ d₁.wide d₁.kept

    module _ {env₂ : List ℕ} (g : env₂ ≡ entered names (take (c - 0) (o₁ ++ drop (c - 0) R)) env₁) where
      bound : frames s (t ∷ Γ) env₂ ≡ o₁ ∷ ρ
      bound = body-frames r.at_hand e ex ec e_r o₁ long ey env₁ d₁.wide d₁.kept g

      framed : frames s (t ∷ Γ) env₂ ≡ value_at undecided_rule s Γ ρ x ∷ ρ
      framed = rw d₁.value at bound

      body-values : ValuesOf (map (type_at s) (t ∷ Γ)) (frames s (t ∷ Γ) env₂)
      body-values = rw bound (more_values typed r.values)

      body-value : value_at undecided_rule s Γ ρ rec ≡ value_at undecided_rule s (t ∷ Γ) (frames s (t ∷ Γ) env₂) y
      body-value = rw (framed, ex, ey) (let-value w Γ ρ b e)

      pub let-body-ready : EvaluatingIn s n W env₂ (names + 1) y out (t ∷ Γ)
      let-body-ready =
          record { at_hand = body-at-hand r.at_hand e ex ec e_r o₁ long ey env₁ d₁.wide d₁.kept g; values = body-values }

      pub let-done : {env₃ held₂ fired₂ o₂ : List ℕ} → Evaluated whole s n W env₂ (names + 1) y held₁ fired₁ out env₃ held₂ fired₂ o₂
          → EvaluatedIn whole s Γ env names rec held fired env₃ held₂ fired₂ o₂
      let-done {env₃} {held₂} {fired₂} p₂ =
          let d₂ = p₂.done (t ∷ Γ) let-body-ready in
          let h₂ : Wanted whole (stored_at undecided_rule s (t ∷ Γ) (value_at undecided_rule s Γ ρ x ∷ ρ) y) held₁ held₂ =
          rw framed at d₂.stored in
          let k₂ : Wanted whole (fired_at undecided_rule s (t ∷ Γ) (value_at undecided_rule s Γ ρ x ∷ ρ) y) fired₁ fired₂ =
          rw framed at d₂.noted in
          record {
            value = d₂.value ∙ sym body-value;
            stored = wanted-one (wanted-both d₁.stored h₂) (rw (ex, ey) (let-stored w Γ ρ b e held));
            noted = wanted-one (wanted-both d₁.noted k₂) (rw (ex, ey) (let-fired w Γ ρ b e fired));
            wide = d₂.wide;
            kept = kept-by-body r.at_hand e ex ec e_r o₁ long ey env₁ d₁.wide d₁.kept g env₃ d₂.kept;
          }
