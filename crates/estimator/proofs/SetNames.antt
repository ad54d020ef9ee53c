-- Names and LETs: the sets of a name stand in its slot, and a LET's body is estimated with one name more.
-- Assumes nothing.
use Prim.Native.Nat.{ℕ, ◌+◌, ◌-◌, ◌*◌, ◌≤◌, ◌<◌}
use mathlib.Core.List.{List, [], ◌∷◌, ◌++◌}
use mathlib.Core.Path.{◌≡◌, refl, sym, ap, ap₂, ◌∙◌}
use lib.ListN.{length, get_or, take, drop, replicate, length-map}
use Rattle.picoella.specs.Language.{leaves}
use Rattle.records.specs.Words.{word, count}
use Rattle.records.specs.Kinds.{expression, name, let_in}
use Rattle.records.specs.Says.{kind_at}
use Rattle.records.specs.Trees.{type_at, tree_at, type_record_of}
use Rattle.records.specs.Written.{Written}
use Rattle.verdict.specs.Scopes.{Scope}
use Rattle.values.specs.Slots.{slot, entered}
use Rattle.evaluator.proofs.Readiness.{ready-written, ready-there, entry-is}
use Rattle.evaluator.proofs.LentNames.{name-stands, defining-scope, defined-inside, defined-room, body-frames, body-at-hand, kept-by-body}
use Rattle.possibilities.specs.Sets.{ConstructorSet, set_word, set_words}
use Rattle.estimator.specs.Estimating.{EstimatingIn, EstimatedIn, Estimated, sets_at, more_lengths}
use Rattle.estimator.proofs.SetsAt.{name-words, let-sets}
use Rattle.estimator.proofs.SetReadiness.{sets-long}
use Rattle.estimator.proofs.SetParts.{set-room-done, set-room-wide}

module _ {s : List ℕ} {n : ℕ} {W env : List ℕ} {names rec : ℕ} {out Γ : List ℕ} {ρ : List (List ConstructorSet)}
    (r : EstimatingIn s n W env names rec out Γ ρ) where
  w : Written s
  w = ready-written r.at_hand

  b : rec < count s
  b = ready-there r.at_hand

  pub set-name-done : kind_at s rec ≡ expression name → {k : ℕ} → k ≡ word s rec 2 → {out' : List ℕ}
      → out' ≡ slot (names - 1 - k) (length out) env → EstimatedIn s Γ ρ env names rec env out'
  set-name-done e {k} ek g =
      record {
        value = g ∙ name-stands r.at_hand e ek ∙ ap (λ l. get_or l k []) r.sets ∙ rw ek (sym (name-words w Γ ρ b e));
        wide = r.at_hand.wide;
        kept = refl;
      }

  module _ (e : kind_at s rec ≡ expression let_in) {x y : ℕ} (ex : x ≡ word s rec 2) (ey : y ≡ word s rec 3) {c : ℕ} (ec : c ≡ get_or W x 0)
      {R : List ℕ} (e_r : R ≡ replicate 64 0) {env₁ o₁ : List ℕ} (p₁ : Estimated s n W env names x (take (c - 0) R) env₁ o₁) where
    scope : Scope s x Γ
    scope = defining-scope r.at_hand e ex

    abbrev t : ℕ
    t = type_record_of s Γ (tree_at s x)

    d₁ : EstimatedIn s Γ ρ env names x env₁ o₁
    d₁ = set-room-done r scope ec e_r p₁

    long : length o₁ ≡ c
    long = set-room-wide r scope ec e_r p₁

    sets-many : length (sets_at s Γ ρ x) ≡ leaves (type_at s t)
    sets-many = sym (length-map (sets_at s Γ ρ x) set_word) ∙ sets-long r scope r.lengths ∙ entry-is r.at_hand scope

    pub set-let-inside : c ≤ length (o₁ ++ drop (c - 0) R)
    set-let-inside = defined-inside r.at_hand e ex ec e_r o₁ long

    pub set-let-room : (64 * names + length (take (c - 0) (o₁ ++ drop (c - 0) R)) ≤ length env₁) × (length env₁ ≤ 4096)
    set-let-room = defined-room r.at_hand e ex ec e_r o₁ long ey env₁ d₁.wide d₁.kept

    module _ {env₂ : List ℕ} (g : env₂ ≡ entered names (take (c - 0) (o₁ ++ drop (c - 0) R)) env₁) where
      body-sets : sets_at s Γ ρ rec ≡ sets_at s (t ∷ Γ) (sets_at s Γ ρ x ∷ ρ) y
      body-sets = rw (ex, ey) (let-sets w Γ ρ b e)

      pub set-let-ready : EstimatingIn s n W env₂ (names + 1) y out (t ∷ Γ) (sets_at s Γ ρ x ∷ ρ)
      set-let-ready =
          record {
            at_hand = body-at-hand r.at_hand e ex ec e_r o₁ long ey env₁ d₁.wide d₁.kept g;
            for_sets = r.for_sets;
            sets = body-frames r.at_hand e ex ec e_r o₁ long ey env₁ d₁.wide d₁.kept g ∙ ap₂ ◌∷◌ d₁.value r.sets;
            lengths = more_lengths sets-many r.lengths;
          }

      pub set-let-done : {env₃ o₂ : List ℕ} → Estimated s n W env₂ (names + 1) y out env₃ o₂ → EstimatedIn s Γ ρ env names rec env₃ o₂
      set-let-done {env₃} p₂ =
          let d₂ = p₂.done (t ∷ Γ) (sets_at s Γ ρ x ∷ ρ) set-let-ready in
          record {
            value = d₂.value ∙ ap set_words (sym body-sets);
            wide = d₂.wide;
            kept = kept-by-body r.at_hand e ex ec e_r o₁ long ey env₁ d₁.wide d₁.kept g env₃ d₂.kept;
          }
