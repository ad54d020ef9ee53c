-- No meaning depends on the places that a delay carries: with other places a term has the same value, and the term after the
-- cycle is the one it had, with the other places.
-- Assumes nothing.
use Prim.Native.Nat.{ℕ}
use mathlib.Core.Path.{◌≡◌, refl, ap, ap₂, fun_ext, ◌∙◌}
use mathlib.Core.List.{List, ◌∷◌, ◌++◌}
use lib.ListN.{take, drop}
use Rattle.picoella.specs.Language.{leaves}
use Rattle.meaning.specs.Values.{undefined}
use Rattle.meaning.specs.Matching.{matches}
use Rattle.meaning.specs.Elaboration.{
  Term,
  Constant,
  Name,
  Pair,
  First,
  Second,
  LetIn,
  Feedback,
  IfThenElse,
  Delayed,
  moved,
}
use Rattle.meaning.specs.Evaluation.{iter, choose, eval, next, settled}

-- the value of a term and the term after the cycle, with other places
pub record PlacesIgnored
    (undecided : List ℕ → List ℕ → List ℕ)
    (places : List ℕ → List ℕ)
    (ρ : List (List ℕ))
    (t : Term)
    : Type 0
  where
    pub same-value : eval undecided ρ (moved places t) ≡ eval undecided ρ t
    pub same_next : next undecided ρ (moved places t) ≡ moved places (next undecided ρ t)

module _ {undecided : List ℕ → List ℕ → List ℕ} {places : List ℕ → List ℕ} where
  pub places-ignored : (ρ : List (List ℕ)) (t : Term) → PlacesIgnored undecided places ρ t
  unfolding eval next
  places-ignored ρ (Constant τ v) = record { same-value = refl; same_next = refl }
  places-ignored ρ (Name n) = record { same-value = refl; same_next = refl }
  places-ignored ρ (Pair t s) =
      let f = places-ignored ρ t in
      let g = places-ignored ρ s in
      record { same-value = ap₂ ◌++◌ f.same-value g.same-value; same_next = ap₂ Pair f.same_next g.same_next }
  places-ignored ρ (First σ t) =
      let f = places-ignored ρ t in
      record { same-value = ap (take (leaves σ)) f.same-value; same_next = ap (First σ) f.same_next }
  places-ignored ρ (Second σ t) =
      let f = places-ignored ρ t in
      record { same-value = ap (drop (leaves σ)) f.same-value; same_next = ap (Second σ) f.same_next }
  places-ignored ρ (LetIn t s) =
      let f = places-ignored ρ t in
      let g = places-ignored (eval undecided ρ t ∷ ρ) s in
      record {
        same-value = ap (λ v. eval undecided (v ∷ ρ) (moved places s)) f.same-value ∙ g.same-value;
        same_next = ap₂ LetIn f.same_next (ap (λ v. next undecided (v ∷ ρ) (moved places s)) f.same-value ∙ g.same_next);
      }
  places-ignored ρ (Feedback σ t s) =
      let w : settled undecided ρ σ (moved places t) ≡ settled undecided ρ σ t =
      ap (λ F. iter F (leaves σ) (undefined σ)) (fun_ext (λ v. (places-ignored (v ∷ ρ) t).same-value)) in
      let f = places-ignored (settled undecided ρ σ t ∷ ρ) t in
      let g = places-ignored (settled undecided ρ σ t ∷ ρ) s in
      record {
        same-value = ap (λ v. eval undecided (v ∷ ρ) (moved places s)) w ∙ g.same-value;
        same_next = ap₂ (Feedback σ) (ap (λ v. next undecided (v ∷ ρ) (moved places t)) w ∙ f.same_next)
            (ap (λ v. next undecided (v ∷ ρ) (moved places s)) w ∙ g.same_next);
      }
  places-ignored ρ (IfThenElse t p s r) =
      let f = places-ignored ρ t in
      let g = places-ignored ρ s in
      let h = places-ignored ρ r in
      record {
        same-value = λ i. choose undecided (matches p (f.same-value i)) (g.same-value i) (h.same-value i);
        same_next = λ i. IfThenElse (f.same_next i) p (g.same_next i) (h.same_next i);
      }
  places-ignored ρ (Delayed q τ v t) =
      let f = places-ignored ρ t in
      record { same-value = refl; same_next = ap₂ (Delayed (places q) τ) f.same-value f.same_next }
