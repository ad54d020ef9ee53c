-- What an evaluation enters in a table where the whole of it is wanted, from what the evaluations of its parts entered there.
-- Assumes nothing.
use Prim.Native.Nat.{ℕ}
use mathlib.Core.Bool.{Bool, true, false, false≢true}
use mathlib.Core.List.{List}
use mathlib.Core.Path.{◌≡◌, refl, sym, ap, ◌∙◌}
use lib.ListN.{length}
use Rattle.evaluator.specs.Evaluating.{Wanted}

-- by what is wanted
pub wanted-whole : {whole : Bool} {f : List ℕ → List ℕ} {h h₁ : List ℕ} → whole ≡ true → h₁ ≡ f h → Wanted whole f h h₁
wanted-whole w e = record { if_whole = λ v. e; if_value = λ v. absurd (false≢true (sym v ∙ w)) }

pub wanted-value : {whole : Bool} {f : List ℕ → List ℕ} {h : List ℕ} → whole ≡ false → Wanted whole f h h
wanted-value w = record { if_whole = λ v. absurd (false≢true (sym w ∙ v)); if_value = λ v. refl }

-- by how many parts enter something
pub wanted-none : {whole : Bool} {f : List ℕ → List ℕ} {h : List ℕ} → f h ≡ h → Wanted whole f h h
wanted-none q = record { if_whole = λ v. sym q; if_value = λ v. refl }

pub wanted-one : {whole : Bool} {f g : List ℕ → List ℕ} {h h₁ : List ℕ} → Wanted whole f h h₁ → g h ≡ f h → Wanted whole g h h₁
wanted-one a q = record { if_whole = λ v. a.if_whole v ∙ sym q; if_value = a.if_value }

pub wanted-both : {whole : Bool} {f g : List ℕ → List ℕ} {h h₁ h₂ : List ℕ} → Wanted whole f h h₁ → Wanted whole g h₁ h₂
    → Wanted whole (λ h. g (f h)) h h₂
wanted-both {g = g} a b =
    record { if_whole = λ v. b.if_whole v ∙ ap g (a.if_whole v); if_value = λ v. b.if_value v ∙ a.if_value v }

-- a table stays as long as it is
pub wanted-long : {whole : Bool} {f : List ℕ → List ℕ} {h h₁ : List ℕ} → Wanted whole f h h₁ → length (f h) ≡ length h
    → length h₁ ≡ length h
wanted-long {whole} {f} {h} {h₁} a l = go whole a
  where
    go : (b : Bool) → Wanted b f h h₁ → length h₁ ≡ length h
    go true a = ap length (a.if_whole refl) ∙ l
    go false a = ap length (a.if_value refl)
