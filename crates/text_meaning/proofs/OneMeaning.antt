-- A text has one meaning: in one environment a circuit gives at most one value and one circuit after, and a run one list of outputs.
-- Assumes nothing.
use Prim.Native.Nat.{ℕ}
use mathlib.Core.Path.{◌≡◌, refl, ap, ap₂, sym, subst, ◌∙◌}
use mathlib.Core.List.{List, [], ◌∷◌}
use mathlib.Core.Option.{Option, none, some}
use native.Mathlib.Omega.{arith}
use Rattle.name_rules.specs.Declared.{DeclaredName}
use Rattle.text_meaning.specs.NamedValues.{NamedValue, Couple, matches_named, chosen_value}
use Rattle.text_meaning.specs.Circuits.{NamedCircuit, Pairs, FirstPart, SecondPart, Binds, FeedsBack, Chooses, Delays}
use Rattle.text_meaning.specs.NamedRules.{
  Binding,
  binding,
  nearest_binding,
  CircuitGives,
  gives_bound,
  gives_constructor,
  gives_always,
  gives_pair,
  gives_first,
  gives_second,
  gives_let,
  gives_feedback,
  gives_if,
  gives_delay,
  ComesTo,
  comes_unchanged,
  comes_again,
  GivesSeq,
  no_cycle,
  one_cycle,
}

some_one : {v w : NamedValue} → some v ≡ some w → v ≡ w
some_one p = cc

some-none : {x : Option NamedValue} {v : NamedValue} → x ≡ some v → x ≡ none → ⊥
some-none p q = let no : ◌≡◌ {A = ℕ} 0 1 = cc in omega arith

first_of : {a b c d : NamedValue} → Couple a b ≡ Couple c d → a ≡ c
first_of p = cc

second-of : {a b c d : NamedValue} → Couple a b ≡ Couple c d → b ≡ d
second-of p = cc

module _ {D : List DeclaredName} where
  mutual
    pub gives_one : {ρ : List Binding} {c c' c'' : NamedCircuit} {v w : NamedValue}
        → CircuitGives D ρ c v c' → CircuitGives D ρ c w c'' → (v ≡ w) × (c' ≡ c'')
    gives_one (gives_bound p) (gives_bound q) = (some_one (sym p ∙ q), refl)
    gives_one (gives_bound p) (gives_constructor q h) = absurd (some-none p q)
    gives_one (gives_constructor q h) (gives_bound p) = absurd (some-none p q)
    gives_one (gives_constructor p h) (gives_constructor q k) = (refl, refl)
    gives_one gives_always gives_always = (refl, refl)
    gives_one (gives_pair x y) (gives_pair z u) =
        let (p, q) = gives_one x z in
        let (r, s) = gives_one y u in
        (ap₂ Couple p r, ap₂ Pairs q s)
    gives_one (gives_first x) (gives_first y) = let (p, q) = gives_one x y in (first_of p, ap FirstPart q)
    gives_one (gives_second x) (gives_second y) = let (p, q) = gives_one x y in (second-of p, ap SecondPart q)
    gives_one (gives_let {ρ} {x} {d = d} a b) (gives_let {d' = e} {w = w} f g) =
        let (p, q) = gives_one a f in
        let (r, s) = gives_one b (subst (λ v. CircuitGives D (binding x v ∷ ρ) d w e) (sym p) g) in
        (r, ap₂ (Binds x) q s)
    gives_one (gives_feedback {ρ} {x} {d = d} {i = i} a b) (gives_feedback {d' = e} {w = w} f g) =
        let (p, q) = comes-one a f in
        let (r, s) = gives_one b (subst (λ v. CircuitGives D (binding x v ∷ ρ) d w e) (sym p) g) in
        (r, ap₂ (FeedsBack i x) q s)
    gives_one (gives_if {m = m} x y z e) (gives_if a b c f) =
        let (p, q) = gives_one x a in
        let (r, s) = gives_one y b in
        let (t, u) = gives_one z c in
        (sym e ∙ (λ i. chosen_value (matches_named D m (p i)) (r i) (t i)) ∙ f, λ i. Chooses (q i) m (s i) (u i))
    gives_one (gives_delay x) (gives_delay y) = let (p, q) = gives_one x y in (refl, ap₂ Delays p q)

    pub comes-one : {ρ : List Binding} {x : List ℕ} {c c' c'' : NamedCircuit} {u v w : NamedValue}
        → ComesTo D ρ x c u v c' → ComesTo D ρ x c u w c'' → (v ≡ w) × (c' ≡ c'')
    comes-one (comes_unchanged x) (comes_unchanged y) = (refl, (gives_one x y).1)
    comes-one (comes_unchanged x) (comes_again y differs z) = absurd (differs (gives_one x y).0)
    comes-one (comes_again x differs y) (comes_unchanged z) = absurd (differs (sym (gives_one x z).0))
    comes-one (comes_again x differs y) (comes_again z changes w) =
        let (p, q) = gives_one x z in
        comes-one y (search (p, q, w))

  pub run-one : {c c' c'' : NamedCircuit} {is os us : List NamedValue}
      → GivesSeq D c is os c' → GivesSeq D c is us c'' → (os ≡ us) × (c' ≡ c'')
  run-one no_cycle no_cycle = (refl, refl)
  run-one (one_cycle {is = is} x y) (one_cycle {c'' = e} {os = us} z u) =
      let (p, q) = gives_one x z in
      let (r, s) = run-one y (subst (λ f. GivesSeq D f is us e) (sym q) u) in
      (ap₂ (λ o os. o ∷ os) p r, s)
