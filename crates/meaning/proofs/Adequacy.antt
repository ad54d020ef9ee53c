-- Adequacy: the rules of 000 hold exactly of what evaluation gives, for one cycle and for runs. That they hold of it is
-- `derived`; that they hold of nothing else is their determinism.
-- Assumes nothing.
use Prim.Native.Nat.{ℕ}
use mathlib.Core.Path.{◌≡◌, refl, sym, ap, ap₂, subst, subst₂, ◌∙◌}
use mathlib.Core.Logic.{◌↔◌}
use mathlib.Core.List.{List, [], ◌∷◌, map, nil≢cons, head-eq_of_cons-eq, tail-eq_of_cons-eq}
use Rattle.picoella.specs.Language.{Ty, Expr}
use Rattle.meaning.specs.Values.{more_values}
use Rattle.meaning.specs.Elaboration.{Term, erase, Elaborated}
use Rattle.meaning.specs.Constants.{
  ConstantTree,
  ConstantOf,
  ConstantsOf,
  AllConstantsOf,
  of_all_none,
  of_all_more,
  flatten,
}
use Rattle.meaning.specs.RuleLaws.{Lawful, Agreeing}
use Rattle.meaning.specs.Evaluation.{eval, next}
use Rattle.meaning.specs.Run.{outputs, after}
use Rattle.meaning.specs.Rules.{Reduces, ReducesSeq, s_end, s_cycle}
use Rattle.meaning.proofs.FlattenOneToOne.{flatten-typed, flatten-one}
use Rattle.meaning.proofs.RulesDeterministic.{reduces-one, reduces-seq-one}
use Rattle.meaning.proofs.DerivationExists.{Beside, beside-more, beside-values, beside-flattened, derived}
use Rattle.meaning.proofs.NextTyped.{next_typed}

all-flatten-one
    : {τ : Ty} {cs ds : List ConstantTree}
    → AllConstantsOf τ cs → AllConstantsOf τ ds → map flatten cs ≡ map flatten ds → cs ≡ ds
all-flatten-one of_all_none of_all_none p = refl
all-flatten-one of_all_none (of_all_more h k) p = absurd (nil≢cons p)
all-flatten-one (of_all_more h k) of_all_none p = absurd (nil≢cons (sym p))
all-flatten-one (of_all_more h k) (of_all_more i j) p =
    ap₂ (λ c cs. c ∷ cs) (flatten-one h i (head-eq_of_cons-eq p)) (all-flatten-one k j (tail-eq_of_cons-eq p))

module _
    {undecided : List ℕ → List ℕ → List ℕ}
    {tree : ConstantTree → ConstantTree → ConstantTree}
    (law : Lawful undecided)
    (agree : Agreeing undecided tree)
    {Declared : Ty → Type 0}
  where
    pub cycle_adequate
        : {Γ : List Ty} {t : Term} {τ : Ty} {l : List ConstantTree} {c : ConstantTree} {f : Expr}
        → Elaborated Declared Γ t τ → ConstantsOf Γ l
        → Reduces tree l (erase t) c f
        ↔ (ConstantOf τ c × (flatten c ≡ eval undecided (map flatten l) t) × (f ≡ erase (next undecided (map flatten l) t)))
    cycle_adequate {t} {τ} {l} {c} {f} typed env =
        let (d, i, p, r) = derived undecided tree law agree Declared typed (beside-flattened env) in
        (λ s. holds d i p (reduces-one tree s r), λ s. made d i p r s)
      where
        holds
            : (d : ConstantTree) → ConstantOf τ d → flatten d ≡ eval undecided (map flatten l) t
            → (c ≡ d) × (f ≡ erase (next undecided (map flatten l) t))
            → ConstantOf τ c × (flatten c ≡ eval undecided (map flatten l) t) × (f ≡ erase (next undecided (map flatten l) t))
        holds d i p (q, e) = (subst (ConstantOf τ) (sym q) i, ap flatten q ∙ p, e)

        made
            : (d : ConstantTree) → ConstantOf τ d → flatten d ≡ eval undecided (map flatten l) t
            → Reduces tree l (erase t) d (erase (next undecided (map flatten l) t))
            → ConstantOf τ c × (flatten c ≡ eval undecided (map flatten l) t) × (f ≡ erase (next undecided (map flatten l) t))
            → Reduces tree l (erase t) c f
        made d i p r (j, q, e) = subst₂ (Reduces tree l (erase t)) (flatten-one i j (p ∙ sym q)) (sym e) r

    pub cycle_exists
        : {Γ : List Ty} {t : Term} {τ : Ty} {l : List ConstantTree}
        → Elaborated Declared Γ t τ → ConstantsOf Γ l → (c : ConstantTree) × (f : Expr) × Reduces tree l (erase t) c f
    cycle_exists typed env =
        let (c, i, p, r) = derived undecided tree law agree Declared typed (beside-flattened env) in
        (c, _, r)

    run-derived
        : {Γ : List Ty} {t : Term} {σ τ : Ty} {l : List ConstantTree} {ρ : List (List ℕ)} {inputs : List ConstantTree}
        → Elaborated Declared (σ ∷ Γ) t τ → Beside Γ l ρ → AllConstantsOf σ inputs
        → (cs : List ConstantTree) × AllConstantsOf τ cs × (map flatten cs ≡ outputs undecided ρ t (map flatten inputs))
        × ReducesSeq tree l (erase t) inputs cs (erase (after undecided ρ t (map flatten inputs)))
    unfolding outputs after
    run-derived typed env of_all_none = ([], of_all_none, refl, s_end)
    run-derived {t = u} {ρ = ρ} typed env (of_all_more {c = c} h k) =
        let (d, i, p, r) = derived undecided tree law agree Declared typed (beside-more h refl env) in
        let (ds, j, q, s)
        = run-derived {t = next undecided (flatten c ∷ ρ) u} (next_typed law typed (more_values (flatten-typed h) (beside-values env))) env k in
        (d ∷ ds, of_all_more i j, ap₂ (λ v vs. v ∷ vs) p q, s_cycle r s)

    pub run_adequate
        : {Γ : List Ty} {t : Term} {σ τ : Ty} {l inputs cs : List ConstantTree} {f : Expr}
        → Elaborated Declared (σ ∷ Γ) t τ → ConstantsOf Γ l → AllConstantsOf σ inputs
        → ReducesSeq tree l (erase t) inputs cs f
        ↔ (AllConstantsOf τ cs × (map flatten cs ≡ outputs undecided (map flatten l) t (map flatten inputs))
        × (f ≡ erase (after undecided (map flatten l) t (map flatten inputs))))
    run_adequate {t} {τ} {l} {inputs} {cs} {f} typed env given =
        let (ds, i, p, r) = run-derived typed (beside-flattened env) given in
        (λ s. holds ds i p (reduces-seq-one tree s r), λ s. made ds i p r s)
      where
        holds
            : (ds : List ConstantTree) → AllConstantsOf τ ds
            → map flatten ds ≡ outputs undecided (map flatten l) t (map flatten inputs)
            → (cs ≡ ds) × (f ≡ erase (after undecided (map flatten l) t (map flatten inputs)))
            → AllConstantsOf τ cs × (map flatten cs ≡ outputs undecided (map flatten l) t (map flatten inputs))
            × (f ≡ erase (after undecided (map flatten l) t (map flatten inputs)))
        holds ds i p (q, e) = (subst (AllConstantsOf τ) (sym q) i, ap (map flatten) q ∙ p, e)

        made
            : (ds : List ConstantTree) → AllConstantsOf τ ds
            → map flatten ds ≡ outputs undecided (map flatten l) t (map flatten inputs)
            → ReducesSeq tree l (erase t) inputs ds (erase (after undecided (map flatten l) t (map flatten inputs)))
            → AllConstantsOf τ cs × (map flatten cs ≡ outputs undecided (map flatten l) t (map flatten inputs))
            × (f ≡ erase (after undecided (map flatten l) t (map flatten inputs)))
            → ReducesSeq tree l (erase t) inputs cs f
        made ds i p r (j, q, e) = subst₂ (ReducesSeq tree l (erase t) inputs) (all-flatten-one i j (p ∙ sym q)) (sym e) r

    pub run_exists
        : {Γ : List Ty} {t : Term} {σ τ : Ty} {l inputs : List ConstantTree}
        → Elaborated Declared (σ ∷ Γ) t τ → ConstantsOf Γ l → AllConstantsOf σ inputs
        → (cs : List ConstantTree) × (f : Expr) × ReducesSeq tree l (erase t) inputs cs f
    run_exists typed env given =
        let (cs, i, p, r) = run-derived typed (beside-flattened env) given in
        (cs, _, r)
