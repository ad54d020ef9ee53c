-- Every well-typed term's erasure has a derivation in the rules of 000, to the constant whose leaves are the term's value and to
-- the erasure of the term after the cycle: by induction on the typing, a few lines a form. A feedback's derivation is built
-- along the chain, one more `again` for each application that changes something.
-- Assumes nothing.
use Prim.Native.Nat.{ℕ, zero, suc, ◌≤◌, ◌<◌, zero-le}
use native.Mathlib.Omega.{arith}
use mathlib.Core.Path.{◌≡◌, refl, sym, ap, ap₂, subst, ◌∙◌}
use mathlib.Core.Logic.{◌⊎◌, inl, inr, ◌≢◌}
use mathlib.Core.List.{List, [], ◌∷◌, ◌++◌, map}
use lib.ListN.{get_or, take, drop, replicate-append-replicate}
use Rattle.picoella.specs.Language.{Ty, Flat, TyTuple, bounds, leaves, OfType, Expr, Index1, Index2, Named, here, there}
use Rattle.meaning.specs.Values.{undefined, Both, ValuesOf, no_values, more_values}
use Rattle.meaning.proofs.Order.{zeros}
use Rattle.meaning.specs.Matching.{matches}
use Rattle.meaning.specs.Decisions.{Decision, Yes, No, Undecided}
use Rattle.meaning.specs.Elaboration.{
  Term,
  erase,
  Elaborated,
  e_constant,
  e_name,
  e_pair,
  e_first,
  e_second,
  e_let,
  e_feedback,
  e_if,
  e_delay,
}
use Rattle.meaning.specs.Constants.{
  ConstantTree,
  CoTuple,
  ConstantOf,
  of_cons,
  of_tuple,
  ConstantsOf,
  of_none,
  of_more,
  flatten,
  bottom_of_type,
  answer3,
}
use Rattle.meaning.specs.RuleLaws.{Lawful, Agreeing}
use Rattle.meaning.specs.Evaluation.{choose, eval, application, iterate, next}
use Rattle.meaning.specs.Rules.{
  Elem,
  elem_here,
  elem_there,
  branch,
  Reduces,
  r_const,
  r_tuple,
  r_let,
  r_var,
  r_delay,
  r_if,
  r_index1,
  r_index2,
  r_letrec,
  Iterates,
  i_unchanged,
  i_again,
}
use Rattle.meaning.proofs.FixedPoint.{same-or-fewer, zeros-undefined}
use Rattle.meaning.proofs.FeedbackLeast.{
  application-monotone,
  undefined-rises,
  iterate-unchanged,
  iterate-again,
}
use Rattle.meaning.proofs.FlattenOneToOne.{
  flatten-typed,
  flatten-first,
  flatten-second,
  flatten-one,
  flatten-onto,
}
use Rattle.meaning.proofs.MatchAgrees.{match_agrees}

-- an environment of constants beside one of values: each constant of its type, with the value's leaves
pub data Beside : List Ty → List ConstantTree → List (List ℕ) → Type 0 where
  beside_none : Beside [] [] []
  beside-more : {τ : Ty} {Γ : List Ty} {c : ConstantTree} {l : List ConstantTree} {v : List ℕ} {ρ : List (List ℕ)}
      → ConstantOf τ c → flatten c ≡ v → Beside Γ l ρ → Beside (τ ∷ Γ) (c ∷ l) (v ∷ ρ)

pub beside-values : {Γ : List Ty} {l : List ConstantTree} {ρ : List (List ℕ)} → Beside Γ l ρ → ValuesOf Γ ρ
beside-values beside_none = no_values
beside-values (beside-more {τ} h p r) = more_values (subst (OfType τ) p (flatten-typed h)) (beside-values r)

pub beside-flattened : {Γ : List Ty} {l : List ConstantTree} → ConstantsOf Γ l → Beside Γ l (map flatten l)
beside-flattened of_none = beside_none
beside-flattened (of_more h r) = beside-more h refl (beside-flattened r)

beside-name
    : {Γ : List Ty} {n : ℕ} {τ : Ty} {l : List ConstantTree} {ρ : List (List ℕ)} → Named Γ n τ → Beside Γ l ρ
    → (c : ConstantTree) × ConstantOf τ c × (flatten c ≡ get_or ρ n []) × Elem l n c
beside-name here (beside-more {c} h p r) = (c, h, p, elem_here)
beside-name (there n) (beside-more h p r) =
    let (c, k, q, m) = beside-name n r in
    (c, k, q, elem_there m)

bottom-typed : (τ : Ty) → ConstantOf τ (bottom_of_type τ)
bottom-typed (Flat r n) = of_cons zero-le
bottom-typed (TyTuple σ τ) = of_tuple (bottom-typed σ) (bottom-typed τ)

bottom-flattens : (τ : Ty) → flatten (bottom_of_type τ) ≡ undefined τ
bottom-flattens (Flat r n) = refl
bottom-flattens (TyTuple σ τ) =
    rw (bottom-flattens σ, bottom-flattens τ) (replicate-append-replicate (leaves σ) (leaves τ) 0)

module _
    (undecided : List ℕ → List ℕ → List ℕ)
    (tree : ConstantTree → ConstantTree → ConstantTree)
    (law : Lawful undecided)
    (agree : Agreeing undecided tree)
    (Declared : Ty → Type 0)
  where
    -- a derivation of 000's rules for a term, to what evaluation gives
    abbrev pub Derived : List ConstantTree → List (List ℕ) → Term → Ty → Type 0
    Derived l ρ t τ =
        (c : ConstantTree) × ConstantOf τ c × (flatten c ≡ eval undecided ρ t)
        × Reduces tree l (erase t) c (erase (next undecided ρ t))

    derived-first
        : {σ τ : Ty} {l : List ConstantTree} {e f : Expr} {v : List ℕ} {c : ConstantTree}
        → ConstantOf (TyTuple σ τ) c → flatten c ≡ v → Reduces tree l e c f
        → (d : ConstantTree) × ConstantOf σ d × (flatten d ≡ take (leaves σ) v) × Reduces tree l (Index1 e) d (Index1 f)
    derived-first (of_tuple {σ} {c} {d} h k) p r =
        (c, h, sym (flatten-first d h) ∙ ap (take (leaves σ)) p, r_index1 r)

    derived-second
        : {σ τ : Ty} {l : List ConstantTree} {e f : Expr} {v : List ℕ} {c : ConstantTree}
        → ConstantOf (TyTuple σ τ) c → flatten c ≡ v → Reduces tree l e c f
        → (d : ConstantTree) × ConstantOf τ d × (flatten d ≡ drop (leaves σ) v) × Reduces tree l (Index2 e) d (Index2 f)
    derived-second (of_tuple {σ} {c} {d} h k) p r =
        (d, k, sym (flatten-second d h) ∙ ap (drop (leaves σ)) p, r_index2 r)

    -- the branch that 000's rule takes has the leaves that evaluation chooses
    branch-typed
        : (a : Decision) {τ : Ty} {c d : ConstantTree} → ConstantOf τ c → ConstantOf τ d
        → ConstantOf τ (branch tree (answer3 a) c d)
    branch-typed Yes h k = h
    branch-typed No h k = k
    branch-typed Undecided h k = agree.of_type h k

    branch-flattens
        : (a : Decision) {τ : Ty} {c d : ConstantTree} → ConstantOf τ c → ConstantOf τ d
        → flatten (branch tree (answer3 a) c d) ≡ choose undecided a (flatten c) (flatten d)
    branch-flattens Yes h k = refl
    branch-flattens No h k = refl
    branch-flattens Undecided h k = agree.flattens h k

    -- a derivation of `iterate` from the approximation a, whose leaves are v, to where the applications lead
    abbrev Settling : List ConstantTree → List (List ℕ) → Ty → Term → ConstantTree → List ℕ → Type 0
    Settling l ρ σ t a v =
        (d : ConstantTree) × ConstantOf σ d × (flatten d ≡ iterate undecided ρ σ t v)
        × Iterates tree l (erase t) a d (erase (next undecided (iterate undecided ρ σ t v ∷ ρ) t))

    module _
        {Γ : List Ty}
        {l : List ConstantTree}
        {ρ : List (List ℕ)}
        {σ : Ty}
        {t : Term}
        (typed : Elaborated Declared (σ ∷ Γ) t σ)
        (env : Beside Γ l ρ)
      where
        settling-unchanged
            : (a : ConstantTree) (v : List ℕ) → ConstantOf σ a → flatten a ≡ v → v ≡ application undecided ρ t v
            → Derived (a ∷ l) (v ∷ ρ) t σ → Settling l ρ σ t a v
        settling-unchanged a v h p q (c, i, m, r) =
            let same : c ≡ a = flatten-one i h (m ∙ sym q ∙ sym p) in
            let still : iterate undecided ρ σ t v ≡ v
            = iterate-unchanged law typed (beside-values env) (sym q) in (
              a,
              h,
              p ∙ sym still,
              subst (λ w. Iterates tree l (erase t) a a (erase (next undecided (w ∷ ρ) t))) (sym still)
                  (i_unchanged (subst (λ b. Reduces tree (a ∷ l) (erase t) b (erase (next undecided (v ∷ ρ) t))) same r)),
            )

        settling-again
            : (a : ConstantTree) (v : List ℕ) → flatten a ≡ v → Both (bounds σ) v (application undecided ρ t v)
            → zeros (application undecided ρ t v) < zeros v
            → (c : ConstantTree) → flatten c ≡ application undecided ρ t v
            → Reduces tree (a ∷ l) (erase t) c (erase (next undecided (v ∷ ρ) t))
            → Settling l ρ σ t c (application undecided ρ t v) → Settling l ρ σ t a v
        settling-again a v p rises fewer c m r (d, j, n, s) =
            let on : iterate undecided ρ σ t v ≡ iterate undecided ρ σ t (application undecided ρ t v)
            = iterate-again law typed (beside-values env) rises in
            let differs : a ≢ c = λ e. zeros_differ (sym p ∙ ap flatten e ∙ m) in (
              d,
              j,
              n ∙ sym on,
              subst (λ w. Iterates tree l (erase t) a d (erase (next undecided (w ∷ ρ) t))) (sym on) (i_again r differs s),
            )
          where
            zeros_differ : v ≡ application undecided ρ t v → ⊥
            zeros_differ e = omega (arith, ap zeros e)

        -- by the undefined leaves that are left
        settling
            : ((a : ConstantTree) (v : List ℕ) → ConstantOf σ a → flatten a ≡ v → Derived (a ∷ l) (v ∷ ρ) t σ)
            → (k : ℕ) (a : ConstantTree) (v : List ℕ) → ConstantOf σ a → flatten a ≡ v
            → Both (bounds σ) v (application undecided ρ t v) → zeros v ≤ k → Settling l ρ σ t a v
        settling derive zero a v h p rises few = go (same-or-fewer rises)
          where
            go : (v ≡ application undecided ρ t v) ⊎ (zeros (application undecided ρ t v) < zeros v) → Settling l ρ σ t a v
            go (inl q) = settling-unchanged a v h p q (derive a v h p)
            go (inr fewer) = absurd (omega arith)
        settling derive (suc k) a v h p rises few =
            go (same-or-fewer rises) (derive a v h p)
            (λ c i m less.
            settling derive k c (application undecided ρ t v) i m
            (application-monotone law typed (beside-values env) _ _ rises) less)
          where
            go
                : (v ≡ application undecided ρ t v) ⊎ (zeros (application undecided ρ t v) < zeros v)
                → Derived (a ∷ l) (v ∷ ρ) t σ
                → ((c : ConstantTree) → ConstantOf σ c → flatten c ≡ application undecided ρ t v
                → zeros (application undecided ρ t v) ≤ k → Settling l ρ σ t c (application undecided ρ t v))
                → Settling l ρ σ t a v
            go (inl q) derived rest = settling-unchanged a v h p q derived
            go (inr fewer) (c, i, m, r) rest = settling-again a v p rises fewer c m r (rest c i m (omega arith))

    pub derived
        : {Γ : List Ty} {t : Term} {τ : Ty} {l : List ConstantTree} {ρ : List (List ℕ)}
        → Elaborated Declared Γ t τ → Beside Γ l ρ → Derived l ρ t τ
    unfolding eval next
    derived (e_constant {τ} h) env =
        let (c, i, p) = flatten-onto τ h in
        (c, i, p, r_const i p)
    derived (e_name n) env =
        let (c, i, p, m) = beside-name n env in
        (c, i, p, r_var m)
    derived (e_pair t s d) env =
        let (c, i, p, r) = derived t env in
        let (b, j, q, w) = derived s env in
        (CoTuple c b, of_tuple i j, ap₂ (λ x y. x ++ y) p q, r_tuple r w)
    derived (e_first t) env =
        let (c, i, p, r) = derived t env in
        derived-first i p r
    derived (e_second t) env =
        let (c, i, p, r) = derived t env in
        derived-second i p r
    derived (e_let t s) env =
        let (c, i, p, r) = derived t env in
        let (b, j, q, w) = derived s (beside-more i p env) in
        (b, j, q, r_let r w)
    derived {l} {ρ} (e_feedback {σ} {t} te se) env =
        let (c, i, p, r)
        = settling te env (λ a v h q. derived te (beside-more h q env)) (leaves σ) (bottom_of_type σ) (undefined σ)
        (bottom-typed σ) (bottom-flattens σ)
        (undefined-rises law te (beside-values env)) (omega (arith, zeros-undefined (leaves σ))) in
        let (b, j, q, w) = derived se (beside-more i p env) in
        (b, j, q, r_letrec r w)
    derived {ρ} (e_if {t} {p = pattern} te h se re) env =
        let (c, i, p, r) = derived te env in
        let (b, j, q, w) = derived se env in
        let (d, k, m, x) = derived re env in
        let answer : Decision = matches pattern (eval undecided ρ t) in (
          branch tree (answer3 answer) b d,
          branch-typed answer j k,
          branch-flattens answer j k ∙ ap₂ (choose undecided answer) q m,
          r_if r w x
              (ap (λ a. branch tree a b d) (sym (match_agrees h i) ∙ ap (λ v. answer3 (matches pattern v)) p)),
        )
    derived (e_delay {τ} h t) env =
        let (c, i, p) = flatten-onto τ h in
        let (b, j, q, w) = derived t env in
        (c, i, p, r_delay i p w q)
