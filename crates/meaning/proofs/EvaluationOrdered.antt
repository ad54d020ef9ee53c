-- Two terms in order, evaluated in environments in order under two rules in order, have values in order; the terms after the
-- cycle are in order again, and so a run over inputs in order gives outputs in order. One induction on the order of terms,
-- a line a form. Of a match that was undecided and is decided now, the first rule gives at or below either branch; of one
-- that stays undecided, the first rule is monotone and lies below the second.
-- Assumes nothing.
use Prim.Native.Nat.{ℕ, zero, suc}
use mathlib.Core.Logic.{inl, inr}
use mathlib.Core.List.{List, [], ◌∷◌}
use lib.ListN.{get_or}
use Rattle.picoella.specs.Language.{Ty, bounds, leaves, Named, here, there}
use Rattle.meaning.specs.Values.{Both, BothValues, both_more_values}
use Rattle.meaning.specs.Decisions.{Decision, Yes, No, Undecided, DecisionBelow}
use Rattle.meaning.specs.Elaboration.{
  Term,
  Elaborated,
  e_constant,
  e_name,
  e_pair,
  e_first,
  e_second,
  e_let,
  e_feedback,
  e_if,
  e_delay,
}
use Rattle.meaning.specs.RuleLaws.{Lawful}
use Rattle.meaning.specs.Ordered.{
  RuleBelow,
  Ordered,
  o_constant,
  o_name,
  o_pair,
  o_first,
  o_second,
  o_let,
  o_feedback,
  o_if,
  o_delay,
  AllBoth,
  both_all_none,
  both_all_more,
}
use Rattle.meaning.specs.Evaluation.{iter, choose, eval, settled, next}
use Rattle.meaning.specs.Run.{outputs, after}
use Rattle.meaning.proofs.Order.{
  both-lower,
  both-upper,
  both_refl,
  both-trans,
  both-append,
  both-take,
  both-drop,
  undefined-typed,
}
use Rattle.meaning.proofs.MatchMonotone.{match_monotone}

-- a well-typed term is in order with itself, and a lawful rule with itself
pub ordered-refl
    : {Declared : Ty → Type 0} {Γ : List Ty} {t : Term} {τ : Ty} → Elaborated Declared Γ t τ → Ordered Declared Γ t t τ
ordered-refl (e_constant h) = o_constant h
ordered-refl (e_name n) = o_name n
ordered-refl (e_pair t s d) = o_pair (ordered-refl t) (ordered-refl s) d
ordered-refl (e_first t) = o_first (ordered-refl t)
ordered-refl (e_second t) = o_second (ordered-refl t)
ordered-refl (e_let t s) = o_let (ordered-refl t) (ordered-refl s)
ordered-refl (e_feedback t s) = o_feedback (ordered-refl t) (ordered-refl s)
ordered-refl (e_if t p s e) = o_if (ordered-refl t) p (ordered-refl s) (ordered-refl e)
ordered-refl (e_delay h t) = o_delay (both_refl h) (ordered-refl t)

pub rule-below-itself : {rule : List ℕ → List ℕ → List ℕ} → Lawful rule → RuleBelow rule rule
rule-below-itself law = record { gives_below = λ h k. law.monotone (both_refl h) (both_refl k) }

name-ordered
    : {Γ : List Ty} {n : ℕ} {τ : Ty} {ρ π : List (List ℕ)}
    → Named Γ n τ → BothValues Γ ρ π → Both (bounds τ) (get_or ρ n []) (get_or π n [])
name-ordered here (both_more_values h r) = h
name-ordered (there n) (both_more_values h r) = name-ordered n r

-- two functions in order, repeated as often
iter-ordered
    : {b : List ℕ} (F G : List ℕ → List ℕ) → ((v w : List ℕ) → Both b v w → Both b (F v) (G w))
    → (k : ℕ) (v w : List ℕ) → Both b v w → Both b (iter F k v) (iter G k w)
iter-ordered F G f zero v w r = r
iter-ordered F G f (suc k) v w r = f (iter F k v) (iter G k w) (iter-ordered F G f k v w r)

module _ (rule other : List ℕ → List ℕ → List ℕ) (law : Lawful rule) (under : RuleBelow rule other) where
  rules-ordered : {b v v' w w' : List ℕ} → Both b v v' → Both b w w' → Both b (rule v w) (other v' w')
  rules-ordered r s = both-trans (law.monotone r s) (under.gives_below (both-upper r) (both-upper s))

  choose-undecided
      : (a : Decision) {b v v' w w' : List ℕ} → Both b v v' → Both b w w' → Both b (rule v w) (choose other a v' w')
  choose-undecided Yes r s = both-trans (law.below_then (both-lower r) (both-lower s)) r
  choose-undecided No r s = both-trans (law.below_else (both-lower r) (both-lower s)) s
  choose-undecided Undecided r s = rules-ordered r s

  choose-decided
      : (a : Decision) {b v v' w w' : List ℕ} → Both b v v' → Both b w w'
      → Both b (choose rule a v w) (choose other a v' w')
  choose-decided Yes r s = r
  choose-decided No r s = s
  choose-decided Undecided r s = rules-ordered r s

  choose-ordered
      : {a a' : Decision} {b v v' w w' : List ℕ} → DecisionBelow a a' → Both b v v' → Both b w w'
      → Both b (choose rule a v w) (choose other a' v' w')
  choose-ordered {a'} (inl p) r s = rw p (choose-undecided a' r s)
  choose-ordered {a'} (inr p) r s = rw p (choose-decided a' r s)

  module _ (Declared : Ty → Type 0) where
    pub eval-ordered
        : {Γ : List Ty} {t t' : Term} {τ : Ty} {ρ π : List (List ℕ)}
        → Ordered Declared Γ t t' τ → BothValues Γ ρ π → Both (bounds τ) (eval rule ρ t) (eval other π t')
    unfolding eval
    eval-ordered (o_constant h) r = both_refl h
    eval-ordered (o_name k) r = name-ordered k r
    eval-ordered (o_pair t s d) r = both-append (eval-ordered t r) (eval-ordered s r)
    eval-ordered (o_first {σ} {τ} t) r = both-take σ τ (eval-ordered t r)
    eval-ordered (o_second {σ} {τ} t) r = both-drop σ τ (eval-ordered t r)
    eval-ordered (o_let t s) r = eval-ordered s (both_more_values (eval-ordered t r) r)
    eval-ordered (o_feedback {σ} t s) r =
        eval-ordered s
        (both_more_values
        (iter-ordered _ _ (λ v w q. eval-ordered t (both_more_values q r)) (leaves σ) _ _
        (both_refl (undefined-typed σ))) r)
    eval-ordered (o_if t p s e) r =
        choose-ordered (match_monotone p (eval-ordered t r)) (eval-ordered s r) (eval-ordered e r)
    eval-ordered (o_delay h t) r = h

    settled-ordered
        : {Γ : List Ty} {t t' : Term} {σ : Ty} {ρ π : List (List ℕ)}
        → Ordered Declared (σ ∷ Γ) t t' σ → BothValues Γ ρ π → Both (bounds σ) (settled rule ρ σ t) (settled other π σ t')
    settled-ordered {σ = σ} t r =
        iter-ordered _ _ (λ v w q. eval-ordered t (both_more_values q r)) (leaves σ) _ _ (both_refl (undefined-typed σ))

    pub next-ordered
        : {Γ : List Ty} {t t' : Term} {τ : Ty} {ρ π : List (List ℕ)}
        → Ordered Declared Γ t t' τ → BothValues Γ ρ π → Ordered Declared Γ (next rule ρ t) (next other π t') τ
    unfolding next
    next-ordered (o_constant h) r = o_constant h
    next-ordered (o_name k) r = o_name k
    next-ordered (o_pair t s d) r = o_pair (next-ordered t r) (next-ordered s r) d
    next-ordered (o_first t) r = o_first (next-ordered t r)
    next-ordered (o_second t) r = o_second (next-ordered t r)
    next-ordered (o_let t s) r = o_let (next-ordered t r) (next-ordered s (both_more_values (eval-ordered t r) r))
    next-ordered (o_feedback t s) r =
        o_feedback (next-ordered t (both_more_values (settled-ordered t r) r))
        (next-ordered s (both_more_values (settled-ordered t r) r))
    next-ordered (o_if t p s e) r = o_if (next-ordered t r) p (next-ordered s r) (next-ordered e r)
    next-ordered (o_delay h t) r = o_delay (eval-ordered t r) (next-ordered t r)

    -- a run, the inputs of the type of the innermost name
    pub outputs-ordered
        : {Γ : List Ty} {t t' : Term} {σ τ : Ty} {ρ π is js : List (List ℕ)}
        → Ordered Declared (σ ∷ Γ) t t' τ → BothValues Γ ρ π → AllBoth σ is js
        → AllBoth τ (outputs rule ρ t is) (outputs other π t' js)
    unfolding outputs
    outputs-ordered t r both_all_none = both_all_none
    outputs-ordered {t = u} {t' = u'} {ρ = ρ} {π = π} t r (both_all_more {v = v} {w = w} h k) =
        both_all_more (eval-ordered t (both_more_values h r))
        (outputs-ordered {t = next rule (v ∷ ρ) u} {t' = next other (w ∷ π) u'} (next-ordered t (both_more_values h r)) r k)

    pub after-ordered
        : {Γ : List Ty} {t t' : Term} {σ τ : Ty} {ρ π is js : List (List ℕ)}
        → Ordered Declared (σ ∷ Γ) t t' τ → BothValues Γ ρ π → AllBoth σ is js
        → Ordered Declared (σ ∷ Γ) (after rule ρ t is) (after other π t' js) τ
    unfolding after
    after-ordered t r both_all_none = t
    after-ordered {t = u} {t' = u'} {ρ = ρ} {π = π} t r (both_all_more {v = v} {w = w} h k) =
        after-ordered {t = next rule (v ∷ ρ) u} {t' = next other (w ∷ π) u'} (next-ordered t (both_more_values h r)) r k
