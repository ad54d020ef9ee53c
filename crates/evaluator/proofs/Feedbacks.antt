-- A feedback: settled from undefined, and then its body, with the settled value as its name's.
-- Assumes nothing.
use Prim.Native.Nat.{ℕ, ◌+◌, ◌-◌, ◌*◌, ◌≤◌, ◌<◌}
use mathlib.Core.Bool.{Bool}
use mathlib.Core.List.{List, ◌∷◌, map}
use mathlib.Core.Path.{◌≡◌, refl, sym, ap, ap₂, ◌∙◌}
use native.Mathlib.Omega.{arith}
use native.Mathlib.Numerals.{add-one}
use borrow.Author.Tests.{eqb-true}
use lib.ListN.{length, get_or, take, replicate}
use Rattle.picoella.specs.Language.{Ty, leaves}
use Rattle.records.specs.Words.{word, word_a, word_b, count}
use Rattle.records.specs.Kinds.{expression, feedback}
use Rattle.records.specs.Says.{kind_at}
use Rattle.records.specs.Trees.{type_at, Declared, tree_at, type_record_of}
use Rattle.records.specs.Written.{Written}
use Rattle.verdict.specs.Scopes.{Scope, feedback_defining, feedback_body}
use Rattle.accepted.proofs.Scopes.{judged-by-kind}
use Rattle.meaning.specs.Values.{undefined, ValuesOf, more_values}
use Rattle.meaning.proofs.Order.{zeros}
use Rattle.meaning.specs.Elaboration.{Term, Elaborated}
use Rattle.meaning.specs.Undecided.{undecided_rule}
use Rattle.meaning.specs.Evaluation.{application, settled}
use Rattle.meaning.proofs.Order.{value-length, zeros-length, undefined-typed}
use Rattle.meaning.proofs.UndecidedRule.{rule-lawful}
use Rattle.meaning.proofs.FeedbackLeast.{undefined-rises, feedback-typed}
use Rattle.behaviour.specs.Terms.{term}
use Rattle.behaviour.specs.Evaluated.{value_at}
use Rattle.behaviour.specs.Midway.{stored_at}
use Rattle.behaviour.proofs.Evaluated.{feedback-value, feedback-stored}
use Rattle.behaviour.specs.Midway.{fired_at}
use Rattle.behaviour.proofs.Firings.{feedback-fired}
use Rattle.values.specs.Slots.{slot, entered, frames}
use Rattle.evaluator.specs.Evaluating.{Wanted, EvaluatingIn, EvaluatedIn, Evaluated, SettlingIn, SettledIn, Settled, leads_to}
use Rattle.evaluator.proofs.Frames.{front_kept, frames-kept, lent-long, zeros-long, zeros-front}
use Rattle.evaluator.proofs.Wanted.{wanted-one, wanted-both}
use Rattle.evaluator.proofs.Readiness.{ready-passes, ready-written, ready-there, ready-value, evaluating-at, in-circuit, names-few, names-small, elaborated, entry-is, entry-few, value-long, room-there, name-wide, name-kept, name-slot, name-frames}

module _ {s : List ℕ} {n : ℕ} {W env : List ℕ} {names rec : ℕ} {out Γ : List ℕ} (r : EvaluatingIn s n W env names rec out Γ)
    (e : kind_at s rec ≡ expression feedback) {d y : ℕ} (ed : d ≡ word s rec 3) (ey : y ≡ word s rec 4) {c : ℕ} (ec : c ≡ get_or W d 0)
    {R : List ℕ} (e_r : R ≡ replicate 64 0)
  where
    abbrev t : ℕ
    t = word_a s rec

    abbrev τ : Ty
    τ = type_at s t

    abbrev π : List (List ℕ)
    π = frames s Γ env

    abbrev body-part : Term
    body-part = term s (t ∷ Γ) (tree_at s d)

    w : Written s
    w = ready-written r.at_hand

    b : rec < count s
    b = ready-there r.at_hand

    pub part-scope : Scope s d (t ∷ Γ)
    part-scope = rw ed (feedback_defining e r.at_hand.scope)

    body-scope : Scope s y (t ∷ Γ)
    body-scope = rw ey (feedback_body e r.at_hand.scope)

    same-type : type_record_of s (t ∷ Γ) (tree_at s d) ≡ t
    same-type =
        rw ed
        (eqb-true (type_record_of s (t ∷ Γ) (tree_at s (word_b s rec))) t
        (judged-by-kind (ready-passes r.at_hand) (in-circuit r.at_hand r.at_hand.scope) feedback e).2)

    entry : c ≡ leaves τ
    entry = ec ∙ entry-is r.at_hand part-scope ∙ rw same-type refl

    pub feedback-small : leaves τ ≤ 64
    feedback-small =
        let f = entry-few r.at_hand part-scope in let i = entry in omega arith

    pub feedback-fits : c ≤ length R
    feedback-fits =
        let l : length R ≡ 64 = rw e_r (zeros-long 64) in let f = feedback-small in let i = entry in omega arith

    few-around : length (t ∷ Γ) ≤ 64
    few-around = names-few r.at_hand part-scope

    from_front : (k : ℕ) → k - 0 ≡ k
    from_front k = omega arith

    -- the room is undefined in every leaf
    start : take (c - 0) R ≡ undefined τ
    start = rw (from_front c, e_r) (zeros-front c 64 (let f = feedback-small in let i = entry in omega arith) ∙ rw entry refl)

    start-leaves : length (undefined τ) ≡ leaves τ
    start-leaves = value-length τ (undefined-typed τ)

    pub start-room : (64 * names + length (take (c - 0) R) ≤ length env) × (length env ≤ 4096)
    start-room =
        rw start (room-there r.at_hand t few-around (undefined τ) start-leaves env r.at_hand.wide refl feedback-small)

    module _ {env₁ : List ℕ} (g : env₁ ≡ entered names (take (c - 0) R) env) where
      started : env₁ ≡ entered names (undefined τ) env
      started = rw start at g

      slot₁ : slot names (leaves τ) env₁ ≡ undefined τ
      slot₁ =
          name-slot r.at_hand t few-around (undefined τ) start-leaves env r.at_hand.wide refl feedback-small env₁ started

      framed₁ : frames s (t ∷ Γ) env₁ ≡ undefined τ ∷ π
      framed₁ =
          name-frames r.at_hand t few-around (undefined τ) start-leaves env r.at_hand.wide refl feedback-small env₁ started

      kept₁ : take (64 * names) env₁ ≡ take (64 * names) env
      kept₁ =
          name-kept r.at_hand t few-around (undefined τ) start-leaves env r.at_hand.wide refl feedback-small env₁ started

      ρ₁ : frames s Γ env₁ ≡ π
      ρ₁ = frames-kept s Γ env₁ env (names-small r.at_hand r.at_hand.scope) (rw r.at_hand.many kept₁)

      part-typed : Elaborated (Declared s) (τ ∷ map (type_at s) Γ) body-part τ
      part-typed = rw same-type at (elaborated r.at_hand part-scope)

      applies : value_at undecided_rule s (t ∷ Γ) (undefined τ ∷ π) d ≡ application undecided_rule π body-part (undefined τ)
      unfolding value_at
      applies = refl

      pub feedback-settling : SettlingIn s n W env₁ names d (take (c - 0) R) t Γ
      feedback-settling =
          record {
            ready = evaluating-at r.at_hand part-scope env₁ (names + 1) (take (c - 0) R)
                (rw (r.at_hand.many, add-one names) refl)
                (name-wide r.at_hand t few-around (undefined τ) start-leaves env r.at_hand.wide refl feedback-small env₁ started)
                (lent-long c R feedback-fits ∙ ec)
                (rw framed₁ (more_values (undefined-typed τ) r.values));
            same = same-type;
            rises = rw (slot₁, framed₁, applies)
                (undefined-rises rule-lawful {ρ = π} {t = body-part} part-typed r.values);
          }

      -- no more leaves are undefined than there is room for
      pub few-undefined : zeros (slot names (length (take (c - 0) R)) env₁) ≤ 64
      few-undefined =
          let l = lent-long c R feedback-fits in
          let i = entry in
          let z = zeros-length (slot names (length (take (c - 0) R)) env₁) in
          let u : length (slot names (length (take (c - 0) R)) env₁) ≡ leaves τ =
          rw (l, i, slot₁) (value-length τ (undefined-typed τ)) in
          let f = feedback-small in
          omega arith

      module _ {whole : Bool} {held fired env₂ held₁ fired₁ : List ℕ} (p : Settled whole s n W env₁ names d held fired (take (c - 0) R) env₂ held₁ fired₁) where
        f₁ : SettledIn whole s t Γ env₁ names d held fired env₂ held₁ fired₁
        f₁ = p.settled t Γ feedback-settling

        abbrev u : List ℕ
        u = settled undecided_rule π τ body-part

        leads : leads_to s t Γ d names env₁ ≡ u
        leads = rw (ρ₁, slot₁) refl

        reached : slot names (leaves τ) env₂ ≡ u
        reached = f₁.reached ∙ leads

        kept₂ : take (64 * names) env₂ ≡ take (64 * names) env
        kept₂ = f₁.kept ∙ kept₁

        framed₂ : frames s (t ∷ Γ) env₂ ≡ u ∷ π
        framed₂ =
            ap₂ ◌∷◌ (rw r.at_hand.many reached)
            (frames-kept s Γ env₂ env (names-small r.at_hand r.at_hand.scope) (rw r.at_hand.many kept₂))

        body-values : ValuesOf (map (type_at s) (t ∷ Γ)) (frames s (t ∷ Γ) env₂)
        body-values =
            rw framed₂
            (more_values (feedback-typed rule-lawful {ρ = π} {t = body-part} part-typed r.values) r.values)

        body-value : value_at undecided_rule s Γ π rec ≡ value_at undecided_rule s (t ∷ Γ) (frames s (t ∷ Γ) env₂) y
        body-value = rw (framed₂, ed, ey) (feedback-value w Γ π b e)

        pub feedback-body-ready : EvaluatingIn s n W env₂ (names + 1) y out (t ∷ Γ)
        feedback-body-ready =
            evaluating-at r.at_hand body-scope env₂ (names + 1) out (rw (r.at_hand.many, add-one names) refl) f₁.wide
            (sym (ready-value r) ∙ ap length body-value
            ∙ value-long r.at_hand body-scope body-values)
            body-values

        pub feedback-done : {env₃ held₂ fired₂ o : List ℕ} → Evaluated whole s n W env₂ (names + 1) y held₁ fired₁ out env₃ held₂ fired₂ o
            → EvaluatedIn whole s Γ env names rec held fired env₃ held₂ fired₂ o
        feedback-done {env₃} {held₂} {fired₂} q =
            let d₂ = q.done (t ∷ Γ) feedback-body-ready in
            let h₁ : Wanted whole (stored_at undecided_rule s (t ∷ Γ) (u ∷ π) d) held held₁ = rw (leads, ρ₁) at f₁.stored in
            let h₂ : Wanted whole (stored_at undecided_rule s (t ∷ Γ) (u ∷ π) y) held₁ held₂ = rw framed₂ at d₂.stored in
            let k₁ : Wanted whole (fired_at undecided_rule s (t ∷ Γ) (u ∷ π) d) fired fired₁ = rw (leads, ρ₁) at f₁.noted in
            let k₂ : Wanted whole (fired_at undecided_rule s (t ∷ Γ) (u ∷ π) y) fired₁ fired₂ = rw framed₂ at d₂.noted in
            record {
              value = d₂.value ∙ sym body-value;
              stored = wanted-one (wanted-both h₁ h₂) (rw (ed, ey) (feedback-stored w Γ π b e held));
              noted = wanted-one (wanted-both k₁ k₂) (rw (ed, ey) (feedback-fired w Γ π b e fired));
              wide = d₂.wide;
              kept = front_kept (64 * names) (64 * (names + 1)) env₃ env₂ (omega arith) d₂.kept ∙ kept₂;
            }
