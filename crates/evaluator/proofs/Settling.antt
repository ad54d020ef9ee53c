-- A feedback settled: from an approximation that lies at or below what the defining part gives for it, each round that changes the
-- value leaves fewer undefined leaves, and leads where the approximation leads; a value without any is settled. No round enters next
-- values of delays or numbers of IFs, and the evaluation at the settled value enters them where they are wanted.
-- Assumes nothing.
use Prim.Native.Nat.{ℕ, zero, suc, ◌+◌, ◌*◌, ◌≤◌, ◌<◌, suc-le-suc}
use mathlib.Core.Bool.{Bool, true, false}
use mathlib.Core.List.{List, [], ◌∷◌, map}
use mathlib.Core.Path.{◌≡◌, refl, sym, ap, ap₂, ◌∙◌}
use mathlib.Core.Logic.{◌≢◌, ◌⊎◌, inl, inr}
use native.Mathlib.Omega.{arith}
use lib.ListN.{length, get_or, take}
use Rattle.picoella.specs.Language.{Ty, bounds, leaves, OfType}
use Rattle.records.specs.Trees.{type_at, Declared, tree_at}
use Rattle.meaning.specs.Values.{Both, ValuesOf, more_values}
use Rattle.meaning.proofs.Order.{zeros, both-lower}
use Rattle.meaning.proofs.FixedPoint.{same-or-fewer, chain-rises}
use Rattle.meaning.specs.Elaboration.{Term, Elaborated}
use Rattle.meaning.specs.Undecided.{undecided_rule}
use Rattle.meaning.specs.Evaluation.{application, iterate}
use Rattle.meaning.proofs.Order.{value-length}
use Rattle.meaning.proofs.UndecidedRule.{rule-lawful}
use Rattle.meaning.proofs.FeedbackLeast.{application-monotone, application-typed, application-falls, iterate-unchanged, iterate-again}
use Rattle.behaviour.specs.Terms.{term}
use Rattle.behaviour.specs.Evaluated.{value_at}
use Rattle.behaviour.specs.Midway.{stored_at}
use Rattle.behaviour.specs.Midway.{fired_at}
use Rattle.values.specs.MatchAnswers.{ValuesCompared, LeavesDefined}
use Rattle.values.specs.Slots.{slot, entered, frames}
use Rattle.evaluator.specs.Evaluating.{EvaluatingIn, EvaluatedIn, Evaluated, SettlingIn, SettledIn, Settled, approximation, leads_to}
use Rattle.evaluator.proofs.Frames.{front_kept, slot_kept, frames-kept, entered-kept, entered-slot, entered-long}
use Rattle.evaluator.proofs.Wanted.{wanted-whole, wanted-value}
use Rattle.evaluator.proofs.Readiness.{evaluating-at, names-few, names-small, elaborated, entry-is, entry-few}

values-parts : {τ : Ty} {Γ : List Ty} {v : List ℕ} {ρ : List (List ℕ)} → ValuesOf (τ ∷ Γ) (v ∷ ρ) → OfType τ v × ValuesOf Γ ρ
values-parts (more_values h r) = (h, r)

-- a value without undefined leaves is at or below itself alone
no-zeros : (v : List ℕ) → ((i : ℕ) → i < length v → get_or v i 0 ≢ 0) → zeros v ≡ 0
no-zeros [] d = refl
no-zeros (zero ∷ v) d = absurd (d 0 (omega arith) refl)
no-zeros (suc x ∷ v) d = no-zeros v (λ i h. d (suc i) (suc-le-suc h))

full-stays : {b v w : List ℕ} → zeros v ≡ 0 → Both b v w → v ≡ w
full-stays {v = v} {w} z h = go (same-or-fewer h)
  where
    go : (v ≡ w) ⊎ (zeros w < zeros v) → v ≡ w
    go (inl e) = e
    go (inr f) = absurd (omega arith)

one_less : {m k : ℕ} → suc m ≡ k + 1 → m ≡ k
one_less e = omega arith

module _ {s : List ℕ} {n : ℕ} {W env : List ℕ} {names d : ℕ} {value : List ℕ} {t : ℕ} {Γ : List ℕ} (g : SettlingIn s n W env names d value t Γ) where
  abbrev r : EvaluatingIn s n W env (names + 1) d value (t ∷ Γ)
  r = g.ready

  abbrev σ : Ty
  σ = type_at s t

  abbrev ρ : List (List ℕ)
  ρ = frames s Γ env

  abbrev part : Term
  part = term s (t ∷ Γ) (tree_at s d)

  abbrev v : List ℕ
  v = approximation s t names env

  around : length Γ ≡ names
  around = one_less r.at_hand.many

  framed : frames s (t ∷ Γ) env ≡ v ∷ ρ
  framed = ap (λ (k : ℕ). slot k (leaves σ) env ∷ ρ) around

  typed-values : OfType σ v × ValuesOf (map (type_at s) Γ) ρ
  typed-values = values-parts (rw framed at r.values)

  typed : Elaborated (Declared s) (σ ∷ map (type_at s) Γ) part σ
  typed = rw g.same at (elaborated r.at_hand r.at_hand.scope)

  -- what the defining part gives for a value
  gives : (u : List ℕ) → value_at undecided_rule s (t ∷ Γ) (u ∷ ρ) d ≡ application undecided_rule ρ part u
  unfolding value_at
  gives u = refl

  rises : Both (bounds σ) v (application undecided_rule ρ part v)
  rises = rw (framed, gives v) at g.rises

  wide-leaves : get_or W d 0 ≡ leaves σ
  wide-leaves = entry-is r.at_hand r.at_hand.scope ∙ rw g.same refl

  small : leaves σ ≤ 64
  small = let e = entry-few r.at_hand r.at_hand.scope in let l = wide-leaves in omega arith

  few : length (t ∷ Γ) ≤ 64
  few = names-few r.at_hand r.at_hand.scope

  pub settle-few : names + 1 ≤ 64
  settle-few = let f = few in let a = around in omega arith

  pub value-wide : length value ≡ leaves σ
  value-wide = r.at_hand.room ∙ wide-leaves

  module _ {held fired env₁ held₁ fired₁ o : List ℕ} (p : Evaluated false s n W env (names + 1) d held fired value env₁ held₁ fired₁ o) where
    d₁ : EvaluatedIn false s (t ∷ Γ) env (names + 1) d held fired env₁ held₁ fired₁ o
    d₁ = p.done (t ∷ Γ) r

    given : o ≡ application undecided_rule ρ part v
    given = d₁.value ∙ rw framed (gives v)

    given-typed : OfType σ o
    given-typed =
        rw given (application-typed rule-lawful {ρ = ρ} {t = part} typed typed-values.1 typed-values.0)

    given-long : length o ≡ leaves σ
    given-long = value-length σ given-typed

    -- the names and the approximation are kept
    same-slot : slot names (leaves σ) env₁ ≡ v
    same-slot = slot_kept names (leaves σ) (64 * (names + 1)) env₁ env (let l = small in omega arith) d₁.kept

    kept : take (64 * names) env₁ ≡ take (64 * names) env
    kept = front_kept (64 * names) (64 * (names + 1)) env₁ env (omega arith) d₁.kept

    pub settle-room : (64 * names + length o ≤ length env₁) × (length env₁ ≤ 4096)
    settle-room = let l = given-long in let f = small in let m = settle-few in let w = d₁.wide in (omega arith, omega arith)

    -- nothing is entered
    held-is : held₁ ≡ held
    held-is = d₁.stored.if_value refl

    fired-is : fired₁ ≡ fired
    fired-is = d₁.noted.if_value refl

    module _ {answer : Bool} (a : ValuesCompared o (slot names (length o) env₁) answer) where
      standing : slot names (length o) env₁ ≡ v
      standing = rw given-long same-slot

      -- the value is unchanged, and so settled
      pub unchanged-settled : answer ≡ true → SettledIn false s t Γ env names d held fired env₁ held₁ fired₁
      unchanged-settled e =
          let i : iterate undecided_rule ρ σ part v ≡ v =
          iterate-unchanged rule-lawful {ρ = ρ} {t = part} typed typed-values.1 (sym given ∙ a.same e ∙ standing) in
          record {
            reached = same-slot ∙ sym i;
            stored = rw held-is (wanted-value refl);
            noted = rw fired-is (wanted-value refl);
            wide = d₁.wide;
            kept = kept;
          }

      module _ (e : answer ≡ false) {env₂ : List ℕ} (ee : env₂ ≡ entered names o env₁) where
        changed : application undecided_rule ρ part v ≢ v
        changed u = a.other e (given ∙ u ∙ sym standing)

        below : 64 * names ≤ length env₁
        below = let m = settle-few in let w = d₁.wide in omega arith

        kept₂ : take (64 * names) env₂ ≡ take (64 * names) env
        kept₂ = rw ee (entered-kept names o env₁ below ∙ kept)

        slot₂ : slot names (leaves σ) env₂ ≡ o
        slot₂ = rw (ee, ← given-long) (entered-slot names o env₁ below)

        wide₂ : length env₂ ≡ 4096
        wide₂ = rw ee (entered-long names o env₁ below settle-room.0 ∙ d₁.wide)

        ρ₂ : frames s Γ env₂ ≡ ρ
        ρ₂ =
            frames-kept s Γ env₂ env (λ k h. names-small r.at_hand r.at_hand.scope (suc k) (omega arith))
            (rw around kept₂)

        framed₂ : frames s (t ∷ Γ) env₂ ≡ o ∷ ρ
        framed₂ = ap₂ ◌∷◌ (rw around slot₂) ρ₂

        rises₂ : Both (bounds σ) o (application undecided_rule ρ part o)
        rises₂ =
            rw given (application-monotone rule-lawful {ρ = ρ} {t = part} typed typed-values.1 v
            (application undecided_rule ρ part v) rises)

        pub settling-again : SettlingIn s n W env₂ names d o t Γ
        settling-again =
            record {
              ready = evaluating-at r.at_hand r.at_hand.scope env₂ (names + 1) o r.at_hand.many wide₂
                  (given-long ∙ sym wide-leaves) (rw framed₂ (more_values given-typed typed-values.1));
              same = g.same;
              rises = rw (slot₂, framed₂, gives o) rises₂;
            }

        pub fewer-undefined : zeros (slot names (length o) env₂) < zeros (slot names (length value) env)
        fewer-undefined =
            rw (given-long, value-wide, slot₂, given)
            (application-falls rule-lawful {ρ = ρ} {t = part} typed typed-values.1 rises changed)

        leads : leads_to s t Γ d names env₂ ≡ leads_to s t Γ d names env
        leads =
            rw (ρ₂, slot₂, given)
            (sym (iterate-again rule-lawful {ρ = ρ} {t = part} typed typed-values.1 rises))

        -- every leaf is defined, and so the value is settled
        pub defined-settled : {full : Bool} → LeavesDefined o full → full ≡ true → SettledIn false s t Γ env names d held fired env₂ held₁ fired₁
        defined-settled l f =
            let u : application undecided_rule ρ part o ≡ o = sym (full-stays (no-zeros o (l.every f)) rises₂) in
            let i : leads_to s t Γ d names env₂ ≡ o =
            rw (ρ₂, slot₂) (iterate-unchanged rule-lawful {ρ = ρ} {t = part} typed typed-values.1 u) in
            record {
              reached = slot₂ ∙ sym i ∙ leads;
              stored = rw held-is (wanted-value refl);
              noted = rw fired-is (wanted-value refl);
              wide = wide₂;
              kept = kept₂;
            }

        pub changed-settled : {env₃ held₂ fired₂ : List ℕ} → Settled false s n W env₂ names d held₁ fired₁ o env₃ held₂ fired₂
            → SettledIn false s t Γ env names d held fired env₃ held₂ fired₂
        changed-settled q =
            let f = q.settled t Γ settling-again in
            record {
              reached = f.reached ∙ leads;
              stored = rw (leads, ρ₂, held-is) at f.stored;
              noted = rw (leads, ρ₂, fired-is) at f.noted;
              wide = f.wide;
              kept = f.kept ∙ kept₂;
            }

  -- once it is settled, the defining part is evaluated there where its next values and numbers are wanted
  module _ {held fired env₁ held₁ fired₁ : List ℕ} (q : Settled false s n W env names d held fired value env₁ held₁ fired₁) where
    f₁ : SettledIn false s t Γ env names d held fired env₁ held₁ fired₁
    f₁ = q.settled t Γ g

    abbrev u : List ℕ
    u = leads_to s t Γ d names env

    settled-typed : OfType σ u
    settled-typed =
        both-lower (chain-rises (application undecided_rule ρ part)
        (application-monotone rule-lawful {ρ = ρ} {t = part} typed typed-values.1) (leaves σ) rises)

    settled-frames : frames s (t ∷ Γ) env₁ ≡ u ∷ ρ
    settled-frames =
        ap₂ ◌∷◌ (rw around f₁.reached)
        (frames-kept s Γ env₁ env (λ k h. names-small r.at_hand r.at_hand.scope (suc k) (omega arith)) (rw around f₁.kept))

    pub settled-value : {whole : Bool} → whole ≡ false → SettledIn whole s t Γ env names d held fired env₁ held₁ fired₁
    settled-value w = rw w f₁

    pub settled-ready : (o : List ℕ) → length o ≡ length value → EvaluatingIn s n W env₁ (names + 1) d o (t ∷ Γ)
    settled-ready o l =
        evaluating-at r.at_hand r.at_hand.scope env₁ (names + 1) o r.at_hand.many f₁.wide (l ∙ r.at_hand.room)
        (rw settled-frames (more_values settled-typed typed-values.1))

    pub settled-whole : {whole : Bool} → whole ≡ true → {o env₂ held₂ fired₂ o₂ : List ℕ} → length o ≡ length value
        → Evaluated true s n W env₁ (names + 1) d held₁ fired₁ o env₂ held₂ fired₂ o₂
        → SettledIn whole s t Γ env names d held fired env₂ held₂ fired₂
    settled-whole w {o} {env₂} {held₂} {fired₂} l p =
        let d₂ = p.done (t ∷ Γ) (settled-ready o l) in
        let h : held₂ ≡ stored_at undecided_rule s (t ∷ Γ) (u ∷ ρ) d held₁ = rw settled-frames at (d₂.stored.if_whole refl) in
        let k : fired₂ ≡ fired_at undecided_rule s (t ∷ Γ) (u ∷ ρ) d fired₁ = rw settled-frames at (d₂.noted.if_whole refl) in
        let here : slot names (leaves σ) env₂ ≡ slot names (leaves σ) env₁ =
        slot_kept names (leaves σ) (64 * (names + 1)) env₂ env₁ (let l = small in omega arith) d₂.kept in
        record {
          reached = here ∙ f₁.reached;
          stored = wanted-whole w (h ∙ rw (f₁.stored.if_value refl) refl);
          noted = wanted-whole w (k ∙ rw (f₁.noted.if_value refl) refl);
          wide = d₂.wide;
          kept = front_kept (64 * names) (64 * (names + 1)) env₂ env₁ (omega arith) d₂.kept ∙ f₁.kept;
        }
