-- IFs and delays: an IF evaluates all three parts, and a delay gives the value it holds and next holds its part's value.
-- Assumes nothing.
use Prim.Native.Nat.{ℕ, ◌-◌, ◌*◌, ◌≤◌, ◌<◌}
use mathlib.Core.Bool.{Bool, true, false}
use mathlib.Core.List.{List, ◌++◌}
use mathlib.Core.Path.{◌≡◌, refl, sym, ap, ◌∙◌}
use native.Mathlib.Omega.{arith}
use borrow.Author.Tests.{eqb-true}
use lib.ListN.{length, get_or, set, take, drop, replicate, length-map}
use Rattle.records.specs.Words.{word, word_a, word_b, word_c, count}
use Rattle.records.specs.Kinds.{expression, if_matches, delay, leafs}
use Rattle.records.specs.Says.{kind_at}
use Rattle.records.specs.Trees.{tree_at, chain, type_record_of}
use Rattle.records.specs.Written.{Written}
use Rattle.records.specs.Decoding.{leaf_values}
use Rattle.records.proofs.Table.{ask_of_kind}
use Rattle.records.proofs.Asked.{part-of-kind}
use Rattle.records.proofs.Trees.{tree-of}
use Rattle.verdict.specs.Scopes.{Scope, of-delay}
use Rattle.accepted.proofs.Scopes.{judged-by-kind}
use Rattle.meaning.specs.Undecided.{undecided_rule}
use Rattle.behaviour.specs.Entries.{assigned, put_all, enter}
use Rattle.behaviour.specs.Evaluated.{value_at}
use Rattle.behaviour.specs.Midway.{stored_at, fired_at}
use Rattle.behaviour.proofs.Evaluated.{if_value, if-stored, delay-value, delay-stored}
use Rattle.behaviour.proofs.Firings.{if-fired, delay-fired}
use Rattle.values.specs.Chained.{Chained}
use Rattle.values.specs.Matchings.{Matching, Chosen}
use Rattle.values.specs.Slots.{frames}
use Rattle.evaluator.specs.Evaluating.{Wanted, EvaluatingIn, EvaluatedIn, Evaluated}
use Rattle.evaluator.proofs.Readiness.{ready-passes, ready-written, ready-there, ready-value, evaluating-at, in-circuit, entry-is, value-long, same-frames, values-again}
use Rattle.evaluator.proofs.LentBranches.{own-entry, tested-scope, then-scope, else-scope, then-lent, otherwise-fits, else-lent, otherwise-is, otherwise-long, tested-is, test-matching}
use Rattle.evaluator.proofs.Wanted.{wanted-one, wanted-both, wanted-whole, wanted-value}
use Rattle.evaluator.proofs.Parts.{room-done, room-wide}
use Rattle.evaluator.proofs.Frames.{lent-long}

module _ {s : List ℕ} {n : ℕ} {W env : List ℕ} {names rec : ℕ} {out Γ : List ℕ} (r : EvaluatingIn s n W env names rec out Γ) where
  abbrev ρ : List (List ℕ)
  ρ = frames s Γ env

  abbrev val : ℕ → List ℕ
  val x = value_at undecided_rule s Γ ρ x

  w : Written s
  w = ready-written r.at_hand

  b : rec < count s
  b = ready-there r.at_hand

  module _ (e : kind_at s rec ≡ expression if_matches) {x y z p : ℕ} (ex : x ≡ word s rec 2) (ey : y ≡ word s rec 3) (ez : z ≡ word s rec 4)
      (ep : p ≡ word s rec 5) {c : ℕ} (ec : c ≡ get_or W x 0) {R : List ℕ} (e_r : R ≡ replicate 64 0)
      {whole : Bool} {held fired env₁ held₁ fired₁ o₁ : List ℕ} (p₁ : Evaluated whole s n W env names x held fired (take (c - 0) R) env₁ held₁ fired₁ o₁) where
    d₁ : EvaluatedIn whole s Γ env names x held fired env₁ held₁ fired₁ o₁
    d₁ = room-done r (tested-scope r.at_hand e ex) ec e_r p₁

    wide₁ : length o₁ ≡ c
    wide₁ = room-wide r (tested-scope r.at_hand e ex) ec e_r p₁

    pub then_ready : EvaluatingIn s n W env₁ names y out Γ
    then_ready =
        evaluating-at r.at_hand (then-scope r.at_hand e ey) env₁ names out r.at_hand.many d₁.wide
        (then-lent r.at_hand e ey) (values-again r env₁ d₁.kept)

    module _ {env₂ held₂ fired₂ o₂ : List ℕ} (p₂ : Evaluated whole s n W env₁ names y held₁ fired₁ out env₂ held₂ fired₂ o₂) where
      d₂ : EvaluatedIn whole s Γ env₁ names y held₁ fired₁ env₂ held₂ fired₂ o₂
      d₂ = p₂.done Γ then_ready

      f₁ : frames s Γ env₁ ≡ ρ
      f₁ = same-frames r.at_hand env₁ d₁.kept

      then-value : o₂ ≡ val y
      then-value = rw f₁ at d₂.value

      then-long : length o₂ ≡ length out
      then-long =
          ap length then-value ∙ value-long r.at_hand (then-scope r.at_hand e ey) r.values ∙ sym (then-lent r.at_hand e ey)

      kept₂ : take (64 * names) env₂ ≡ take (64 * names) env
      kept₂ = d₂.kept ∙ d₁.kept

      module _ {Q : List ℕ} (e_q : Q ≡ replicate 64 0) where
        pub else-fits : length o₂ ≤ length Q
        else-fits = otherwise-fits r.at_hand e o₂ then-long e_q

        pub else-ready : EvaluatingIn s n W env₂ names z (take (length o₂ - 0) Q) Γ
        else-ready =
            evaluating-at r.at_hand (else-scope r.at_hand e ez) env₂ names (take (length o₂ - 0) Q) r.at_hand.many d₂.wide
            (else-lent r.at_hand e o₂ then-long e_q ez) (values-again r env₂ kept₂)

        module _ {env₃ held₃ fired₃ o₃ : List ℕ} (p₃ : Evaluated whole s n W env₂ names z held₂ fired₂ (take (length o₂ - 0) Q) env₃ held₃ fired₃ o₃) where
          d₃ : EvaluatedIn whole s Γ env₂ names z held₂ fired₂ env₃ held₃ fired₃ o₃
          d₃ = p₃.done Γ else-ready

          f₂ : frames s Γ env₂ ≡ ρ
          f₂ = same-frames r.at_hand env₂ kept₂

          else-value : o₃ ≡ val z
          else-value = rw f₂ at d₃.value

          else-long : length o₃ ≡ length o₂
          else-long =
              ap length else-value ∙ value-long r.at_hand (else-scope r.at_hand e ez) r.values
              ∙ sym (else-lent r.at_hand e o₂ then-long e_q ez) ∙ lent-long (length o₂) Q else-fits

          abbrev tested : List ℕ
          tested = take (c - 0) (o₁ ++ drop (c - 0) R)

          abbrev otherwise : List ℕ
          otherwise = take (length o₂ - 0) (o₃ ++ drop (length o₂ - 0) Q)

          test_back : tested ≡ o₁
          test_back = tested-is r.at_hand e ex ec e_r o₁ wide₁

          else-back : otherwise ≡ o₃
          else-back = otherwise-is r.at_hand e o₂ then-long e_q o₃ else-long

          pub as_long : length otherwise ≡ length o₂
          as_long = otherwise-long r.at_hand e o₂ then-long e_q o₃ else-long

          pub pattern-matching : Matching s n W p tested
          pattern-matching = test-matching r.at_hand e ex ec e_r o₁ wide₁ ep

          -- the number is entered where the whole is wanted
          pub if-done : {out' fired₄ : List ℕ} {number : ℕ} → Chosen s p tested otherwise o₂ out' number
              → Wanted whole (λ f. set f rec number) fired₃ fired₄
              → EvaluatedIn whole s Γ env names rec held fired env₃ held₃ fired₄ out'
          if-done g k₄ =
              let h₂ : Wanted whole (stored_at undecided_rule s Γ ρ y) held₁ held₂ = rw f₁ at d₂.stored in
              let h₃ : Wanted whole (stored_at undecided_rule s Γ ρ z) held₂ held₃ = rw f₂ at d₃.stored in
              let k₂ : Wanted whole (fired_at undecided_rule s Γ ρ y) fired₁ fired₂ = rw f₁ at d₂.noted in
              let k₃ : Wanted whole (fired_at undecided_rule s Γ ρ z) fired₂ fired₃ = rw f₂ at d₃.noted in
              let chosen = rw (test_back, else-back, d₁.value, then-value, else-value, ex, ey, ez, ep) at g.chosen in
              let number_is = rw (test_back, d₁.value, ex, ep) at g.tells in
              record {
                value = chosen ∙ sym (if_value w Γ ρ b e);
                stored = wanted-one (wanted-both (wanted-both d₁.stored h₂) h₃) (rw (ex, ey, ez) (if-stored w Γ ρ b e held));
                noted = wanted-one (wanted-both (wanted-both (wanted-both d₁.noted k₂) k₃) k₄)
                    (rw (number_is, ex, ey, ez) (if-fired w Γ ρ b e fired));
                wide = d₃.wide;
                kept = d₃.kept ∙ kept₂;
              }

  module _ (e : kind_at s rec ≡ expression delay) {l : ℕ} (el : l ≡ word s rec 3) where
    chained : (many : ℕ) → many ≡ length out → Chained s n l many
    chained many eo =
        let q = part-of-kind w rec (expression delay) leafs b e 3 refl (unfold ask_of_kind in refl) in
        let counted = r.at_hand.sized.counted in
        record {
          sized = r.at_hand.sized;
          written = w;
          there = omega (arith, q.1, el);
          sort = rw el q.2;
          many =
              rw el
              (sym (length-map (chain s (word_b s rec)) (word_a s)) ∙ ap length (sym (delay-value w Γ ρ b e))
              ∙ ready-value r ∙ sym eo);
        }

    -- where the value alone is wanted, the leaves are read at once
    pub delay-held : Chained s n l (length out)
    delay-held = chained (length out) refl

    pub delay-read : {whole : Bool} → whole ≡ false → {held fired o : List ℕ} → o ≡ leaf_values s (chain s l)
        → EvaluatedIn whole s Γ env names rec held fired env held fired o
    delay-read v g =
        record {
          value = g ∙ rw el (sym (delay-value w Γ ρ b e));
          stored = wanted-value v;
          noted = wanted-value v;
          wide = r.at_hand.wide;
          kept = refl;
        }

    -- where the whole is, they next hold the part's value
    module _ {x : ℕ} (ex : x ≡ word s rec 4) where
      delayed-scope : Scope s x Γ
      delayed-scope = rw ex (of-delay e r.at_hand.scope)

      delayed-type : type_record_of s Γ (tree_at s x) ≡ word_a s rec
      delayed-type =
          rw ex
          (eqb-true (type_record_of s Γ (tree_at s (word_c s rec))) (word_a s rec)
          (judged-by-kind (ready-passes r.at_hand) (in-circuit r.at_hand r.at_hand.scope) delay e).2)

      delayed-entry : length out ≡ get_or W x 0
      delayed-entry =
          own-entry r.at_hand ∙ rw (tree-of w rec b (expression delay) e, ← delayed-type) (sym (entry-is r.at_hand delayed-scope))

      pub delayed-ready : EvaluatingIn s n W env names x out Γ
      delayed-ready =
          evaluating-at r.at_hand delayed-scope env names out r.at_hand.many r.at_hand.wide delayed-entry r.values

      pub delay-chained : {whole : Bool} {held fired env₁ held₁ fired₁ o : List ℕ}
          → Evaluated whole s n W env names x held fired out env₁ held₁ fired₁ o → Chained s n l (length o)
      delay-chained {o = o} p₁ =
          chained (length o)
          (ap length (p₁.done Γ delayed-ready).value ∙ value-long r.at_hand delayed-scope r.values ∙ sym delayed-entry)

      pub delay-done : {whole : Bool} → whole ≡ true → {held fired env₁ held₁ fired₁ o₁ held₂ o₂ : List ℕ}
          → Evaluated whole s n W env names x held fired out env₁ held₁ fired₁ o₁
          → held₂ ≡ put_all enter (assigned (chain s l) o₁) held₁ → o₂ ≡ leaf_values s (chain s l)
          → EvaluatedIn whole s Γ env names rec held fired env₁ held₂ fired₁ o₂
      delay-done v {held} {fired} {o₁ = o₁} p₁ h g =
          let d = p₁.done Γ delayed-ready in
          record {
            value = g ∙ rw el (sym (delay-value w Γ ρ b e));
            stored = wanted-one (wanted-both d.stored (wanted-whole {f = put_all enter (assigned (chain s l) o₁)} v h))
                (rw (d.value, ex, el) (delay-stored w Γ ρ b e held));
            noted = wanted-one d.noted (rw ex (delay-fired w Γ ρ b e fired));
            wide = d.wide;
            kept = d.kept;
          }
