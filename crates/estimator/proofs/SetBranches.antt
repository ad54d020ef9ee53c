-- IFs: all three parts are estimated, and the match chooses or joins.
-- Assumes nothing.
use Prim.Native.Nat.{ℕ, ◌-◌, ◌*◌, ◌≤◌, ◌<◌}
use mathlib.Core.List.{List, ◌++◌}
use mathlib.Core.Path.{◌≡◌, sym, ap, ◌∙◌}
use native.Mathlib.Omega.{arith}
use lib.ListN.{length, get_or, take, drop, replicate}
use Rattle.records.specs.Words.{word, count}
use Rattle.records.specs.Kinds.{expression, if_matches}
use Rattle.records.specs.Says.{kind_at}
use Rattle.records.specs.Trees.{alternatives}
use Rattle.records.specs.Decoding.{pattern_of}
use Rattle.records.specs.Written.{Written}
use Rattle.values.specs.Matchings.{Matching}
use Rattle.evaluator.proofs.Frames.{lent-long}
use Rattle.evaluator.proofs.Readiness.{ready-written, ready-there, room-few}
use Rattle.evaluator.proofs.LentBranches.{tested-scope, then-scope, else-scope, then-lent, otherwise-fits, else-lent, otherwise-is, else-inside, otherwise-long, tested-is, test-inside, test-matching}
use Rattle.possibilities.specs.Sets.{ConstructorSet, set_words}
use Rattle.possibilities.specs.SetMatching.{set_matches, pattern_type}
use Rattle.possibilities.specs.SetEvaluation.{choose_sets}
use Rattle.estimator.specs.Estimating.{EstimatingIn, EstimatedIn, Estimated, sets_at, SetsChosen}
use Rattle.estimator.proofs.SetsAt.{words_at, if-sets}
use Rattle.estimator.proofs.SetReadiness.{sets-long, estimating-at, sets-again}
use Rattle.estimator.proofs.SetParts.{set-room-done, set-room-wide}

module _ {s : List ℕ} {n : ℕ} {W env : List ℕ} {names rec : ℕ} {out Γ : List ℕ} {ρ : List (List ConstructorSet)} (r : EstimatingIn s n W env names rec out Γ ρ) where
  abbrev val : ℕ → List ℕ
  val x = words_at s Γ ρ x

  w : Written s
  w = ready-written r.at_hand

  b : rec < count s
  b = ready-there r.at_hand

  module _ (e : kind_at s rec ≡ expression if_matches) {x y z p : ℕ} (ex : x ≡ word s rec 2) (ey : y ≡ word s rec 3) (ez : z ≡ word s rec 4)
      (ep : p ≡ word s rec 5) {c : ℕ} (ec : c ≡ get_or W x 0) {R : List ℕ} (e_r : R ≡ replicate 64 0)
      {env₁ o₁ : List ℕ} (p₁ : Estimated s n W env names x (take (c - 0) R) env₁ o₁) where
    d₁ : EstimatedIn s Γ ρ env names x env₁ o₁
    d₁ = set-room-done r (tested-scope r.at_hand e ex) ec e_r p₁

    wide₁ : length o₁ ≡ c
    wide₁ = set-room-wide r (tested-scope r.at_hand e ex) ec e_r p₁

    pub set-then-ready : EstimatingIn s n W env₁ names y out Γ ρ
    set-then-ready =
        estimating-at r (then-scope r.at_hand e ey) r.lengths env₁ names out r.at_hand.many d₁.wide
        (then-lent r.at_hand e ey) (sets-again r env₁ d₁.kept)

    module _ {env₂ o₂ : List ℕ} (p₂ : Estimated s n W env₁ names y out env₂ o₂) where
      d₂ : EstimatedIn s Γ ρ env₁ names y env₂ o₂
      d₂ = p₂.done Γ ρ set-then-ready

      then-long : length o₂ ≡ length out
      then-long = ap length d₂.value ∙ sets-long r (then-scope r.at_hand e ey) r.lengths ∙ sym (then-lent r.at_hand e ey)

      kept₂ : take (64 * names) env₂ ≡ take (64 * names) env
      kept₂ = d₂.kept ∙ d₁.kept

      module _ {Q : List ℕ} (e_q : Q ≡ replicate 64 0) where
        pub set-else-fits : length o₂ ≤ length Q
        set-else-fits = otherwise-fits r.at_hand e o₂ then-long e_q

        pub set-else-ready : EstimatingIn s n W env₂ names z (take (length o₂ - 0) Q) Γ ρ
        set-else-ready =
            estimating-at r (else-scope r.at_hand e ez) r.lengths env₂ names (take (length o₂ - 0) Q) r.at_hand.many d₂.wide
            (else-lent r.at_hand e o₂ then-long e_q ez) (sets-again r env₂ kept₂)

        module _ {env₃ o₃ : List ℕ} (p₃ : Estimated s n W env₂ names z (take (length o₂ - 0) Q) env₃ o₃) where
          d₃ : EstimatedIn s Γ ρ env₂ names z env₃ o₃
          d₃ = p₃.done Γ ρ set-else-ready

          else-long : length o₃ ≡ length o₂
          else-long =
              ap length d₃.value ∙ sets-long r (else-scope r.at_hand e ez) r.lengths
              ∙ sym (else-lent r.at_hand e o₂ then-long e_q ez) ∙ lent-long (length o₂) Q set-else-fits

          abbrev tested : List ℕ
          tested = take (c - 0) (o₁ ++ drop (c - 0) R)

          abbrev otherwise : List ℕ
          otherwise = take (length o₂ - 0) (o₃ ++ drop (length o₂ - 0) Q)

          test_back : tested ≡ o₁
          test_back = tested-is r.at_hand e ex ec e_r o₁ wide₁

          else-back : otherwise ≡ o₃
          else-back = otherwise-is r.at_hand e o₂ then-long e_q o₃ else-long

          pub set-tested-inside : c ≤ length (o₁ ++ drop (c - 0) R)
          set-tested-inside = test-inside r.at_hand e ex ec e_r o₁ wide₁

          pub set-otherwise-inside : length o₂ ≤ length (o₃ ++ drop (length o₂ - 0) Q)
          set-otherwise-inside = else-inside r.at_hand e o₂ then-long e_q o₃ else-long

          pub set-as-long : length otherwise ≡ length o₂
          set-as-long = otherwise-long r.at_hand e o₂ then-long e_q o₃ else-long

          pub set-pattern-matching : Matching s n W p tested
          set-pattern-matching = test-matching r.at_hand e ex ec e_r o₁ wide₁ ep

          pub few-long : length o₂ ≤ 64
          few-long = let t = then-long in let f = room-few r.at_hand in omega arith

          pub set-if-wide : length env₃ ≡ length env
          set-if-wide = d₃.wide ∙ sym r.at_hand.wide

          pub set-if-done : {out' : List ℕ} → SetsChosen s p tested otherwise o₂ out' → EstimatedIn s Γ ρ env names rec env₃ out'
          set-if-done g =
              let same : choose_sets (set_matches (pattern_type (pattern_of s (alternatives s p))) (pattern_of s (alternatives s p)) (sets_at s Γ ρ x))
              (sets_at s Γ ρ y) (sets_at s Γ ρ z) ≡ sets_at s Γ ρ rec =
              rw (ex, ey, ez, ep) (sym (if-sets w Γ ρ b e)) in
              record {
                value =
                    g.chosen_are (sets_at s Γ ρ x) (sets_at s Γ ρ y) (sets_at s Γ ρ z) (test_back ∙ d₁.value) d₂.value (else-back ∙ d₃.value)
                    ∙ ap set_words same;
                wide = d₃.wide;
                kept = d₃.kept ∙ kept₂;
              }
