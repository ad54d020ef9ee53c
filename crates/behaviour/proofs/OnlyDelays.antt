-- That an accepted sheet differs from another in delay leaves alone goes both ways, and from sheet to sheet: the circuit is the
-- same, so the leaves are.
-- Assumes nothing.
use Prim.Native.Nat.{ℕ}
use mathlib.Core.List.{List}
use mathlib.Core.Path.{◌≡◌, refl, sym, ◌∙◌}
use Rattle.records.specs.Trees.{circuit}
use Rattle.records.proofs.Rewritten.{same-circuit}
use Rattle.verdict.specs.Verdict.{verdict}
use Rattle.answers.specs.Answers.{Accepted}
use Rattle.behaviour.specs.Afterwards.{OnlyDelays}
use Rattle.behaviour.proofs.Sheets.{only-leaves, accepted-written}

pub only-delays-same : (s : List ℕ) → OnlyDelays s s
only-delays-same s = record { length = refl; bytes = λ i other. refl }

module _ {s t : List ℕ} {τ : ℕ} (v : verdict s ≡ Accepted τ) (a : OnlyDelays s t) where
  pub only-delays-circuit : circuit t ≡ circuit s
  only-delays-circuit = same-circuit (only-leaves (accepted-written s v) a)

  pub only-delays-back : OnlyDelays t s
  only-delays-back = record {
    length = sym a.length;
    bytes = λ i other. sym (a.bytes i (λ l m. other l (rw only-delays-circuit m)));
  }

  pub only-delays-chain : {u : List ℕ} → OnlyDelays t u → OnlyDelays s u
  only-delays-chain b = record {
    length = b.length ∙ a.length;
    bytes = λ i other. b.bytes i (λ l m. other l (rw only-delays-circuit at m)) ∙ a.bytes i other;
  }
