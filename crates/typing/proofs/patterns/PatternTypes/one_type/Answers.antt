-- By the pattern's kind, and for a pair pattern by the entries of its parts. Assumes nothing.
use mathlib.Core.Logic.{inl, inr}
use mathlib.Core.Path.{◌∙◌, refl, sym}
use native.Mathlib.Omega.{arith}
use Rattle.typing.proofs.KindTests.{is-pair-pattern, no-pair-pattern}
use Rattle.typing.proofs.TypedPatterns.{word-type, first-low, second-low, no-part-type, none-zero, pair-given}
use Rattle.typing.proofs.patterns.PatternTypes.one_type.Goals as goal

pub of-requires : goal.of-requires
of-requires c = (first-low c.requires.0 c.requires.1 (is-pair-pattern _ _ _ c.kind.ensures c.eq.ensures c.if-eq.true) c.word-a.ensures.0, c.requires.0.above.long)

pub returns-in_err-of : goal.returns-in_err-of
returns-in_err-of c =
    let z = none-zero (sym c.in_err-of.was ∙ c.of.ensures) in
    rw c.from_residual.ensures (no-part-type c.requires.0 c.requires.1 (is-pair-pattern _ _ _ c.kind.ensures c.eq.ensures c.if-eq.true) c.word-a.ensures.0 refl (inl z), omega arith)

pub of-requires-then-eq : goal.of-requires-then-eq
of-requires-then-eq c = (second-low c.requires.0 c.requires.1 (is-pair-pattern _ _ _ c.kind.ensures c.eq.ensures c.if-eq.true) c.word.ensures.0, c.requires.0.above.long)

pub returns-in_err-of-2 : goal.returns-in_err-of-2
returns-in_err-of-2 c =
    let z = none-zero (sym c.in_err-of-2.was ∙ c.of-then-eq.ensures) in
    rw c.from_residual-in_err-of-2.ensures (no-part-type c.requires.0 c.requires.1 (is-pair-pattern _ _ _ c.kind.ensures c.eq.ensures c.if-eq.true) c.word-a.ensures.0 c.word.ensures.0 (inr z), omega arith)

pub returns-in_ok-of-2 : goal.returns-in_ok-of-2
returns-in_ok-of-2 c = pair-given c.requires.0 c.requires.1 (is-pair-pattern _ _ _ c.kind.ensures c.eq.ensures c.if-eq.true) c.word-a.ensures.0 c.word.ensures.0 _ _ _ (sym c.in_ok-of.was ∙ c.of.ensures) (sym c.in_ok-of-2.was ∙ c.of-then-eq.ensures) c.pair_of.ensures

pub returns-else-eq : goal.returns-else-eq
returns-else-eq c = (word-type c.requires.0 c.requires.1 (no-pair-pattern _ _ _ c.kind.ensures c.eq.ensures c.if-eq.false) c.word-a.ensures.0, c.word-a.ensures.1)
