-- The distance to the last record falls.
-- Assumes nothing.
use native.Mathlib.Omega.{arith}
use mathlib.Core.Path.{refl, sym}
use Rattle.records.specs.Kinds.{first, second}
use Rattle.records.proofs.Table.{ask_of_kind}
use Rattle.evaluator.proofs.Readiness.{ready-there, ready-word, ready-low, entry-there, part-higher}
use Rattle.evaluator.proofs.Chains.{first-evaluating, first-narrow, first-chained, second-evaluating, second-narrow, second-chained}
use Rattle.evaluator.proofs.Evaluator.+chain_end.Goals as goal

pub kind-requires : goal.kind-requires
kind-requires t c = ready-there c.requires.0.4.at_hand

pub word-requires : goal.word-requires
word-requires t c = ready-word c.requires.0.4.at_hand (omega arith)

pub chain_end-requires : goal.chain_end-requires
chain_end-requires t c = let h = part-higher c.requires.0.4.at_hand first (sym c.in-First.ensures) 2 refl (unfold ask_of_kind in refl) c.word.ensures.0 in let k = first-narrow c.requires.0.4 (sym c.in-First.ensures) c.word.ensures.0 in (omega (arith, c.decreases, h.0, h.1), ((_, _, _, _, first-evaluating c.requires.0.4 (sym c.in-First.ensures) c.word.ensures.0), omega (arith, c.requires.1)))

pub returns-in-First : goal.returns-in-First
returns-in-First t c = record { ended = λ env names out Γ r. first-chained r (sym c.in-First.ensures) c.word.ensures.0 (c.chain_end.ensures.ended env names _ Γ (first-evaluating r (sym c.in-First.ensures) c.word.ensures.0)) }

pub word-a-requires : goal.word-a-requires
word-a-requires t c = ready-word c.requires.0.4.at_hand (omega arith)

pub bounds-self-a : goal.bounds-self-a
bounds-self-a t c = entry-there c.requires.0.4.at_hand second (sym c.in-Second.ensures) 2 refl (unfold ask_of_kind in refl) c.word-a.ensures.0

pub bounds-self-rec : goal.bounds-self-rec
bounds-self-rec t c = ready-low c.requires.0.4.at_hand

pub overflow_sub-before : goal.overflow_sub-before
overflow_sub-before t c = rw (c.from.ensures, c.from-in-Second.ensures) (second-narrow c.requires.0.4 (sym c.in-Second.ensures) c.word-a.ensures.0)

pub chain_end-requires-in-Second : goal.chain_end-requires-in-Second
chain_end-requires-in-Second t c = let h = part-higher c.requires.0.4.at_hand second (sym c.in-Second.ensures) 2 refl (unfold ask_of_kind in refl) c.word-a.ensures.0 in let k = second-narrow c.requires.0.4 (sym c.in-Second.ensures) c.word-a.ensures.0 in (omega (arith, c.decreases, h.0, h.1), ((_, _, _, _, second-evaluating c.requires.0.4 (sym c.in-Second.ensures) c.word-a.ensures.0), omega (arith, c.requires.1)))

pub returns-in-Second : goal.returns-in-Second
returns-in-Second t c = record { ended = λ env names out Γ r. second-chained r (sym c.in-Second.ensures) c.word-a.ensures.0 (rw (c.from.ensures, c.from-in-Second.ensures) refl) (c.chain_end-in-Second.ensures.ended env names _ Γ (second-evaluating r (sym c.in-Second.ensures) c.word-a.ensures.0)) }
