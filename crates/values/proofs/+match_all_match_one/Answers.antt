-- The measure is by the distance to the last record: parts and nexts are higher. The loop's invariant: the whole chain is what was
-- matched so far, with what is left. Assumes nothing.
use borrow.Author.Rules.{rules}
use native.Mathlib.Omega.{arith}
use mathlib.Core.Path.{sym, ◌∙◌}
use lib.Seq.{length-take-le}
use Rattle.values.proofs.LastKinds.{last-pattern}
use Rattle.values.proofs.ChainLaws.{alternative-goes-on}
use Rattle.values.proofs.Gathering.{gathering-begun, gone-on, up-to-yes, left-falls}
use Rattle.values.proofs.Matches.{next-matched, some-leaf, cut_inside, whole-matches, constructor-matches, first-in, first-matched, second-lent, pair_matches, first-refuses}
use Rattle.values.proofs.+match_all_match_one.Goals as goal

pub match_all-loop-at-init : goal.match_all-loop-at-init
match_all-loop-at-init t c = (gathering-begun c.requires, λ f. (omega arith, c.requires))

pub match_all-loop-at-smaller : goal.match_all-loop-at-smaller
match_all-loop-at-smaller t c =
    let v = c.loop-at.invariant.1 (search rules) in
    left-falls _ _ _ (search rules) v.1.against.there (λ f. let q = next-matched v.1 (alternative-goes-on c.either-answer.result c.after-at.ensures f ∙ c.word.ensures.0) f in (q.0, q.1.against.there))

pub match_all-loop-at-preserved : goal.match_all-loop-at-preserved
match_all-loop-at-preserved t c =
    let v = c.loop-at.invariant.1 (search rules) in (
      up-to-yes c.either-answer.result (gone-on v.1 c.loop-at.answer c.match_one.result c.either-answer.result (search rules) c.loop-at.invariant.0 c.match_one.ensures (c.either-answer.ensures.decides, c.either-answer.ensures.tells) c.word.ensures.0) c.after-at.ensures,
      λ f. let q = next-matched v.1 (alternative-goes-on c.either-answer.result c.after-at.ensures f ∙ c.word.ensures.0) f in (omega (arith, v.0, q.0), q.1),
    )

pub match_one-returns-in-WholePattern : goal.match_one-returns-in-WholePattern
match_one-returns-in-WholePattern t c = whole-matches c.requires (sym c.in-WholePattern.ensures)

pub match_one-bounds-value-0 : goal.match_one-bounds-value-0
match_one-bounds-value-0 t c = some-leaf c.requires

pub match_one-returns-in-ConstructorPattern : goal.match_one-returns-in-ConstructorPattern
match_one-returns-in-ConstructorPattern t c = constructor-matches c.requires c.on_leaf.result (sym c.in-ConstructorPattern.ensures) c.word.ensures.0 c.on_leaf.ensures

pub match_one-bounds-widths-first : goal.match_one-bounds-widths-first
match_one-bounds-widths-first t c = let h = first-in c.requires (last-pattern _ _ c.kind.ensures c.requires.against.sort c.in_default.not-WholePattern c.in_default.not-ConstructorPattern) c.word-first.ensures.0 in let e = c.requires.against.sized.counted in let f = c.requires.against.sized.few in omega arith

pub match_one-slice_bounds-match_all-end : goal.match_one-slice_bounds-match_all-end
match_one-slice_bounds-match_all-end t c = sym (length-take-le _ c.args.value.now (cut_inside c.requires (last-pattern _ _ c.kind.ensures c.requires.against.sort c.in_default.not-WholePattern c.in_default.not-ConstructorPattern) c.word-first.ensures.0 c.from-w.ensures))

pub match_one-match_all-a-requires : goal.match_one-match_all-a-requires
match_one-match_all-a-requires t c = let q = first-matched c.requires (last-pattern _ _ c.kind.ensures c.requires.against.sort c.in_default.not-WholePattern c.in_default.not-ConstructorPattern) c.word-first.ensures.0 c.from-w.ensures in let h = q.1.against.there in (omega (arith, c.decreases, q.0), q.1)

pub match_one-returns-in-No : goal.match_one-returns-in-No
match_one-returns-in-No t c = first-refuses c.requires (last-pattern _ _ c.kind.ensures c.requires.against.sort c.in_default.not-WholePattern c.in_default.not-ConstructorPattern) c.word-first.ensures.0 c.from-w.ensures c.match_all-a.result c.in-No.is c.match_all-a.ensures

pub match_one-slice_bounds-match_all-count : goal.match_one-slice_bounds-match_all-count
match_one-slice_bounds-match_all-count t c = cut_inside c.requires (last-pattern _ _ c.kind.ensures c.requires.against.sort c.in_default.not-WholePattern c.in_default.not-ConstructorPattern) c.word-first.ensures.0 c.from-w.ensures

pub match_one-slice_bounds-match_all-start : goal.match_one-slice_bounds-match_all-start
match_one-slice_bounds-match_all-start t c = cut_inside c.requires (last-pattern _ _ c.kind.ensures c.requires.against.sort c.in_default.not-WholePattern c.in_default.not-ConstructorPattern) c.word-first.ensures.0 c.from-w.ensures

pub match_one-match_all-b-requires : goal.match_one-match_all-b-requires
match_one-match_all-b-requires t c = let q = second-lent c.requires (last-pattern _ _ c.kind.ensures c.requires.against.sort c.in_default.not-WholePattern c.in_default.not-ConstructorPattern) c.word-first.ensures.0 c.from-w.ensures c.word-in_default.ensures.0 in let h = q.1.against.there in (omega (arith, c.decreases, q.0), q.1)

pub match_one-returns-in_default-a : goal.match_one-returns-in_default-a
match_one-returns-in_default-a t c = pair_matches c.requires (last-pattern _ _ c.kind.ensures c.requires.against.sort c.in_default.not-WholePattern c.in_default.not-ConstructorPattern) c.word-first.ensures.0 c.from-w.ensures c.match_all-a.result c.match_all-b.result c.both.result c.word-in_default.ensures.0 c.match_all-a.ensures c.match_all-b.ensures c.both.ensures
