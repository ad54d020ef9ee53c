-- The measure is by the distance to the last record: parts and nexts are higher. Assumes nothing.
use borrow.Author.Rules.{rules}
use native.Mathlib.Omega.{arith}
use mathlib.Core.Path.{refl, sym}
use lib.Seq.{length-take-le}
use Rattle.values.proofs.Gathering.{left-falls}
use Rattle.values.proofs.Matches.{some-leaf, first-in, cut_inside, first-matched, second-lent}
use Rattle.sets.proofs.SetChains.{flat-fitting, flat-matched, whole-sets, parts-kind, pair-sets, sets-begun, sets-left-begun, sets-left-next, sets-gone-on, more-than-one}
use Rattle.sets.proofs.+match_pair_match_sets.Goals as goal

pub match_pair-returns-in-WholePattern : goal.match_pair-returns-in-WholePattern
match_pair-returns-in-WholePattern t c = whole-sets c.requires.0 c.requires.2 (sym c.in-WholePattern.ensures)

pub match_pair-bounds-widths-first : goal.match_pair-bounds-widths-first
match_pair-bounds-widths-first t c = let h = first-in c.requires.0 (parts-kind c.requires.0 c.requires.2 _ c.kind.ensures c.in_default.not-WholePattern) c.word-first.ensures.0 in let k = c.requires.0.against.sized.counted in let f = c.requires.0.against.sized.few in omega arith

pub match_pair-slice_bounds-match_sets-end : goal.match_pair-slice_bounds-match_sets-end
match_pair-slice_bounds-match_sets-end t c = sym (length-take-le _ c.args.value.now (cut_inside c.requires.0 (parts-kind c.requires.0 c.requires.2 _ c.kind.ensures c.in_default.not-WholePattern) c.word-first.ensures.0 refl))

pub match_pair-slice_bounds-match_sets-count : goal.match_pair-slice_bounds-match_sets-count
match_pair-slice_bounds-match_sets-count t c = cut_inside c.requires.0 (parts-kind c.requires.0 c.requires.2 _ c.kind.ensures c.in_default.not-WholePattern) c.word-first.ensures.0 refl

pub match_pair-slice_bounds-match_sets-start : goal.match_pair-slice_bounds-match_sets-start
match_pair-slice_bounds-match_sets-start t c = cut_inside c.requires.0 (parts-kind c.requires.0 c.requires.2 _ c.kind.ensures c.in_default.not-WholePattern) c.word-first.ensures.0 refl

pub match_pair-match_sets-a-requires : goal.match_pair-match_sets-a-requires
match_pair-match_sets-a-requires t c = let q = first-matched c.requires.0 (parts-kind c.requires.0 c.requires.2 _ c.kind.ensures c.in_default.not-WholePattern) c.word-first.ensures.0 refl in let h = q.1.against.there in (omega (arith, c.decreases, q.0), (q.1, c.requires.1))

pub match_pair-match_sets-b-requires : goal.match_pair-match_sets-b-requires
match_pair-match_sets-b-requires t c = let q = second-lent c.requires.0 (parts-kind c.requires.0 c.requires.2 _ c.kind.ensures c.in_default.not-WholePattern) c.word-first.ensures.0 refl c.word.ensures.0 in let h = q.1.against.there in (omega (arith, c.decreases, q.0), (q.1, c.requires.1))

pub match_pair-returns-in_default : goal.match_pair-returns-in_default
match_pair-returns-in_default t c = pair-sets c.requires.0 c.requires.2 (parts-kind c.requires.0 c.requires.2 _ c.kind.ensures c.in_default.not-WholePattern) c.word-first.ensures.0 refl c.word.ensures.0 c.match_sets-a.result c.match_sets-b.result c.both.result c.match_sets-a.ensures c.match_sets-b.ensures c.both.ensures

pub match_sets-named_by-requires : goal.match_sets-named_by-requires
match_sets-named_by-requires t c = flat-fitting c.requires.0 c.if-value-eq1.true c.requires.1

pub match_sets-returns-then-value-eq1 : goal.match_sets-returns-then-value-eq1
match_sets-returns-then-value-eq1 t c = flat-matched c.requires.0 c.if-value-eq1.true c.requires.1 c.on_flat.result c.named_by.ensures refl c.on_flat.ensures

pub match_sets-loop-at-init : goal.match_sets-loop-at-init
match_sets-loop-at-init t c = (sets-begun c.requires.0, λ f. sets-left-begun c.requires.0)

pub match_sets-match_pair-requires : goal.match_sets-match_pair-requires
match_sets-match_pair-requires t c =
    let v = c.loop-at.invariant.1 (search rules) in
    let h = v.matching.against.there in
    let l = some-leaf v.matching in
    let o = c.if-value-eq1.false in
    (omega (arith, c.decreases, v.higher), (v.matching, c.requires.1, more-than-one _ l o))

pub match_sets-loop-at-smaller : goal.match_sets-loop-at-smaller
match_sets-loop-at-smaller t c =
    let v = c.loop-at.invariant.1 (search rules) in
    left-falls _ _ _ (search rules) v.matching.against.there (λ f. let q = sets-left-next v c.word-at.ensures.0 f in (q.0, q.1.matching.against.there))

pub match_sets-loop-at-preserved : goal.match_sets-loop-at-preserved
match_sets-loop-at-preserved t c =
    let v = c.loop-at.invariant.1 (search rules) in (
      sets-gone-on c.loop-at.answer c.match_pair.result c.either-answer.result (search rules) v c.loop-at.invariant.0 c.match_pair.ensures c.either-answer.ensures.decides c.word-at.ensures.0,
      λ f. (sets-left-next v c.word-at.ensures.0 f).1,
    )
