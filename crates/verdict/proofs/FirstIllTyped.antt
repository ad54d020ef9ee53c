-- Code 7 is reported at the first expression without a type. One way down from the root: where a part has a judgement that fails,
-- the search goes on there; where none has, every part has a type and the judgement that fails is the record's own, so the record
-- has none. The other way up to the root: where every part judged before has a type, none of its judgements fails, so what fails
-- first in a part fails first in the whole.
-- Assumes nothing.
use Prim.Native.Nat.{ℕ, ◌<◌}
use mathlib.Core.Bool.{Bool, true, false, cond, ◌&&◌}
use mathlib.Core.List.{List, ◌∷◌, ◌++◌}
use mathlib.Core.Option.{Option, none, some}
use mathlib.Core.Path.{◌≡◌, refl, ◌∙◌}
use native.Mathlib.Omega.{arith}
use lib.Dec.{ltb}
use lib.ListN.{length}
use Rattle.records.specs.Words.{count, word, word_a, word_b, word_c}
use Rattle.records.specs.Kinds.{
  Kind,
  expression,
  ExpressionKind,
  constant,
  name,
  tuple,
  first,
  second,
  let_in,
  feedback,
  if_matches,
  delay,
  expressions,
  part,
}
use Rattle.records.specs.Says.{kind_at}
use Rattle.records.specs.Trees.{chain, tree_at, type_record_of}
use Rattle.records.proofs.Table.{ask_of_kind, kind-of-sort}
use Rattle.records.proofs.Asked.{part-of-kind}
use Rattle.records.proofs.Trees.{from-above, tree-of}
use Rattle.structure.specs.Rules.{Passes}
use Rattle.structure.proofs.Passes.{written}
use Rattle.typing.specs.Judgements.{Judgement, Rule, leaves_fit, in_scope, pair_declared, pair_type, same_type, holds, judge, judgements, first_failing}
use Rattle.typing.proofs.Failing.{or_next_failing, first-of-both, failing-judged, judgement-holds}
use Rattle.verdict.specs.Scopes.{
  WellTypedAt,
  PartsTyped,
  FirstIllTyped,
  Reached,
  in_tuple_first,
  in_tuple_second,
  in_first,
  in_second,
  in_let_defining,
  in-let-body,
  in_feedback_defining,
  in_feedback_body,
  in_if_tested,
  in_if_then,
  in_if_else,
  in_delay,
}
use Rattle.verdict.proofs.Reached.{Standing, reached-scope, reached-standing, typed-passes, passes-typed}
use Rattle.verdict.proofs.PatternTested.{pattern_rule, tested-fits, fits-tested}

some-is-none : {A : Type 0} {o : Option ℕ} {r : ℕ} → o ≡ some r → o ≡ none → A
some-is-none e f = let z : ◌≡◌ {A = ℕ} 0 1 = cc in absurd (omega arith)

module _ (s : List ℕ) where
  -- what fails first in two lists fails first in one of them
  split : {A : Type 0} (js ks : List Judgement) (r : ℕ) → first_failing s (js ++ ks) ≡ some r → (first_failing s js ≡ some r → A)
      → (first_failing s js ≡ none → first_failing s ks ≡ some r → A) → A
  split {A} js ks r e left right = go (first_failing s js) refl (rw first-of-both at e)
    where
      go : (o : Option ℕ) → first_failing s js ≡ o → or_next_failing o (first_failing s ks) ≡ some r → A
      go none f g = right f g
      go (some x) f g = left (f ∙ g)

  own-fails : (q : ℕ) (rule : Rule) (r : ℕ) → first_failing s (judge q rule) ≡ some r → q ≡ r
  own-fails q rule r e = go (holds s rule) e
    where
      go : (b : Bool) → cond b none (some q) ≡ some r → q ≡ r
      go true f = let z : ◌≡◌ {A = ℕ} 0 1 = cc in absurd (omega arith)
      go false f = cc

-- down from the root
pub find_first : {s : List ℕ} → Passes s → (q : ℕ) → q < count s → (Γ : List ℕ) → Reached s q Γ → (r : ℕ)
    → first_failing s (judgements s Γ (tree_at s q)) ≡ some r → FirstIllTyped s r
find_first {s} p =
    from-above (count s)
    (λ q. (Γ : List ℕ) → Reached s q Γ → (r : ℕ) → first_failing s (judgements s Γ (tree_at s q)) ≡ some r → FirstIllTyped s r) step
  where
    step : (q : ℕ) → q < count s
        → ((x : ℕ) → q < x → x < count s → (Γ : List ℕ) → Reached s x Γ → (r : ℕ) → first_failing s (judgements s Γ (tree_at s x)) ≡ some r
        → FirstIllTyped s r)
        → (Γ : List ℕ) → Reached s q Γ → (r : ℕ) → first_failing s (judgements s Γ (tree_at s q)) ≡ some r → FirstIllTyped s r
    step q h above Γ c r fails = let k = kind-of-sort expressions (kind_at s q) o.sort in go k.0 k.1
      where
        o : Standing s q Γ
        o = reached-standing p c

        -- the part in word j has what fails
        at : (k : ExpressionKind) → kind_at s q ≡ expression k → (j : ℕ) → (ltb 0 j && ltb j 6) ≡ true
            → ask_of_kind (expression k) j ≡ part expressions → (Δ : List ℕ) → Reached s (word s q j) Δ
            → first_failing s (judgements s Δ (tree_at s (word s q j))) ≡ some r → FirstIllTyped s r
        at k e j t a Δ d f =
            let m = part-of-kind (written p) q (expression k) expressions h e j t a in above (word s q j) m.0 m.1 Δ d r f

        -- the part in word j has a type
        typed : (x : ℕ) (Δ : List ℕ) → Reached s x Δ → first_failing s (judgements s Δ (tree_at s x)) ≡ none → WellTypedAt s Δ x
        typed x Δ d f = passes-typed p (reached-standing p d) f

        -- the record itself is what fails
        here : (k : Kind) → kind_at s q ≡ k → PartsTyped s Γ q k → q ≡ r → FirstIllTyped s r
        here k e parts z = rw (← z) (record {
          there = o.there;
          sort = o.sort;
          names = Γ;
          scope = reached-scope c;
          untyped = λ τ d. some-is-none fails (typed-passes p o (τ, d));
          parts = rw e parts;
          reached = c;
        })

        go : (k : ExpressionKind) → kind_at s q ≡ expression k → FirstIllTyped s r
        go constant e =
            here (expression constant) e tt
            (own-fails s q (leaves_fit (word_a s q) (chain s (word_b s q))) r (rw (tree-of (written p) q h (expression constant) e) at fails))
        go name e =
            here (expression name) e tt
            (own-fails s q (in_scope (word_a s q) (length Γ)) r (rw (tree-of (written p) q h (expression name) e) at fails))
        go tuple e =
            let a = in_tuple_first e c in
            let last = pair_declared (type_record_of s Γ (tree_at s (word_a s q))) (type_record_of s Γ (tree_at s (word_b s q))) in
            split s (judgements s Γ (tree_at s (word_a s q))) (judgements s Γ (tree_at s (word_b s q)) ++ judge q last) r
            (rw (tree-of (written p) q h (expression tuple) e) at fails)
            (at tuple e 2 refl (unfold ask_of_kind in refl) Γ a)
            (λ passed f. let ta = typed (word_a s q) Γ a passed in
            let b = in_tuple_second e c ta in
            split s (judgements s Γ (tree_at s (word_b s q))) (judge q last) r f (at tuple e 3 refl (unfold ask_of_kind in refl) Γ b)
            (λ passed f. here (expression tuple) e (ta, typed (word_b s q) Γ b passed) (own-fails s q last r f)))
        go first e =
            let a = in_first e c in
            let last = pair_type (type_record_of s Γ (tree_at s (word_a s q))) in
            split s (judgements s Γ (tree_at s (word_a s q))) (judge q last) r (rw (tree-of (written p) q h (expression first) e) at fails)
            (at first e 2 refl (unfold ask_of_kind in refl) Γ a)
            (λ passed f. here (expression first) e (typed (word_a s q) Γ a passed) (own-fails s q last r f))
        go second e =
            let a = in_second e c in
            let last = pair_type (type_record_of s Γ (tree_at s (word_a s q))) in
            split s (judgements s Γ (tree_at s (word_a s q))) (judge q last) r (rw (tree-of (written p) q h (expression second) e) at fails)
            (at second e 2 refl (unfold ask_of_kind in refl) Γ a)
            (λ passed f. here (expression second) e (typed (word_a s q) Γ a passed) (own-fails s q last r f))
        go let_in e =
            let a = in_let_defining e c in
            let Δ = type_record_of s Γ (tree_at s (word_a s q)) ∷ Γ in
            split s (judgements s Γ (tree_at s (word_a s q))) (judgements s Δ (tree_at s (word_b s q))) r
            (rw (tree-of (written p) q h (expression let_in) e) at fails)
            (at let_in e 2 refl (unfold ask_of_kind in refl) Γ a)
            (λ passed f. at let_in e 3 refl (unfold ask_of_kind in refl) Δ (in-let-body e c (typed (word_a s q) Γ a passed)) f)
        go feedback e =
            let Δ = word_a s q ∷ Γ in
            let a = in_feedback_defining e c in
            let last = same_type (type_record_of s Δ (tree_at s (word_b s q))) (word_a s q) in
            split s (judgements s Δ (tree_at s (word_b s q))) (judgements s Δ (tree_at s (word_c s q)) ++ judge q last) r
            (rw (tree-of (written p) q h (expression feedback) e) at fails)
            (at feedback e 3 refl (unfold ask_of_kind in refl) Δ a)
            (λ passed f. let ta = typed (word_b s q) Δ a passed in
            let b = in_feedback_body e c ta in
            split s (judgements s Δ (tree_at s (word_c s q))) (judge q last) r f (at feedback e 4 refl (unfold ask_of_kind in refl) Δ b)
            (λ passed f. here (expression feedback) e (ta, typed (word_c s q) Δ b passed) (own-fails s q last r f)))
        go if_matches e =
            let a = in_if_tested e c in
            let has = pattern_rule s Γ q in
            let last = same_type (type_record_of s Γ (tree_at s (word_b s q))) (type_record_of s Γ (tree_at s (word_c s q))) in
            let B = judgements s Γ (tree_at s (word_b s q)) in
            let C = judgements s Γ (tree_at s (word_c s q)) in
            split s (judgements s Γ (tree_at s (word_a s q))) (judge q has ++ (B ++ (C ++ judge q last))) r
            (rw (tree-of (written p) q h (expression if_matches) e) at fails)
            (at if_matches e 2 refl (unfold ask_of_kind in refl) Γ a)
            (λ passed f. let ta = typed (word_a s q) Γ a passed in
            split s (judge q has) (B ++ (C ++ judge q last)) r f
            (λ g. here (expression if_matches) e (ta, λ m. some-is-none g (judgement-holds s q has (tested-fits p o e m))) (own-fails s q has r g))
            (λ held f. let m = fits-tested p o e ta (failing-judged s q has held) in
            let b = in_if_then e c m in
            split s B (C ++ judge q last) r f (at if_matches e 3 refl (unfold ask_of_kind in refl) Γ b)
            (λ passed f. let tb = typed (word_b s q) Γ b passed in
            let d = in_if_else e c m tb in
            split s C (judge q last) r f (at if_matches e 4 refl (unfold ask_of_kind in refl) Γ d)
            (λ passed f. here (expression if_matches) e (ta, λ m. (tb, typed (word_c s q) Γ d passed)) (own-fails s q last r f)))))
        go delay e =
            let a = in_delay e c in
            let fit = leaves_fit (word_a s q) (chain s (word_b s q)) in
            let last = same_type (type_record_of s Γ (tree_at s (word_c s q))) (word_a s q) in
            split s (judgements s Γ (tree_at s (word_c s q))) (judge q fit ++ judge q last) r
            (rw (tree-of (written p) q h (expression delay) e) at fails)
            (at delay e 4 refl (unfold ask_of_kind in refl) Γ a)
            (λ passed f. let ta = typed (word_c s q) Γ a passed in
            split s (judge q fit) (judge q last) r f (λ g. here (expression delay) e ta (own-fails s q fit r g))
            (λ held f. here (expression delay) e ta (own-fails s q last r f)))
