-- Code 7 is reported at r exactly where r is the first expression without a type. What fails first in the circuit is found from the
-- root down (`FirstIllTyped`). Up to the root: where the parts judged before have types, no judgement of theirs fails, so one of the
-- record's own does, and what fails first in a part fails first in the whole.
-- Assumes nothing.
use Prim.Native.Nat.{ℕ}
use mathlib.Core.Bool.{Bool, true, false, cond}
use mathlib.Core.List.{List, ◌∷◌, ◌++◌}
use mathlib.Core.Option.{Option, none, some}
use mathlib.Core.Path.{◌≡◌, refl, ◌∙◌}
use mathlib.Core.Logic.{◌⊎◌, inl, inr}
use lib.ListN.{length}
use Rattle.records.specs.Words.{word_a, word_b, word_c}
use Rattle.records.specs.Kinds.{
  expression,
  ExpressionKind,
  constant,
  name,
  tuple,
  first,
  second,
  let_in,
  feedback,
  if_matches,
  delay,
  expressions,
}
use Rattle.records.specs.Says.{kind_at}
use Rattle.records.specs.Trees.{chain, tree_at, circuit, type_record_of}
use Rattle.records.proofs.Table.{ask_of_kind, kind-of-sort}
use Rattle.records.proofs.Asked.{root_is}
use Rattle.records.proofs.Trees.{tree-of}
use Rattle.structure.specs.Rules.{Passes}
use Rattle.structure.proofs.Passes.{written}
use Rattle.typing.specs.Judgements.{Judgement, Rule, leaves_fit, in_scope, pair_declared, pair_type, same_type, holds, judge, judgements, first_failing}
use Rattle.typing.proofs.Failing.{first-of-both, judgement-holds}
use Rattle.typing.proofs.Outcomes.{fault-first}
use Rattle.verdict.specs.Verdict.{by_types, verdict}
use Rattle.verdict.specs.Scopes.{inputs}
use Rattle.verdict.specs.Promises.{IllTypedExactly}
use Rattle.verdict.specs.Scopes.{
  IllTypedAt,
  PartsTyped,
  FirstIllTyped,
  Reached,
  at-root,
  in_tuple_first,
  in_tuple_second,
  in_first,
  in_second,
  in_let_defining,
  in-let-body,
  in_feedback_defining,
  in_feedback_body,
  in_if_tested,
  in_if_then,
  in_if_else,
  in_delay,
}
use Rattle.answers.specs.Answers.{IllTyped}
use Rattle.verdict.proofs.Places.{places-right, passes-by-types}
use Rattle.verdict.proofs.SaysExactly.{failing-first}
use Rattle.verdict.proofs.Reached.{
  Standing,
  part-standing,
  feedback-context,
  reached-standing,
  typed-passes,
  passes-typed,
}
use Rattle.verdict.proofs.PatternTested.{pattern_rule, tested-fits, fits-tested}
use Rattle.verdict.proofs.FirstIllTyped.{find_first}

-- a search of judgements finds none, or record q
abbrev Own : ℕ → Option ℕ → Type 0
Own q o = (o ≡ none) ⊎ (o ≡ some q)

module _ (s : List ℕ) {q : ℕ} where
  own-one : (rule : Rule) → Own q (first_failing s (judge q rule))
  own-one rule = go (holds s rule)
    where
      go : (b : Bool) → Own q (cond b none (some q))
      go true = inl refl
      go false = inr refl

  own-then : (js ks : List Judgement) → first_failing s js ≡ none → Own q (first_failing s ks) → Own q (first_failing s (js ++ ks))
  own-then js ks e o = rw (first-of-both s js ks, e) o

  own_first : (js ks : List Judgement) → first_failing s js ≡ some q → Own q (first_failing s (js ++ ks))
  own_first js ks e = inr (fault-first s js ks q e)

  -- a judgement that decides, and what follows where it holds
  own-deciding : (rule : Rule) (ks : List Judgement) → (holds s rule ≡ true → Own q (first_failing s ks))
      → Own q (first_failing s (judge q rule ++ ks))
  own-deciding rule ks rest = go (holds s rule) refl
    where
      go : (b : Bool) → holds s rule ≡ b → Own q (first_failing s (judge q rule ++ ks))
      go true e = own-then (judge q rule) ks (judgement-holds s q rule e) (rest e)
      go false e = own_first (judge q rule) ks (rw e)

module _ {s : List ℕ} (p : Passes s) where
  -- at the record: its parts have types, so at most its own judgements fail
  own-judgements : {q : ℕ} {Γ : List ℕ} → Standing s q Γ → (k : ExpressionKind) → kind_at s q ≡ expression k
      → PartsTyped s Γ q (expression k) → Own q (first_failing s (judgements s Γ (tree_at s q)))
  own-judgements {q} {Γ} o constant e t =
      rw (tree-of (written p) q o.there (expression constant) e) (own-one s (leaves_fit (word_a s q) (chain s (word_b s q))))
  own-judgements {q} {Γ} o name e t =
      rw (tree-of (written p) q o.there (expression name) e) (own-one s (in_scope (word_a s q) (length Γ)))
  own-judgements {q} {Γ} o tuple e (ta, tb) =
      let A = tree_at s (word_a s q) in
      let B = tree_at s (word_b s q) in
      let last = pair_declared (type_record_of s Γ A) (type_record_of s Γ B) in
      rw (tree-of (written p) q o.there (expression tuple) e)
      (own-then s (judgements s Γ A) (judgements s Γ B ++ judge q last)
      (typed-passes p (part-standing p o tuple e 2 refl (unfold ask_of_kind in refl) o.context) ta)
      (own-then s (judgements s Γ B) (judge q last)
      (typed-passes p (part-standing p o tuple e 3 refl (unfold ask_of_kind in refl) o.context) tb) (own-one s last)))
  own-judgements {q} {Γ} o first e t =
      let last = pair_type (type_record_of s Γ (tree_at s (word_a s q))) in
      rw (tree-of (written p) q o.there (expression first) e)
      (own-then s (judgements s Γ (tree_at s (word_a s q))) (judge q last)
      (typed-passes p (part-standing p o first e 2 refl (unfold ask_of_kind in refl) o.context) t) (own-one s last))
  own-judgements {q} {Γ} o second e t =
      let last = pair_type (type_record_of s Γ (tree_at s (word_a s q))) in
      rw (tree-of (written p) q o.there (expression second) e)
      (own-then s (judgements s Γ (tree_at s (word_a s q))) (judge q last)
      (typed-passes p (part-standing p o second e 2 refl (unfold ask_of_kind in refl) o.context) t) (own-one s last))
  own-judgements {q} {Γ} o let_in e t = absurd t
  own-judgements {q} {Γ} o feedback e (ta, tb) =
      let Δ = word_a s q ∷ Γ in
      let c = feedback-context p o e in
      let A = tree_at s (word_b s q) in
      let B = tree_at s (word_c s q) in
      let last = same_type (type_record_of s Δ A) (word_a s q) in
      rw (tree-of (written p) q o.there (expression feedback) e)
      (own-then s (judgements s Δ A) (judgements s Δ B ++ judge q last)
      (typed-passes p (part-standing p o feedback e 3 refl (unfold ask_of_kind in refl) c) ta)
      (own-then s (judgements s Δ B) (judge q last)
      (typed-passes p (part-standing p o feedback e 4 refl (unfold ask_of_kind in refl) c) tb) (own-one s last)))
  own-judgements {q} {Γ} o if_matches e (ta, rest) =
      let A = tree_at s (word_a s q) in
      let B = tree_at s (word_b s q) in
      let C = tree_at s (word_c s q) in
      let has = pattern_rule s Γ q in
      let last = same_type (type_record_of s Γ B) (type_record_of s Γ C) in
      rw (tree-of (written p) q o.there (expression if_matches) e)
      (own-then s (judgements s Γ A) (judge q has ++ (judgements s Γ B ++ (judgements s Γ C ++ judge q last)))
      (typed-passes p (part-standing p o if_matches e 2 refl (unfold ask_of_kind in refl) o.context) ta)
      (own-deciding s has (judgements s Γ B ++ (judgements s Γ C ++ judge q last))
      (λ held. let t = rest (fits-tested p o e ta held) in
      own-then s (judgements s Γ B) (judgements s Γ C ++ judge q last)
      (typed-passes p (part-standing p o if_matches e 3 refl (unfold ask_of_kind in refl) o.context) t.0)
      (own-then s (judgements s Γ C) (judge q last)
      (typed-passes p (part-standing p o if_matches e 4 refl (unfold ask_of_kind in refl) o.context) t.1) (own-one s last)))))
  own-judgements {q} {Γ} o delay e t =
      let A = tree_at s (word_c s q) in
      let fit = leaves_fit (word_a s q) (chain s (word_b s q)) in
      let last = same_type (type_record_of s Γ A) (word_a s q) in
      rw (tree-of (written p) q o.there (expression delay) e)
      (own-then s (judgements s Γ A) (judge q fit ++ judge q last)
      (typed-passes p (part-standing p o delay e 4 refl (unfold ask_of_kind in refl) o.context) t)
      (own-deciding s fit (judge q last) (λ held. own-one s last)))

  -- so one of them does where the record has no type
  own-fails : {q : ℕ} {Γ : List ℕ} → Standing s q Γ → PartsTyped s Γ q (kind_at s q) → IllTypedAt s Γ q
      → first_failing s (judgements s Γ (tree_at s q)) ≡ some q
  own-fails {q} {Γ} o parts untyped =
      let k = kind-of-sort expressions (kind_at s q) o.sort in go (own-judgements o k.0 k.1 (rw k.1 at parts))
    where
      go : Own q (first_failing s (judgements s Γ (tree_at s q))) → first_failing s (judgements s Γ (tree_at s q)) ≡ some q
      go (inl e) = let t = passes-typed p o e in absurd (untyped t.0 t.1)
      go (inr e) = e

  -- what fails first where judging comes to fails first in the circuit
  fails-above : {q : ℕ} {Γ : List ℕ} → Reached s q Γ → (r : ℕ) → first_failing s (judgements s Γ (tree_at s q)) ≡ some r
      → first_failing s (judgements s (inputs s) (circuit s)) ≡ some r
  unfolding circuit
  fails-above at-root r f = f
  fails-above (in_tuple_first {q = q} e c) r f =
      let o = reached-standing p c in fails-above c r (rw (tree-of (written p) q o.there (expression tuple) e, first-of-both, f))
  fails-above (in_tuple_second {q = q} {Γ = Γ} e c t) r f =
      let o = reached-standing p c in
      fails-above c r
      (rw (
        tree-of (written p) q o.there (expression tuple) e,
        first-of-both,
        typed-passes p (part-standing p o tuple e 2 refl (unfold ask_of_kind in refl) o.context) t,
        first-of-both,
        f,
      ))
  fails-above (in_first {q = q} e c) r f =
      let o = reached-standing p c in fails-above c r (rw (tree-of (written p) q o.there (expression first) e, first-of-both, f))
  fails-above (in_second {q = q} e c) r f =
      let o = reached-standing p c in fails-above c r (rw (tree-of (written p) q o.there (expression second) e, first-of-both, f))
  fails-above (in_let_defining {q = q} e c) r f =
      let o = reached-standing p c in fails-above c r (rw (tree-of (written p) q o.there (expression let_in) e, first-of-both, f))
  fails-above (in-let-body {q = q} {Γ = Γ} e c t) r f =
      let o = reached-standing p c in
      fails-above c r
      (rw (
        tree-of (written p) q o.there (expression let_in) e,
        first-of-both,
        typed-passes p (part-standing p o let_in e 2 refl (unfold ask_of_kind in refl) o.context) t,
        f,
      ))
  fails-above (in_feedback_defining {q = q} e c) r f =
      let o = reached-standing p c in fails-above c r (rw (tree-of (written p) q o.there (expression feedback) e, first-of-both, f))
  fails-above (in_feedback_body {q = q} {Γ = Γ} e c t) r f =
      let o = reached-standing p c in
      fails-above c r
      (rw (
        tree-of (written p) q o.there (expression feedback) e,
        first-of-both,
        typed-passes p (part-standing p o feedback e 3 refl (unfold ask_of_kind in refl) (feedback-context p o e)) t,
        first-of-both,
        f,
      ))
  fails-above (in_if_tested {q = q} e c) r f =
      let o = reached-standing p c in fails-above c r (rw (tree-of (written p) q o.there (expression if_matches) e, first-of-both, f))
  fails-above (in_if_then {q = q} {Γ = Γ} e c m) r f =
      let o = reached-standing p c in
      fails-above c r
      (simp (
        tree-of (written p) q o.there (expression if_matches) e,
        first-of-both,
        typed-passes p (part-standing p o if_matches e 2 refl (unfold ask_of_kind in refl) o.context) (m.0, m.1),
        tested-fits p o e m,
        first-of-both,
        f,
      ))
  fails-above (in_if_else {q = q} {Γ = Γ} e c m t) r f =
      let o = reached-standing p c in
      fails-above c r
      (simp (
        tree-of (written p) q o.there (expression if_matches) e,
        first-of-both,
        typed-passes p (part-standing p o if_matches e 2 refl (unfold ask_of_kind in refl) o.context) (m.0, m.1),
        tested-fits p o e m,
        first-of-both,
        typed-passes p (part-standing p o if_matches e 3 refl (unfold ask_of_kind in refl) o.context) t,
        first-of-both,
        f,
      ))
  fails-above (in_delay {q = q} e c) r f =
      let o = reached-standing p c in fails-above c r (rw (tree-of (written p) q o.there (expression delay) e, first-of-both, f))

pub ill_typed_exactly : IllTypedExactly
unfolding circuit by_types
ill_typed_exactly s r = (there, λ f. back f.0 f.1)
  where
    there : verdict s ≡ IllTyped r → Passes s × FirstIllTyped s r
    there e =
        let says = rw e at (places-right s) in
        let p = says.0 in
        (p, find_first p (word_b s 0) (root_is (written p)).1 (inputs s) at-root r (failing-first s (judgements s (inputs s) (circuit s)) r says.1))

    back : Passes s → FirstIllTyped s r → verdict s ≡ IllTyped r
    back p f =
        passes-by-types p
        ∙ rw (fails-above p f.reached r (own-fails p (reached-standing p f.reached) f.parts f.untyped))
