-- The term of a filled sheet is the term of the sheet, filled. By induction on the tree.
-- Assumes nothing.
use Prim.Native.Nat.{ℕ, zero, suc, ◌≤◌, ◌<◌}
use mathlib.Core.Bool.{Bool, true, false}
use mathlib.Core.List.Memᴰ
use mathlib.Core.List.{List, [], ◌∷◌, ◌++◌, map, Memᴰ}
use mathlib.Core.Path.{◌≡◌, refl, sym, ap, ap₂, ◌∙◌}
use native.Mathlib.Omega.{arith}
use lib.ListN.{length, get_or}
use borrow.Author.Tests.{ltb-true, eqb-true}
use Rattle.picoella.specs.Language.{TyTuple, bounds, Within, within_none, within_leaf, Whole, Constructor, Parts, Named, here, there}
use Rattle.records.specs.Words.{word, word_a, word_b}
use Rattle.records.specs.Kinds.{TypeKind, flat, pair, types, leafs, sort_of}
use Rattle.records.specs.Kinds as Kinds
use Rattle.records.specs.Says.{kind_at, sort_at}
use Rattle.records.specs.Trees.{
  type_at,
  pair_of,
  TypeRecord,
  Declared,
  Alternatives,
  end,
  no_pattern,
  whole_type,
  one_constructor,
  pair_of_patterns,
  Tree,
  no_expression,
  constant_of,
  name_of,
  tuple_of,
  first_of,
  second_of,
  let_of,
  feedback_of,
  if_of,
  delay_of,
  held,
  circuit,
  type_record_of,
}
use Rattle.records.specs.Decoding.{leaf_values, or_else, pattern_of}
use Rattle.records.specs.Rewritten.{Rewritten}
use Rattle.records.specs.Written.{Written}
use Rattle.records.proofs.Table.{ask_of_kind, kind-of-sort, is-pair}
use Rattle.records.proofs.Asked.{as-kind-asks}
use Rattle.records.proofs.Types.{pair_parts, flat-type, pair-type}
use Rattle.records.proofs.TypeRecords.{first_part, second-part, found-pair}
use Rattle.records.proofs.Pairs.{pair-of-found}
use Rattle.records.proofs.Rewritten.{same-type, same-pair-of, same-circuit}
use Rattle.records.proofs.Grown.{Alternative, Grown, grown-circuit}
use Rattle.typing.specs.Judging.{Context}
use Rattle.verdict.specs.Verdict.{verdict}
use Rattle.verdict.specs.Scopes.{inputs}
use Rattle.answers.specs.Answers.{Accepted}
use Rattle.accepted.proofs.Laws.{RulesHold, type-of-record, fits-typed, within-fits, written, accepted-by-types, input-context, accepted-judged}
use Rattle.accepted.proofs.AcceptedAgain.{ValuesFit}
use Rattle.accepted.proofs.LeafBounds.{bounds-positive}
use Rattle.meaning.specs.Values.{LeafBelow, Both, both_none, both_leaf}
use Rattle.behaviour.specs.Terms.{term, circuit_term}
use Rattle.behaviour.proofs.Terms.{name-elaborated}
use Rattle.behaviour.proofs.TermsAgain.{type-of-same, pattern-same, first-same}
use Rattle.possibilities.specs.Filling.{
  Positive,
  positive_none,
  positive_leaf,
  Full,
  full_none,
  full_leaf,
  TermFilled,
  f_constant,
  f_name,
  f_pair,
  f_first,
  f_second,
  f_let,
  f_feedback,
  f_if,
  f_delay,
  FullTerm,
}

-- each flat type has a constructor
positive-each : (ns : List ℕ) → ((n : ℕ) → Memᴰ n ns → 0 < n) → Positive ns
positive-each [] f = positive_none
positive-each (n ∷ ns) f = positive_leaf (f n (Memᴰ.head refl)) (positive-each ns (λ m k. f m (Memᴰ.tail k)))

pub positive-bounds : {s : List ℕ} → Written s → (t : ℕ) → TypeRecord s t → Positive (bounds (type_at s t))
positive-bounds {s} w t u = positive-each (bounds (type_at s t)) (bounds-positive w t u)

-- the leaves of a chain in both sheets
leaves-both : {b : List ℕ} (s s' ls : List ℕ) → Within b (leaf_values s ls) → Within b (leaf_values s' ls)
    → ((l : ℕ) → Memᴰ l ls → LeafBelow (word_a s l) (word_a s' l)) → Both b (leaf_values s ls) (leaf_values s' ls)
leaves-both s s' [] within_none within_none f = both_none
leaves-both s s' (l ∷ ls) (within_leaf h r) (within_leaf k q) f =
    both_leaf h k (f l (Memᴰ.head refl)) (leaves-both s s' ls r q (λ x m. f x (Memᴰ.tail m)))

pub leaves-full : {b : List ℕ} (s ls : List ℕ) → Within b (leaf_values s ls) → ((l : ℕ) → Memᴰ l ls → 1 ≤ word_a s l)
    → Full b (leaf_values s ls)
leaves-full s [] within_none f = full_none
leaves-full s (l ∷ ls) (within_leaf h r) f =
    full_leaf (f l (Memᴰ.head refl)) h (leaves-full s ls r (λ x m. f x (Memᴰ.tail m)))

module _ {s s' : List ℕ} (o : Rewritten s s') (w : Written s) where
  abbrev Below : Tree → Type 0
  Below e = (l : ℕ) → Memᴰ l (held false true true e) → LeafBelow (word_a s l) (word_a s' l)

  pub term-filled : (Γ : List ℕ) (e : Tree) → Grown s e → Context s Γ → RulesHold s Γ e → ValuesFit s' e → Below e
      → TermFilled (Declared s) (map (type_at s) Γ) (term s Γ e) (term s' Γ e) (type_at s (type_record_of s Γ e))
  term-filled Γ no_expression g c j v b = absurd g
  term-filled Γ (constant_of r t ls) g c j v b =
      rw (same-type o t)
      (f_constant (positive-bounds w t g)
      (leaves-both s s' ls (within-fits (bounds (type_at s t)) (leaf_values s ls) j) (rw (same-type o t) at v) b))
  term-filled Γ (name_of r k) g c j v b = f_name (name-elaborated s Γ k (ltb-true k (length Γ) j))
  term-filled Γ (tuple_of r a e) g c j v b =
      let h = ltb-true 0 (pair_of s (type_record_of s Γ a) (type_record_of s Γ e)) j.2 in
      let f = pair-of-found s (type_record_of s Γ a) (type_record_of s Γ e) (pair_of s (type_record_of s Γ a) (type_record_of s Γ e)) refl h in
      let q : type_at s (pair_of s (type_record_of s Γ a) (type_record_of s Γ e)) ≡ TyTuple (type_at s (type_record_of s Γ a)) (type_at s (type_record_of s Γ e)) =
      pair-type w (pair_of s (type_record_of s Γ a) (type_record_of s Γ e)) f.0 f.1 ∙ rw (f.2, f.3) in
      rw q
      (f_pair (term-filled Γ a g.0 c j.0 v.0 (λ x m. b x (Memᴰ.append_left _ m)))
      (term-filled Γ e g.1 c j.1 v.1 (λ x m. b x (Memᴰ.append_right (held false true true a) m)))
      (pair_of s (type_record_of s Γ a) (type_record_of s Γ e), found-pair w (type_record_of s Γ a) (type_record_of s Γ e) h, q))
  term-filled Γ (first_of r a) g c j v b =
      let t = type-of-record w Γ a g c j.0 in
      rw (first-same o w Γ a g c j.0)
      (f_first (rw (pair-type w (type_record_of s Γ a) t.there (is-pair (kind_at s (type_record_of s Γ a)) j.1)) at (term-filled Γ a g c j.0 v b)))
  term-filled Γ (second_of r a) g c j v b =
      let t = type-of-record w Γ a g c j.0 in
      rw (first-same o w Γ a g c j.0)
      (f_second (rw (pair-type w (type_record_of s Γ a) t.there (is-pair (kind_at s (type_record_of s Γ a)) j.1)) at (term-filled Γ a g c j.0 v b)))
  term-filled Γ (let_of r a e) g c j v b =
      rw (type-of-same o w Γ a g.0 c j.0)
      (f_let (term-filled Γ a g.0 c j.0 v.0 (λ x m. b x (Memᴰ.append_left _ m)))
      (term-filled (type_record_of s Γ a ∷ Γ) e g.1 (type-of-record w Γ a g.0 c j.0, c) j.1 v.1
      (λ x m. b x (Memᴰ.append_right (held false true true a) m))))
  term-filled Γ (feedback_of r t a e) g c j v b =
      rw (same-type o t)
      (f_feedback (positive-bounds w t g.0)
      (rw (eqb-true (type_record_of s (t ∷ Γ) a) t j.2) at
      (term-filled (t ∷ Γ) a g.1 (g.0, c) j.0 v.0 (λ x m. b x (Memᴰ.append_left _ m))))
      (term-filled (t ∷ Γ) e g.2 (g.0, c) j.1 v.1 (λ x m. b x (Memᴰ.append_right (held false true true a) m))))
  term-filled Γ (if_of r a p e d) g c j v b =
      let ha = held false true true a in
      rw (pattern-same o w ⊥ p g.1)
      (f_if (term-filled Γ a g.0 c j.0 v.0 (λ x m. b x (Memᴰ.append_left (held false true true e ++ held false true true d) m)))
      (fits-typed w p (type_record_of s Γ a) (type-of-record w Γ a g.0 c j.0) g.1 j.1)
      (term-filled Γ e g.2 c j.2 v.1 (λ x m. b x (Memᴰ.append_right ha (Memᴰ.append_left (held false true true d) m))))
      (rw (← eqb-true (type_record_of s Γ e) (type_record_of s Γ d) j.4) at
      (term-filled Γ d g.3 c j.3 v.2 (λ x m. b x (Memᴰ.append_right ha (Memᴰ.append_right (held false true true e) m))))))
  term-filled Γ (delay_of r t ls a) g c j v b =
      rw (same-type o t)
      (f_delay (positive-bounds w t g.0)
      (leaves-both s s' ls (within-fits (bounds (type_at s t)) (leaf_values s ls) j.1) (rw (same-type o t) at v.0)
      (λ x m. b x (Memᴰ.append_left _ m)))
      (rw (eqb-true (type_record_of s Γ a) t j.2) at (term-filled Γ a g.1 c j.0 v.1 (λ x m. b x (Memᴰ.append_right ls m)))))
