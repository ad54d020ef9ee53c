-- An accepted sheet is accepted again, with the same type, where only leaves and labels are rewritten and the leaves of each constant and
-- each delay still fit its type: the tree and its types are the same, so each other rule holds as it did. By induction on the
-- tree.
-- Assumes nothing.
use Prim.Native.Nat.{ℕ, ◌≤◌, ◌<◌}
use mathlib.Core.Bool.{true}
use mathlib.Core.List.{List, [], ◌∷◌}
use mathlib.Core.Path.{◌≡◌, refl, ap, ap₂, ◌∙◌}
use mathlib.Core.Logic.{◌⊎◌, inl, inr}
use native.Mathlib.Omega.{arith}
use Rattle.picoella.specs.Language.{OfType, bounds}
use Rattle.records.specs.Words.{word, count, word_a, word_b}
use Rattle.records.specs.Kinds.{leaf, is_pair}
use Rattle.records.specs.Says.{kind_at}
use Rattle.records.specs.Trees.{
  type_at,
  pair_of,
  Alternatives,
  end,
  no_pattern,
  whole_type,
  one_constructor,
  pair_of_patterns,
  Tree,
  no_expression,
  constant_of,
  name_of,
  tuple_of,
  first_of,
  second_of,
  let_of,
  feedback_of,
  if_of,
  delay_of,
  circuit,
  type_record_of,
}
use Rattle.records.specs.Decoding.{leaf_values}
use Rattle.records.specs.Rewritten.{Rewritten}
use Rattle.records.proofs.Table.{is-pair}
use Rattle.records.proofs.Rewritten.{SameWords, same_kind, same-pair-of, same-circuit, leaf-or-same}
use Rattle.typing.specs.Judgements.{pattern_fits}
use Rattle.structure.specs.Rules.{Passes}
use Rattle.verdict.specs.Verdict.{verdict}
use Rattle.verdict.specs.Scopes.{inputs}
use Rattle.answers.specs.Answers.{Accepted}
use Rattle.structure.proofs.Passes.{written}
use Rattle.verdict.proofs.Places.{accepted-by-types}
use Rattle.typing.proofs.Judged.{RulesHold, judged-passed}
use Rattle.typing.proofs.Typings.{within-fits, fits-within}
use Rattle.verdict.proofs.Exact.{types-accept, accepted-judged}
use Rattle.accepted.proofs.PassesAgain.{passes-again}

-- the leaves of each constant and each delay fit its type
abbrev pub ValuesFit : List ℕ → Tree → Type 0
ValuesFit s no_expression = Unit {0}
ValuesFit s (constant_of r t ls) = OfType (type_at s t) (leaf_values s ls)
ValuesFit s (name_of r k) = Unit {0}
ValuesFit s (tuple_of r a b) = ValuesFit s a × ValuesFit s b
ValuesFit s (first_of r a) = ValuesFit s a
ValuesFit s (second_of r a) = ValuesFit s a
ValuesFit s (let_of r a b) = ValuesFit s a × ValuesFit s b
ValuesFit s (feedback_of r t a b) = ValuesFit s a × ValuesFit s b
ValuesFit s (if_of r a p b c) = ValuesFit s a × ValuesFit s b × ValuesFit s c
ValuesFit s (delay_of r t ls a) = OfType (type_at s t) (leaf_values s ls) × ValuesFit s a

-- so they do where the rules hold
pub judged-fitting : (s Γ : List ℕ) (e : Tree) → RulesHold s Γ e → ValuesFit s e
judged-fitting s Γ no_expression j = tt
judged-fitting s Γ (constant_of r t ls) j = within-fits (bounds (type_at s t)) (leaf_values s ls) j
judged-fitting s Γ (name_of r k) j = tt
judged-fitting s Γ (tuple_of r a b) j = (judged-fitting s Γ a j.0, judged-fitting s Γ b j.1)
judged-fitting s Γ (first_of r a) j = judged-fitting s Γ a j.0
judged-fitting s Γ (second_of r a) j = judged-fitting s Γ a j.0
judged-fitting s Γ (let_of r a b) j = (judged-fitting s Γ a j.0, judged-fitting s (type_record_of s Γ a ∷ Γ) b j.1)
judged-fitting s Γ (feedback_of r t a b) j = (judged-fitting s (t ∷ Γ) a j.0, judged-fitting s (t ∷ Γ) b j.1)
judged-fitting s Γ (if_of r a p b c) j = (judged-fitting s Γ a j.0, judged-fitting s Γ b j.2, judged-fitting s Γ c j.3)
judged-fitting s Γ (delay_of r t ls a) j = (within-fits (bounds (type_at s t)) (leaf_values s ls) j.1, judged-fitting s Γ a j.0)

module _ {s s' : List ℕ} (o : Rewritten s s') where
  pub pattern-again : (m : Alternatives) (t : ℕ) → pattern_fits s' m t ≡ pattern_fits s m t
  pattern-again end t = refl
  pattern-again no_pattern t = refl
  pattern-again (whole_type r u m) t = rw (pattern-again m t)
  pattern-again (one_constructor r u k m) t = rw (pattern-again m t)
  pattern-again (pair_of_patterns r a b m) t = go (leaf-or-same o t) (pattern-again a) (pattern-again b) (pattern-again m t)
    where
      go : (kind_at s t ≡ leaf) ⊎ SameWords s s' t → ((u : ℕ) → pattern_fits s' a u ≡ pattern_fits s a u)
          → ((u : ℕ) → pattern_fits s' b u ≡ pattern_fits s b u) → pattern_fits s' m t ≡ pattern_fits s m t
          → pattern_fits s' (pair_of_patterns r a b m) t ≡ pattern_fits s (pair_of_patterns r a b m) t
      go (inl e) fa fb fm = rw (same_kind o t, e)
      go (inr e) fa fb fm =
          rw (e 0 (omega arith), e 2 (omega arith), e 3 (omega arith), fa (word_a s t), fb (word_b s t), fm)

  -- the words of a pair type's record
  pair-words : (t : ℕ) → is_pair (kind_at s t) ≡ true → (k : ℕ) → k < 5 → word s' t k ≡ word s t k
  pair-words t e k h = o.others t (λ f. let g = is-pair (kind_at s t) e in let z : ◌≡◌ {A = ℕ} 0 1 = cc in omega arith) k h

  judged-again : (Γ : List ℕ) (e : Tree) → RulesHold s Γ e → ValuesFit s' e → RulesHold s' Γ e × (type_record_of s' Γ e ≡ type_record_of s Γ e)
  judged-again Γ no_expression j f = (j, refl)
  judged-again Γ (constant_of r t ls) j f = (fits-within (bounds (type_at s' t)) (leaf_values s' ls) f, refl)
  judged-again Γ (name_of r k) j f = (j, refl)
  judged-again Γ (tuple_of r a b) j f =
      let ja = judged-again Γ a j.0 f.0 in
      let jb = judged-again Γ b j.1 f.1 in
      let e : pair_of s' (type_record_of s' Γ a) (type_record_of s' Γ b) ≡ pair_of s (type_record_of s Γ a) (type_record_of s Γ b) =
      ap₂ (pair_of s') ja.1 jb.1 ∙ same-pair-of o (type_record_of s Γ a) (type_record_of s Γ b) in
      ((ja.0, jb.0, rw e j.2), e)
  judged-again Γ (first_of r a) j f =
      let ja = judged-again Γ a j.0 f in
      ((ja.0, rw (ja.1, same_kind o (type_record_of s Γ a)) j.1), rw ja.1 (pair-words (type_record_of s Γ a) j.1 2 (omega arith)))
  judged-again Γ (second_of r a) j f =
      let ja = judged-again Γ a j.0 f in
      ((ja.0, rw (ja.1, same_kind o (type_record_of s Γ a)) j.1), rw ja.1 (pair-words (type_record_of s Γ a) j.1 3 (omega arith)))
  judged-again Γ (let_of r a b) j f =
      let ja = judged-again Γ a j.0 f.0 in
      let jb = judged-again (type_record_of s Γ a ∷ Γ) b j.1 f.1 in
      ((ja.0, rw ja.1 jb.0), rw ja.1 jb.1)
  judged-again Γ (feedback_of r t a b) j f =
      let ja = judged-again (t ∷ Γ) a j.0 f.0 in
      let jb = judged-again (t ∷ Γ) b j.1 f.1 in
      ((ja.0, jb.0, rw ja.1 j.2), jb.1)
  judged-again Γ (if_of r a p b c) j f =
      let ja = judged-again Γ a j.0 f.0 in
      let jb = judged-again Γ b j.2 f.1 in
      let jc = judged-again Γ c j.3 f.2 in
      ((ja.0, rw (ja.1, pattern-again p (type_record_of s Γ a)) j.1, jb.0, jc.0, rw (jb.1, jc.1) j.4), jb.1)
  judged-again Γ (delay_of r t ls a) j f =
      let ja = judged-again Γ a j.0 f.1 in
      ((ja.0, fits-within (bounds (type_at s' t)) (leaf_values s' ls) f.0, rw ja.1 j.2), refl)

  -- the sheet is accepted again, with the same type
  pub accepted-again : (t : ℕ) → verdict s ≡ Accepted t → ((r : ℕ) → r < count s → kind_at s r ≡ leaf → word_a s' r ≤ 255)
      → ValuesFit s' (circuit s) → verdict s' ≡ Accepted t
  accepted-again t v small f =
      let p = ((accepted-by-types s t).0 v).0 in
      let j = accepted-judged t p v in
      let again = judged-again (inputs s) (circuit s) j.0 f in
      let input : inputs s' ≡ inputs s = ap (λ u. u ∷ []) (input-same p) in
      let passed : RulesHold s' (inputs s') (circuit s') = rw (same-circuit o, input) again.0 in
      (accepted-by-types s' t).1 (
        passes-again o p small,
        (types-accept s' t).1
            (judged-passed s' (inputs s') (circuit s') passed, rw (same-circuit o, input) (again.1 ∙ j.1)),
      )
    where
      input-same : Passes s → word_a s' 0 ≡ word_a s 0
      input-same p = o.others 0 (λ e. let h = (written p).headed in let z : ◌≡◌ {A = ℕ} 0 1 = cc in omega arith) 2 (omega arith)
