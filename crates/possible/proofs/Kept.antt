-- The theorems on bytes, from those on terms.
-- Assumes nothing.
use Prim.Native.Nat.{ℕ, ◌≤◌}
use mathlib.Core.Bool.{true, false}
use mathlib.Core.List.Memᴰ
use mathlib.Core.List.{List, [], ◌∷◌, ◌++◌, map, Memᴰ}
use mathlib.Core.Logic.{inr}
use mathlib.Core.Option.{none}
use mathlib.Core.Path.{◌≡◌, refl, sym, ap, ◌∙◌}
use native.Mathlib.Omega.{arith}
use Rattle.picoella.specs.Language.{OfType, bounds}
use Rattle.records.specs.Words.{count, word_a}
use Rattle.records.specs.Trees.{type_at, Declared, TypeRecord, Tree, no_expression, constant_of, name_of, tuple_of, first_of, second_of, let_of, feedback_of, if_of, delay_of, held, circuit, type_record_of}
use Rattle.records.specs.Decoding.{leaf_values}
use Rattle.records.specs.Rewritten.{Rewritten}
use Rattle.records.specs.Written.{Written}
use Rattle.records.proofs.Rewritten.{same-type, same-circuit}
use Rattle.records.proofs.Grown.{grown-circuit}
use Rattle.answers.specs.Answers.{lowest}
use Rattle.verdict.specs.Verdict.{verdict}
use Rattle.verdict.specs.Scopes.{inputs}
use Rattle.answers.specs.Answers.{Accepted}
use Rattle.accepted.proofs.Laws.{written, accepted-by-types, input-context, accepted-judged}
use Rattle.accepted.proofs.AcceptedAgain.{ValuesFit, judged-fitting}
use Rattle.stimulus.specs.Stimulus.{input_type}
use Rattle.meaning.specs.Values.{LeafBelow, Both}
use Rattle.meaning.specs.RuleLaws.{Lawful}
use Rattle.behaviour.specs.Terms.{term, circuit_term}
use Rattle.behaviour.specs.Cycle.{output_by}
use Rattle.possibilities.specs.Filling.{Full, TermFilled, FullTerm, inside_no_names, inside_more_names, narrowed_no_names, narrowed_more_names, full_no_names, full_more_names, Positive}
use Rattle.possibilities.proofs.SetsShrink.{value-inside, sets-shrink}
use Rattle.possibilities.proofs.SetsNarrow.{value-narrowed, sets-narrow, eval-full}
use Rattle.possibilities.proofs.Kept.{fillings-lie-in}
use Rattle.possible.specs.Possible.{possible_sets, past_sets}
use Rattle.possible.specs.Fillings.{held_leaves, SheetFilled, FullSheet, CallFilled, OutputsLieIn, SetsShrink, DefinedAlone}
use Rattle.possible.proofs.FilledTerms.{positive-bounds, leaves-full, term-filled}
use Rattle.possible.proofs.WithoutFeedback.{circuit-free}

-- no leaf of the term is undefined
term-full : (s Γ : List ℕ) (e : Tree) → ValuesFit s e → ((l : ℕ) → Memᴰ l (held false true true e) → 1 ≤ word_a s l) → FullTerm (term s Γ e)
term-full s Γ no_expression v f = tt
term-full s Γ (constant_of r t ls) v f = leaves-full s ls v f
term-full s Γ (name_of r k) v f = tt
term-full s Γ (tuple_of r a b) v f = (
  term-full s Γ a v.0 (λ x m. f x (Memᴰ.append_left _ m)),
  term-full s Γ b v.1 (λ x m. f x (Memᴰ.append_right (held false true true a) m)),
)
term-full s Γ (first_of r a) v f = term-full s Γ a v f
term-full s Γ (second_of r a) v f = term-full s Γ a v f
term-full s Γ (let_of r a b) v f = (
  term-full s Γ a v.0 (λ x m. f x (Memᴰ.append_left _ m)),
  term-full s (type_record_of s Γ a ∷ Γ) b v.1 (λ x m. f x (Memᴰ.append_right (held false true true a) m)),
)
term-full s Γ (feedback_of r t a b) v f = (
  term-full s (t ∷ Γ) a v.0 (λ x m. f x (Memᴰ.append_left _ m)),
  term-full s (t ∷ Γ) b v.1 (λ x m. f x (Memᴰ.append_right (held false true true a) m)),
)
term-full s Γ (if_of r a p b c) v f =
    let ha = held false true true a in (
      term-full s Γ a v.0 (λ x m. f x (Memᴰ.append_left (held false true true b ++ held false true true c) m)),
      term-full s Γ b v.1 (λ x m. f x (Memᴰ.append_right ha (Memᴰ.append_left (held false true true c) m))),
      term-full s Γ c v.2 (λ x m. f x (Memᴰ.append_right ha (Memᴰ.append_right (held false true true b) m))),
    )
term-full s Γ (delay_of r t ls a) v f =
    (leaves-full s ls v.0 (λ x m. f x (Memᴰ.append_left _ m)), term-full s Γ a v.1 (λ x m. f x (Memᴰ.append_right ls m)))

accepted-values : (s : List ℕ) (t : ℕ) → verdict s ≡ Accepted t → ValuesFit s (circuit s)
accepted-values s t v =
    let p = ((accepted-by-types s t).0 v).0 in
    judged-fitting s (inputs s) (circuit s) (accepted-judged t p v).0

pub circuit-leaves-filled : (s s' : List ℕ) (t t' : ℕ) → verdict s ≡ Accepted t → verdict s' ≡ Accepted t' → SheetFilled s s'
    → TermFilled (Declared s) (input_type s ∷ []) (circuit_term s) (circuit_term s') (type_at s t)
unfolding circuit_term
circuit-leaves-filled s s' t t' v v' f =
    let o = f.leaves_alone in
    let p = ((accepted-by-types s t).0 v).0 in
    let j = accepted-judged t p v in
    let w = written p in
    let fit : ValuesFit s' (circuit s) = rw (same-circuit o) at (accepted-values s' t' v') in
    let same : inputs s' ≡ inputs s = ap (λ u. u ∷ []) (header-word o w) in
    rw (same-circuit o, same)
    (rw j.1 at (term-filled o w (inputs s) (circuit s) (grown-circuit w) (input-context p) j.0 fit f.leaves_below))
  where
    header-word : Rewritten s s' → Written s → word_a s' 0 ≡ word_a s 0
    header-word o w = o.others 0 (λ e. let h = w.headed in let z : ◌≡◌ {A = ℕ} 0 1 = cc in omega arith) 2 (omega arith)

input-positive : (s : List ℕ) (t : ℕ) → verdict s ≡ Accepted t → Positive (bounds (input_type s))
input-positive s t v =
    let p = ((accepted-by-types s t).0 v).0 in positive-bounds (written p) (word_a s 0) (input-context p).0

same_input : (s s' : List ℕ) (t : ℕ) → verdict s ≡ Accepted t → SheetFilled s s' → input_type s' ≡ input_type s
same_input s s' t v f =
    let o = f.leaves_alone in
    let w = written ((accepted-by-types s t).0 v).0 in
    same-type o (word_a s' 0)
    ∙ ap (type_at s) (o.others 0 (λ e. let h = w.headed in let z : ◌≡◌ {A = ℕ} 0 1 = cc in omega arith) 2 (omega arith))

sheet-itself : (s : List ℕ) → SheetFilled s s
sheet-itself s =
    record {
      leaves_alone = record { length = refl; others = λ r f k h. refl; leaves = λ r k h f. refl; unlabelled = λ r f. refl };
      leaves_below = λ l m. inr refl;
    }

circuit-full : (s s' : List ℕ) → Rewritten s s' → ValuesFit s' (circuit s) → ((l : ℕ) → Memᴰ l (held_leaves s) → 1 ≤ word_a s' l)
    → FullTerm (circuit_term s')
unfolding circuit_term
circuit-full s s' o values leaves = rw (same-circuit o) (term-full s' (inputs s') (circuit s) values leaves)

pub outputs-lie-in : OutputsLieIn
unfolding output_by possible_sets
outputs-lie-in rule law s s' i i' c full-sheet full-input =
    let o = c.sheet_filled.leaves_alone in
    let w = written ((accepted-by-types s c.type).0 c.accepted).0 in
    let values : ValuesFit s' (circuit s) = rw (same-circuit o) at (accepted-values s' c.type' c.accepted') in
    let leaves : (l : ℕ) → Memᴰ l (held_leaves s) → 1 ≤ word_a s' l = rw (same-circuit o) at full-sheet in
    fillings-lie-in rule law (Declared s) (input_type s) (type_at s c.type) (circuit_term s) (circuit_term s') i i'
    (circuit-leaves-filled s s' c.type c.type' c.accepted c.accepted' c.sheet_filled)
    (circuit-free s c.for_sets w) (circuit-full s s' o values leaves)
    (input-positive s c.type c.accepted) c.input_filled full-input

pub sets-shrink-filled : SetsShrink
unfolding possible_sets
sets-shrink-filled s s' i i' c =
    rw (same_input s s' c.type c.accepted c.sheet_filled)
    (sets-shrink (circuit-leaves-filled s s' c.type c.type' c.accepted c.accepted' c.sheet_filled)
    (inside_more_names (value-inside (input-positive s c.type c.accepted) c.input_filled) inside_no_names))

pub defined-alone : DefinedAlone
unfolding output_by possible_sets
defined-alone rule law s i t v none-past typed =
    let w = written ((accepted-by-types s t).0 v).0 in
    sets-narrow rule law (circuit-leaves-filled s s t t v v (sheet-itself s)) (circuit-free s none-past w)
    (narrowed_more_names (value-narrowed (input-positive s t v) typed) narrowed_no_names)

-- where nothing is undefined, no output leaf is
pub outputs-full : (rule : List ℕ → List ℕ → List ℕ) → Lawful rule → (s i : List ℕ) (t : ℕ) → verdict s ≡ Accepted t
    → lowest (past_sets s) (count s) ≡ none → FullSheet s → Full (bounds (input_type s)) i → Full (bounds (type_at s t)) (output_by rule s i)
unfolding output_by
outputs-full rule law s i t v none-past full-sheet full-input =
    let w = written ((accepted-by-types s t).0 v).0 in
    eval-full rule law (circuit-leaves-filled s s t t v v (sheet-itself s)) (circuit-free s none-past w)
    (circuit-full s s (sheet-itself s).leaves_alone (accepted-values s t v) full-sheet)
    (full_more_names full-input full_no_names)
