-- The term of a circuit erases to the expression that the records say, and it is well typed where the rules of the tree hold, the
-- names in scope have type records, and each part is there. By induction on the tree.
-- Assumes nothing.
use Prim.Native.Nat.{ℕ, zero, suc, ◌<◌}
use mathlib.Core.List.{List, [], ◌∷◌, map}
use mathlib.Core.Path.{◌≡◌, refl, ap, ap₂, ◌∙◌}
use native.Mathlib.Omega.{arith}
use lib.ListN.{length, get_or}
use borrow.Author.Tests.{ltb-true, eqb-true}
use Rattle.picoella.specs.Language.{TyTuple, bounds, Tuple, Index1, Index2, Let, LetRec, If, Delay, Named, here, there}
use Rattle.records.specs.Words.{word_a}
use Rattle.records.specs.Says.{kind_at}
use Rattle.records.specs.Trees.{
  type_at,
  pair_of,
  Declared,
  Tree,
  no_expression,
  constant_of,
  name_of,
  tuple_of,
  first_of,
  second_of,
  let_of,
  feedback_of,
  if_of,
  delay_of,
  tree_at,
  circuit,
  type_record_of,
}
use Rattle.records.specs.Decoding.{leaf_values, pattern_of, expression_of}
use Rattle.records.specs.Written.{Written}
use Rattle.records.proofs.Table.{is-pair}
use Rattle.records.proofs.Types.{pair-type}
use Rattle.records.proofs.Pairs.{pair-of-found}
use Rattle.records.proofs.TypeRecords.{found-pair}
use Rattle.records.proofs.Grown.{Grown, grown-tree, grown-circuit}
use Rattle.structure.specs.Rules.{Passes}
use Rattle.accepted.proofs.Laws.{written}
use Rattle.typing.specs.Judging.{Context}
use Rattle.verdict.specs.Verdict.{verdict}
use Rattle.verdict.specs.Scopes.{inputs}
use Rattle.answers.specs.Answers.{Accepted}
use Rattle.accepted.proofs.Laws.{RulesHold}
use Rattle.accepted.proofs.Laws.{type-of-record}
use Rattle.accepted.proofs.Laws.{fits-typed}
use Rattle.accepted.proofs.Laws.{within-fits}
use Rattle.accepted.proofs.Laws.{accepted-by-types}
use Rattle.accepted.proofs.Laws.{input-context, accepted-judged}
use Rattle.accepted.proofs.Scopes.{CheckedAt}
use Rattle.meaning.specs.Elaboration.{
  erase,
  Elaborated,
  e_constant,
  e_name,
  e_pair,
  e_first,
  e_second,
  e_let,
  e_feedback,
  e_if,
  e_delay,
}
use Rattle.behaviour.specs.Terms.{term, circuit_term}

pub erase-term : (s Γ : List ℕ) (e : Tree) → erase (term s Γ e) ≡ expression_of s e
erase-term s Γ no_expression = refl
erase-term s Γ (constant_of r t ls) = refl
erase-term s Γ (name_of r k) = refl
erase-term s Γ (tuple_of r a b) = ap₂ Tuple (erase-term s Γ a) (erase-term s Γ b)
erase-term s Γ (first_of r a) = ap Index1 (erase-term s Γ a)
erase-term s Γ (second_of r a) = ap Index2 (erase-term s Γ a)
erase-term s Γ (let_of r a b) = ap₂ Let (erase-term s Γ a) (erase-term s (type_record_of s Γ a ∷ Γ) b)
erase-term s Γ (feedback_of r t a b) = ap₂ (LetRec (type_at s t)) (erase-term s (t ∷ Γ) a) (erase-term s (t ∷ Γ) b)
erase-term s Γ (if_of r a p b c) =
    λ i. If (erase-term s Γ a i) (pattern_of s p) (erase-term s Γ b i) (erase-term s Γ c i)
erase-term s Γ (delay_of r t ls a) = ap (Delay ls (type_at s t) (leaf_values s ls)) (erase-term s Γ a)

pub erase-circuit : (s : List ℕ) → erase (circuit_term s) ≡ expression_of s (circuit s)
unfolding circuit_term
erase-circuit s = erase-term s (inputs s) (circuit s)

pub name-elaborated : (s Γ : List ℕ) (k : ℕ) → k < length Γ → Named (map (type_at s) Γ) k (type_at s (get_or Γ k 0))
name-elaborated s [] k h = absurd (omega arith)
name-elaborated s (t ∷ Γ) zero h = here
name-elaborated s (t ∷ Γ) (suc k) h = there (name-elaborated s Γ k (omega arith))

pub term-typed : {s : List ℕ} → Written s → (Γ : List ℕ) (e : Tree) → Grown s e → Context s Γ → RulesHold s Γ e
    → Elaborated (Declared s) (map (type_at s) Γ) (term s Γ e) (type_at s (type_record_of s Γ e))
term-typed {s} w Γ no_expression g c j = absurd g
term-typed {s} w Γ (constant_of r t ls) g c j = e_constant (within-fits (bounds (type_at s t)) (leaf_values s ls) j)
term-typed {s} w Γ (name_of r k) g c j = e_name (name-elaborated s Γ k (ltb-true k (length Γ) j))
term-typed {s} w Γ (tuple_of r a b) g c j =
    let h = ltb-true 0 (pair_of s (type_record_of s Γ a) (type_record_of s Γ b)) j.2 in
    let f = pair-of-found s (type_record_of s Γ a) (type_record_of s Γ b) (pair_of s (type_record_of s Γ a) (type_record_of s Γ b)) refl h in
    let e : type_at s (pair_of s (type_record_of s Γ a) (type_record_of s Γ b)) ≡ TyTuple (type_at s (type_record_of s Γ a)) (type_at s (type_record_of s Γ b)) =
    pair-type w (pair_of s (type_record_of s Γ a) (type_record_of s Γ b)) f.0 f.1 ∙ rw (f.2, f.3) in
    rw e
    (e_pair (term-typed w Γ a g.0 c j.0) (term-typed w Γ b g.1 c j.1)
    (pair_of s (type_record_of s Γ a) (type_record_of s Γ b), found-pair w (type_record_of s Γ a) (type_record_of s Γ b) h, e))
term-typed {s} w Γ (first_of r a) g c j =
    let t = type-of-record w Γ a g c j.0 in
    e_first (rw (pair-type w (type_record_of s Γ a) t.there (is-pair (kind_at s (type_record_of s Γ a)) j.1)) at (term-typed w Γ a g c j.0))
term-typed {s} w Γ (second_of r a) g c j =
    let t = type-of-record w Γ a g c j.0 in
    e_second (rw (pair-type w (type_record_of s Γ a) t.there (is-pair (kind_at s (type_record_of s Γ a)) j.1)) at (term-typed w Γ a g c j.0))
term-typed {s} w Γ (let_of r a b) g c j =
    e_let (term-typed w Γ a g.0 c j.0)
    (term-typed w (type_record_of s Γ a ∷ Γ) b g.1 (type-of-record w Γ a g.0 c j.0, c) j.1)
term-typed {s} w Γ (feedback_of r t a b) g c j =
    e_feedback (rw (eqb-true (type_record_of s (t ∷ Γ) a) t j.2) at (term-typed w (t ∷ Γ) a g.1 (g.0, c) j.0))
    (term-typed w (t ∷ Γ) b g.2 (g.0, c) j.1)
term-typed {s} w Γ (if_of r a p b d) g c j =
    e_if (term-typed w Γ a g.0 c j.0)
    (fits-typed w p (type_record_of s Γ a) (type-of-record w Γ a g.0 c j.0) g.1 j.1)
    (term-typed w Γ b g.2 c j.2)
    (rw (← eqb-true (type_record_of s Γ b) (type_record_of s Γ d) j.4) at (term-typed w Γ d g.3 c j.3))
term-typed {s} w Γ (delay_of r t ls a) g c j =
    e_delay (within-fits (bounds (type_at s t)) (leaf_values s ls) j.1)
    (rw (eqb-true (type_record_of s Γ a) t j.2) at (term-typed w Γ a g.1 c j.0))

-- at an expression of an accepted circuit
pub checked-term : {s : List ℕ} {q : ℕ} {Γ : List ℕ} → Passes s → CheckedAt s q Γ
    → Elaborated (Declared s) (map (type_at s) Γ) (term s Γ (tree_at s q)) (type_at s (type_record_of s Γ (tree_at s q)))
checked-term {s} {q} {Γ} p o =
    term-typed (written p) Γ (tree_at s q) (grown-tree (written p) q o.there o.sort) o.context o.judged

-- the circuit of an accepted sheet has the type that the verdict says
pub circuit-typed : (s : List ℕ) (t : ℕ) → verdict s ≡ Accepted t
    → Elaborated (Declared s) (type_at s (word_a s 0) ∷ []) (circuit_term s) (type_at s t)
unfolding circuit_term
circuit-typed s t v =
    let p = ((accepted-by-types s t).0 v).0 in
    let j = accepted-judged t p v in
    rw j.1 at (term-typed (written p) (inputs s) (circuit s) (grown-circuit (written p)) (input-context p) j.0)
