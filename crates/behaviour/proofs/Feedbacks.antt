-- A record of kind 38 of an accepted sheet, in that sheet and in every sheet that differs from it in delay leaves alone: it is an
-- expression of the circuit, whose scope, defining part and body are the same in all of them; it decodes to what these erase to, and
-- its feedback settles as the meaning and 000's iteration say, whatever values of their types the names around it hold.
-- Assumes nothing.
use Prim.Native.Nat.{ℕ, ◌≤◌, ◌<◌}
use mathlib.Core.List.{List, [], ◌∷◌, map}
use mathlib.Core.Option.{some}
use mathlib.Core.Path.{◌≡◌, refl, sym, ap, ap₂, subst, fun_ext, ◌∙◌}
use Rattle.picoella.specs.Language.{Ty, Expr, Var, LetRec, here}
use Rattle.records.specs.Words.{count, kind_word, word_a, word_b, word_c}
use Rattle.records.specs.Kinds.{expression, feedback, row_of, kind_of}
use Rattle.records.specs.Says.{kind_at}
use Rattle.records.specs.Trees.{type_at, Declared, Tree, feedback_of, tree_at}
use Rattle.records.specs.Rewritten.{Rewritten}
use Rattle.records.proofs.Rewritten.{same-type, same-tree}
use Rattle.records.proofs.Asked.{past-header}
use Rattle.records.proofs.Trees.{tree-of}
use Rattle.records.proofs.Decoding.{expressions-there}
use Rattle.structure.specs.Rules.{Passes}
use Rattle.accepted.proofs.Laws.{written, well-named}
use Rattle.verdict.specs.Verdict.{verdict}
use Rattle.verdict.specs.Scopes.{Scope}
use Rattle.answers.specs.Answers.{Accepted}
use Rattle.accepted.proofs.Laws.{accepted-by-types}
use Rattle.accepted.proofs.Scopes.{CheckedAt, scope-checked}
use Rattle.meaning.specs.Values.{ValuesOf, no_values, more_values}
use Rattle.meaning.specs.Elaboration.{Term, Feedback, erase, Elaborated, e_name, e_feedback}
use Rattle.meaning.specs.Constants.{ConstantTree, ConstantsOf, of_none, of_more, flatten, bottom_of_type}
use Rattle.meaning.specs.Undecided.{undecided_rule, undecided_constant}
use Rattle.meaning.specs.Evaluation.{eval, settled, applications, next}
use Rattle.meaning.specs.Rules.{elem_here, Reduces, r_var, r_letrec, Iterates}
use Rattle.meaning.proofs.Order.{both_below}
use Rattle.meaning.proofs.FlattenOneToOne.{flatten-onto}
use Rattle.meaning.proofs.DerivationExists.{Beside, beside-flattened, derived}
use Rattle.meaning.proofs.UndecidedRule.{rule-lawful, rule-agreeing}
use Rattle.meaning.proofs.FeedbackLeast.{
  feedback-typed,
  feedback-fixed,
  feedback_least,
  applications-most,
  applications-reach,
  applications-fewest,
}
use Rattle.behaviour.specs.Terms.{term}
use Rattle.behaviour.specs.Afterwards.{OnlyDelays, IteratesTo, FeedbackSettles, decoded_at, FeedbackAt}
use Rattle.behaviour.proofs.Terms.{erase-term, checked-term}
use Rattle.behaviour.proofs.Sheets.{only-leaves}
use Rattle.behaviour.proofs.Scoped.{HasScope, every-expression}
use Rattle.behaviour.proofs.ScopesAgain.{scope-again}

pub feedback-kind : (s : List ℕ) (q : ℕ) → kind_word s q ≡ 38 → kind_at s q ≡ expression feedback
unfolding kind_of row_of
feedback-kind s q e = ap kind_of e

-- the defining part of a well-typed feedback
defining-typed : {D : Ty → Type 0} {Γ : List Ty} {σ τ : Ty} {t u : Term} → Elaborated D Γ (Feedback σ t u) τ → Elaborated D (σ ∷ Γ) t σ
defining-typed (e_feedback d b) = d

-- the constants with the leaves of an environment
values-onto : {Γ : List Ty} {ρ : List (List ℕ)} → ValuesOf Γ ρ → (l : List ConstantTree) × ConstantsOf Γ l × (map flatten l ≡ ρ)
values-onto no_values = ([], of_none, refl)
values-onto (more_values {τ} h r) =
    let (c, i, p) = flatten-onto τ h in
    let (l, j, q) = values-onto r in
    (c ∷ l, of_more i j, ap₂ (λ v vs. v ∷ vs) p q)

-- the rule of a feedback whose body is its name
of-letrec : {undecided : ConstantTree → ConstantTree → ConstantTree} {l : List ConstantTree} {σ σ' : Ty} {e f : Expr} {d : ConstantTree}
    → Reduces undecided l (LetRec σ e (Var 0)) d (LetRec σ' f (Var 0)) → Iterates undecided l e (bottom_of_type σ) d f
of-letrec (r_letrec i (r_var elem_here)) = i

-- 000's iteration of a well-typed defining part
iteration : (D : Ty → Type 0) {Γ : List Ty} {ρ : List (List ℕ)} {σ : Ty} {part : Term} → Elaborated D (σ ∷ Γ) part σ → ValuesOf Γ ρ
    → IteratesTo Γ ρ σ (erase part) (settled undecided_rule ρ σ part) (erase (next undecided_rule (settled undecided_rule ρ σ part ∷ ρ) part))
unfolding eval next
iteration D {Γ} {ρ} {σ} {part} typed env =
    let (l, j, q) = values-onto env in
    let (c, i, p, r) = derived undecided_rule undecided_constant rule-lawful rule-agreeing D (e_feedback typed (e_name here))
    (subst (Beside Γ l) q (beside-flattened j)) in
    record {
      names = l;
      names_typed = j;
      names_hold = q;
      constant = c;
      constant_typed = i;
      constant_is = p;
      iterates = of-letrec r;
    }

-- what the meaning says of a feedback
settles : (D : Ty → Type 0) (Γ : List Ty) (ρ : List (List ℕ)) (σ : Ty) (whole part body : Term)
    → Elaborated D (σ ∷ Γ) part σ → ValuesOf Γ ρ → whole ≡ Feedback σ part body → FeedbackSettles Γ ρ σ whole part body
unfolding eval
settles D Γ ρ σ whole part body typed env e = record {
  value = settled undecided_rule ρ σ part;
  given = refl;
  evaluates = rw e;
  of_type = feedback-typed rule-lawful typed env;
  unchanged = feedback-fixed rule-lawful typed env;
  least = λ w h p. both_below (feedback_least rule-lawful typed env h p);
  times = applications undecided_rule ρ σ part;
  at_most = applications-most rule-lawful typed env;
  reached = applications-reach rule-lawful typed env;
  none_fewer = applications-fewest rule-lawful typed env;
  by_iteration = iteration D typed env;
}

module _ (s : List ℕ) {t : ℕ} (v : verdict s ≡ Accepted t) {q : ℕ} (below : q < count s) (kind : kind_at s q ≡ expression feedback) where
  passes : Passes s
  passes = ((accepted-by-types s t).0 v).0

  scoped : HasScope s q
  scoped = every-expression (written passes) (well-named passes) q (past-header (written passes) q (rw kind)) below (rw kind)

  -- its defining part and body
  abbrev defining : Tree
  defining = tree_at s (word_b s q)

  abbrev body : Tree
  body = tree_at s (word_c s q)

  own-tree : tree_at s q ≡ feedback_of q (word_a s q) defining body
  own-tree = tree-of (written passes) q below (expression feedback) kind

  -- in a sheet that differs in delay leaves alone
  module _ {s' : List ℕ} (v' : verdict s' ≡ Accepted t) (o : OnlyDelays s s') where
    only : Rewritten s s'
    only = only-leaves (written passes) o

    scope-there : Scope s' q scoped.0
    scope-there = scope-again only v scoped.1

    tree-there : tree_at s' q ≡ feedback_of q (word_a s q) defining body
    tree-there = same-tree only q ∙ own-tree

    types-there : type_at s' ≡ type_at s
    types-there = fun_ext (same-type only)

    -- with these names in scope
    module _ {Γ : List ℕ} (scope : Scope s' q Γ) where
      passes-there : Passes s'
      passes-there = ((accepted-by-types s' t).0 v').0

      checked : CheckedAt s' q Γ
      checked = scope-checked t passes-there v' scope

      abbrev part_of : Tree → Term
      part_of e = term s' (word_a s q ∷ Γ) e

      whole-there : term s' Γ (tree_at s' q) ≡ Feedback (type_at s (word_a s q)) (part_of defining) (part_of body)
      whole-there =
          ap (term s' Γ) tree-there
          ∙ ap (λ σ. Feedback σ (part_of defining) (part_of body)) (same-type only (word_a s q))

      decodes-there
          : decoded_at s' q ≡ some (LetRec (type_at s (word_a s q)) (erase (part_of defining)) (erase (part_of body)))
      decodes-there =
          rw (expressions-there (written passes-there) q checked.there checked.sort)
          (ap some (sym (erase-term s' Γ (tree_at s' q)) ∙ ap erase whole-there))

      settles-there : (ρ : List (List ℕ)) → ValuesOf (map (type_at s) Γ) ρ
          → FeedbackSettles (map (type_at s) Γ) ρ (type_at s (word_a s q)) (term s' Γ (tree_at s' q)) (part_of defining) (part_of body)
      settles-there ρ env =
          let typed = defining-typed (rw (whole-there, ap (λ f. map f Γ) types-there) at (checked-term passes-there checked)) in
          settles (Declared s') (map (type_at s) Γ) ρ (type_at s (word_a s q)) (term s' Γ (tree_at s' q)) (part_of defining) (part_of body)
          typed env whole-there

  -- in each of a run's sheets
  pub feedback-at : (sheets : ℕ → List ℕ) (n : ℕ) → ((k : ℕ) → k ≤ n → verdict (sheets k) ≡ Accepted t)
      → ((k : ℕ) → k ≤ n → OnlyDelays s (sheets k)) → FeedbackAt s sheets n q
  feedback-at sheets n accepted only_delays = record {
    defining = defining;
    body = body;
    reads = λ k h. tree-there (accepted k h) (only_delays k h);
    scope = scoped.0;
    in_scope = λ k h. scope-there (accepted k h) (only_delays k h);
    every_scope = λ k h Γ c. record {
      decodes = decodes-there (accepted k h) (only_delays k h) c;
      settles = settles-there (accepted k h) (only_delays k h) c;
    };
  }
