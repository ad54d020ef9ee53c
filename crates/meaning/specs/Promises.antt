-- What is promised of the meaning: each promise a named type, and at the end the list of them. One term of each stands in
-- `proofs/Kept.antt`; the list wants them all.
-- Every promise holds for every lawful rule for an undecided IF (with its counterpart on the constants of 000, where those
-- are named) and for every choice of the declared pair types. The rule in force and the earlier one are such: the last promises.
-- Terms are elaborated expressions; every well-typed expression has one, whose erasure it is.
use Rattle.std.specs.Prelude.{ℕ, suc, ◌≤◌, ◌<◌, ◌≡◌, ◌↔◌, ◌≢◌, List, ◌∷◌, map}
use Rattle.picoella.specs.Language.{Ty, leaves, OfType, Pattern, HasType, Expr, Typed}
use Rattle.meaning.specs.Values.{undefined, ◌⊑◌, ValuesOf, BothValues, AllOf}
use Rattle.meaning.specs.Matching.{matches}
use Rattle.meaning.specs.Decisions.{DecisionBelow}
use Rattle.meaning.specs.Elaboration.{Term, Feedback, Elaborated, erase, moved, frame}
use Rattle.meaning.specs.Constants.{
  ConstantTree,
  ConstantOf,
  ConstantsOf,
  AllConstantsOf,
  glb,
  flatten,
  answer3,
  match,
}
use Rattle.meaning.specs.Undecided.{agreed_leaves, undecided_rule, undecided_constant}
use Rattle.meaning.specs.RuleLaws.{undefined_leaves, bottom_of_then, Lawful, Agreeing}
use Rattle.meaning.specs.Ordered.{RuleBelow, Ordered, AllBoth}
use Rattle.meaning.specs.Evaluation.{iter, eval, application, iterate, settled, applications, next}
use Rattle.meaning.specs.Run.{outputs, after}
use Rattle.meaning.specs.Rules.{Reduces, ReducesSeq}

module _
    (undecided : List ℕ → List ℕ → List ℕ)
    (law : Lawful undecided)
    (tree : ConstantTree → ConstantTree → ConstantTree)
    (agree : Agreeing undecided tree)
    (Declared : Ty → Type 0)
  where
    -- A well-typed expression has an elaboration of its type, whose erasure it is; it has one only, and no other type. What an
    -- elaboration erases to is well typed.
    abbrev pub ElaborationExists : Type 0
    ElaborationExists =
        (Γ : List Ty) (e : Expr) (τ : Ty) → Typed Declared Γ e τ → (t : Term) × Elaborated Declared Γ t τ × (erase t ≡ e)

    abbrev pub ElaborationUnique : Type 0
    ElaborationUnique =
        (Γ : List Ty) (t s : Term) (σ τ : Ty)
        → Elaborated Declared Γ t σ → Elaborated Declared Γ s τ → erase t ≡ erase s → (σ ≡ τ) × (t ≡ s)

    abbrev pub ErasureTyped : Type 0
    ErasureTyped = (Γ : List Ty) (t : Term) (τ : Ty) → Elaborated Declared Γ t τ → Typed Declared Γ (erase t) τ

    -- Evaluation ignores the places that delays carry, and the cycle hands them on.
    abbrev pub AnnotationIgnored : Type 0
    AnnotationIgnored =
        (places : List ℕ → List ℕ) (ρ : List (List ℕ)) (t : Term)
        → (eval undecided ρ (moved places t) ≡ eval undecided ρ t)
        × (next undecided ρ (moved places t) ≡ moved places (next undecided ρ t))

    -- 1. Typing: the value of a well-typed term is of its type; the term after the cycle has the same type, and differs from
    -- the term in delay values alone. So for a run.
    abbrev pub EvaluationTyped : Type 0
    EvaluationTyped =
        (Γ : List Ty) (t : Term) (τ : Ty) (ρ : List (List ℕ))
        → Elaborated Declared Γ t τ → ValuesOf Γ ρ → OfType τ (eval undecided ρ t)

    abbrev pub NextTyped : Type 0
    NextTyped =
        (Γ : List Ty) (t : Term) (τ : Ty) (ρ : List (List ℕ))
        → Elaborated Declared Γ t τ → ValuesOf Γ ρ
        → Elaborated Declared Γ (next undecided ρ t) τ × (frame (next undecided ρ t) ≡ frame t)

    abbrev pub RunTyped : Type 0
    RunTyped =
        (Γ : List Ty) (t : Term) (σ τ : Ty) (ρ inputs : List (List ℕ))
        → Elaborated Declared (σ ∷ Γ) t τ → ValuesOf Γ ρ → AllOf σ inputs
        → AllOf τ (outputs undecided ρ t inputs)
        × Elaborated Declared (σ ∷ Γ) (after undecided ρ t inputs) τ
        × (frame (after undecided ρ t inputs) ≡ frame t)

    -- 2. Matching is monotone, and so is evaluation in the environment.
    abbrev pub MatchMonotone : Type 0
    MatchMonotone =
        (p : Pattern) (τ : Ty) (v w : List ℕ)
        → HasType p τ → OfType τ v → OfType τ w → v ⊑ w → DecisionBelow (matches p v) (matches p w)

    abbrev pub EvaluationMonotone : Type 0
    EvaluationMonotone =
        (Γ : List Ty) (t : Term) (τ : Ty) (ρ π : List (List ℕ))
        → Elaborated Declared Γ t τ → BothValues Γ ρ π → eval undecided ρ t ⊑ eval undecided π t

    -- 3. A well-typed feedback, whatever values of their types the names around it hold: the chain from undefined rises, and
    -- does not change after as many applications as the type has leaves; its end is of the type, is given back unchanged,
    -- and lies at or below every value of the type that is. The applications that reach it are at most the leaves, and no
    -- fewer reach it. It is what evaluation and the cycle give to the feedback's name.
    pub record Settles (ρ : List (List ℕ)) (σ : Ty) (t : Term) : Type 0 where
      pub rises : (k : ℕ)
          → iter (application undecided ρ t) k (undefined σ) ⊑ iter (application undecided ρ t) (suc k) (undefined σ)
      pub stable : (k : ℕ)
          → leaves σ ≤ k → iter (application undecided ρ t) k (undefined σ) ≡ settled undecided ρ σ t
      pub of_type : OfType σ (settled undecided ρ σ t)
      pub fixed : application undecided ρ t (settled undecided ρ σ t) ≡ settled undecided ρ σ t
      pub least : (w : List ℕ) → OfType σ w → application undecided ρ t w ≡ w → settled undecided ρ σ t ⊑ w
      pub at_most : applications undecided ρ σ t ≤ leaves σ
      pub reached
          : iter (application undecided ρ t) (applications undecided ρ σ t) (undefined σ) ≡ settled undecided ρ σ t
      pub none_fewer : (j : ℕ)
          → j < applications undecided ρ σ t
          → iter (application undecided ρ t) j (undefined σ) ≢ settled undecided ρ σ t
      pub value : (s : Term) → eval undecided ρ (Feedback σ t s) ≡ eval undecided (settled undecided ρ σ t ∷ ρ) s
      pub after_cycle : (s : Term)
          → next undecided ρ (Feedback σ t s)
          ≡ Feedback σ (next undecided (settled undecided ρ σ t ∷ ρ) t) (next undecided (settled undecided ρ σ t ∷ ρ) s)

    abbrev pub FeedbackLeast : Type 0
    FeedbackLeast =
        (Γ : List Ty) (ρ : List (List ℕ)) (σ : Ty) (t : Term)
        → Elaborated Declared (σ ∷ Γ) t σ → ValuesOf Γ ρ → Settles ρ σ t

    -- The equations of 000's `iterate`, from every value of the type at or below its application.
    abbrev pub IterateEquations : Type 0
    IterateEquations =
        (Γ : List Ty) (ρ : List (List ℕ)) (σ : Ty) (t : Term) (v : List ℕ)
        → Elaborated Declared (σ ∷ Γ) t σ → ValuesOf Γ ρ → OfType σ v → v ⊑ application undecided ρ t v
        → (application undecided ρ t v ≡ v → iterate undecided ρ σ t v ≡ application undecided ρ t v)
        × (iterate undecided ρ σ t v ≡ iterate undecided ρ σ t (application undecided ρ t v))

    -- 4. Adequacy. Flattening leads the constants of a type one to one onto its values, and matching agrees through it.
    abbrev pub FlattenOneToOne : Type 0
    FlattenOneToOne =
        (τ : Ty)
        → ((c : ConstantTree) → ConstantOf τ c → OfType τ (flatten c))
        × ((c d : ConstantTree) → ConstantOf τ c → ConstantOf τ d → flatten c ≡ flatten d → c ≡ d)
        × ((v : List ℕ) → OfType τ v → (c : ConstantTree) × ConstantOf τ c × (flatten c ≡ v))

    abbrev pub MatchAgrees : Type 0
    MatchAgrees =
        (p : Pattern) (τ : Ty) (c : ConstantTree)
        → HasType p τ → ConstantOf τ c → answer3 (matches p (flatten c)) ≡ match p c

    -- The rules of 000 hold of a well-typed term's erasure exactly for the constant of its type with the leaves of its value,
    -- and for the erasure of the term after the cycle. There is such a derivation; and the rules give one result at most.
    abbrev pub CycleAdequate : Type 0
    CycleAdequate =
        (Γ : List Ty) (t : Term) (τ : Ty) (l : List ConstantTree) (c : ConstantTree) (f : Expr)
        → Elaborated Declared Γ t τ → ConstantsOf Γ l
        → Reduces tree l (erase t) c f
        ↔ (ConstantOf τ c × (flatten c ≡ eval undecided (map flatten l) t) × (f ≡ erase (next undecided (map flatten l) t)))

    abbrev pub CycleExists : Type 0
    CycleExists =
        (Γ : List Ty) (t : Term) (τ : Ty) (l : List ConstantTree)
        → Elaborated Declared Γ t τ → ConstantsOf Γ l → (c : ConstantTree) × (f : Expr) × Reduces tree l (erase t) c f

    abbrev pub CycleUnique : Type 0
    CycleUnique =
        (l : List ConstantTree) (e f g : Expr) (c d : ConstantTree)
        → Reduces tree l e c f → Reduces tree l e d g → (c ≡ d) × (f ≡ g)

    abbrev pub RunAdequate : Type 0
    RunAdequate =
        (Γ : List Ty) (t : Term) (σ τ : Ty) (l inputs cs : List ConstantTree) (f : Expr)
        → Elaborated Declared (σ ∷ Γ) t τ → ConstantsOf Γ l → AllConstantsOf σ inputs
        → ReducesSeq tree l (erase t) inputs cs f
        ↔ (AllConstantsOf τ cs × (map flatten cs ≡ outputs undecided (map flatten l) t (map flatten inputs))
        × (f ≡ erase (after undecided (map flatten l) t (map flatten inputs))))

    abbrev pub RunExists : Type 0
    RunExists =
        (Γ : List Ty) (t : Term) (σ τ : Ty) (l inputs : List ConstantTree)
        → Elaborated Declared (σ ∷ Γ) t τ → ConstantsOf Γ l → AllConstantsOf σ inputs
        → (cs : List ConstantTree) × (f : Expr) × ReducesSeq tree l (erase t) inputs cs f

    abbrev pub RunUnique : Type 0
    RunUnique =
        (l inputs cs ds : List ConstantTree) (e f g : Expr)
        → ReducesSeq tree l e inputs cs f → ReducesSeq tree l e inputs ds g → (cs ≡ ds) × (f ≡ g)

    pub record Promises : Type 0 where
      pub elaboration_exists : ElaborationExists
      pub elaboration_unique : ElaborationUnique
      pub erasure_typed : ErasureTyped
      pub annotation_ignored : AnnotationIgnored
      pub evaluation_typed : EvaluationTyped
      pub next_typed : NextTyped
      pub run_typed : RunTyped
      pub match_monotone : MatchMonotone
      pub evaluation_monotone : EvaluationMonotone
      pub feedback_least : FeedbackLeast
      pub iterate_equations : IterateEquations
      pub flatten_one_to_one : FlattenOneToOne
      pub match_agrees : MatchAgrees
      pub cycle_adequate : CycleAdequate
      pub cycle_exists : CycleExists
      pub cycle_unique : CycleUnique
      pub run_adequate : RunAdequate
      pub run_exists : RunExists
      pub run_unique : RunUnique

-- 5. Two terms alike but for the values that their delays hold, each of the first at or below that of the second, under two
-- rules, the first lawful and at or below the second, in environments in order: so are their values, and the terms after the
-- cycle are ordered again. So for a run over inputs in order, none included.
module _ (rule other : List ℕ → List ℕ → List ℕ) (Declared : Ty → Type 0) where
  abbrev pub CycleOrdered : Type 0
  CycleOrdered =
      (Γ : List Ty) (t t' : Term) (τ : Ty) (ρ π : List (List ℕ))
      → Ordered Declared Γ t t' τ → BothValues Γ ρ π
      → (eval rule ρ t ⊑ eval other π t') × Ordered Declared Γ (next rule ρ t) (next other π t') τ

  abbrev pub RunOrdered : Type 0
  RunOrdered =
      (Γ : List Ty) (t t' : Term) (σ τ : Ty) (ρ π inputs inputs' : List (List ℕ))
      → Ordered Declared (σ ∷ Γ) t t' τ → BothValues Γ ρ π → AllBoth σ inputs inputs'
      → AllBoth τ (outputs rule ρ t inputs) (outputs other π t' inputs')
      × Ordered Declared (σ ∷ Γ) (after rule ρ t inputs) (after other π t' inputs') τ

-- The rule for an undecided IF, each leaf on which both branches agree and 0 elsewhere, is lawful, and agrees with 000's `glb`. The
-- earlier rule, undefined in every leaf, is lawful too, agrees with 000's other semantics, and is at or below it.
abbrev pub AgreedLawful : Type 0
AgreedLawful = Lawful agreed_leaves

abbrev pub AgreedAgreeing : Type 0
AgreedAgreeing = Agreeing agreed_leaves glb

abbrev pub UndefinedLawful : Type 0
UndefinedLawful = Lawful undefined_leaves

abbrev pub UndefinedAgreeing : Type 0
UndefinedAgreeing = Agreeing undefined_leaves bottom_of_then

abbrev pub EarlierRuleBelow : Type 0
EarlierRuleBelow = RuleBelow undefined_leaves undecided_rule

-- The rule in force is the first of them, by its name.
abbrev pub RuleInForce : Type 0
RuleInForce =
    ((v w : List ℕ) → undecided_rule v w ≡ agreed_leaves v w)
    × ((c d : ConstantTree) → undecided_constant c d ≡ glb c d)
    × Lawful undecided_rule
    × Agreeing undecided_rule undecided_constant

-- all of them
pub record MeaningPromises : Type 1 where
  pub every_rule : (undecided : List ℕ → List ℕ → List ℕ)
      (law : Lawful undecided)
      (tree : ConstantTree → ConstantTree → ConstantTree)
      (agree : Agreeing undecided tree)
      (Declared : Ty → Type 0)
      → Promises undecided law tree agree Declared
  pub two_rules_cycle : (rule other : List ℕ → List ℕ → List ℕ)
      → Lawful rule → RuleBelow rule other → (Declared : Ty → Type 0) → CycleOrdered rule other Declared
  pub two_rules_run : (rule other : List ℕ → List ℕ → List ℕ)
      → Lawful rule → RuleBelow rule other → (Declared : Ty → Type 0) → RunOrdered rule other Declared
  pub agreed_lawful : AgreedLawful
  pub agreed_agreeing : AgreedAgreeing
  pub undefined_lawful : UndefinedLawful
  pub undefined_agreeing : UndefinedAgreeing
  pub earlier_rule_below : EarlierRuleBelow
  pub rule_in_force : RuleInForce
