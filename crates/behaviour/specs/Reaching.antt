-- How the evaluation of the root for one input reaches an expression record, with every enclosing feedback at its settled value
-- (docs/SHEETS.md, "Which alternative fired"): with which names in scope, Γ their type records, and with which values ρ of them, the
-- innermost first. The parts of a record are reached with its names and values; the body of a LET with the value of the defining
-- part in front; both parts of a feedback with the settled value in front. All three parts of an IF are reached. And the alternatives of
-- a chain, as a list.
use Rattle.std.specs.Prelude.{ℕ, ◌≡◌, ◌↔◌, ◌≢◌, length, get_or}
use mathlib.Core.List.{List, [], ◌∷◌, ◌++◌, Memᴰ}
use Rattle.picoella.specs.Language.{Pattern, Whole, Constructor, Parts}
use Rattle.records.specs.Words.{count, word_a, word_b, word_c, word_d}
use Rattle.records.specs.Kinds.{tuple, first, second, let_in, feedback, if_matches, delay, expression}
use Rattle.records.specs.Says.{kind_at, Naming}
use Rattle.records.specs.Trees.{type_at, Alternatives, end, no_pattern, whole_type, one_constructor, pair_of_patterns, alternatives, tree_at, type_record_of}
use Rattle.records.specs.Decoding.{pattern_of}
use Rattle.verdict.specs.Scopes.{inputs}
use Rattle.meaning.specs.Matching.{matches}
use Rattle.meaning.specs.Decisions.{Yes}
use Rattle.meaning.specs.Undecided.{undecided_rule}
use Rattle.meaning.specs.Evaluation.{settled}
use Rattle.behaviour.specs.Terms.{term}
use Rattle.behaviour.specs.Evaluated.{value_at}
use Rattle.behaviour.specs.Firing.{first_yes, fired}

-- the settled value of the feedback at record q, where its names and their values are these
abbrev pub settled_in : (sheet Γ : List ℕ) (ρ : List (List ℕ)) → ℕ → List ℕ
settled_in s Γ ρ q = settled undecided_rule ρ (type_at s (word_a s q)) (term s (word_a s q ∷ Γ) (tree_at s (word_b s q)))

pub data Evaluates (s input : List ℕ) : ℕ → List ℕ → List (List ℕ) → Type 0 where
  evaluates_root : Evaluates s input (word_b s 0) (inputs s) (input ∷ [])
  evaluates_tuple_first : {q : ℕ} {Γ : List ℕ} {ρ : List (List ℕ)}
      → kind_at s q ≡ expression tuple → Evaluates s input q Γ ρ → Evaluates s input (word_a s q) Γ ρ
  evaluates_tuple_second : {q : ℕ} {Γ : List ℕ} {ρ : List (List ℕ)}
      → kind_at s q ≡ expression tuple → Evaluates s input q Γ ρ → Evaluates s input (word_b s q) Γ ρ
  evaluates_first : {q : ℕ} {Γ : List ℕ} {ρ : List (List ℕ)}
      → kind_at s q ≡ expression first → Evaluates s input q Γ ρ → Evaluates s input (word_a s q) Γ ρ
  evaluates_second : {q : ℕ} {Γ : List ℕ} {ρ : List (List ℕ)}
      → kind_at s q ≡ expression second → Evaluates s input q Γ ρ → Evaluates s input (word_a s q) Γ ρ
  evaluates_let_defining : {q : ℕ} {Γ : List ℕ} {ρ : List (List ℕ)}
      → kind_at s q ≡ expression let_in → Evaluates s input q Γ ρ → Evaluates s input (word_a s q) Γ ρ
  evaluates_let_body : {q : ℕ} {Γ : List ℕ} {ρ : List (List ℕ)}
      → kind_at s q ≡ expression let_in → Evaluates s input q Γ ρ
      → Evaluates s input (word_b s q) (type_record_of s Γ (tree_at s (word_a s q)) ∷ Γ) (value_at undecided_rule s Γ ρ (word_a s q) ∷ ρ)
  evaluates_feedback_defining : {q : ℕ} {Γ : List ℕ} {ρ : List (List ℕ)}
      → kind_at s q ≡ expression feedback → Evaluates s input q Γ ρ
      → Evaluates s input (word_b s q) (word_a s q ∷ Γ) (settled_in s Γ ρ q ∷ ρ)
  evaluates_feedback_body : {q : ℕ} {Γ : List ℕ} {ρ : List (List ℕ)}
      → kind_at s q ≡ expression feedback → Evaluates s input q Γ ρ
      → Evaluates s input (word_c s q) (word_a s q ∷ Γ) (settled_in s Γ ρ q ∷ ρ)
  evaluates_if_tested : {q : ℕ} {Γ : List ℕ} {ρ : List (List ℕ)}
      → kind_at s q ≡ expression if_matches → Evaluates s input q Γ ρ → Evaluates s input (word_a s q) Γ ρ
  evaluates_if_then : {q : ℕ} {Γ : List ℕ} {ρ : List (List ℕ)}
      → kind_at s q ≡ expression if_matches → Evaluates s input q Γ ρ → Evaluates s input (word_b s q) Γ ρ
  evaluates_if_else : {q : ℕ} {Γ : List ℕ} {ρ : List (List ℕ)}
      → kind_at s q ≡ expression if_matches → Evaluates s input q Γ ρ → Evaluates s input (word_c s q) Γ ρ
  evaluates_delay : {q : ℕ} {Γ : List ℕ} {ρ : List (List ℕ)}
      → kind_at s q ≡ expression delay → Evaluates s input q Γ ρ → Evaluates s input (word_c s q) Γ ρ

-- the way from the root: each record passed with the number of the word that was followed there, the last first
abbrev pub way : {s input : List ℕ} {q : ℕ} {Γ : List ℕ} {ρ : List (List ℕ)} → Evaluates s input q Γ ρ → List Naming
way evaluates_root = []
way (evaluates_tuple_first {q = q} e c) = record { by = q; at = 2 } ∷ way c
way (evaluates_tuple_second {q = q} e c) = record { by = q; at = 3 } ∷ way c
way (evaluates_first {q = q} e c) = record { by = q; at = 2 } ∷ way c
way (evaluates_second {q = q} e c) = record { by = q; at = 2 } ∷ way c
way (evaluates_let_defining {q = q} e c) = record { by = q; at = 2 } ∷ way c
way (evaluates_let_body {q = q} e c) = record { by = q; at = 3 } ∷ way c
way (evaluates_feedback_defining {q = q} e c) = record { by = q; at = 3 } ∷ way c
way (evaluates_feedback_body {q = q} e c) = record { by = q; at = 4 } ∷ way c
way (evaluates_if_tested {q = q} e c) = record { by = q; at = 2 } ∷ way c
way (evaluates_if_then {q = q} e c) = record { by = q; at = 3 } ∷ way c
way (evaluates_if_else {q = q} e c) = record { by = q; at = 4 } ∷ way c
way (evaluates_delay {q = q} e c) = record { by = q; at = 4 } ∷ way c

-- Record r is reached exactly once: it is reached, and each way in which it is reached is the same, with the same names and values.
pub record EvaluatedOnce (s input : List ℕ) (r : ℕ) : Type 0 where
  pub names : List ℕ
  pub values : List (List ℕ)
  pub reached : Evaluates s input r names values
  pub only : (Γ : List ℕ) (ρ : List (List ℕ)) (e : Evaluates s input r Γ ρ)
      → (Γ ≡ names) × (ρ ≡ values) × (way e ≡ way reached)

-- One number a record: at an IF that of the first alternative of its chain that says yes on the value of its tested part, where the
-- evaluation reaches the IF; 0 at every other record.
pub record FiredWords (s input : List ℕ) : Type 0 where
  pub one_a_record : length (fired s input) ≡ count s
  pub at_if : (r : ℕ) (Γ : List ℕ) (ρ : List (List ℕ)) → Evaluates s input r Γ ρ → kind_at s r ≡ expression if_matches
      → get_or (fired s input) r 0 ≡ first_yes s (alternatives s (word_d s r)) (value_at undecided_rule s Γ ρ (word_a s r))
  pub elsewhere : (r : ℕ) → kind_at s r ≢ expression if_matches → get_or (fired s input) r 0 ≡ 0

-- an alternative: its record, and the pattern that it says without those after it
pub record OneAlternative : Type 0 where
  pub number : ℕ
  pub says : Pattern

-- the alternatives of a chain in their order
abbrev pub alternative_list : (sheet : List ℕ) → Alternatives → List OneAlternative
alternative_list s end = []
alternative_list s no_pattern = []
alternative_list s (whole_type r t m) = record { number = r; says = Whole (type_at s t) } ∷ alternative_list s m
alternative_list s (one_constructor r t k m) =
    record { number = r; says = Constructor t (word_a s t) k } ∷ alternative_list s m
alternative_list s (pair_of_patterns r p q m) =
    record { number = r; says = Parts (pattern_of s p) (pattern_of s q) } ∷ alternative_list s m

-- it says yes on a value
abbrev pub SaysYes : List ℕ → OneAlternative → Type 0
SaysYes v a = matches a.says v ≡ Yes

-- none of them says yes
abbrev pub NoneYes : List ℕ → List OneAlternative → Type 0
NoneYes v xs = (a : OneAlternative) → Memᴰ a xs → SaysYes v a → ⊥

-- n is the record of one that says yes, while none before it does
pub record FirstYes (v : List ℕ) (xs : List OneAlternative) (n : ℕ) : Type 0 where
  pub before : List OneAlternative
  pub first : OneAlternative
  pub after : List OneAlternative
  pub whole : xs ≡ before ++ (first ∷ after)
  pub number_is : first.number ≡ n
  pub first-yes : SaysYes v first
  pub none_before : NoneYes v before

-- What is told of the chain that begins at record d, on a value: 0 exactly where none says yes, else the first that does; and some
-- number exactly where the whole pattern says yes.
pub record TellsFirst (s : List ℕ) (d : ℕ) (v : List ℕ) : Type 0 where
  pub none : (first_yes s (alternatives s d) v ≡ 0) ↔ NoneYes v (alternative_list s (alternatives s d))
  pub some : first_yes s (alternatives s d) v ≢ 0
      → FirstYes v (alternative_list s (alternatives s d)) (first_yes s (alternatives s d) v)
  pub pattern_yes : (first_yes s (alternatives s d) v ≢ 0) ↔ (matches (pattern_of s (alternatives s d)) v ≡ Yes)
