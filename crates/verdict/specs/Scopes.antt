-- The names in scope at an expression, and the first expression that has no type.
use Rattle.std.specs.Prelude.{ℕ, ◌<◌, ◌≡◌, List, [], ◌∷◌, map}
use Rattle.records.specs.Words.{word_a, word_b, word_c, count, word_d}
use Rattle.records.specs.Kinds.{
  tuple,
  first,
  second,
  let_in,
  feedback,
  if_matches,
  delay,
  expression,
  Kind,
  header,
  type_of,
  pattern,
  leaf,
  unknown,
  constant,
  name,
  expressions,
}
use Rattle.records.specs.Says.{kind_at, sort_at}
use Rattle.records.specs.Trees.{tree_at, type_record_of, type_at, Declared, alternatives}
use Rattle.picoella.specs.Language.{Ty, HasType, Typed}
use Rattle.records.specs.Decoding.{pattern_of, expression_of}

-- Which names are in scope at an expression of the circuit (docs/SHEETS.md, "Type rules": "The input is the outermost, with the
-- header's input type. In the body of a LET there is one name more, of the defining part's type. In both parts of a feedback there is
-- one more, of the type in its word `a`."). A scope lists the names' type records, the innermost first.

-- the context of the whole circuit: the input alone, of the type in the header's word a
abbrev pub inputs : List ℕ → List ℕ
inputs s = word_a s 0 ∷ []

-- record q is an expression of the circuit, with the names of Γ in scope there: the root, or a part of such a record
pub data Scope (s : List ℕ) : ℕ → List ℕ → Type 0 where
  root : Scope s (word_b s 0) (inputs s)
  tuple_first : {q : ℕ} {Γ : List ℕ} → kind_at s q ≡ expression tuple → Scope s q Γ → Scope s (word_a s q) Γ
  tuple_second : {q : ℕ} {Γ : List ℕ} → kind_at s q ≡ expression tuple → Scope s q Γ → Scope s (word_b s q) Γ
  of-first : {q : ℕ} {Γ : List ℕ} → kind_at s q ≡ expression first → Scope s q Γ → Scope s (word_a s q) Γ
  of-second : {q : ℕ} {Γ : List ℕ} → kind_at s q ≡ expression second → Scope s q Γ → Scope s (word_a s q) Γ
  let_defining : {q : ℕ} {Γ : List ℕ} → kind_at s q ≡ expression let_in → Scope s q Γ → Scope s (word_a s q) Γ
  let_body : {q : ℕ} {Γ : List ℕ}
      → kind_at s q ≡ expression let_in → Scope s q Γ → Scope s (word_b s q) (type_record_of s Γ (tree_at s (word_a s q)) ∷ Γ)
  feedback_defining : {q : ℕ} {Γ : List ℕ}
      → kind_at s q ≡ expression feedback → Scope s q Γ → Scope s (word_b s q) (word_a s q ∷ Γ)
  feedback_body : {q : ℕ} {Γ : List ℕ}
      → kind_at s q ≡ expression feedback → Scope s q Γ → Scope s (word_c s q) (word_a s q ∷ Γ)
  if_tested : {q : ℕ} {Γ : List ℕ} → kind_at s q ≡ expression if_matches → Scope s q Γ → Scope s (word_a s q) Γ
  if_then : {q : ℕ} {Γ : List ℕ} → kind_at s q ≡ expression if_matches → Scope s q Γ → Scope s (word_b s q) Γ
  if_else : {q : ℕ} {Γ : List ℕ} → kind_at s q ≡ expression if_matches → Scope s q Γ → Scope s (word_c s q) Γ
  of-delay : {q : ℕ} {Γ : List ℕ} → kind_at s q ≡ expression delay → Scope s q Γ → Scope s (word_c s q) Γ

-- Where code 7 is reported, in the terms of the typing relation alone (docs/SHEETS.md, "Codes": "first such record, parts before the
-- whole"; code 7 "goes through the expressions from the root, parts `a`, `b`, `c` first and then the whole. In an IF the pattern is
-- judged after part `a` and before the branches, and is reported at the IF").

-- the expression at record q has the type τ by the rules of picoELLA, where the names of Γ are in scope
abbrev pub TypedAt : List ℕ → List ℕ → ℕ → Ty → Type 0
TypedAt s Γ q τ = Typed (Declared s) (map (type_at s) Γ) (expression_of s (tree_at s q)) τ

-- it has one, or has none
abbrev pub WellTypedAt : List ℕ → List ℕ → ℕ → Type 0
WellTypedAt s Γ q = (τ : Ty) × TypedAt s Γ q τ

abbrev pub IllTypedAt : List ℕ → List ℕ → ℕ → Type 0
IllTypedAt s Γ q = (τ : Ty) → TypedAt s Γ q τ → ⊥

-- the pattern of the IF at record q has the type of its tested part
abbrev pub PatternHasTested : List ℕ → List ℕ → ℕ → Type 0
PatternHasTested s Γ q =
    (σ : Ty) × TypedAt s Γ (word_a s q) σ × HasType (pattern_of s (alternatives s (word_d s q))) σ

-- Judging comes to record q, with the names of Γ in scope: it is the root, or a part of such a record of which every part judged
-- before has a type; of an IF, the pattern too has the tested type before the branches are judged.
pub data Reached (s : List ℕ) : ℕ → List ℕ → Type 0 where
  at-root : Reached s (word_b s 0) (inputs s)
  in_tuple_first : {q : ℕ} {Γ : List ℕ} → kind_at s q ≡ expression tuple → Reached s q Γ → Reached s (word_a s q) Γ
  in_tuple_second : {q : ℕ} {Γ : List ℕ}
      → kind_at s q ≡ expression tuple → Reached s q Γ → WellTypedAt s Γ (word_a s q) → Reached s (word_b s q) Γ
  in_first : {q : ℕ} {Γ : List ℕ} → kind_at s q ≡ expression first → Reached s q Γ → Reached s (word_a s q) Γ
  in_second : {q : ℕ} {Γ : List ℕ} → kind_at s q ≡ expression second → Reached s q Γ → Reached s (word_a s q) Γ
  in_let_defining : {q : ℕ} {Γ : List ℕ} → kind_at s q ≡ expression let_in → Reached s q Γ → Reached s (word_a s q) Γ
  in-let-body : {q : ℕ} {Γ : List ℕ}
      → kind_at s q ≡ expression let_in → Reached s q Γ → WellTypedAt s Γ (word_a s q)
      → Reached s (word_b s q) (type_record_of s Γ (tree_at s (word_a s q)) ∷ Γ)
  in_feedback_defining : {q : ℕ} {Γ : List ℕ}
      → kind_at s q ≡ expression feedback → Reached s q Γ → Reached s (word_b s q) (word_a s q ∷ Γ)
  in_feedback_body : {q : ℕ} {Γ : List ℕ}
      → kind_at s q ≡ expression feedback → Reached s q Γ → WellTypedAt s (word_a s q ∷ Γ) (word_b s q)
      → Reached s (word_c s q) (word_a s q ∷ Γ)
  in_if_tested : {q : ℕ} {Γ : List ℕ} → kind_at s q ≡ expression if_matches → Reached s q Γ → Reached s (word_a s q) Γ
  in_if_then : {q : ℕ} {Γ : List ℕ}
      → kind_at s q ≡ expression if_matches → Reached s q Γ → PatternHasTested s Γ q → Reached s (word_b s q) Γ
  in_if_else : {q : ℕ} {Γ : List ℕ}
      → kind_at s q ≡ expression if_matches → Reached s q Γ → PatternHasTested s Γ q → WellTypedAt s Γ (word_b s q)
      → Reached s (word_c s q) Γ
  in_delay : {q : ℕ} {Γ : List ℕ} → kind_at s q ≡ expression delay → Reached s q Γ → Reached s (word_c s q) Γ

-- Every part judged before what is reported at record r, of this kind, has a type: all its parts; but of an IF the branches only
-- where the pattern has the tested type, since else the pattern is what is reported. At a LET nothing is reported.
abbrev pub PartsTyped : List ℕ → List ℕ → ℕ → Kind → Type 0
PartsTyped s Γ r header = ⊥
PartsTyped s Γ r (type_of k) = ⊥
PartsTyped s Γ r (expression constant) = Unit {0}
PartsTyped s Γ r (expression name) = Unit {0}
PartsTyped s Γ r (expression tuple) = WellTypedAt s Γ (word_a s r) × WellTypedAt s Γ (word_b s r)
PartsTyped s Γ r (expression first) = WellTypedAt s Γ (word_a s r)
PartsTyped s Γ r (expression second) = WellTypedAt s Γ (word_a s r)
PartsTyped s Γ r (expression let_in) = ⊥
PartsTyped s Γ r (expression feedback) =
    WellTypedAt s (word_a s r ∷ Γ) (word_b s r) × WellTypedAt s (word_a s r ∷ Γ) (word_c s r)
PartsTyped s Γ r (expression if_matches) =
    WellTypedAt s Γ (word_a s r) × (PatternHasTested s Γ r → WellTypedAt s Γ (word_b s r) × WellTypedAt s Γ (word_c s r))
PartsTyped s Γ r (expression delay) = WellTypedAt s Γ (word_c s r)
PartsTyped s Γ r (pattern k) = ⊥
PartsTyped s Γ r leaf = ⊥
PartsTyped s Γ r unknown = ⊥

-- Record r is the first expression without a type: in the scope in which it stands it has none, while every part judged before
-- it has one, of its own parts and of the expressions around it.
pub record FirstIllTyped (s : List ℕ) (r : ℕ) : Type 0 where
  pub there : r < count s
  pub sort : sort_at s r ≡ expressions
  pub names : List ℕ
  pub scope : Scope s r names
  pub untyped : IllTypedAt s names r
  pub parts : PartsTyped s names r (kind_at s r)
  pub reached : Reached s r names
