-- The type rules (docs/SHEETS.md, "Type rules") as a list of judgements in the order of code 7 ("Codes"): parts a, b, c, then the
-- whole; an IF's pattern after a, reported at the IF. A judgement is a rule and the record at which it is reported. Types are type
-- records, and the same only as the same record; 0 stands for none, and comes only after a judgement that fails.
use Rattle.std.specs.Prelude.{ℕ, Bool, true, false, cond, ◌&&◌, List, [], ◌∷◌, ◌++◌, length, eqb, ltb, leb}
use Rattle.std.proofs.Math.Option.{Option, none, some}
use Rattle.picoella.specs.Language.{bounds}
use Rattle.records.specs.Words.{word_a, word_b}
use Rattle.records.specs.Kinds.{is_pair}
use Rattle.records.specs.Says.{kind_at}
use Rattle.records.specs.Trees.{
  type_at,
  pair_of,
  Alternatives,
  end,
  no_pattern,
  whole_type,
  one_constructor,
  pair_of_patterns,
  Tree,
  no_expression,
  constant_of,
  name_of,
  tuple_of,
  first_of,
  second_of,
  let_of,
  feedback_of,
  if_of,
  delay_of,
  type_record_of,
}
use Rattle.records.specs.Decoding.{leaf_values}

pub data Rule : Type 0 where
  leaves_fit : (type : ℕ) (leaves : List ℕ) → Rule  -- as many leaves as the type, each no greater than its flat type's count
  in_scope : (distance names : ℕ) → Rule  -- a name's number is below the count of names in scope
  pair_declared : (first second : ℕ) → Rule  -- a pair record of exactly those two types
  pair_type : (type : ℕ) → Rule  -- first and second part need a pair type
  same_type : (type other : ℕ) → Rule  -- the same record
  pattern_has : (tested : ℕ) → Alternatives → Rule  -- each alternative has the tested type, pair patterns part by part
  no_rule : Rule  -- where an expression is missing: fails

pub record Judgement : Type 0 where
  pub at : ℕ
  pub rule : Rule

-- as many leaves as bounds, each no greater than its bound
abbrev pub within : List ℕ → List ℕ → Bool
within [] [] = true
within [] (v ∷ vs) = false
within (n ∷ ns) [] = false
within (n ∷ ns) (v ∷ vs) = leb v n && within ns vs

-- each alternative has the type t, pair patterns part by part
abbrev pub pattern_fits : List ℕ → Alternatives → ℕ → Bool
pattern_fits s end t = true
pattern_fits s no_pattern t = false
pattern_fits s (whole_type r u m) t = eqb u t && pattern_fits s m t
pattern_fits s (one_constructor r u k m) t = eqb u t && pattern_fits s m t
pattern_fits s (pair_of_patterns r p q m) t =
    is_pair (kind_at s t) && (pattern_fits s p (word_a s t) && (pattern_fits s q (word_b s t) && pattern_fits s m t))

abbrev pub holds : List ℕ → Rule → Bool
holds s (leaves_fit t ls) = within (bounds (type_at s t)) (leaf_values s ls)
holds s (in_scope k n) = ltb k n
holds s (pair_declared a b) = ltb 0 (pair_of s a b)
holds s (pair_type t) = is_pair (kind_at s t)
holds s (same_type t u) = eqb t u
holds s (pattern_has t p) = pattern_fits s p t
holds s no_rule = false

abbrev pub judge : ℕ → Rule → List Judgement
judge r rule = record { at = r; rule = rule } ∷ []

abbrev pub judgements : List ℕ → List ℕ → Tree → List Judgement
judgements s Γ no_expression = judge 0 no_rule
judgements s Γ (constant_of r t ls) = judge r (leaves_fit t ls)
judgements s Γ (name_of r k) = judge r (in_scope k (length Γ))
judgements s Γ (tuple_of r a b) =
    judgements s Γ a ++ (judgements s Γ b ++ judge r (pair_declared (type_record_of s Γ a) (type_record_of s Γ b)))
judgements s Γ (first_of r a) = judgements s Γ a ++ judge r (pair_type (type_record_of s Γ a))
judgements s Γ (second_of r a) = judgements s Γ a ++ judge r (pair_type (type_record_of s Γ a))
judgements s Γ (let_of r a b) = judgements s Γ a ++ judgements s (type_record_of s Γ a ∷ Γ) b
judgements s Γ (feedback_of r t a b) =
    judgements s (t ∷ Γ) a ++ (judgements s (t ∷ Γ) b ++ judge r (same_type (type_record_of s (t ∷ Γ) a) t))
judgements s Γ (if_of r a p b c) =
    judgements s Γ a
    ++ (judge r (pattern_has (type_record_of s Γ a) p)
    ++ (judgements s Γ b ++ (judgements s Γ c ++ judge r (same_type (type_record_of s Γ b) (type_record_of s Γ c)))))
judgements s Γ (delay_of r t ls a) =
    judgements s Γ a ++ (judge r (leaves_fit t ls) ++ judge r (same_type (type_record_of s Γ a) t))

-- the record of the first judgement that fails
abbrev pub first_failing : List ℕ → List Judgement → Option ℕ
first_failing s [] = none
first_failing s (j ∷ js) = cond (holds s j.rule) (first_failing s js) (some j.at)
