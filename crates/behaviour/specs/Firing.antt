-- Which alternative fired (docs/SHEETS.md, "Which alternative fired"): "A match also tells the record of the first alternative of its
-- chain that says yes, or 0 if none does." The chain is the IF's own, that its word d begins; a chain inside a pair pattern is not told
-- of. Each IF's number is "taken from the evaluation in which every feedback that encloses the IF has its settled value".
use Rattle.std.specs.Prelude.{ℕ, List, [], ◌∷◌, ◌++◌, replicate}
use Rattle.picoella.specs.Language.{Whole, Constructor, Parts}
use Rattle.records.specs.Words.{count, word_a}
use Rattle.records.specs.Trees.{type_at, Alternatives, end, no_pattern, whole_type, one_constructor, pair_of_patterns, Tree, no_expression, constant_of, name_of, tuple_of, first_of, second_of, let_of, feedback_of, if_of, delay_of, circuit, type_record_of}
use Rattle.records.specs.Decoding.{pattern_of}
use Rattle.verdict.specs.Scopes.{inputs}
use Rattle.meaning.specs.Matching.{matches}
use Rattle.meaning.specs.Decisions.{Decision, Yes, No, Undecided}
use Rattle.meaning.specs.Undecided.{undecided_rule}
use Rattle.meaning.specs.Evaluation.{eval, settled}
use Rattle.behaviour.specs.Terms.{term}
use Rattle.behaviour.specs.Entries.{Entry, put_all, enter}

-- an alternative's record where it says yes, else what those after it tell
abbrev pub or_after : Decision → (own after : ℕ) → ℕ
or_after Yes r m = r
or_after No r m = m
or_after Undecided r m = m

-- the record number of the first alternative of a chain that says yes on a value, 0 where none does
abbrev pub first_yes : List ℕ → Alternatives → List ℕ → ℕ
first_yes s end v = 0
first_yes s no_pattern v = 0
first_yes s (whole_type r t m) v = or_after (matches (Whole (type_at s t)) v) r (first_yes s m v)
first_yes s (one_constructor r t k m) v = or_after (matches (Constructor t (word_a s t) k) v) r (first_yes s m v)
first_yes s (pair_of_patterns r p q m) v =
    or_after (matches (Parts (pattern_of s p) (pattern_of s q)) v) r (first_yes s m v)

module _ (undecided : List ℕ → List ℕ → List ℕ) where
  -- The number of each IF of a tree, at the IF's record, in the order of evaluation. Γ lists the type records of the names in scope
  -- and ρ their values, the innermost first. Both parts of a feedback are evaluated with its name at the settled value.
  abbrev pub firings : (sheet Γ : List ℕ) (ρ : List (List ℕ)) → Tree → List Entry
  firings s Γ ρ no_expression = []
  firings s Γ ρ (constant_of r t ls) = []
  firings s Γ ρ (name_of r k) = []
  firings s Γ ρ (tuple_of r a b) = firings s Γ ρ a ++ firings s Γ ρ b
  firings s Γ ρ (first_of r a) = firings s Γ ρ a
  firings s Γ ρ (second_of r a) = firings s Γ ρ a
  firings s Γ ρ (let_of r a b) =
      firings s Γ ρ a ++ firings s (type_record_of s Γ a ∷ Γ) (eval undecided ρ (term s Γ a) ∷ ρ) b
  firings s Γ ρ (feedback_of r t a b) =
      firings s (t ∷ Γ) (settled undecided ρ (type_at s t) (term s (t ∷ Γ) a) ∷ ρ) a
      ++ firings s (t ∷ Γ) (settled undecided ρ (type_at s t) (term s (t ∷ Γ) a) ∷ ρ) b
  firings s Γ ρ (if_of r a p b c) =
      firings s Γ ρ a
      ++ (firings s Γ ρ b
      ++ (firings s Γ ρ c ++ (record { place = r; value = first_yes s p (eval undecided ρ (term s Γ a)) } ∷ [])))
  firings s Γ ρ (delay_of r t ls a) = firings s Γ ρ a

-- one number for each record of a sheet: at an IF its number for this input, and 0 elsewhere
unfoldable pub fired : (sheet input : List ℕ) → List ℕ
fired s i = put_all enter (firings undecided_rule s (inputs s) (i ∷ []) (circuit s)) (replicate (count s) 0)
