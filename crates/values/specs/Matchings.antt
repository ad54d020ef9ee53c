-- A value matched against a pattern of its type; a match of one alternative, and of those after it.
use Rattle.std.specs.Prelude.{ℕ, ◌<◌, ◌≡◌, true, List, length, get_or}
use Rattle.records.specs.Limits.{most_records}
use Rattle.picoella.specs.Language.{leaves, Pattern}
use Rattle.records.specs.Words.{count, next_word}
use Rattle.records.specs.Kinds.{patterns}
use Rattle.records.specs.Says.{sort_at}
use Rattle.records.specs.Trees.{type_at, Alternatives, end, no_pattern, whole_type, one_constructor, pair_of_patterns, alternatives, follow}
use Rattle.records.specs.Decoding.{pattern_of}
use Rattle.typing.specs.Judgements.{pattern_fits}
use Rattle.typing.specs.Judging.{Fitting}
use Rattle.verdict.specs.Widths.{pattern_entry}
use Rattle.meaning.specs.Matching.{matches}
use Rattle.meaning.specs.Decisions.{Decision, chain_decision}
use Rattle.meaning.specs.Undecided.{undecided_rule}
use Rattle.meaning.specs.Evaluation.{choose}
use Rattle.behaviour.specs.Firing.{or_after, first_yes}
use Rattle.values.specs.MatchAnswers.{decision_of, told}
use Rattle.values.specs.declared.Match.{Match}

pub record Matching (s : List ℕ) (n : ℕ) (widths : List ℕ) (p : ℕ) (value : List ℕ) : Type 0 where
  pub type : ℕ
  pub against : Fitting s n p type
  pub table : (q : ℕ) → q < count s → sort_at s q ≡ patterns → get_or widths q 0 ≡ pattern_entry s q
  pub fits : pattern_fits s (alternatives s p) type ≡ true
  pub long : length value ≡ leaves (type_at s type)

-- the answer of a first alternative, with those after it, where each pattern says something
abbrev pub with_rest : (says : Pattern → Decision) → Decision → List ℕ → Alternatives → Decision
with_rest says a s end = a
with_rest says a s no_pattern = a
with_rest says a s (whole_type r t m) = chain_decision a (says (pattern_of s (whole_type r t m)))
with_rest says a s (one_constructor r t k m) = chain_decision a (says (pattern_of s (one_constructor r t k m)))
with_rest says a s (pair_of_patterns r p q m) = chain_decision a (says (pattern_of s (pair_of_patterns r p q m)))

-- a match of all alternatives from p: the answer, and the record of the first that says yes, 0 where none does
pub record MatchedAll (s : List ℕ) (p : ℕ) (v : List ℕ) (answer : Match) : Type 0 where
  pub decides : decision_of answer ≡ matches (pattern_of s (alternatives s p)) v
  pub tells : told answer ≡ first_yes s (alternatives s p) v
  pub few : told answer < most_records

-- a match of the alternative at p, beside those after it
pub record MatchedOne (s : List ℕ) (p : ℕ) (v : List ℕ) (answer : Match) : Type 0 where
  pub decides : matches (pattern_of s (alternatives s p)) v
      ≡ with_rest (λ q. matches q v) (decision_of answer) s (follow end (alternatives s) (next_word s p))
  pub tells : first_yes s (alternatives s p) v
      ≡ or_after (decision_of answer) (told answer) (first_yes s (follow end (alternatives s) (next_word s p)) v)
  pub few : told answer < most_records

-- the value of an IF whose pattern is at p, from the value tested and those of its branches, and the record of the first alternative
-- that says yes
pub record Chosen (s : List ℕ) (p : ℕ) (tested otherwise then value : List ℕ) (number : ℕ) : Type 0 where
  pub chosen : value ≡ choose undecided_rule (matches (pattern_of s (alternatives s p)) tested) then otherwise
  pub tells : number ≡ first_yes s (alternatives s p) tested
  pub few : number < most_records
