-- A pattern matched on words of sets: what is asked, and what comes of it.
use Rattle.std.specs.Prelude.{ℕ, ◌≤◌, ◌<◌, ◌≡◌, true, List, [], eqb}
use Rattle.std.specs.Int.Bits.{bit_and}
use Rattle.picoella.specs.Language.{Whole}
use Rattle.records.specs.Words.{count, word_a, next_word}
use Rattle.records.specs.Kinds.{type_of, flat}
use Rattle.records.specs.Says.{kind_at}
use Rattle.records.specs.Trees.{type_at, Alternatives, end, no_pattern, whole_type, one_constructor, pair_of_patterns, alternatives, follow}
use Rattle.records.specs.Decoding.{pattern_of}
use Rattle.typing.specs.Judgements.{pattern_fits}
use Rattle.typing.specs.Judging.{Fitting}
use Rattle.meaning.specs.Decisions.{Decision}
use Rattle.values.specs.MatchAnswers.{decision_of}
use Rattle.values.specs.Matchings.{with_rest}
use Rattle.values.specs.declared.Match.{Match}
use Rattle.possibilities.specs.Sets.{ConstructorSet, only_one, union, set_word, set_words}
use Rattle.possibilities.specs.SetMatching.{named_set, by_tests, set_matches, pattern_type}

-- every flat type has at most 64 constructors
abbrev pub FewConstructors : List ℕ → Type 0
FewConstructors s = (r : ℕ) → r < count s → kind_at s r ≡ type_of flat → word_a s r ≤ 64

-- the constructors that alternatives of a flat type name
abbrev pub chain_named : List ℕ → Alternatives → ConstructorSet
chain_named s end = []
chain_named s no_pattern = []
chain_named s (whole_type r t m) = union (named_set (Whole (type_at s t))) (chain_named s m)
chain_named s (one_constructor r t k m) = union (only_one k) (chain_named s m)
chain_named s (pair_of_patterns r p q m) = chain_named s m

-- a pattern of the flat type t
pub record FlatFitting (s : List ℕ) (n p t : ℕ) : Type 0 where
  pub against : Fitting s n p t
  pub flat_kind : kind_at s t ≡ type_of flat
  pub fits : pattern_fits s (alternatives s p) t ≡ true
  pub few : FewConstructors s

-- the constructors that the alternative at p names, beside those after it
pub record NamedOne (s : List ℕ) (p named : ℕ) : Type 0 where
  pub set : ConstructorSet
  pub word_is : named ≡ set_word set
  pub first_of : chain_named s (alternatives s p) ≡ union set (chain_named s (follow end (alternatives s) (next_word s p)))

-- the answer on a flat type
abbrev pub tested_words : (named possible : ℕ) → Decision
tested_words named w = by_tests (eqb (bit_and w named) w) (eqb (bit_and w named) 0)

-- the answer of all alternatives from p on the sets of these words
pub record SetsMatched (s : List ℕ) (p : ℕ) (value : List ℕ) (answer : Match) : Type 0 where
  pub decides : (Ss : List ConstructorSet) → value ≡ set_words Ss
      → decision_of answer ≡ set_matches (pattern_type (pattern_of s (alternatives s p))) (pattern_of s (alternatives s p)) Ss

-- the answer of the alternative at p, of a pair type, beside those after it
pub record SetsMatchedOne (s : List ℕ) (p : ℕ) (value : List ℕ) (answer : Match) : Type 0 where
  pub decides : (Ss : List ConstructorSet) → value ≡ set_words Ss
      → set_matches (pattern_type (pattern_of s (alternatives s p))) (pattern_of s (alternatives s p)) Ss
      ≡ with_rest (λ q. set_matches (pattern_type (pattern_of s (alternatives s p))) q Ss) (decision_of answer) s
      (follow end (alternatives s) (next_word s p))
