-- Matching on sets (document 02 (n)): "On a flat type a pattern chain says yes if it names every possible constructor (a whole type names
-- all), no if it names none, else undecided; on pairs document 01's rules apply to these answers."
use Rattle.std.specs.Prelude.{ℕ, Bool, true, false, List, [], get_or, take, drop}
use Rattle.picoella.specs.Language.{Ty, Flat, TyTuple, leaves, Pattern, Whole, Constructor, Parts, Bar}
use Rattle.meaning.specs.Decisions.{Decision, Yes, No, Undecided, pair_decision, chain_decision}
use Rattle.possibilities.specs.Sets.{ConstructorSet, every_one, only_one, union, subset, disjoint}

-- The constructors that a pattern of a flat type names. 000, §3.3.5, converts choosers to sets so: a constructor to the set of it alone,
-- a type name to all constants of the type, and `ch | ch'` to the union of both. It makes a pair of choosers the product of their sets;
-- here sets go leaf by leaf, and pairs are answered by `set_matches`.
abbrev pub named_set : Pattern → ConstructorSet
named_set (Whole (Flat r n)) = every_one n
named_set (Whole (TyTuple σ τ)) = []
named_set (Constructor r n k) = only_one k
named_set (Parts p q) = []
named_set (Bar p q) = union (named_set p) (named_set q)

abbrev pub by_tests : (all_named none_named : Bool) → Decision
by_tests true b = Yes
by_tests false true = No
by_tests false false = Undecided

-- The answer on a flat type, from the constructors named and those possible. 000: the THEN branch "if the input c is a subset of the
-- chooser", the ELSE branch "if it is a subset of the complement", and else "we cannot decide between the two branches".
abbrev pub flat_decision : (named possible : ConstructorSet) → Decision
flat_decision T S = by_tests (subset S T) (disjoint S T)

-- The answer of a pattern of this type on the sets of a value's leaves; a pair type has no constructor pattern.
abbrev pub set_matches : Ty → Pattern → List ConstructorSet → Decision
set_matches (Flat r n) p Ss = flat_decision (named_set p) (get_or Ss 0 [])
set_matches (TyTuple σ τ) (Whole υ) Ss = Yes
set_matches (TyTuple σ τ) (Constructor r n k) Ss = Undecided
set_matches (TyTuple σ τ) (Parts p q) Ss =
    pair_decision (set_matches σ p (take (leaves σ) Ss)) (set_matches τ q (drop (leaves σ) Ss))
set_matches (TyTuple σ τ) (Bar p q) Ss = chain_decision (set_matches (TyTuple σ τ) p Ss) (set_matches (TyTuple σ τ) q Ss)

-- the type that a pattern is for, which the pattern itself has
abbrev pub pattern_type : Pattern → Ty
pattern_type (Whole τ) = τ
pattern_type (Constructor r n k) = Flat r n
pattern_type (Parts p q) = TyTuple (pattern_type p) (pattern_type q)
pattern_type (Bar p q) = pattern_type p
