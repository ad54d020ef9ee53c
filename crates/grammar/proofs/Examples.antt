-- The definitions run on examples: the places of texts that leave the grammar, each proved of the productions and not of the machine alone,
-- and a text with its tokens and its abstract text, derived by hand.
-- Assumes nothing.
use Prim.Native.Nat.{ℕ}
use mathlib.Core.Path.{refl}
use mathlib.Core.List.{List, [], ◌∷◌}
use Rattle.grammar.specs.Tokens.{Token, keyword, symbol, name_token, TYPE, IN, INPUT, equals, opens, comma, query, closes}
use Rattle.grammar.specs.Tokens.{index_opens, two, index_closes, no_token, a_blank, a-symbol, a_word, run_last, run_more}
use Rattle.grammar.specs.Tokens.{lower_none, lower_more, spells_keyword, spells_name}
use Rattle.grammar.specs.Source.{Text, text, identifier, Constructors, NameUse, UndefinedOf, PairExpression, SecondOf}
use Rattle.grammar.specs.Grammar.{no_other, reads_constructors, no_more, reads_named, reads_undefined_of, reads_pair, reads_second, reads_text}
use Rattle.grammar.specs.Legal.{LeavesGrammar, Keeps, Reading}
use Rattle.grammar.specs.Walk.{first_illegal}
use Rattle.grammar.proofs.Exact.{first-illegal-exact}
use lib.Dec.{lit≤}

-- TYPX: a letter after which no keyword goes on
typx : LeavesGrammar (84 ∷ 89 ∷ 80 ∷ 88 ∷ []) 3
unfolding first_illegal
typx = first-illegal-exact (84 ∷ 89 ∷ 80 ∷ 88 ∷ [])

-- TYP : a keyword cut short
keyword-cut : LeavesGrammar (84 ∷ 89 ∷ 80 ∷ 32 ∷ []) 3
unfolding first_illegal
keyword-cut = first-illegal-exact (84 ∷ 89 ∷ 80 ∷ 32 ∷ [])

-- TYPEx: a run of letters is one token
keyword-run-on : LeavesGrammar (84 ∷ 89 ∷ 80 ∷ 69 ∷ 120 ∷ []) 4
unfolding first_illegal
keyword-run-on = first-illegal-exact (84 ∷ 89 ∷ 80 ∷ 69 ∷ 120 ∷ [])

-- the empty text: a text that ends early: its length
no_text : LeavesGrammar ([]) 0
unfolding first_illegal
no_text = first-illegal-exact ([])

-- TYPE a = b INPUT: after the constructors IN is awaited
in-for-input : LeavesGrammar (84 ∷ 89 ∷ 80 ∷ 69 ∷ 32 ∷ 97 ∷ 32 ∷ 61 ∷ 32 ∷ 98 ∷ 32 ∷ 73 ∷ 78 ∷ 80 ∷ 85 ∷ 84 ∷ []) 13
unfolding first_illegal
in-for-input = first-illegal-exact (84 ∷ 89 ∷ 80 ∷ 69 ∷ 32 ∷ 97 ∷ 32 ∷ 61 ∷ 32 ∷ 98 ∷ 32 ∷ 73 ∷ 78 ∷ 80 ∷ 85 ∷ 84 ∷ [])

-- TYPE aaaaaaaaaaaaaaaaa: the 17th letter of a name
seventeen-letters : LeavesGrammar (84 ∷ 89 ∷ 80 ∷ 69 ∷ 32 ∷ 97 ∷ 97 ∷ 97 ∷ 97 ∷ 97 ∷ 97 ∷ 97 ∷ 97 ∷ 97 ∷ 97 ∷ 97 ∷ 97 ∷ 97 ∷ 97 ∷ 97 ∷ 97 ∷ 97 ∷ []) 21
unfolding first_illegal
seventeen-letters = first-illegal-exact (84 ∷ 89 ∷ 80 ∷ 69 ∷ 32 ∷ 97 ∷ 97 ∷ 97 ∷ 97 ∷ 97 ∷ 97 ∷ 97 ∷ 97 ∷ 97 ∷ 97 ∷ 97 ∷ 97 ∷ 97 ∷ 97 ∷ 97 ∷ 97 ∷ 97 ∷ [])

-- TYPE a=b IN INPUT a (b): brackets never group
brackets-group : LeavesGrammar (84 ∷ 89 ∷ 80 ∷ 69 ∷ 32 ∷ 97 ∷ 61 ∷ 98 ∷ 32 ∷ 73 ∷ 78 ∷ 32 ∷ 73 ∷ 78 ∷ 80 ∷ 85 ∷ 84 ∷ 32 ∷ 97 ∷ 32 ∷ 40 ∷ 98 ∷ 41 ∷ []) 22
unfolding first_illegal
brackets-group = first-illegal-exact (84 ∷ 89 ∷ 80 ∷ 69 ∷ 32 ∷ 97 ∷ 61 ∷ 98 ∷ 32 ∷ 73 ∷ 78 ∷ 32 ∷ 73 ∷ 78 ∷ 80 ∷ 85 ∷ 84 ∷ 32 ∷ 97 ∷ 32 ∷ 40 ∷ 98 ∷ 41 ∷ [])

-- TYPE a=b IN INPUT a b[12]: one digit to an index
two_digits : LeavesGrammar (84 ∷ 89 ∷ 80 ∷ 69 ∷ 32 ∷ 97 ∷ 61 ∷ 98 ∷ 32 ∷ 73 ∷ 78 ∷ 32 ∷ 73 ∷ 78 ∷ 80 ∷ 85 ∷ 84 ∷ 32 ∷ 97 ∷ 32 ∷ 98 ∷ 91 ∷ 49 ∷ 50 ∷ 93 ∷ []) 23
unfolding first_illegal
two_digits = first-illegal-exact (84 ∷ 89 ∷ 80 ∷ 69 ∷ 32 ∷ 97 ∷ 61 ∷ 98 ∷ 32 ∷ 73 ∷ 78 ∷ 32 ∷ 73 ∷ 78 ∷ 80 ∷ 85 ∷ 84 ∷ 32 ∷ 97 ∷ 32 ∷ 98 ∷ 91 ∷ 49 ∷ 50 ∷ 93 ∷ [])

-- TYPE a=b IN INPUT a (DELAY (b[1], b)): no index on the constant of a DELAY
index-of-constant : LeavesGrammar (84 ∷ 89 ∷ 80 ∷ 69 ∷ 32 ∷ 97 ∷ 61 ∷ 98 ∷ 32 ∷ 73 ∷ 78 ∷ 32 ∷ 73 ∷ 78 ∷ 80 ∷ 85 ∷ 84 ∷ 32 ∷ 97 ∷ 32 ∷ 40 ∷ 68 ∷ 69 ∷ 76 ∷ 65 ∷ 89 ∷ 32 ∷ 40 ∷ 98 ∷ 91 ∷ 49 ∷ 93 ∷ 44 ∷ 32 ∷ 98 ∷ 41 ∷ 41 ∷ []) 29
unfolding first_illegal
index-of-constant = first-illegal-exact (84 ∷ 89 ∷ 80 ∷ 69 ∷ 32 ∷ 97 ∷ 61 ∷ 98 ∷ 32 ∷ 73 ∷ 78 ∷ 32 ∷ 73 ∷ 78 ∷ 80 ∷ 85 ∷ 84 ∷ 32 ∷ 97 ∷ 32 ∷ 40 ∷ 68 ∷ 69 ∷ 76 ∷ 65 ∷ 89 ∷ 32 ∷ 40 ∷ 98 ∷ 91 ∷ 49 ∷ 93 ∷ 44 ∷ 32 ∷ 98 ∷ 41 ∷ 41 ∷ [])

-- TYPE a=b IN INPUT a (IF b MATCHES ?a THEN b ELSE b): no ? in a pattern
query-in-pattern : LeavesGrammar (84 ∷ 89 ∷ 80 ∷ 69 ∷ 32 ∷ 97 ∷ 61 ∷ 98 ∷ 32 ∷ 73 ∷ 78 ∷ 32 ∷ 73 ∷ 78 ∷ 80 ∷ 85 ∷ 84 ∷ 32 ∷ 97 ∷ 32 ∷ 40 ∷ 73 ∷ 70 ∷ 32 ∷ 98 ∷ 32 ∷ 77 ∷ 65 ∷ 84 ∷ 67 ∷ 72 ∷ 69 ∷ 83 ∷ 32 ∷ 63 ∷ 97 ∷ 32 ∷ 84 ∷ 72 ∷ 69 ∷ 78 ∷ 32 ∷ 98 ∷ 32 ∷ 69 ∷ 76 ∷ 83 ∷ 69 ∷ 32 ∷ 98 ∷ 41 ∷ []) 34
unfolding first_illegal
query-in-pattern = first-illegal-exact (84 ∷ 89 ∷ 80 ∷ 69 ∷ 32 ∷ 97 ∷ 61 ∷ 98 ∷ 32 ∷ 73 ∷ 78 ∷ 32 ∷ 73 ∷ 78 ∷ 80 ∷ 85 ∷ 84 ∷ 32 ∷ 97 ∷ 32 ∷ 40 ∷ 73 ∷ 70 ∷ 32 ∷ 98 ∷ 32 ∷ 77 ∷ 65 ∷ 84 ∷ 67 ∷ 72 ∷ 69 ∷ 83 ∷ 32 ∷ 63 ∷ 97 ∷ 32 ∷ 84 ∷ 72 ∷ 69 ∷ 78 ∷ 32 ∷ 98 ∷ 32 ∷ 69 ∷ 76 ∷ 83 ∷ 69 ∷ 32 ∷ 98 ∷ 41 ∷ [])

-- TYPE a=b IN INPUT a b IN: after the expression anything but blanks and [
past_the_end : LeavesGrammar (84 ∷ 89 ∷ 80 ∷ 69 ∷ 32 ∷ 97 ∷ 61 ∷ 98 ∷ 32 ∷ 73 ∷ 78 ∷ 32 ∷ 73 ∷ 78 ∷ 80 ∷ 85 ∷ 84 ∷ 32 ∷ 97 ∷ 32 ∷ 98 ∷ 32 ∷ 73 ∷ 78 ∷ []) 22
unfolding first_illegal
past_the_end = first-illegal-exact (84 ∷ 89 ∷ 80 ∷ 69 ∷ 32 ∷ 97 ∷ 61 ∷ 98 ∷ 32 ∷ 73 ∷ 78 ∷ 32 ∷ 73 ∷ 78 ∷ 80 ∷ 85 ∷ 84 ∷ 32 ∷ 97 ∷ 32 ∷ 98 ∷ 32 ∷ 73 ∷ 78 ∷ [])

-- TYPE\ta: a tab is no blank
tab : LeavesGrammar (84 ∷ 89 ∷ 80 ∷ 69 ∷ 9 ∷ 97 ∷ []) 4
unfolding first_illegal
tab = first-illegal-exact (84 ∷ 89 ∷ 80 ∷ 69 ∷ 9 ∷ 97 ∷ [])

-- TYPE a=b IN INPUT a (b,: a text that could go on
unclosed : LeavesGrammar (84 ∷ 89 ∷ 80 ∷ 69 ∷ 32 ∷ 97 ∷ 61 ∷ 98 ∷ 32 ∷ 73 ∷ 78 ∷ 32 ∷ 73 ∷ 78 ∷ 80 ∷ 85 ∷ 84 ∷ 32 ∷ 97 ∷ 32 ∷ 40 ∷ 98 ∷ 44 ∷ []) 23
unfolding first_illegal
unclosed = first-illegal-exact (84 ∷ 89 ∷ 80 ∷ 69 ∷ 32 ∷ 97 ∷ 61 ∷ 98 ∷ 32 ∷ 73 ∷ 78 ∷ 32 ∷ 73 ∷ 78 ∷ 80 ∷ 85 ∷ 84 ∷ 32 ∷ 97 ∷ 32 ∷ 40 ∷ 98 ∷ 44 ∷ [])

-- TYPE a=b IN INPUT a (b,?a)[2]
abbrev example : List ℕ
example = 84 ∷ 89 ∷ 80 ∷ 69 ∷ 32 ∷ 97 ∷ 61 ∷ 98 ∷ 32 ∷ 73 ∷ 78 ∷ 32 ∷ 73 ∷ 78 ∷ 80 ∷ 85 ∷ 84 ∷ 32 ∷ 97 ∷ 32 ∷ 40 ∷ 98 ∷ 44 ∷ 63 ∷ 97 ∷ 41 ∷ 91 ∷ 50 ∷ 93 ∷ []

kept-example : Keeps example
unfolding first_illegal
kept-example = first-illegal-exact example

abbrev its-tokens : List Token
its-tokens =
    keyword TYPE 0 ∷ name_token (97 ∷ []) 5 ∷ symbol equals 6 ∷ name_token (98 ∷ []) 7 ∷ keyword IN 9 ∷ keyword INPUT 12 ∷ name_token (97 ∷ []) 18
    ∷ symbol opens 20 ∷ name_token (98 ∷ []) 21 ∷ symbol comma 22 ∷ symbol query 23 ∷ name_token (97 ∷ []) 24 ∷ symbol closes 25
    ∷ symbol index_opens 26 ∷ symbol two 27 ∷ symbol index_closes 28 ∷ []

abbrev its-text : Text
its-text =
    text (Constructors (identifier (97 ∷ []) 5) (identifier (98 ∷ []) 7) []) [] (identifier (97 ∷ []) 18)
    (SecondOf (PairExpression (NameUse (identifier (98 ∷ []) 21)) (UndefinedOf (identifier (97 ∷ []) 24))))

its-reading : Reading example its-tokens its-text
its-reading =
    record {
      lexed = a_word (run_more refl (run_more refl (run_more refl (run_last refl refl)))) (spells_keyword refl) (a_blank refl (a_word (run_last refl refl) (spells_name (lower_more refl lower_none) (lit≤ tt)) (a-symbol refl (a_word (run_last refl refl) (spells_name (lower_more refl lower_none) (lit≤ tt)) (a_blank refl (a_word (run_more refl (run_last refl refl)) (spells_keyword refl) (a_blank refl (a_word (run_more refl (run_more refl (run_more refl (run_more refl (run_last refl refl))))) (spells_keyword refl) (a_blank refl (a_word (run_last refl refl) (spells_name (lower_more refl lower_none) (lit≤ tt)) (a_blank refl (a-symbol refl (a_word (run_last refl refl) (spells_name (lower_more refl lower_none) (lit≤ tt)) (a-symbol refl (a-symbol refl (a_word (run_last refl refl) (spells_name (lower_more refl lower_none) (lit≤ tt)) (a-symbol refl (a-symbol refl (a-symbol refl (a-symbol refl (no_token)))))))))))))))))))));
      parsed = reads_text (reads_constructors no_other) no_more (reads_second (reads_pair reads_named reads_undefined_of));
    }
