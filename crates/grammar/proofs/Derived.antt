-- The machine reads on tokens what the grammar derives: from the state that awaits a part of a production it comes to the state that waits
-- for that part, with the rest to read. By induction on the derivation, a line a production.
-- Assumes nothing.
use Prim.Native.Nat.{ℕ}
use mathlib.Core.Path.{◌≡◌, refl, ◌∙◌}
use mathlib.Core.List.{List, [], ◌∷◌}
use Rattle.grammar.specs.Tokens.{Token, symbol, name_token, bar, index_opens, index_closes, one, two}
use Rattle.grammar.specs.Source.{Identifier, Declaration, SourceConstant, SourcePattern, Expression, Text}
use Rattle.grammar.specs.Grammar.{ReadsOthers, no_other, one_other, ReadsDeclaration, reads_constructors, reads_pair_of}
use Rattle.grammar.specs.Grammar.{ReadsConstant, reads_constructor, reads_undefined, reads_both}
use Rattle.grammar.specs.Grammar.{ReadsPattern, reads_alone, reads_parts, reads_alone_or, reads_parts_or}
use Rattle.grammar.specs.Grammar.{ReadsExpression, reads_named, reads_undefined_of, reads_pair, reads_first, reads_second, reads_let}
use Rattle.grammar.specs.Grammar.{reads_let_rec, reads_if, reads_delay, ReadsMore, no_more, one_more, ReadsText, reads_text}
use Rattle.grammar.specs.Rows.{State, start, declared, constructor_end, expression, bracket, pattern, constant, index, done}
use Rattle.grammar.specs.Rows.{in_pair_first, in_pair_second, in_let_bound, in_let_body, in_rec_bound, in_rec_body, in_tested, in_matched, in_then, in_else}
use Rattle.grammar.specs.Rows.{in_pattern_first, in_pattern_second, in_constant_first, in_constant_second, in_delay_constant, in_delayed}
use Rattle.grammar.specs.Machine.{Config, live, no_word, back, after_tokens}

-- the machine with no word begun
abbrev pub at : State → List State → Config
at q K = live q K no_word

others : {a r : List Token} {cs : List Identifier} (K : List State)
    → ReadsOthers a cs r → after_tokens (at constructor_end K) a ≡ after_tokens (at declared K) r
others K no_other = refl
others K (one_other h) = others K h

declaration : {a r : List Token} {d : Declaration} (K : List State)
    → ReadsDeclaration a d r → after_tokens (at declared K) a ≡ after_tokens (at declared K) r
declaration K (reads_constructors h) = others K h
declaration K reads_pair_of = refl

first-declaration : {a r : List Token} {d : Declaration} (K : List State)
    → ReadsDeclaration a d r → after_tokens (at start K) a ≡ after_tokens (at declared K) r
first-declaration K (reads_constructors h) = others K h
first-declaration K reads_pair_of = refl

more : {a r : List Token} {ds : List Declaration} {w : List ℕ} {p : ℕ} (K : List State)
    → ReadsMore a ds (name_token w p ∷ r) → after_tokens (at declared K) a ≡ after_tokens (at expression K) r
more K no_more = refl
more K (one_more h k) = declaration K h ∙ more K k

constants : {a r : List Token} {c : SourceConstant} (K : List State)
    → ReadsConstant a c r → after_tokens (at constant K) a ≡ after_tokens (back K no_word) r
constants K reads_constructor = refl
constants K reads_undefined = refl
constants K (reads_both h k) = constants (in_constant_first ∷ K) h ∙ constants (in_constant_second ∷ K) k

-- a state after which a bar goes on with a pattern
abbrev Barred : State → List State → Type 0
Barred q K = (p : ℕ) (b : List Token) → after_tokens (at q K) (symbol bar p ∷ b) ≡ after_tokens (at pattern (q ∷ K)) b

patterns : {a r : List Token} {m : SourcePattern} (q : State) (K : List State) → Barred q K
    → ReadsPattern a m r → after_tokens (at pattern (q ∷ K)) a ≡ after_tokens (at q K) r
patterns q K b reads_alone = refl
patterns q K b (reads_parts h k) =
    patterns in_pattern_first (q ∷ K) (λ p c. refl) h ∙ patterns in_pattern_second (q ∷ K) (λ p c. refl) k
patterns q K b (reads_alone_or {q = s} {a} h) = b s a ∙ patterns q K b h
patterns q K b (reads_parts_or {t} {c} h k l) =
    patterns in_pattern_first (q ∷ K) (λ p c. refl) h ∙ patterns in_pattern_second (q ∷ K) (λ p c. refl) k ∙ b t c ∙ patterns q K b l

-- a stack under which `[` begins an index
abbrev Indexed : List State → Type 0
Indexed K = (p : ℕ) (b : List Token) → after_tokens (back K no_word) (symbol index_opens p ∷ b) ≡ after_tokens (at index K) b

-- after a bracket an expression is the first of a pair
in-bracket : {a r : List Token} {e : Expression} (K : List State)
    → ReadsExpression a e r → after_tokens (at bracket K) a ≡ after_tokens (at expression (in_pair_first ∷ K)) a
in-bracket K reads_named = refl
in-bracket K reads_undefined_of = refl
in-bracket K (reads_pair h k) = refl
in-bracket K (reads_first h) = in-bracket K h
in-bracket K (reads_second h) = in-bracket K h
in-bracket K (reads_let h k) = refl
in-bracket K (reads_let_rec h k) = refl
in-bracket K (reads_if h m k l) = refl
in-bracket K (reads_delay h k) = refl

expressions : {a r : List Token} {e : Expression} (K : List State) → Indexed K
    → ReadsExpression a e r → after_tokens (at expression K) a ≡ after_tokens (back K no_word) r
expressions K i reads_named = refl
expressions K i reads_undefined_of = refl
expressions K i (reads_pair h k) =
    in-bracket K h ∙ expressions (in_pair_first ∷ K) (λ p b. refl) h ∙ expressions (in_pair_second ∷ K) (λ p b. refl) k
expressions K i (reads_first {p} {q} {s} {r} h) = expressions K i h ∙ i p (symbol one q ∷ symbol index_closes s ∷ r)
expressions K i (reads_second {p} {q} {s} {r} h) = expressions K i h ∙ i p (symbol two q ∷ symbol index_closes s ∷ r)
expressions K i (reads_let h k) = expressions (in_let_bound ∷ K) (λ p b. refl) h ∙ expressions (in_let_body ∷ K) (λ p b. refl) k
expressions K i (reads_let_rec h k) = expressions (in_rec_bound ∷ K) (λ p b. refl) h ∙ expressions (in_rec_body ∷ K) (λ p b. refl) k
expressions K i (reads_if h m k l) =
    expressions (in_tested ∷ K) (λ p b. refl) h
    ∙ patterns in_matched K (λ p b. refl) m
    ∙ expressions (in_then ∷ K) (λ p b. refl) k
    ∙ expressions (in_else ∷ K) (λ p b. refl) l
expressions K i (reads_delay h k) = constants (in_delay_constant ∷ K) h ∙ expressions (in_delayed ∷ K) (λ p b. refl) k

-- a text's tokens bring the machine to its end
pub derived : {ts : List Token} {t : Text} → ReadsText ts t → after_tokens (at start []) ts ≡ at done []
derived (reads_text d ds e) = first-declaration [] d ∙ more [] ds ∙ expressions [] (λ p b. refl) e
