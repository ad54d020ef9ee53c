-- Bytes have one list of tokens.
-- Assumes nothing.
use Prim.Native.Nat.{ℕ, ◌+◌}
use native.Mathlib.Omega.{arith}
use mathlib.Core.Path.{◌≡◌, refl, sym, ap, ap₂, subst, subst₂, ◌∙◌}
use mathlib.Core.Bool.{true, false, cond}
use mathlib.Core.List.{List, [], ◌∷◌}
use lib.ListN.{length, get_or}
use lib.Dec.{eqb}
use Rattle.grammar.specs.Tokens.{Token, keyword, symbol, Symbol, Keyword, spelling, Tokens, no_token, a_blank, a-symbol, a_word}
use Rattle.grammar.specs.Tokens.{TYPE, IN, INPUT, LET, INIT, REC, IF, MATCHES, THEN, ELSE, DELAY}
use Rattle.grammar.specs.Tokens.{is_blank, is_lower, is_upper, is_symbol, byte_class, is_letter, NoLetter}
use Rattle.grammar.specs.Tokens.{LetterRun, run_last, run_more, AllLower, lower_none, lower_more, Spells, spells_keyword, spells_name}

-- no list begins with two kinds of token
letter-no-blank : (b : ℕ) → is_letter (byte_class b) ≡ true → byte_class b ≡ is_blank → ⊥
letter-no-blank b h e = let f : true ≡ false = sym h ∙ ap is_letter e in let z : ◌≡◌ {A = ℕ} 0 1 = cc in omega arith

letter-no-symbol : (b : ℕ) (s : Symbol) → is_letter (byte_class b) ≡ true → byte_class b ≡ is_symbol s → ⊥
letter-no-symbol b s h e = let f : true ≡ false = sym h ∙ ap is_letter e in let z : ◌≡◌ {A = ℕ} 0 1 = cc in omega arith

run-letter : {b : ℕ} {bs word rest : List ℕ} → LetterRun (b ∷ bs) word rest → is_letter (byte_class b) ≡ true
run-letter (run_last h n) = h
run-letter (run_more h r) = h

no_run : {bs word rest : List ℕ} → NoLetter bs → LetterRun bs word rest → ⊥
no_run n (run_last {b} h e) = let f : true ≡ false = sym h ∙ n in let z : ◌≡◌ {A = ℕ} 0 1 = cc in omega arith
no_run n (run_more {b} h r) = let f : true ≡ false = sym h ∙ n in let z : ◌≡◌ {A = ℕ} 0 1 = cc in omega arith

one-run : {bs v w r q : List ℕ} → LetterRun bs v r → LetterRun bs w q → (v ≡ w) × (r ≡ q)
one-run (run_last h n) (run_last k m) = (refl, refl)
one-run (run_last h n) (run_more k r) = absurd (no_run n r)
one-run (run_more h r) (run_last k m) = absurd (no_run m r)
one-run (run_more {b} h r) (run_more k s) = let e = one-run r s in (ap (λ l. b ∷ l) e.0, e.1)

-- a keyword by its letters: the first three tell it
abbrev letter : List ℕ → ℕ → ℕ
letter w n = get_or w n 0

abbrev told : List ℕ → Keyword
told w =
    cond (eqb (letter w 1) 89) TYPE
    (cond (eqb (letter w 1) 72) THEN
    (cond (eqb (letter w 1) 70) IF
    (cond (eqb (letter w 1) 65) MATCHES
    (cond (eqb (letter w 1) 76) ELSE
    (cond (eqb (letter w 2) 0) IN
    (cond (eqb (letter w 2) 80) INPUT
    (cond (eqb (letter w 2) 73) INIT
    (cond (eqb (letter w 2) 67) REC
    (cond (eqb (letter w 2) 84) LET
    DELAY)))))))))

told-spelling : (k : Keyword) → told (spelling k) ≡ k
told-spelling TYPE = refl
told-spelling IN = refl
told-spelling INPUT = refl
told-spelling LET = refl
told-spelling INIT = refl
told-spelling REC = refl
told-spelling IF = refl
told-spelling MATCHES = refl
told-spelling THEN = refl
told-spelling ELSE = refl
told-spelling DELAY = refl

one-keyword : (j k : Keyword) → spelling j ≡ spelling k → j ≡ k
one-keyword j k e = sym (told-spelling j) ∙ ap told e ∙ told-spelling k

head_of : {a b : ℕ} {s t : List ℕ} → a ∷ s ≡ b ∷ t → a ≡ b
head_of e = cc

first-upper : (k : Keyword) (b : ℕ) (bs : List ℕ) → b ∷ bs ≡ spelling k → byte_class b ≡ is_upper
first-upper TYPE b bs e = ap byte_class (head_of e)
first-upper IN b bs e = ap byte_class (head_of e)
first-upper INPUT b bs e = ap byte_class (head_of e)
first-upper LET b bs e = ap byte_class (head_of e)
first-upper INIT b bs e = ap byte_class (head_of e)
first-upper REC b bs e = ap byte_class (head_of e)
first-upper IF b bs e = ap byte_class (head_of e)
first-upper MATCHES b bs e = ap byte_class (head_of e)
first-upper THEN b bs e = ap byte_class (head_of e)
first-upper ELSE b bs e = ap byte_class (head_of e)
first-upper DELAY b bs e = ap byte_class (head_of e)

empty-no-more : {b : ℕ} {bs : List ℕ} → ◌≡◌ {A = List ℕ} [] (b ∷ bs) → ⊥
empty-no-more e = let z : ◌≡◌ {A = ℕ} 0 1 = cc in omega arith

nothing : (k : Keyword) → [] ≡ spelling k → ⊥
nothing TYPE e = empty-no-more e
nothing IN e = empty-no-more e
nothing INPUT e = empty-no-more e
nothing LET e = empty-no-more e
nothing INIT e = empty-no-more e
nothing REC e = empty-no-more e
nothing IF e = empty-no-more e
nothing MATCHES e = empty-no-more e
nothing THEN e = empty-no-more e
nothing ELSE e = empty-no-more e
nothing DELAY e = empty-no-more e

not-keyword : (k : Keyword) {word : List ℕ} → AllLower word → word ≡ spelling k → ⊥
not-keyword k lower_none e = nothing k e
not-keyword k (lower_more {b} {bs} h a) e =
    let f : is_lower ≡ is_upper = sym h ∙ first-upper k b bs e in let z : ◌≡◌ {A = ℕ} 0 1 = cc in omega arith

one_token : {w : List ℕ} {i : ℕ} {t u : Token} → Spells w i t → Spells w i u → t ≡ u
one_token {i} (spells_keyword {k = j} e) (spells_keyword {k} f) = ap (λ x. keyword x i) (one-keyword j k (sym e ∙ f))
one_token (spells_keyword {k} e) (spells_name a l) = absurd (not-keyword k a e)
one_token (spells_name a l) (spells_keyword {k} e) = absurd (not-keyword k a e)
one_token (spells_name a l) (spells_name b m) = refl

pub one_lexing : {i : ℕ} {bs : List ℕ} {ts us : List Token} → Tokens i bs ts → Tokens i bs us → ts ≡ us
one_lexing no_token no_token = refl
one_lexing no_token (a_word r s u) = absurd (no_run tt r)
one_lexing (a_blank e t) (a_blank f u) = one_lexing t u
one_lexing (a_blank {b} e t) (a-symbol {s} f u) = absurd (let g : is_blank ≡ is_symbol s = sym e ∙ f in let z : ◌≡◌ {A = ℕ} 0 1 = cc in omega arith)
one_lexing (a_blank {b} e t) (a_word r s u) = absurd (letter-no-blank b (run-letter r) e)
one_lexing (a-symbol {s} e t) (a_blank f u) = absurd (let g : is_blank ≡ is_symbol s = sym f ∙ e in let z : ◌≡◌ {A = ℕ} 0 1 = cc in omega arith)
one_lexing (a-symbol {i} {s} e t) (a-symbol {s = s'} f u) =
    let g : is_symbol s ≡ is_symbol s' = sym e ∙ f in let h : s ≡ s' = cc in ap₂ (λ x l. symbol x i ∷ l) h (one_lexing t u)
one_lexing (a-symbol {b} {s} e t) (a_word r p u) = absurd (letter-no-symbol b s (run-letter r) e)
one_lexing (a_word r s t) no_token = absurd (no_run tt r)
one_lexing (a_word r s t) (a_blank {b} f u) = absurd (letter-no-blank b (run-letter r) f)
one_lexing (a_word r p t) (a-symbol {b} {s} f u) = absurd (letter-no-symbol b s (run-letter r) f)
one_lexing (a_word {i} {bs} {word} {rest} {t} {ts} r s h) (a_word {word = word'} {rest = rest'} {t = t'} {ts = ts'} r' s' h') =
    let e = one-run r r' in
    ap₂ ◌∷◌ (one_token s (subst (λ w. Spells w i t') (sym e.0) s'))
    (one_lexing h (subst₂ (λ w l. Tokens (i + length w) l ts') (sym e.0) (sym e.1) h'))
