-- The tokens that are computed are the tokens of the bytes.
-- Assumes nothing.
use Prim.Native.Nat.{ℕ, suc, ◌+◌}
use native.Mathlib.Omega.{arith}
use mathlib.Core.Path.{◌≡◌, refl, sym, ap, ◌∙◌}
use mathlib.Core.Bool.{Bool, true, false}
use mathlib.Core.List.{List, [], ◌∷◌}
use lib.ListN.{length}
use Rattle.grammar.specs.Tokens.{Keyword, TYPE, IN, INPUT, LET, INIT, REC, IF, MATCHES, THEN, ELSE, DELAY, spelling}
use Rattle.grammar.specs.Tokens.{ByteClass, is_blank, is_lower, is_upper, is_other, is_symbol, byte_class, is_letter, NoLetter, Token, keyword, symbol, name_token}
use Rattle.grammar.specs.Tokens.{LetterRun, run_last, run_more, AllLower, lower_none, lower_more, Spells, spells_keyword, spells_name}
use Rattle.grammar.specs.Tokens.{Tokens, no_token, a_blank, a-symbol, a_word}
use Rattle.text_table.specs.Lexer.{Lexing, lexing, word_token, word_begun, word_at, with_letter, with_byte, lexed_from, tokens_in}

of-letter : (c : ByteClass) (b i : ℕ) (l : Lexing) → is_letter c ≡ true → with_byte c b i l ≡ with_letter b l
of-letter is_lower b i l e = refl
of-letter is_upper b i l e = refl
of-letter is_blank b i l e = let z : ◌≡◌ {A = ℕ} 0 1 = cc in absurd (omega arith)
of-letter is_other b i l e = let z : ◌≡◌ {A = ℕ} 0 1 = cc in absurd (omega arith)
of-letter (is_symbol s) b i l e = let z : ◌≡◌ {A = ℕ} 0 1 = cc in absurd (omega arith)

of_other : (c : ByteClass) (b i : ℕ) (l : Lexing) → is_letter c ≡ false → with_byte c b i l ≡ lexing [] (word_at i (with_byte c b i l))
of_other is_lower b i l e = let z : ◌≡◌ {A = ℕ} 0 1 = cc in absurd (omega arith)
of_other is_upper b i l e = let z : ◌≡◌ {A = ℕ} 0 1 = cc in absurd (omega arith)
of_other is_blank b i l e = refl
of_other is_other b i l e = refl
of_other (is_symbol s) b i l e = refl

no-word : (j : ℕ) (rest : List ℕ) → NoLetter rest → lexed_from j rest ≡ lexing [] (word_at j (lexed_from j rest))
no-word j [] n = refl
no-word j (b ∷ bs) n = of_other (byte_class b) b j (lexed_from (suc j) bs) n

run-lexed : {bs word rest : List ℕ} (i : ℕ) → LetterRun bs word rest
    → lexed_from i bs ≡ lexing word (word_at (i + length word) (lexed_from (i + length word) rest))
run-lexed i (run_last {b} {rest} h n) =
    let e : i + 1 ≡ suc i = omega arith in
    of-letter (byte_class b) b i (lexed_from (suc i) rest) h ∙ ap (with_letter b) (no-word (suc i) rest n)
    ∙ ap (λ k. lexing (b ∷ []) (word_at k (lexed_from k rest))) (sym e)
run-lexed i (run_more {b} {bs} {word} {rest} h r) =
    let e : i + suc (length word) ≡ suc i + length word = omega arith in
    of-letter (byte_class b) b i (lexed_from (suc i) bs) h ∙ ap (with_letter b) (run-lexed (suc i) r)
    ∙ ap (λ k. lexing (b ∷ word) (word_at k (lexed_from k rest))) (sym e)

keyword-word : (k : Keyword) (p : ℕ) → word_token (spelling k) p ≡ keyword k p
keyword-word TYPE p = refl
keyword-word IN p = refl
keyword-word INPUT p = refl
keyword-word LET p = refl
keyword-word INIT p = refl
keyword-word REC p = refl
keyword-word IF p = refl
keyword-word MATCHES p = refl
keyword-word THEN p = refl
keyword-word ELSE p = refl
keyword-word DELAY p = refl

name-word : (word : List ℕ) (p : ℕ) → AllLower word → word_token word p ≡ name_token word p
name-word [] p lower_none = refl
name-word (b ∷ w) p (lower_more e a) = ap (λ c. word_begun c (b ∷ w) p) e

spelled-word : {word : List ℕ} {p : ℕ} {t : Token} → Spells word p t → word_token word p ≡ t
spelled-word {p} (spells_keyword {k} e) = ap (λ w. word_token w p) e ∙ keyword-word k p
spelled-word {word} {p} (spells_name a l) = name-word word p a

word_first : {bs word rest : List ℕ} (p : ℕ) (ts : List Token) → LetterRun bs word rest → word_at p (lexing word ts) ≡ word_token word p ∷ ts
word_first p ts (run_last h n) = refl
word_first p ts (run_more h r) = refl

lexed-from : {i : ℕ} {bs : List ℕ} {ts : List Token} → Tokens i bs ts → word_at i (lexed_from i bs) ≡ ts
lexed-from no_token = refl
lexed-from {i} (a_blank {b} {bs} e t) = ap (λ c. word_at i (with_byte c b i (lexed_from (suc i) bs))) e ∙ lexed-from t
lexed-from {i} (a-symbol {b} {bs} {s} e t) =
    ap (λ c. word_at i (with_byte c b i (lexed_from (suc i) bs))) e ∙ ap (λ l. symbol s i ∷ l) (lexed-from t)
lexed-from {i} (a_word {word} {rest} {t = v} {ts} r s t) =
    ap (word_at i) (run-lexed i r) ∙ word_first i _ r ∙ ap (λ l. word_token word i ∷ l) (lexed-from t) ∙ ap (λ x. x ∷ ts) (spelled-word s)

pub tokens-are : {bytes : List ℕ} {ts : List Token} → Tokens 0 bytes ts → tokens_in bytes ≡ ts
tokens-are t = lexed-from t
