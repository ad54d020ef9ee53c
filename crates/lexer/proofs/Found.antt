-- The first of the tokens of a text, and where the others begin.
-- Assumes nothing.
use Prim.Native.Nat.{ℕ, suc, ◌+◌, ◌-◌, ◌≤◌, ◌<◌}
use native.Mathlib.Omega.{arith}
use native.Mathlib.Numerals.{add-one}
use mathlib.Core.Path.{◌≡◌, refl, sym, ap, subst, ◌∙◌}
use mathlib.Core.Bool.{Bool, true, false, cond}
use mathlib.Core.List.{List, [], ◌∷◌}
use lib.ListN.{length, take, drop, get_or, length-drop, drop_of_length-le}
use lib.Seq.{drop-cons, drop-drop}
use native.Mathlib.Decide.{dec_lt}
use borrow.Author.Tests.{lt-ltb, le-ltb}
use Rattle.grammar.specs.Tokens.{ByteClass, is_blank, is_lower, is_upper, is_other, is_symbol, byte_class, is_letter, NoLetter, Token, keyword, symbol, name_token}
use Rattle.grammar.specs.Tokens.{Keyword, TYPE, IN, INPUT, LET, INIT, REC, IF, MATCHES, THEN, ELSE, DELAY, spelling, AllLower, lower_more}
use Rattle.grammar.specs.Tokens.{Symbol, opens, closes, comma, equals, bar, query, index_opens, index_closes, one, two}
use Rattle.grammar.specs.Tokens.{LetterRun, run_last, run_more, Spells, spells_keyword, spells_name, Tokens, no_token, a_blank, a-symbol, a_word}
use Rattle.grammar.specs.Machine.{lead_byte, lead_of, symbol_byte}
use Rattle.recognizer.specs.Coded.{lead_bytes, class_of, class_number, symbol_class}
use Rattle.recognizer.proofs.ClassLaws.{symbol-below}
use Rattle.lexer.proofs.Runs.{class-letter}
use Rattle.lexer.specs.Scanned.{blank_class, blanks_in, letters_in, place_of_token, NamedBy, FirstToken, FoundFrom, token_end}

-- past the blanks
letter-unblank : (k : ByteClass) → is_letter k ≡ true → blank_class k ≡ false
letter-unblank is_lower h = refl
letter-unblank is_upper h = refl
letter-unblank is_blank h = absurd (let z : ◌≡◌ {A = ℕ} 0 1 = cc in omega arith)
letter-unblank is_other h = refl
letter-unblank (is_symbol s) h = refl

run-unblank : {bs word rest : List ℕ} → LetterRun bs word rest → blanks_in bs ≡ 0
run-unblank (run_last {b} {rest} h n) = ap (λ x. cond x (suc (blanks_in rest)) 0) (letter-unblank (byte_class b) h)
run-unblank (run_more {b} {bs} h r) = ap (λ x. cond x (suc (blanks_in bs)) 0) (letter-unblank (byte_class b) h)

-- tokens at another place and list that are the same
moved : {i j : ℕ} {bs cs : List ℕ} {ts : List Token} → i ≡ j → bs ≡ cs → Tokens i bs ts → Tokens j cs ts
moved {i} {cs} {ts} e f t = subst (λ n. Tokens n cs ts) e (subst (λ l. Tokens i l ts) f t)

past-blanks : {i : ℕ} {bs : List ℕ} {ts : List Token} → Tokens i bs ts → Tokens (i + blanks_in bs) (drop (blanks_in bs) bs) ts
past-blanks (no_token {i}) = moved {i = i} {j = i + 0} (omega arith) refl no_token
past-blanks (a_blank {i} {b} {bs} e t) =
    let f : blanks_in (b ∷ bs) ≡ suc (blanks_in bs) = ap (λ k. cond (blank_class k) (suc (blanks_in bs)) 0) e in
    moved {i = suc i + blanks_in bs} {j = i + blanks_in (b ∷ bs)} (omega (arith, f)) (ap (λ n. drop n (b ∷ bs)) (sym f)) (past-blanks t)
past-blanks (a-symbol {i} {b} {bs} {s} e t) =
    let f : blanks_in (b ∷ bs) ≡ 0 = ap (λ k. cond (blank_class k) (suc (blanks_in bs)) 0) e in
    moved {i = i} {j = i + blanks_in (b ∷ bs)} (omega (arith, f)) (ap (λ n. drop n (b ∷ bs)) (sym f)) (a-symbol e t)
past-blanks (a_word {i} {bs} r s t) =
    let f : blanks_in bs ≡ 0 = run-unblank r in
    moved {i = i} {j = i + blanks_in bs} (omega (arith, f)) (ap (λ n. drop n bs) (sym f)) (a_word r s t)

-- a run of letters is as long as the letters that the bytes begin with
no-letters : (bs : List ℕ) → NoLetter bs → letters_in bs ≡ 0
no-letters [] n = refl
no-letters (b ∷ bs) n = ap (λ x. cond x (suc (letters_in bs)) 0) n

run-letters : {bs word rest : List ℕ} → LetterRun bs word rest
    → (letters_in bs ≡ length word) × (take (length word) bs ≡ word) × (drop (length word) bs ≡ rest)
run-letters (run_last {b} {rest} h n) =
    (ap (λ x. cond x (suc (letters_in rest)) 0) h ∙ ap suc (no-letters rest n), refl, refl)
run-letters (run_more {b} {bs} h r) =
    let s = run-letters r in
    (ap (λ x. cond x (suc (letters_in bs)) 0) h ∙ ap suc s.0, ap (λ w. b ∷ w) s.1, s.2)

-- the class of the byte that a token begins with
symbol-leads : (s : Symbol) → get_or lead_bytes (symbol_class s) 0 ≡ symbol_byte s
symbol-leads opens = refl
symbol-leads closes = refl
symbol-leads comma = refl
symbol-leads equals = refl
symbol-leads bar = refl
symbol-leads query = refl
symbol-leads index_opens = refl
symbol-leads index_closes = refl
symbol-leads one = refl
symbol-leads two = refl

abbrev WordClass : Token → ℕ → Type 0
WordClass t class = (class < 18) × (10 ≤ class) × (get_or lead_bytes class 0 ≡ lead_byte (lead_of t))

keyword-class : (k : Keyword) (p : ℕ) → WordClass (keyword k p) (class_of (get_or (spelling k) 0 0))
keyword-class TYPE p = (omega arith, omega arith, refl)
keyword-class IN p = (omega arith, omega arith, refl)
keyword-class INPUT p = (omega arith, omega arith, refl)
keyword-class LET p = (omega arith, omega arith, refl)
keyword-class INIT p = (omega arith, omega arith, refl)
keyword-class REC p = (omega arith, omega arith, refl)
keyword-class IF p = (omega arith, omega arith, refl)
keyword-class MATCHES p = (omega arith, omega arith, refl)
keyword-class THEN p = (omega arith, omega arith, refl)
keyword-class ELSE p = (omega arith, omega arith, refl)
keyword-class DELAY p = (omega arith, omega arith, refl)

lower-class : (b p : ℕ) (w : List ℕ) → byte_class b ≡ is_lower → WordClass (name_token w p) (class_of b)
lower-class b p w h =
    let e : class_of b ≡ 10 = ap (λ k. class_number k b) h in
    (omega (arith, e), omega (arith, e), ap (λ n. get_or lead_bytes n 0) e)

first-lower : {b : ℕ} {w : List ℕ} → AllLower (b ∷ w) → byte_class b ≡ is_lower
first-lower (lower_more e a) = e

word-class : {b p : ℕ} {w : List ℕ} {t : Token} → Spells (b ∷ w) p t → WordClass t (class_of b)
word-class {b} (spells_keyword {place} {k} e) =
    subst (λ x. WordClass (keyword k place) (class_of x)) (sym (ap (λ l. get_or l 0 0) e)) (keyword-class k place)
word-class {b} {w} (spells_name {place} a l) = lower-class b place (b ∷ w) (first-lower a)

spelled_at : {w : List ℕ} {p : ℕ} {t : Token} → Spells w p t → place_of_token t ≡ p
spelled_at (spells_keyword e) = refl
spelled_at (spells_name a l) = refl

spelled_by : {w : List ℕ} {p : ℕ} {t : Token} → Spells w p t → NamedBy t w
spelled_by (spells_keyword e) = tt
spelled_by (spells_name a l) = (refl, l)

module _ {text : List ℕ} {start : ℕ} (h : start < length text) where
  symbol-first : {others : List Token} (s : Symbol) → byte_class (get_or text start 0) ≡ is_symbol s → Tokens (suc start) (drop (suc start) text) others
      → FirstToken text start (token_end text start (class_of (get_or text start 0))) (class_of (get_or text start 0)) (symbol s start) others
  symbol-first s e t =
      let c : class_of (get_or text start 0) ≡ symbol_class s = ap (λ k. class_number k (get_or text start 0)) e in
      let b = symbol-below s in
      let f : token_end text start (class_of (get_or text start 0)) ≡ start + 1
      = ap (λ x. cond x (start + 1) (start + letters_in (drop start text))) (lt-ltb (class_of (get_or text start 0)) 10 (omega (arith, c, b))) in
      record {
        placed = refl;
        longer = omega (arith, f);
        ends = omega (arith, f);
        few_classes = omega (arith, c, b);
        leads = ap (λ n. get_or lead_bytes n 0) c ∙ symbol-leads s;
        letters = tt;
        following =
            moved {i = suc start} {j = token_end text start (class_of (get_or text start 0))} (omega (arith, f))
            (ap (λ n. drop n text) (sym (f ∙ add-one start))) t;
      }

  word_first : {word rest : List ℕ} {t : Token} {others : List Token} → LetterRun (drop start text) word rest → Spells word start t
      → Tokens (start + length word) rest others
      → FirstToken text start (token_end text start (class_of (get_or text start 0))) (class_of (get_or text start 0)) t others
  word_first {word} {t} r s u =
      let l = run-letters r in
      let c = class-here r s in
      let f : token_end text start (class_of (get_or text start 0)) ≡ start + length word
      = ap (λ x. cond x (start + 1) (start + letters_in (drop start text))) (le-ltb (class_of (get_or text start 0)) 10 c.1)
      ∙ ap (λ n. start + n) l.0 in
      record {
        placed = spelled_at s;
        longer = omega (arith, f, some-letter r);
        ends = omega (arith, f, run_inside r, length-drop start text);
        few_classes = c.0;
        leads = c.2;
        letters =
            subst (NamedBy t)
            (sym (ap (λ n. take n (drop start text)) (length-of f) ∙ l.1))
            (spelled_by s);
        following =
            moved {i = start + length word} {j = token_end text start (class_of (get_or text start 0))} (sym f)
            (sym (ap (λ n. drop n text) f ∙ sym (drop-drop (length word) start text) ∙ l.2)) u;
      }
    where
      length-of : {n : ℕ} → n ≡ start + length word → n - start ≡ length word
      length-of e = omega arith

      some-letter : {bs w rest : List ℕ} → LetterRun bs w rest → 1 ≤ length w
      some-letter (run_last k n) = omega arith
      some-letter (run_more k q) = omega arith

      run_inside : {bs w rest : List ℕ} → LetterRun bs w rest → length w ≤ length bs
      run_inside (run_last k n) = omega arith
      run_inside (run_more k q) = omega (arith, run_inside q)

      first_of : {bs w rest : List ℕ} {p : ℕ} {v : Token} → LetterRun bs w rest → Spells w p v → WordClass v (class_of (get_or bs 0 0))
      first_of (run_last k n) q = word-class q
      first_of (run_more k r') q = word-class q

      class-here : {w rest : List ℕ} {p : ℕ} {v : Token} → LetterRun (drop start text) w rest → Spells w p v → WordClass v (class_of (get_or text start 0))
      class-here {v} q q' =
          subst (λ b. WordClass v (class_of b)) (ap (λ l. get_or l 0 0) (drop-cons text start 0 h)) (first_of q q')

  first-here : {bs : List ℕ} {t : Token} {others : List Token} → bs ≡ drop start text → blanks_in bs ≡ 0 → Tokens start bs (t ∷ others)
      → FirstToken text start (token_end text start (class_of (get_or text start 0))) (class_of (get_or text start 0)) t others
  first-here e z (a_blank {b} {bs} k u) =
      absurd (let f : blanks_in (b ∷ bs) ≡ suc (blanks_in bs) = ap (λ x. cond (blank_class x) (suc (blanks_in bs)) 0) k in omega (arith, f, z))
  first-here e z (a-symbol {b} {bs} {s} k u) =
      let f = e ∙ drop-cons text start 0 h in
      let g : b ≡ get_or text start 0 = ap (λ l. get_or l 0 0) f in
      let m : bs ≡ drop (suc start) text = ap (drop 1) f in
      symbol-first s (ap byte_class (sym g) ∙ k) (moved {i = suc start} refl m u)
  first-here e z (a_word {word} {rest} r s u) = word_first (subst (λ l. LetterRun l word rest) e r) s u

-- no blank follows the blanks
no-blank : (bs : List ℕ) → blanks_in (drop (blanks_in bs) bs) ≡ 0
no-blank [] = refl
no-blank (b ∷ bs) = go (blank_class (byte_class b)) refl (no-blank bs)
  where
    go : (x : Bool) → blank_class (byte_class b) ≡ x → blanks_in (drop (blanks_in bs) bs) ≡ 0 → blanks_in (drop (cond x (suc (blanks_in bs)) 0) (b ∷ bs)) ≡ 0
    go true e again = again
    go false e again = ap (λ y. cond y (suc (blanks_in bs)) 0) e

module _ (text : List ℕ) (i start : ℕ) (skipped : start ≡ i + blanks_in (drop i text)) where
  rest-here : drop (blanks_in (drop i text)) (drop i text) ≡ drop start text
  rest-here = drop-drop (blanks_in (drop i text)) i text ∙ ap (λ n. drop n text) (sym skipped)

  -- what the code finds is the first token
  pub found_from : start < length text → FoundFrom text i start (token_end text start (class_of (get_or text start 0))) (class_of (get_or text start 0))
  found_from h t others u =
      first-here h rest-here (no-blank (drop i text))
      (moved {j = start} (sym skipped) refl (past-blanks u))

  -- and where it finds none, none is left
  pub none_from : length text ≤ start → {ts : List Token} → Tokens i (drop i text) ts → ts ≡ []
  none_from h u = go (moved {j = start} (sym skipped) (rest-here ∙ drop_of_length-le text {i = start} h) (past-blanks u))
    where
      some_byte : {bs word rest : List ℕ} → LetterRun bs word rest → 1 ≤ length bs
      some_byte (run_last k n) = omega arith
      some_byte (run_more k r) = omega arith

      go : {n : ℕ} {ts : List Token} → Tokens n [] ts → ts ≡ []
      go no_token = refl
      go (a_word r s t) = absurd (let l = some_byte r in omega arith)

-- the end of a token by its class
pub symbol_end : (text : List ℕ) (start class : ℕ) → class < 10 → start + 1 ≡ token_end text start class
symbol_end text start class h = sym (ap (λ x. cond x (start + 1) (start + letters_in (drop start text))) (lt-ltb class 10 h))

pub word_end : (text : List ℕ) (start class : ℕ) → 10 ≤ class → start + letters_in (drop start text) ≡ token_end text start class
word_end text start class h = sym (ap (λ x. cond x (start + 1) (start + letters_in (drop start text))) (le-ltb class 10 h))

-- a token has a byte at least
pub longer-end : (text : List ℕ) (start class : ℕ) → start < length text → class ≡ class_of (get_or text start 0) → class < 18
    → start < token_end text start class
longer-end text start class h e l = go (dec_lt class 10)
  where
    go : Dec (class < 10) → start < token_end text start class
    go (yes k) = omega (arith, symbol_end text start class k)
    go (no k) =
        let g : letters_in (drop start text) ≡ suc (letters_in (drop (suc start) text))
        = ap letters_in (drop-cons text start 0 h)
        ∙ ap (λ x. cond x (suc (letters_in (drop (suc start) text))) 0)
        (class-letter (get_or text start 0) (omega (arith, e, k)) (omega (arith, e))) in
        omega (arith, word_end text start class (omega (arith, k)), g)
