-- Bytes that the machine reads to the end have tokens that it reads to the end. By induction on the bytes, with a word begun or none.
-- Assumes nothing.
use Prim.Native.Nat.{ℕ, suc, ◌+◌, ◌≤◌, ◌<◌}
use native.Mathlib.Omega.{arith}
use mathlib.Core.Path.{◌≡◌, refl, sym, ap, ap₂, subst, ◌∙◌}
use mathlib.Core.Bool.{Bool, true, false, cond}
use mathlib.Core.List.{List, [], ◌∷◌}
use lib.ListN.{length}
use lib.Dec.{T, eqb, eqb→eq, ltb, ltb→lt}
use Rattle.grammar.specs.Tokens.{Token, keyword, symbol, name_token, Symbol, Keyword, spelling, Tokens, no_token, a_blank, a-symbol, a_word}
use Rattle.grammar.specs.Tokens.{ByteClass, is_blank, is_lower, is_upper, is_other, is_symbol, byte_class, is_letter}
use Rattle.grammar.specs.Tokens.{TYPE, IN, INPUT, LET, INIT, REC, IF, MATCHES, THEN, ELSE, DELAY, LetterRun, run_last, run_more, AllLower, lower_none, lower_more, spells_keyword, spells_name}
use Rattle.grammar.specs.Rows.{State, Lead, a_symbol, a_keyword, a_name, transitions}
use Rattle.grammar.specs.Machine.{dead, live, WordLeft, no_word, in_name, spelt, fresh, further, after_bytes, ends}
use Rattle.grammar.specs.Machine.{after_tokens, lead_byte, lead_word, first_letter, after_first, alike, lead_of, taken, find}
use Rattle.grammar.proofs.ByteKinds.{found-kind, alike-upper}
use Rattle.grammar.proofs.Words.{Continued, no-word, name-end, name-more, keyword-end, keyword-more}
use Rattle.grammar.proofs.RowFound.{performed, ByByte, by_byte, takes-token, dead-bytes}

-- the end of the word that is begun, and the tokens after it
pub record Lexed (q : State) (K : List State) (w : WordLeft) (i : ℕ) (bs : List ℕ) : Type 0 where
  pub letters : List ℕ
  pub rest : List ℕ
  pub later : List Token
  pub continued : Continued w bs letters rest
  pub lexed : Tokens (i + length letters) rest later
  pub ending : ends (after_tokens (live q K no_word) later) ≡ true

-- the letters that end a keyword are those that were left; the letters that end a name are small and few
keyword-left : {left bs v rest : List ℕ} → Continued (spelt left) bs v rest → v ≡ left
keyword-left (keyword-end h) = refl
keyword-left (keyword-more {c} h) = ap (λ l. c ∷ l) (keyword-left h)

name-left : {n : ℕ} {bs v rest : List ℕ} → Continued (in_name n) bs v rest → n ≤ 16 → AllLower v × (n + length v ≤ 16)
name-left (name-end h) l = (lower_none, omega arith)
name-left (name-more e m h) l = let k = name-left h (omega arith) in (lower_more e k.0, omega (arith, k.1))

-- a word with its first letter is a run
name-run : {n b : ℕ} {bs v rest : List ℕ} → is_letter (byte_class b) ≡ true → Continued (in_name n) bs v rest → LetterRun (b ∷ bs) (b ∷ v) rest
name-run h (name-end e) = run_last h e
name-run h (name-more e m k) = run_more h (name-run (ap is_letter e) k)

data AllLetters : List ℕ → Type 0 where
  none_left : AllLetters []
  letter-left : {b : ℕ} {bs : List ℕ} → is_letter (byte_class b) ≡ true → AllLetters bs → AllLetters (b ∷ bs)

keyword-run : {b : ℕ} {left bs v rest : List ℕ}
    → is_letter (byte_class b) ≡ true → AllLetters left → Continued (spelt left) bs v rest → LetterRun (b ∷ bs) (b ∷ v) rest
keyword-run h a (keyword-end e) = run_last h e
keyword-run h (letter-left f a) (keyword-more k) = run_more h (keyword-run f a k)

-- the letters of a keyword after its first
keyword-letters : (k : Keyword) → AllLetters (after_first (spelling k))
keyword-letters TYPE = letter-left refl (letter-left refl (letter-left refl none_left))
keyword-letters IN = letter-left refl none_left
keyword-letters INPUT = letter-left refl (letter-left refl (letter-left refl (letter-left refl none_left)))
keyword-letters LET = letter-left refl (letter-left refl none_left)
keyword-letters INIT = letter-left refl (letter-left refl (letter-left refl none_left))
keyword-letters REC = letter-left refl (letter-left refl none_left)
keyword-letters IF = letter-left refl none_left
keyword-letters MATCHES = letter-left refl (letter-left refl (letter-left refl (letter-left refl (letter-left refl (letter-left refl none_left)))))
keyword-letters THEN = letter-left refl (letter-left refl (letter-left refl none_left))
keyword-letters ELSE = letter-left refl (letter-left refl (letter-left refl none_left))
keyword-letters DELAY = letter-left refl (letter-left refl (letter-left refl (letter-left refl none_left)))

whole-spelling : (b : ℕ) (v : List ℕ) (k : Keyword) → b ≡ first_letter (spelling k) → v ≡ after_first (spelling k) → b ∷ v ≡ spelling k
whole-spelling b v TYPE e f = ap₂ ◌∷◌ e f
whole-spelling b v IN e f = ap₂ ◌∷◌ e f
whole-spelling b v INPUT e f = ap₂ ◌∷◌ e f
whole-spelling b v LET e f = ap₂ ◌∷◌ e f
whole-spelling b v INIT e f = ap₂ ◌∷◌ e f
whole-spelling b v REC e f = ap₂ ◌∷◌ e f
whole-spelling b v IF e f = ap₂ ◌∷◌ e f
whole-spelling b v MATCHES e f = ap₂ ◌∷◌ e f
whole-spelling b v THEN e f = ap₂ ◌∷◌ e f
whole-spelling b v ELSE e f = ap₂ ◌∷◌ e f
whole-spelling b v DELAY e f = ap₂ ◌∷◌ e f

module _
    (bs : List ℕ)
    (again : (i : ℕ) (q : State) (K : List State) (w : WordLeft) → ends (after_bytes (live q K w) bs) ≡ true → Lexed q K w i bs)
    (b i : ℕ)
    (q : State)
    (K : List State)
  where
    -- the place after the first letter
    onward : {rest : List ℕ} {ts : List Token} (n : ℕ) → Tokens (suc i + n) rest ts → Tokens (i + suc n) rest ts
    onward {rest} {ts} n t = let e : suc i + n ≡ i + suc n = omega arith in subst (λ j. Tokens j rest ts) e t

    -- a token that begins here
    symbol-read : {v rest : List ℕ} {ts : List Token} (s : Symbol)
        → byte_class b ≡ is_symbol s → Continued no_word bs v rest → Tokens (suc i + length v) rest ts → Tokens i (b ∷ bs) (symbol s i ∷ ts)
    symbol-read {ts} s e no-word t = let f : suc i + 0 ≡ suc i = omega arith in a-symbol e (subst (λ j. Tokens j bs ts) f t)

    lead-read : {v rest : List ℕ} {ts : List Token} (l : Lead)
        → alike b ≡ lead_byte l → Continued (lead_word l) bs v rest → Tokens (suc i + length v) rest ts
        → (t : Token) × (lead_of t ≡ l) × Tokens i (b ∷ bs) (t ∷ ts)
    lead-read (a_symbol s) e c t = (symbol s i, refl, symbol-read s (found-kind b (a_symbol s) e) c t)
    lead-read {v} (a_keyword k) e c t =
        let f : byte_class b ≡ is_upper = found-kind b (a_keyword k) e in
        let first : b ≡ first_letter (spelling k) = sym (alike-upper b f) ∙ e in (
          keyword k i,
          refl,
          a_word (keyword-run (ap is_letter f) (keyword-letters k) c)
              (spells_keyword (whole-spelling b v k first (keyword-left c)))
              (onward (length v) t),
        )
    lead-read {v} a_name e c t =
        let f : byte_class b ≡ is_lower = found-kind b a_name e in
        let few = name-left c (omega arith) in (
          name_token (b ∷ v) i,
          refl,
          a_word (name-run (ap is_letter f) c) (spells_name (lower_more {b = b} f few.0) (omega (arith, few.1))) (onward (length v) t),
        )

    token-read : ByByte b q K bs → Lexed q K no_word i (b ∷ bs)
    token-read x =
        let y = performed x.action K in
        let z = again (suc i) y.state y.stack (lead_word x.lead)
        (ap (λ c. ends (after_bytes c bs)) (sym (y.reaches (lead_word x.lead))) ∙ x.ending) in
        let u = lead-read x.lead x.leads z.continued z.lexed in
        record {
          letters = [];
          rest = b ∷ bs;
          later = u.0 ∷ z.later;
          continued = no-word;
          lexed = let f : i ≡ i + 0 = omega arith in subst (λ j. Tokens j (b ∷ bs) (u.0 ∷ z.later)) f u.2;
          ending =
              ap (λ l. ends (after_tokens (taken l K (find (lead_byte l) (transitions q))) z.later)) u.1
              ∙ ap (λ c. ends (after_tokens c z.later)) (takes-token x.lead x.action q K x.row ∙ y.reaches no_word)
              ∙ z.ending;
        }

    blank-read : byte_class b ≡ is_blank → Lexed q K no_word (suc i) bs → Lexed q K no_word i (b ∷ bs)
    blank-read e z = record {
      letters = [];
      rest = b ∷ bs;
      later = z.later;
      continued = no-word;
      lexed = let f : i ≡ i + 0 = omega arith in subst (λ j. Tokens j (b ∷ bs) z.later) f (a_blank e (whole-rest z.continued z.lexed));
      ending = z.ending;
    }
      where
        whole-rest : {v rest : List ℕ} {ts : List Token} → Continued no_word bs v rest → Tokens (suc i + length v) rest ts → Tokens (suc i) bs ts
        whole-rest {ts} no-word t = let f : suc i + 0 ≡ suc i = omega arith in subst (λ j. Tokens j bs ts) f t

    -- a byte where no word is begun
    fresh-read : (k : ByteClass) → byte_class b ≡ k → ends (after_bytes (fresh k b q K) bs) ≡ true → Lexed q K no_word i (b ∷ bs)
    fresh-read is_lower e h = token-read (by_byte b q K bs h)
    fresh-read is_upper e h = token-read (by_byte b q K bs h)
    fresh-read (is_symbol s) e h = token-read (by_byte b q K bs h)
    fresh-read is_blank e h = blank-read e (again (suc i) q K no_word h)
    fresh-read is_other e h = absurd (dead-bytes bs h)

    -- a byte after a word that ends before it
    word_over : (w : WordLeft) → Continued w (b ∷ bs) [] (b ∷ bs)
        → Lexed q K no_word i (b ∷ bs) → Lexed q K w i (b ∷ bs)
    word_over w over z = over-with z.continued z.lexed
      where
        over-with : {v rest : List ℕ} → Continued no_word (b ∷ bs) v rest → Tokens (i + length v) rest z.later → Lexed q K w i (b ∷ bs)
        over-with no-word t = record { letters = []; rest = b ∷ bs; later = z.later; continued = over; lexed = t; ending = z.ending }

    name-read : (n : ℕ) (k : ByteClass) → byte_class b ≡ k
        → ends (after_bytes (further k (cond (ltb n 16) (live q K (in_name (n + 1))) dead) b q K) bs) ≡ true → Lexed q K (in_name n) i (b ∷ bs)
    name-read n is_lower e h = few (ltb n 16) (ltb→lt n 16) h
      where
        few : (x : Bool) → (T x → n < 16) → ends (after_bytes (cond x (live q K (in_name (n + 1))) dead) bs) ≡ true → Lexed q K (in_name n) i (b ∷ bs)
        few true l k =
            let z = again (suc i) q K (in_name (n + 1)) k in
            record {
              letters = b ∷ z.letters;
              rest = z.rest;
              later = z.later;
              continued = name-more e (l tt) z.continued;
              lexed = onward (length z.letters) z.lexed;
              ending = z.ending;
            }
        few false l k = absurd (dead-bytes bs k)
    name-read n is_upper e h = absurd (dead-bytes bs h)
    name-read n (is_symbol s) e h = word_over (in_name n) (name-end (ap is_letter e)) (fresh-read (is_symbol s) e h)
    name-read n is_blank e h = word_over (in_name n) (name-end (ap is_letter e)) (fresh-read is_blank e h)
    name-read n is_other e h = absurd (dead-bytes bs h)

    keyword-over : (k : ByteClass) → byte_class b ≡ k → ends (after_bytes (further k dead b q K) bs) ≡ true → Lexed q K (spelt []) i (b ∷ bs)
    keyword-over is_lower e h = absurd (dead-bytes bs h)
    keyword-over is_upper e h = absurd (dead-bytes bs h)
    keyword-over (is_symbol s) e h = word_over (spelt []) (keyword-end (ap is_letter e)) (fresh-read (is_symbol s) e h)
    keyword-over is_blank e h = word_over (spelt []) (keyword-end (ap is_letter e)) (fresh-read is_blank e h)
    keyword-over is_other e h = absurd (dead-bytes bs h)

    keyword-read : (c : ℕ) (left : List ℕ) (x : Bool) → (T x → b ≡ c)
        → ends (after_bytes (cond x (live q K (spelt left)) dead) bs) ≡ true → Lexed q K (spelt (c ∷ left)) i (b ∷ bs)
    keyword-read c left true e h =
        let z = again (suc i) q K (spelt left) h in
        record {
          letters = b ∷ z.letters;
          rest = z.rest;
          later = z.later;
          continued = subst (λ d. Continued (spelt (d ∷ left)) (b ∷ bs) (b ∷ z.letters) z.rest) (e tt) (keyword-more z.continued);
          lexed = onward (length z.letters) z.lexed;
          ending = z.ending;
        }
    keyword-read c left false e h = absurd (dead-bytes bs h)

-- the end of the bytes
end_read : (i : ℕ) (q : State) (K : List State) (w : WordLeft) → ends (live q K w) ≡ true → Lexed q K w i []
end_read i q K no_word h = record { letters = []; rest = []; later = []; continued = no-word; lexed = no_token; ending = h }
end_read i q K (in_name n) h = record { letters = []; rest = []; later = []; continued = name-end tt; lexed = no_token; ending = h }
end_read i q K (spelt []) h = record { letters = []; rest = []; later = []; continued = keyword-end tt; lexed = no_token; ending = h }
end_read i q K (spelt (c ∷ left)) h = absurd (let z : ◌≡◌ {A = ℕ} 0 1 = cc in omega arith)

pub tokens-of-bytes : (bs : List ℕ) (i : ℕ) (q : State) (K : List State) (w : WordLeft) → ends (after_bytes (live q K w) bs) ≡ true → Lexed q K w i bs
tokens-of-bytes [] i q K w h = end_read i q K w h
tokens-of-bytes (b ∷ bs) i q K no_word h = fresh-read bs (λ j r L v k. tokens-of-bytes bs j r L v k) b i q K (byte_class b) refl h
tokens-of-bytes (b ∷ bs) i q K (in_name n) h = name-read bs (λ j r L v k. tokens-of-bytes bs j r L v k) b i q K n (byte_class b) refl h
tokens-of-bytes (b ∷ bs) i q K (spelt []) h = keyword-over bs (λ j r L v k. tokens-of-bytes bs j r L v k) b i q K (byte_class b) refl h
tokens-of-bytes (b ∷ bs) i q K (spelt (c ∷ left)) h =
    keyword-read bs (λ j r L v k. tokens-of-bytes bs j r L v k) b i q K c left (eqb b c) (eqb→eq b c) h
