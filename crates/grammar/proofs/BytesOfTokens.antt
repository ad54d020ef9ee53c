-- Where the machine reads the tokens of a text's bytes to the end, it reads the bytes to the end.
-- Assumes nothing.
use Prim.Native.Nat.{ℕ}
use mathlib.Core.Path.{◌≡◌, sym, ap, ◌∙◌}
use mathlib.Core.Bool.{true}
use mathlib.Core.List.{List}
use Rattle.grammar.specs.Tokens.{Token, byte_class, Tokens, no_token, a_blank, a-symbol, a_word}
use Rattle.grammar.specs.Rows.{State, a_symbol}
use Rattle.grammar.specs.Machine.{live, no_word, fresh, after_tokens, after_bytes, ends, lead_of, lead_word}
use Rattle.grammar.proofs.ByteKinds.{alike-symbol}
use Rattle.grammar.proofs.Words.{begun, through}
use Rattle.grammar.proofs.RowFound.{performed, by_token, begins-token, letter-begins}

pub bytes-of-tokens : {i : ℕ} {bs : List ℕ} {ts : List Token} (q : State) (K : List State)
    → Tokens i bs ts → ends (after_tokens (live q K no_word) ts) ≡ true → ends (after_bytes (live q K no_word) bs) ≡ true
bytes-of-tokens q K no_token h = h
bytes-of-tokens q K (a_blank {b} {bs} e t) h = ap (λ k. ends (after_bytes (fresh k b q K) bs)) e ∙ bytes-of-tokens q K t h
bytes-of-tokens q K (a-symbol {b} {bs} {ts} {s} e t) h =
    let x = by_token (a_symbol s) q K ts h in
    let y = performed x.action K in
    ap (λ k. ends (after_bytes (fresh k b q K) bs)) e
    ∙ ap (λ c. ends (after_bytes c bs)) (begins-token b (a_symbol s) x.action q K (alike-symbol b s e) x.row ∙ y.reaches no_word)
    ∙ bytes-of-tokens y.state y.stack t (ap (λ c. ends (after_tokens c ts)) (sym (y.reaches no_word)) ∙ x.ending)
bytes-of-tokens q K (a_word {bs} {rest} {t} {ts} r s u) h =
    let x = by_token (lead_of t) q K ts h in
    let y = performed x.action K in
    let z = begun r s in
    ap (λ l. ends (after_bytes (live q K no_word) l)) z.split
    ∙ ap (λ c. ends (after_bytes c z.following))
    (letter-begins (byte_class z.first) z.first q K z.letter
    ∙ begins-token z.first (lead_of t) x.action q K z.leads x.row
    ∙ y.reaches (lead_word (lead_of t)))
    ∙ through y.state y.stack z.continued
    ∙ bytes-of-tokens y.state y.stack u (ap (λ c. ends (after_tokens c ts)) (sym (y.reaches no_word)) ∙ x.ending)
