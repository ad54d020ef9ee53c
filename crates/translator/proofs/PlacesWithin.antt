-- The places that code 14 tells lie in the text: those of its names are places of tokens, and so is the bracket of a constant.
-- Assumes nothing.
use Prim.Native.Nat.{ℕ, ◌+◌, ◌≤◌, ◌<◌}
use native.Mathlib.Omega.{arith}
use mathlib.Core.Path.{◌≡◌}
use mathlib.Core.Bool.{Bool, true, false}
use mathlib.Core.List.{List, [], ◌∷◌, ◌++◌}
use mathlib.Core.Option.{some}
use lib.ListN.{length}
use Rattle.grammar.specs.Tokens.{Token, keyword, symbol, name_token, Tokens, no_token, a_blank, a-symbol, a_word, LetterRun, run_last, run_more}
use Rattle.grammar.specs.Tokens.{Spells, spells_keyword, spells_name}
use Rattle.grammar.specs.Source.{Declaration, SourceConstant, SourcePattern, Expression, Text}
use Rattle.grammar.specs.Grammar.{ReadsOthers, no_other, one_other, ReadsDeclaration, reads_constructors, reads_pair_of}
use Rattle.grammar.specs.Grammar.{ReadsConstant, reads_constructor, reads_undefined, reads_both}
use Rattle.grammar.specs.Grammar.{ReadsPattern, reads_alone, reads_parts, reads_alone_or, reads_parts_or}
use Rattle.grammar.specs.Grammar.{ReadsExpression, reads_named, reads_undefined_of, reads_pair, reads_first, reads_second, reads_let}
use Rattle.grammar.specs.Grammar.{reads_let_rec, reads_if, reads_delay, ReadsMore, no_more, one_more, ReadsText, reads_text}
use Rattle.name_rules.specs.Checks.{PlacedCheck, check_at, first_bad_place, check_places}
use Rattle.name_rules.specs.Constants.{constant_place, constant_checks, constants_of_text}
use Rattle.name_rules.specs.Names.{name_checks}
use Rattle.name_rules.specs.Promises.{name_places}
use Rattle.name_rules.proofs.EachOnce.{each_once}

abbrev token_place : Token → ℕ
token_place (keyword k p) = p
token_place (symbol s p) = p
token_place (name_token w p) = p

data Below (n : ℕ) : List Token → Type 0 where
  below_none : Below n []
  below_one : {t : Token} {ts : List Token} → token_place t < n → Below n ts → Below n (t ∷ ts)

-- checks that tell places below n
data Within (n : ℕ) : List PlacedCheck → Type 0 where
  within_none : Within n []
  within-one : {p : ℕ} {x : Bool} {cs : List PlacedCheck} → p < n → Within n cs → Within n (check_at p x ∷ cs)

run-left : {bs word rest : List ℕ} → LetterRun bs word rest → (length bs ≡ length word + length rest) × (1 ≤ length word)
run-left (run_last h n) = (omega arith, omega arith)
run-left (run_more h r) = let i = run-left r in (let e = i.0 in omega (arith, e), omega arith)

spelled_at : {word : List ℕ} {i : ℕ} {t : Token} → Spells word i t → token_place t ≡ i
spelled_at (spells_keyword e) = cc
spelled_at (spells_name a l) = cc

tokens-below : {i n : ℕ} {bs : List ℕ} {ts : List Token} → i + length bs ≤ n → Tokens i bs ts → Below n ts
tokens-below h no_token = below_none
tokens-below h (a_blank e t) = tokens-below (omega (arith, h)) t
tokens-below {i} {n} h (a-symbol {s} e t) = below_one {t = symbol s i} (omega (arith, h)) (tokens-below (omega (arith, h)) t)
tokens-below {i} {n} h (a_word {t = v} r s t) =
    let l = run-left r in
    let e = l.0 in
    let f = l.1 in
    let g = spelled_at s in
    below_one {t = v} (omega (arith, h, e, f, g)) (tokens-below (omega (arith, h, e, f)) t)

module _ {n : ℕ} where
  rest : {t : Token} {ts : List Token} → Below n (t ∷ ts) → Below n ts
  rest (below_one h b) = b

  here : {t : Token} {ts : List Token} → Below n (t ∷ ts) → token_place t < n
  here (below_one h b) = h

  others : {a r : List Token} {cs : List _} → ReadsOthers a cs r → Below n a → Below n r
  others no_other b = rest b
  others (one_other h) b = others h (rest (rest b))

  declaration : {a r : List Token} {d : Declaration} → ReadsDeclaration a d r → Below n a → Below n r
  declaration (reads_constructors h) b = others h (rest (rest (rest (rest b))))
  declaration reads_pair_of b = rest (rest (rest (rest (rest (rest (rest (rest (rest b))))))))

  more : {a r : List Token} {ds : List Declaration} → ReadsMore a ds r → Below n a → Below n r
  more no_more b = rest b
  more (one_more h k) b = more k (declaration h b)

  constant : {a r : List Token} {c : SourceConstant} → ReadsConstant a c r → Below n a → (constant_place c < n) × Below n r
  constant reads_constructor b = (here b, rest b)
  constant reads_undefined b = (here (rest b), rest (rest b))
  constant (reads_both h k) b = (here b, rest (constant k (rest (constant h (rest b)).1)).1)

  pattern : {a r : List Token} {m : SourcePattern} → ReadsPattern a m r → Below n a → Below n r
  pattern reads_alone b = rest b
  pattern (reads_parts h k) b = rest (pattern k (rest (pattern h (rest b))))
  pattern (reads_alone_or h) b = pattern h (rest (rest b))
  pattern (reads_parts_or h k l) b = pattern l (rest (rest (pattern k (rest (pattern h (rest b))))))

  both : {cs ds : List PlacedCheck} → Within n cs → Within n ds → Within n (cs ++ ds)
  both within_none k = k
  both (within-one h t) k = within-one h (both t k)

  module _ (ds : List Declaration) where
    expression : {a r : List Token} {e : Expression} → ReadsExpression a e r → Below n a → Within n (constant_checks ds e) × Below n r
    expression reads_named b = (within_none, rest b)
    expression reads_undefined_of b = (within_none, rest (rest b))
    expression (reads_pair h k) b =
        let i = expression h (rest b) in
        let j = expression k (rest i.1) in
        (both i.0 j.0, rest j.1)
    expression (reads_first h) b = let i = expression h b in (i.0, rest (rest (rest i.1)))
    expression (reads_second h) b = let i = expression h b in (i.0, rest (rest (rest i.1)))
    expression (reads_let h k) b =
        let i = expression h (rest (rest (rest (rest b)))) in
        let j = expression k (rest i.1) in
        (both i.0 j.0, rest j.1)
    expression (reads_let_rec h k) b =
        let i = expression h (rest (rest (rest (rest (rest (rest (rest (rest b)))))))) in
        let j = expression k (rest i.1) in
        (both i.0 j.0, rest j.1)
    expression (reads_if h m k l) b =
        let i = expression h (rest (rest b)) in
        let j = expression k (rest (pattern m (rest i.1))) in
        let o = expression l (rest j.1) in
        (both (both i.0 j.0) o.0, rest o.1)
    expression (reads_delay h k) b =
        let i = constant h (rest (rest (rest b))) in
        let j = expression k (rest i.1) in
        (within-one i.0 j.0, rest (rest j.1))

  constants-told : {ts : List Token} {t : Text} → ReadsText ts t → Below n ts → Within n (constants_of_text t)
  constants-told (reads_text {d} {ds} h k l) b = (expression (d ∷ ds) l (rest (more k (declaration h b)))).0

  first-told : {cs : List PlacedCheck} → Within n cs → (p : ℕ) → first_bad_place cs ≡ some p → p < n
  first-told within_none p e = let z : ◌≡◌ {A = ℕ} 0 1 = cc in absurd (omega arith)
  first-told (within-one {x = true} h t) p e = first-told t p e
  first-told (within-one {p = q} {x = false} h t) p e = let f : q ≡ p = cc in omega (arith, h, f)

  named-below : {ts : List Token} → Below n ts → (cs : List PlacedCheck) → check_places cs ≡ name_places ts → (p : ℕ) → first_bad_place cs ≡ some p → p < n
  named-below {ts} b cs e p f = first-told (go ts b cs e) p f
    where
      go : (ts : List Token) → Below n ts → (cs : List PlacedCheck) → check_places cs ≡ name_places ts → Within n cs
      go [] b [] e = within_none
      go [] b (check_at p x ∷ cs) e = let z : ◌≡◌ {A = ℕ} 0 1 = cc in absurd (omega arith)
      go (keyword k q ∷ ts) b cs e = go ts (rest b) cs e
      go (symbol s q ∷ ts) b cs e = go ts (rest b) cs e
      go (name_token w q ∷ ts) b [] e = let z : ◌≡◌ {A = ℕ} 0 1 = cc in absurd (omega arith)
      go (name_token w q ∷ ts) b (check_at p x ∷ cs) e =
          let f : q ≡ p = cc in
          let g : check_places cs ≡ name_places ts = cc in
          within-one {p = p} (let l = here b in omega (arith, l, f)) (go ts (rest b) cs g)

pub names-within : {bytes : List ℕ} {ts : List Token} {t : Text} → Tokens 0 bytes ts → ReadsText ts t
    → (p : ℕ) → first_bad_place (name_checks t) ≡ some p → p < length bytes
names-within {bytes} {t} l r p e = named-below (tokens-below (omega arith) l) (name_checks t) (each_once r) p e

pub constants-within : {bytes : List ℕ} {ts : List Token} {t : Text} → Tokens 0 bytes ts → ReadsText ts t
    → (p : ℕ) → first_bad_place (constants_of_text t) ≡ some p → p < length bytes
constants-within l r p e = first-told (constants-told r (tokens-below (omega arith) l)) p e
