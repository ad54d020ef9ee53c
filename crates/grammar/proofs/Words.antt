-- A word that the machine has begun goes on to its end: `Continued w bs v rest` says that after w the bytes bs go on with the letters v, which
-- end the word, and rest. Both directions between bytes and tokens go through it.
-- Assumes nothing.
use Prim.Native.Nat.{ℕ, ◌+◌, ◌≤◌, ◌<◌}
use native.Mathlib.Omega.{arith}
use mathlib.Core.Path.{◌≡◌, refl, ap, subst, ◌∙◌}
use mathlib.Core.Bool.{true, false, cond}
use mathlib.Core.List.{List, [], ◌∷◌}
use lib.ListN.{length}
use lib.Dec.{ltb}
use borrow.Author.Tests.{eq-eqb, lt-ltb}
use Rattle.grammar.specs.Tokens.{ByteClass, is_blank, is_lower, is_upper, is_other, is_symbol, byte_class, is_letter, NoLetter}
use Rattle.grammar.specs.Tokens.{LetterRun, run_last, run_more, AllLower, lower_more, Spells, spells_keyword, spells_name}
use Rattle.grammar.specs.Tokens.{Token, Keyword, spelling}
use Rattle.grammar.specs.Rows.{State, Lead, a_keyword, a_name}
use Rattle.grammar.specs.Machine.{Config, dead, live, WordLeft, no_word, in_name, spelt, after_bytes, ends, fresh, further}
use Rattle.grammar.specs.Machine.{lead_of, lead_byte, lead_word, first_letter, after_first, alike}
use Rattle.grammar.proofs.ByteKinds.{alike-lower, alike-upper, lead-kind}

pub data Continued : WordLeft → List ℕ → List ℕ → List ℕ → Type 0 where
  no-word : {bs : List ℕ} → Continued no_word bs [] bs
  name-end : {n : ℕ} {rest : List ℕ} → NoLetter rest → Continued (in_name n) rest [] rest
  name-more : {n b : ℕ} {bs v rest : List ℕ}
      → byte_class b ≡ is_lower → n < 16 → Continued (in_name (n + 1)) bs v rest → Continued (in_name n) (b ∷ bs) (b ∷ v) rest
  keyword-end : {rest : List ℕ} → NoLetter rest → Continued (spelt []) rest [] rest
  keyword-more : {c : ℕ} {left bs v rest : List ℕ}
      → Continued (spelt left) bs v rest → Continued (spelt (c ∷ left)) (c ∷ bs) (c ∷ v) rest

-- after a word that can end, a byte that is no letter is read as where no word is begun
no-letter-further : (k : ByteClass) (c : Config) (b : ℕ) (q : State) (K : List State) → is_letter k ≡ false → further k c b q K ≡ fresh k b q K
no-letter-further is_lower c b q K h = absurd (let z : ◌≡◌ {A = ℕ} 0 1 = cc in omega arith)
no-letter-further is_upper c b q K h = absurd (let z : ◌≡◌ {A = ℕ} 0 1 = cc in omega arith)
no-letter-further is_blank c b q K h = refl
no-letter-further is_other c b q K h = refl
no-letter-further (is_symbol s) c b q K h = refl

name-over : (q : State) (K : List State) (n : ℕ) (rest : List ℕ) → NoLetter rest
    → ends (after_bytes (live q K (in_name n)) rest) ≡ ends (after_bytes (live q K no_word) rest)
name-over q K n [] h = refl
name-over q K n (b ∷ rest) h =
    ap (λ c. ends (after_bytes c rest)) (no-letter-further (byte_class b) (cond (ltb n 16) (live q K (in_name (n + 1))) dead) b q K h)

keyword-over : (q : State) (K : List State) (rest : List ℕ) → NoLetter rest
    → ends (after_bytes (live q K (spelt [])) rest) ≡ ends (after_bytes (live q K no_word) rest)
keyword-over q K [] h = refl
keyword-over q K (b ∷ rest) h = ap (λ c. ends (after_bytes c rest)) (no-letter-further (byte_class b) dead b q K h)

-- the machine reads a word to its end
pub through : {w : WordLeft} {bs v rest : List ℕ} (q : State) (K : List State)
    → Continued w bs v rest → ends (after_bytes (live q K w) bs) ≡ ends (after_bytes (live q K no_word) rest)
through q K no-word = refl
through q K (name-end {n} {rest} h) = name-over q K n rest h
through q K (name-more {n} {b} {bs} e l h) =
    ap (λ k. ends (after_bytes (further k (cond (ltb n 16) (live q K (in_name (n + 1))) dead) b q K) bs)) e
    ∙ ap (λ x. ends (after_bytes (cond x (live q K (in_name (n + 1))) dead) bs)) (lt-ltb n 16 l)
    ∙ through q K h
through q K (keyword-end {rest} h) = keyword-over q K rest h
through q K (keyword-more {c} {left} {bs} h) = ap (λ x. ends (after_bytes (cond x (live q K (spelt left)) dead) bs)) (eq-eqb c c refl) ∙ through q K h

-- a run of letters as a keyword's and as a name's
run-keyword : {bs word rest : List ℕ} → LetterRun bs word rest → Continued (spelt word) bs word rest
run-keyword (run_last h n) = keyword-more (keyword-end n)
run-keyword (run_more h r) = keyword-more (run-keyword r)

run-name : {bs word rest : List ℕ} (n : ℕ) → LetterRun bs word rest → AllLower word → n + length word ≤ 16 → Continued (in_name n) bs word rest
run-name n (run_last h e) (lower_more k a) l = name-more {n = n} k (omega arith) (name-end e)
run-name n (run_more h r) (lower_more k a) l = name-more {n = n} k (omega arith) (run-name (n + 1) r a (omega arith))

-- a run that is a token: its first byte, and how it goes on
pub record BegunWord (bs word rest : List ℕ) (l : Lead) : Type 0 where
  pub first : ℕ
  pub following : List ℕ
  pub letters : List ℕ
  pub split : bs ≡ first ∷ following
  pub letter : is_letter (byte_class first) ≡ true
  pub leads : alike first ≡ lead_byte l
  pub continued : Continued (lead_word l) following letters rest

alike-first : (b : ℕ) (k : Keyword) → b ≡ first_letter (spelling k) → alike b ≡ first_letter (spelling k)
alike-first b k e = alike-upper b (ap byte_class e ∙ lead-kind (a_keyword k)) ∙ e

begun-keyword : {bs word rest : List ℕ} (k : Keyword) → LetterRun bs word rest → word ≡ spelling k → BegunWord bs word rest (a_keyword k)
begun-keyword k (run_last {b} {rest} h n) e = record {
  first = b;
  following = rest;
  letters = [];
  split = refl;
  letter = h;
  leads = alike-first b k (ap first_letter e);
  continued = subst (λ w. Continued (spelt w) rest [] rest) (ap after_first e) (keyword-end n);
}
begun-keyword k (run_more {b} {bs} {word} {rest} h r) e = record {
  first = b;
  following = bs;
  letters = word;
  split = refl;
  letter = h;
  leads = alike-first b k (ap first_letter e);
  continued = subst (λ w. Continued (spelt w) bs word rest) (ap after_first e) (run-keyword r);
}

begun-name : {bs word rest : List ℕ} → LetterRun bs word rest → AllLower word → length word ≤ 16 → BegunWord bs word rest a_name
begun-name (run_last {b} {rest} h n) (lower_more k a) l =
    record { first = b; following = rest; letters = []; split = refl; letter = h; leads = alike-lower b k; continued = name-end n }
begun-name (run_more {b} {bs} {word} h r) (lower_more k a) l =
    record { first = b; following = bs; letters = word; split = refl; letter = h; leads = alike-lower b k; continued = run-name 1 r a (omega arith) }

pub begun : {bs word rest : List ℕ} {i : ℕ} {t : Token} → LetterRun bs word rest → Spells word i t → BegunWord bs word rest (lead_of t)
begun r (spells_keyword {k} e) = begun-keyword k r e
begun r (spells_name a l) = begun-name r a l
