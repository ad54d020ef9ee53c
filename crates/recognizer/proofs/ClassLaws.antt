-- A byte's class says what the byte does.
-- Assumes nothing.
use Prim.Native.Nat.{ℕ, suc, ◌+◌, ◌≤◌, ◌<◌}
use native.Mathlib.Omega.{arith}
use mathlib.Core.Path.{◌≡◌, refl, sym, ap, ◌∙◌}
use mathlib.Core.Bool.{Bool, true, false, cond}
use mathlib.Core.List.{List, [], ◌∷◌}
use mathlib.Core.Option.{Option, none, some}
use lib.ListN.{length}
use lib.Dec.{T, eqb, eqb→eq, ltb}
use borrow.Author.Tests.{eq-eqb, ne_eqb, le-leb, lt-leb}
use Rattle.grammar.specs.Tokens.{TYPE, IN, INPUT, LET, INIT, REC, IF, MATCHES, THEN, ELSE, DELAY}
use Rattle.grammar.specs.Tokens.{Symbol, opens, closes, comma, equals, bar, query, index_opens, index_closes, one, two}
use Rattle.grammar.specs.Tokens.{ByteClass, is_blank, is_lower, is_upper, is_other, is_symbol, byte_class}
use Rattle.grammar.specs.Rows.{State, Lead, a_symbol, a_keyword, a_name, Transition, on, transitions}
use Rattle.grammar.specs.Machine.{dead, live, no_word, begin_token, perform_found, find, fresh, further, lead_byte, alike}
use Rattle.grammar.proofs.ByteKinds.{alike-lower, alike-upper, alike-symbol, found-kind}
use Rattle.grammar.proofs.RowFound.{found-by}
use Rattle.recognizer.specs.Coded.{capitals, position, symbol_class, class_number, class_of, after_byte_class, followed, word_of}

-- one of two by a test, with what the test says
choose : (b n : ℕ) (P : ℕ → Type 0) (x y : ℕ) → (b ≡ n → P x) → ((b ≡ n → ⊥) → P y) → P (cond (eqb b n) x y)
choose b n P x y h k = go (eqb b n) (eqb→eq b n) refl
  where
    go : (t : Bool) → (T t → b ≡ n) → eqb b n ≡ t → P (cond t x y)
    go true e f = h (e tt)
    go false e f = k (λ g. let z : true ≡ false = sym (eq-eqb b n g) ∙ f in let o : ◌≡◌ {A = ℕ} 0 1 = cc in omega arith)

-- a byte that begins no token is found in no row
none_found : (n : ℕ) (rs : List Transition) → ((l : Lead) → n ≡ lead_byte l → ⊥) → find n rs ≡ none
none_found n rs h = go (find n rs) refl
  where
    go : (r : Option Transition) → find n rs ≡ r → r ≡ none
    go none e = refl
    go (some (on l a)) e = absurd (h l (found-by n l a rs e))

-- a capital that no keyword begins with
other-capital : (b : ℕ) (l : Lead) → byte_class b ≡ is_upper → b ≡ lead_byte l
    → (b ≡ 84 → ⊥) → (b ≡ 73 → ⊥) → (b ≡ 76 → ⊥) → (b ≡ 82 → ⊥) → (b ≡ 77 → ⊥) → (b ≡ 69 → ⊥) → (b ≡ 68 → ⊥) → ⊥
other-capital b (a_symbol s) h e n84 n73 n76 n82 n77 n69 n68 =
    let f : is_upper ≡ is_symbol s = sym h ∙ found-kind b (a_symbol s) (alike-upper b h ∙ e) in let z : ◌≡◌ {A = ℕ} 0 1 = cc in omega arith
other-capital b a_name h e n84 n73 n76 n82 n77 n69 n68 =
    let f : is_upper ≡ is_lower = sym h ∙ found-kind b a_name (alike-upper b h ∙ e) in let z : ◌≡◌ {A = ℕ} 0 1 = cc in omega arith
other-capital b (a_keyword TYPE) h e n84 n73 n76 n82 n77 n69 n68 = n84 (e)
other-capital b (a_keyword IN) h e n84 n73 n76 n82 n77 n69 n68 = n73 (e)
other-capital b (a_keyword INPUT) h e n84 n73 n76 n82 n77 n69 n68 = n73 (e)
other-capital b (a_keyword LET) h e n84 n73 n76 n82 n77 n69 n68 = n76 (e)
other-capital b (a_keyword INIT) h e n84 n73 n76 n82 n77 n69 n68 = n73 (e)
other-capital b (a_keyword REC) h e n84 n73 n76 n82 n77 n69 n68 = n82 (e)
other-capital b (a_keyword IF) h e n84 n73 n76 n82 n77 n69 n68 = n73 (e)
other-capital b (a_keyword MATCHES) h e n84 n73 n76 n82 n77 n69 n68 = n77 (e)
other-capital b (a_keyword THEN) h e n84 n73 n76 n82 n77 n69 n68 = n84 (e)
other-capital b (a_keyword ELSE) h e n84 n73 n76 n82 n77 n69 n68 = n69 (e)
other-capital b (a_keyword DELAY) h e n84 n73 n76 n82 n77 n69 n68 = n68 (e)

pub symbol-below : (s : Symbol) → symbol_class s < 10
symbol-below opens = omega arith
symbol-below closes = omega arith
symbol-below comma = omega arith
symbol-below equals = omega arith
symbol-below bar = omega arith
symbol-below query = omega arith
symbol-below index_opens = omega arith
symbol-below index_closes = omega arith
symbol-below one = omega arith
symbol-below two = omega arith

pub position-below : (b : ℕ) (l : List ℕ) → position b l ≤ length l
position-below b [] = omega arith
position-below b (c ∷ l) =
    let h = position-below b l in
    choose b c (λ x. x ≤ suc (length l)) 0 (suc (position b l)) (λ e. omega arith) (λ e. omega arith)

-- the classes are so many
pub class-below : (b : ℕ) → class_of b < 21
class-below b = go (byte_class b)
  where
    go : (k : ByteClass) → class_number k b < 21
    go (is_symbol s) = omega (arith, symbol-below s)
    go is_other = omega arith
    go is_blank = omega arith
    go is_lower = omega arith
    go is_upper = omega (arith, position-below b capitals)

-- a byte where no word is begun, and one after a word that can end there
module _ (b : ℕ) (q : State) (K : List State) where
  by_byte : {n : ℕ} → alike b ≡ n → begin_token b q K ≡ perform_found (find n (transitions q)) K
  by_byte e = ap (λ n. perform_found (find n (transitions q)) K) e

  symbol-begun : (s : Symbol) → byte_class b ≡ is_symbol s → begin_token b q K ≡ after_byte_class (symbol_class s) q K
  symbol-begun opens h = by_byte (alike-symbol b opens h)
  symbol-begun closes h = by_byte (alike-symbol b closes h)
  symbol-begun comma h = by_byte (alike-symbol b comma h)
  symbol-begun equals h = by_byte (alike-symbol b equals h)
  symbol-begun bar h = by_byte (alike-symbol b bar h)
  symbol-begun query h = by_byte (alike-symbol b query h)
  symbol-begun index_opens h = by_byte (alike-symbol b index_opens h)
  symbol-begun index_closes h = by_byte (alike-symbol b index_closes h)
  symbol-begun one h = by_byte (alike-symbol b one h)
  symbol-begun two h = by_byte (alike-symbol b two h)

  capital-begun : byte_class b ≡ is_upper → begin_token b q K ≡ after_byte_class (11 + position b capitals) q K
  capital-begun h =
      choose b 84 (λ x. begin_token b q K ≡ after_byte_class (11 + x) q K) 0 (suc (position b (73 ∷ 76 ∷ 82 ∷ 77 ∷ 69 ∷ 68 ∷ []))) (λ e. by_byte (alike-upper b h ∙ e))
      (λ n84. choose b 73 (λ x. begin_token b q K ≡ after_byte_class (11 + suc (x)) q K) 0 (suc (position b (76 ∷ 82 ∷ 77 ∷ 69 ∷ 68 ∷ []))) (λ e. by_byte (alike-upper b h ∙ e))
      (λ n73. choose b 76 (λ x. begin_token b q K ≡ after_byte_class (11 + suc (suc (x))) q K) 0 (suc (position b (82 ∷ 77 ∷ 69 ∷ 68 ∷ []))) (λ e. by_byte (alike-upper b h ∙ e))
      (λ n76. choose b 82 (λ x. begin_token b q K ≡ after_byte_class (11 + suc (suc (suc (x)))) q K) 0 (suc (position b (77 ∷ 69 ∷ 68 ∷ []))) (λ e. by_byte (alike-upper b h ∙ e))
      (λ n82. choose b 77 (λ x. begin_token b q K ≡ after_byte_class (11 + suc (suc (suc (suc (x))))) q K) 0 (suc (position b (69 ∷ 68 ∷ []))) (λ e. by_byte (alike-upper b h ∙ e))
      (λ n77. choose b 69 (λ x. begin_token b q K ≡ after_byte_class (11 + suc (suc (suc (suc (suc (x)))))) q K) 0 (suc (position b (68 ∷ []))) (λ e. by_byte (alike-upper b h ∙ e))
      (λ n69. choose b 68 (λ x. begin_token b q K ≡ after_byte_class (11 + suc (suc (suc (suc (suc (suc (x))))))) q K) 0 (suc (0)) (λ e. by_byte (alike-upper b h ∙ e))
      (λ n68. ap (λ r. perform_found r K) (ap (λ n. find n (transitions q)) (alike-upper b h) ∙ none_found b (transitions q) (λ l e. other-capital b l h e n84 n73 n76 n82 n77 n69 n68)))))))))

  pub fresh-class : (k : ByteClass) → byte_class b ≡ k → fresh k b q K ≡ followed (class_number k b) q K 0
  fresh-class (is_symbol s) h =
      symbol-begun s h ∙ sym (ap (λ x. cond x (live q K no_word) (after_byte_class (symbol_class s) q K)) (ne_eqb (symbol_class s) 19 (λ e. omega (arith, symbol-below s))))
  fresh-class is_other h = refl
  fresh-class is_blank h = refl
  fresh-class is_lower h = by_byte (alike-lower b h)
  fresh-class is_upper h =
      capital-begun h
      ∙ sym (ap (λ x. cond x (live q K no_word) (after_byte_class (11 + position b capitals) q K)) (ne_eqb (11 + position b capitals) 19 (λ e. omega (arith, position-below b capitals))))

  pub further-class : (w : ℕ) → (w ≡ 0 → ⊥) → (k : ByteClass) → byte_class b ≡ k
      → further k (cond (ltb w 16) (live q K (word_of (w + 1))) dead) b q K ≡ followed (class_number k b) q K w
  further-class w n (is_symbol s) h =
      symbol-begun s h
      ∙ sym (rw (ne_eqb (symbol_class s) 19 (λ e. omega (arith, symbol-below s)), ne_eqb w 0 n, lt-leb 10 (symbol_class s) (symbol-below s)))
  further-class w n is_other h = sym (rw (ne_eqb w 0 n))
  further-class w n is_blank h = refl
  further-class w n is_lower h = sym (rw (ne_eqb w 0 n))
  further-class w n is_upper h =
      sym
      (rw (
        ne_eqb (11 + position b capitals) 19 (λ e. omega (arith, position-below b capitals)),
        ne_eqb w 0 n,
        le-leb 10 (11 + position b capitals) (omega arith),
        ne_eqb (11 + position b capitals) 10 (λ e. omega arith),
      ))
