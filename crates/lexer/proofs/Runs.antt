-- Blanks and letters by their classes, byte by byte.
-- Assumes nothing.
use Rattle.std.specs.Prelude.{IsTrue, ◌↔◌, take_while}
use Rattle.std.specs.List.{prefix_len}
use Rattle.std.proofs.lemmas.List.{take_all}
use Rattle.std.proofs.lemmas.List.Sums.{prefix_len-le-length}
use Rattle.std.proofs.lemmas.List.Folds.{length-prefix_len}
use Prim.Native.Nat.{ℕ, suc, ◌+◌, ◌-◌, ◌≤◌}
use native.Mathlib.Omega.{arith}
use mathlib.Core.Path.{◌≡◌, refl, sym, ap, ◌∙◌}
use mathlib.Core.Bool.{Bool, true, false, cond}
use mathlib.Core.List.{List, [], ◌∷◌}
use lib.ListN.{length, take, drop, length-drop}
use Rattle.grammar.specs.Tokens.{ByteClass, is_blank, is_lower, is_upper, is_other, is_symbol, byte_class, is_letter}
use Rattle.recognizer.specs.Coded.{class_number, class_of, capitals}
use Rattle.recognizer.proofs.ClassLaws.{symbol-below, position-below}
use Rattle.lexer.specs.Scanned.{blank_class, blanks_in, letters_in}

abbrev pub blank_byte : ℕ → Bool
blank_byte b = blank_class (byte_class b)

abbrev pub letter_byte : ℕ → Bool
letter_byte b = is_letter (byte_class b)

-- what is counted is how many bytes pass a test at the beginning
blanks-prefix : (bs : List ℕ) → blanks_in bs ≡ prefix_len blank_byte bs
blanks-prefix [] = refl
blanks-prefix (b ∷ bs) = let e : suc (blanks_in bs) ≡ 1 + prefix_len blank_byte bs = omega (arith, blanks-prefix bs) in ap (λ n. cond (blank_byte b) n 0) e

letters-prefix : (bs : List ℕ) → letters_in bs ≡ prefix_len letter_byte bs
letters-prefix [] = refl
letters-prefix (b ∷ bs) = let e : suc (letters_in bs) ≡ 1 + prefix_len letter_byte bs = omega (arith, letters-prefix bs) in ap (λ n. cond (letter_byte b) n 0) e

rest-all : (text : List ℕ) (i : ℕ) → take (length text - i) (drop i text) ≡ drop i text
rest-all text i = take_all (length text - i) (drop i text) (omega (arith, length-drop i text))

module _ (text : List ℕ) (i : ℕ) (h : i ≤ length text) {n : ℕ} where
  counted : (p : ℕ → Bool) → n ≡ length (take_while p (take (length text - i) (drop i text))) → n ≡ prefix_len p (drop i text)
  counted p e = e ∙ ap (λ l. length (take_while p l)) (rest-all text i) ∙ length-prefix_len p (drop i text)

  within : (p : ℕ → Bool) → n ≡ prefix_len p (drop i text) → i + n ≤ length text
  within p e = omega (arith, prefix_len-le-length p (drop i text), length-drop i text)

  pub blanks-counted : n ≡ length (take_while blank_byte (take (length text - i) (drop i text))) → (i + n ≡ i + blanks_in (drop i text)) × (i + n ≤ length text)
  blanks-counted e = (ap (λ m. i + m) (counted blank_byte e ∙ sym (blanks-prefix (drop i text))), within blank_byte (counted blank_byte e))

  pub letters-counted : n ≡ length (take_while letter_byte (take (length text - i) (drop i text))) → (i + n ≡ i + letters_in (drop i text)) × (i + n ≤ length text)
  letters-counted e = (ap (λ m. i + m) (counted letter_byte e ∙ sym (letters-prefix (drop i text))), within letter_byte (counted letter_byte e))

-- a byte's class says what it is
class-blank : (b : ℕ) → class_of b ≡ 19 → blank_byte b ≡ true
class-blank b = go (byte_class b)
  where
    go : (k : ByteClass) → class_number k b ≡ 19 → blank_class k ≡ true
    go (is_symbol s) e = absurd (omega (arith, symbol-below s))
    go is_other e = absurd (omega arith)
    go is_blank e = refl
    go is_lower e = absurd (omega arith)
    go is_upper e = absurd (omega (arith, position-below b capitals))

class-unblank : (b : ℕ) → (class_of b ≡ 19 → ⊥) → blank_byte b ≡ false
class-unblank b = go (byte_class b)
  where
    go : (k : ByteClass) → (class_number k b ≡ 19 → ⊥) → blank_class k ≡ false
    go (is_symbol s) n = refl
    go is_other n = refl
    go is_blank n = absurd (n refl)
    go is_lower n = refl
    go is_upper n = refl

pub class-letter : (b : ℕ) → 10 ≤ class_of b → class_of b ≤ 18 → letter_byte b ≡ true
class-letter b = go (byte_class b)
  where
    go : (k : ByteClass) → 10 ≤ class_number k b → class_number k b ≤ 18 → is_letter k ≡ true
    go (is_symbol s) l h = absurd (omega (arith, symbol-below s))
    go is_other l h = absurd (omega arith)
    go is_blank l h = absurd (omega arith)
    go is_lower l h = refl
    go is_upper l h = refl

class-unletter : (b : ℕ) → (((10 ≤ class_of b) × (class_of b ≤ 18)) → ⊥) → letter_byte b ≡ false
class-unletter b = go (byte_class b)
  where
    go : (k : ByteClass) → (((10 ≤ class_number k b) × (class_number k b ≤ 18)) → ⊥) → is_letter k ≡ false
    go (is_symbol s) n = refl
    go is_other n = refl
    go is_blank n = refl
    go is_lower n = absurd (n (omega arith, omega arith))
    go is_upper n = absurd (n (omega arith, omega (arith, position-below b capitals)))

-- two tests of the same
told-alike : {P : Type 0} {r t : Bool} → IsTrue r ↔ P → (P → t ≡ true) → ((P → ⊥) → t ≡ false) → r ≡ t
told-alike {P} {r} {t} i y n = go r i
  where
    go : (x : Bool) → IsTrue x ↔ P → x ≡ t
    go true i = sym (y (i.0 refl))
    go false i = sym (n (λ p. let z : false ≡ true = i.1 p in let o : ◌≡◌ {A = ℕ} 0 1 = cc in omega arith))

pub blank-told : {r : Bool} {class : ℕ} (b : ℕ) → class ≡ class_of b → IsTrue r ↔ (class ≡ 19) → r ≡ blank_byte b
blank-told b c i = told-alike i (λ h. class-blank b (sym c ∙ h)) (λ n. class-unblank b (λ h. n (c ∙ h)))

pub letter-told : {r : Bool} {class : ℕ} (b : ℕ) → class ≡ class_of b → IsTrue r ↔ ((10 ≤ class) × (class ≤ 18)) → r ≡ letter_byte b
letter-told b c i = told-alike i (λ h. class-letter b (omega (arith, c, h.0)) (omega (arith, c, h.1))) (λ n. class-unletter b (λ h. n (omega (arith, c, h.0), omega (arith, c, h.1))))
