-- A word's number says which letters may still come.
-- Assumes nothing.
use Prim.Native.Nat.{ℕ, suc, ◌+◌, ◌≤◌, ◌<◌}
use native.Mathlib.Omega.{arith}
use native.Mathlib.Numerals.{add-one}
use native.Mathlib.Decide.{dec_lt}
use mathlib.Core.Path.{◌≡◌, refl, sym, ap, subst, ◌∙◌}
use mathlib.Core.Bool.{Bool, true, false, cond}
use mathlib.Core.List.{List, [], ◌∷◌}
use lib.ListN.{get_or, drop, replicate, get_or-replicate, get_or-append}
use lib.Seq.{drop-cons}
use lib.Dec.{eqb, ltb}
use borrow.Author.Tests.{eq-eqb, ne_eqb, lt-ltb, le-ltb}
use Rattle.grammar.specs.Tokens.{byte_class}
use Rattle.grammar.specs.Rows.{State, state_number}
use Rattle.grammar.specs.Machine.{no_word, in_name, spelt, dead, live, on_byte, further, can_end, ends}
use Rattle.recognizer.specs.Coded.{state_of, letter_table, keyword_letters, until_zero, word_of, class_of, followed}
use Rattle.recognizer.proofs.ClassLaws.{fresh-class, further-class}
use Rattle.recognizer.proofs.RowLaws.{number-of-state}

-- no letter is awaited before the keywords' numbers
no-letter : (w : ℕ) → w < 17 → get_or letter_table w 0 ≡ 0
no-letter w h = get_or-append (replicate 17 0) keyword_letters 0 w h ∙ get_or-replicate 17 w 0 0 h

word-name : (w : ℕ) → (w ≡ 0 → ⊥) → w < 17 → word_of w ≡ in_name w
word-name w n h = rw (ne_eqb w 0 n, lt-ltb w 17 h)

-- the letters that a keyword's number awaits
word-spelt : (w : ℕ) → 17 ≤ w → w < 60
    → word_of w ≡ spelt (cond (eqb (get_or letter_table w 0) 0) [] (get_or letter_table w 0 ∷ until_zero (drop (suc w) letter_table)))
word-spelt w h l =
    ap (λ x. cond x no_word (cond (ltb w 17) (in_name w) (spelt (until_zero (drop w letter_table))))) (ne_eqb w 0 (λ e. omega arith))
    ∙ ap (λ x. cond x (in_name w) (spelt (until_zero (drop w letter_table)))) (le-ltb w 17 h)
    ∙ ap (λ x. spelt (until_zero x)) (drop-cons letter_table w 0 l)

-- the number after a keyword's number
word_after : (w : ℕ) → 17 ≤ w → word_of (w + 1) ≡ spelt (until_zero (drop (suc w) letter_table))
word_after w h =
    ap (λ x. cond x no_word (cond (ltb (w + 1) 17) (in_name (w + 1)) (spelt (until_zero (drop (w + 1) letter_table))))) (ne_eqb (w + 1) 0 (λ e. omega arith))
    ∙ ap (λ x. cond x (in_name (w + 1)) (spelt (until_zero (drop (w + 1) letter_table)))) (le-ltb (w + 1) 17 (omega arith))
    ∙ ap (λ n. spelt (until_zero (drop n letter_table))) (add-one w)

module _ {w : ℕ} (few : w < 60) where
  -- where a letter is awaited the word is a keyword's, and not the last number
  awaited : (get_or letter_table w 0 ≡ 0 → ⊥) → 17 ≤ w
  awaited n = go (dec_lt w 17)
    where
      go : Dec (w < 17) → 17 ≤ w
      go (yes h) = absurd (n (no-letter w h))
      go (no h) = omega (arith, h)

  pub not_last : (get_or letter_table w 0 ≡ 0 → ⊥) → w + 1 < 60
  not_last n = let h : w ≡ 59 → ⊥ = λ e. n (ap (λ x. get_or letter_table x 0) e) in omega (arith, h)

  pub spelled : (b c : ℕ) (q : State) (K : List State) → get_or letter_table w 0 ≡ c → (c ≡ 0 → ⊥)
      → on_byte b q K (word_of w) ≡ cond (eqb b c) (live q K (word_of (w + 1))) dead
  spelled b c q K e n =
      let h : 17 ≤ w = awaited (λ z. n (sym e ∙ z)) in
      let rest : List ℕ = until_zero (drop (suc w) letter_table) in
      ap (on_byte b q K)
      (word-spelt w h few
      ∙ ap (λ x. spelt (cond (eqb x 0) [] (x ∷ rest))) e
      ∙ ap (λ x. spelt (cond x [] (c ∷ rest))) (ne_eqb c 0 n))
      ∙ ap (λ x. cond (eqb b c) (live q K x) dead) (sym (word_after w h))

  -- where none is, the word can end
  name-then : (b : ℕ) (q : State) (K : List State) → (w ≡ 0 → ⊥) → w < 17
      → on_byte b q K (word_of w) ≡ further (byte_class b) (cond (ltb w 16) (live q K (word_of (w + 1))) dead) b q K
  name-then b q K n h =
      ap (on_byte b q K) (word-name w n h) ∙ ap (λ x. further (byte_class b) x b q K) (same (ltb w 16) refl)
    where
      same : (t : Bool) → ltb w 16 ≡ t → cond t (live q K (in_name (w + 1))) dead ≡ cond t (live q K (word_of (w + 1))) dead
      same true e = ap (live q K) (sym (word-name (w + 1) (λ z. omega arith) (omega (arith, borrow.Author.Tests.ltb-true w 16 e))))
      same false e = refl

  keyword-then : (b : ℕ) (q : State) (K : List State) → get_or letter_table w 0 ≡ 0 → 17 ≤ w
      → on_byte b q K (word_of w) ≡ further (byte_class b) (cond (ltb w 16) (live q K (word_of (w + 1))) dead) b q K
  keyword-then b q K e h =
      ap (on_byte b q K)
      (word-spelt w h few ∙ ap (λ x. spelt (cond x [] (get_or letter_table w 0 ∷ until_zero (drop (suc w) letter_table)))) (eq-eqb (get_or letter_table w 0) 0 e))
      ∙ ap (λ x. further (byte_class b) (cond x (live q K (word_of (w + 1))) dead) b q K) (sym (le-ltb w 16 (omega arith)))

  pub follows-byte : (b : ℕ) (q : State) (K : List State) → get_or letter_table w 0 ≡ 0 → on_byte b q K (word_of w) ≡ followed (class_of b) q K w
  follows-byte b q K e = go (dec_lt 0 w) (dec_lt w 17)
    where
      nothing : (w ≡ 0) → on_byte b q K (word_of w) ≡ followed (class_of b) q K w
      nothing z = subst (λ x. on_byte b q K (word_of x) ≡ followed (class_of b) q K x) (sym z) (fresh-class b q K (byte_class b) refl)

      go : Dec (0 < w) → Dec (w < 17) → on_byte b q K (word_of w) ≡ followed (class_of b) q K w
      go (no h) d = nothing (omega (arith, h))
      go (yes h) (yes l) = name-then b q K (λ z. omega arith) l ∙ further-class b q K w (λ z. omega arith) (byte_class b) refl
      go (yes h) (no l) = keyword-then b q K e (omega (arith, l)) ∙ further-class b q K w (λ z. omega arith) (byte_class b) refl

  -- whether it can end is whether no letter is awaited
  pub whole-number : can_end (word_of w) ≡ eqb (get_or letter_table w 0) 0
  whole-number = go (dec_lt w 17) (dec_lt 0 w)
    where
      spelt-whole : (x : Bool) (c : ℕ) (l : List ℕ) → can_end (spelt (cond x [] (c ∷ l))) ≡ x
      spelt-whole true c l = refl
      spelt-whole false c l = refl

      go : Dec (w < 17) → Dec (0 < w) → can_end (word_of w) ≡ eqb (get_or letter_table w 0) 0
      go (yes h) (yes l) = ap can_end (word-name w (λ z. omega arith) h) ∙ sym (eq-eqb (get_or letter_table w 0) 0 (no-letter w h))
      go (yes h) (no l) = let z : w ≡ 0 = omega (arith, l) in ap (λ x. can_end (word_of x)) z ∙ sym (eq-eqb (get_or letter_table w 0) 0 (no-letter w h))
      go (no h) d = ap can_end (word-spelt w (omega (arith, h)) few) ∙ spelt-whole (eqb (get_or letter_table w 0) 0) (get_or letter_table w 0) (until_zero (drop (suc w) letter_table))

  pub ends-number : (s : ℕ) (K : List State) → s < 47 → ends (live (state_of s) K (word_of w)) ≡ cond (eqb (get_or letter_table w 0) 0) (eqb s 16) false
  ends-number s K h = ap (λ x. cond x (eqb (state_number (state_of s)) 16) false) whole-number ∙ ap (λ n. cond (eqb (get_or letter_table w 0) 0) (eqb n 16) false) (number-of-state s h)
