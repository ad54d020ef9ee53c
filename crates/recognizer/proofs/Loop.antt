-- What is left to read at byte i, and what the answer then is.
-- Assumes nothing.
use Prim.Native.Nat.{ℕ, suc, ◌+◌, ◌≤◌, ◌<◌, min}
use native.Mathlib.Omega.{arith}
use native.Mathlib.Numerals.{add-one}
use mathlib.Core.Path.{◌≡◌, sym, ap, subst, ◌∙◌}
use mathlib.Core.Bool.{Bool, true, false, cond}
use mathlib.Core.List.{List, []}
use mathlib.Core.Option.{none, some}
use lib.ListN.{length, get_or, take, drop, length-take, drop_of_length-le}
use lib.Seq.{drop-cons}
use lib.Dec.{ltb}
use borrow.Author.Tests.{lt-ltb, le-ltb}
use Rattle.grammar.specs.Legal.{text_bytes, Keeps, LeavesGrammar}
use Rattle.grammar.specs.Walk.{PlaceTold, onward, walk, concluded, first_illegal}
use Rattle.grammar.specs.Rows.{start}
use Rattle.grammar.specs.Machine.{no_word, dead, begins, on_byte, ends}
use Rattle.grammar.proofs.Exact.{first-illegal-exact}
use Rattle.recognizer.specs.Coded.{Standing, standing, live_at, Stepped}
use Rattle.std.proofs.lemmas.List.{take_min}

pub record LeftToRead (read : List ℕ) (i : ℕ) (p : Standing) : Type 0 where
  pub same-walk : walk read 0 begins ≡ walk (drop i read) i (live_at p)

pub left-at-first : (read : List ℕ) {p : Standing} → p ≡ standing start [] no_word → LeftToRead read 0 p × (length p.waiting ≤ 0)
left-at-first read e = (record { same-walk = ap (λ p. walk read 0 (live_at p)) (sym e) }, (let h : length _ ≡ 0 = ap (λ p. length p.waiting) e in omega (arith, h)))

-- the bytes of a text that are read are its first n
module _ (text : List ℕ) {n : ℕ} (m : n ≡ min (length text) text_bytes) where
  same-read : take n text ≡ take text_bytes text
  same-read =
      let o : min (length text) text_bytes ≡ min text_bytes (length text) = omega arith in
      ap (λ k. take k text) (m ∙ o) ∙ take_min text_bytes text

  told : PlaceTold text (concluded (length text) (walk (take n text) 0 begins))
  unfolding first_illegal
  told = subst (λ l. PlaceTold text (concluded (length text) (walk l 0 begins))) (sym same-read) (first-illegal-exact text)

  module _ {i : ℕ} {p q : Standing} (left : LeftToRead (take n text) i p) (h : i < length (take n text)) where
    one-byte : {ok : Bool} → Stepped (on_byte (get_or (take n text) i 0) p.state p.waiting p.word) p ok q
        → walk (take n text) 0 begins ≡ onward (walk (drop (suc i) (take n text)) (suc i)) (cond ok (live_at q) dead) i
    one-byte m =
        left.same-walk
        ∙ ap (λ l. walk l i (live_at p)) (drop-cons (take n text) i 0 h)
        ∙ ap (λ c. onward (walk (drop (suc i) (take n text)) (suc i)) c i) m.stepped

    pub byte-read : {ok : Bool} → Stepped (on_byte (get_or (take n text) i 0) p.state p.waiting p.word) p ok q → ok ≡ true → LeftToRead (take n text) (i + 1) q
    byte-read m e = record {
      same-walk =
          one-byte m
          ∙ ap (λ x. onward (walk (drop (suc i) (take n text)) (suc i)) (cond x (live_at q) dead) i) e
          ∙ ap (λ j. walk (drop j (take n text)) j (live_at q)) (sym (add-one i));
    }

    pub byte-refused : {ok : Bool} → Stepped (on_byte (get_or (take n text) i 0) p.state p.waiting p.word) p ok q → ok ≡ false → LeavesGrammar text i
    byte-refused m e =
        subst (PlaceTold text)
        (ap (concluded (length text)) (one-byte m ∙ ap (λ x. onward (walk (drop (suc i) (take n text)) (suc i)) (cond x (live_at q) dead) i) e))
        told

  -- nothing left
  module _ {i : ℕ} {p : Standing} (left : LeftToRead (take n text) i p) (h : length (take n text) ≤ i) where
    all-read : PlaceTold text (cond (ltb text_bytes (length text)) (some text_bytes) (cond (ends (live_at p)) none (some (length text))))
    all-read =
        subst (PlaceTold text)
        (ap (concluded (length text)) (left.same-walk ∙ ap (λ l. walk l i (live_at p)) (drop_of_length-le (take n text) {i = i} h)))
        told

    pub text-whole : length text ≤ 65535 → ends (live_at p) ≡ true → Keeps text
    text-whole l e =
        subst (PlaceTold text)
        (ap (λ x. cond x (some text_bytes) (cond (ends (live_at p)) none (some (length text)))) (le-ltb text_bytes (length text) l)
        ∙ ap (λ x. cond x none (some (length text))) e)
        all-read

    pub text-unfinished : length text ≤ 65535 → ends (live_at p) ≡ false → LeavesGrammar text (length (take n text))
    text-unfinished l e =
        let f : length text ≡ length (take n text) = omega (arith, m, length-take n text) in
        subst (PlaceTold text)
        (ap (λ x. cond x (some text_bytes) (cond (ends (live_at p)) none (some (length text)))) (le-ltb text_bytes (length text) l)
        ∙ ap (λ x. cond x none (some (length text))) e ∙ ap some f)
        all-read

    pub past-limit : 65535 < length text → LeavesGrammar text (length (take n text))
    past-limit l =
        let f : text_bytes ≡ length (take n text) = omega (arith, m, length-take n text) in
        subst (PlaceTold text)
        (ap (λ x. cond x (some text_bytes) (cond (ends (live_at p)) none (some (length text)))) (lt-ltb text_bytes (length text) l) ∙ ap some f)
        all-read
