-- Texts added one after the other are their concatenation, added at once.
-- Assumes nothing.
use Prim.Native.Nat.{ℕ, ◌+◌, ◌/◌, ◌%◌, ◌≤◌, ◌<◌}
use mathlib.Core.Path.{◌≡◌, ap, ◌∙◌}
use mathlib.Core.List.{List, [], ◌∷◌, ◌++◌, append_assoc}
use native.Mathlib.Omega.{arith}
use lib.ListN.{length, length-append}
use Rattle.std.proofs.lemmas.List.{drop-drop}
use Rattle.listing.specs.Digits.{digit, digits}
use Rattle.listing.specs.Texts.{Written, Added}
use Rattle.listing.proofs.Digits.{digits-one, digits_more}

pub added-long : {old new : Written} {text : List ℕ} → Added old text new → length new.bytes ≡ length old.bytes + length text
added-long {old} {new} {text} a = ap length a.bytes ∙ length-append old.bytes text

pub added_then : {old mid new : Written} {text more : List ℕ} → Added old text mid → Added mid more new → Added old (text ++ more) new
added_then {old} {text = text} {more = more} a b =
    record {
      bytes = b.bytes ∙ rw a.bytes (append_assoc old.bytes text more);
      room = b.room ∙ a.room;
      rest = b.rest ∙ rw (a.rest, length-append text more) (drop-drop (length more) (length text) old.rest);
      lender = b.lender ∙ a.lender;
    }

-- a number below 10 is one digit, and another has the digits of its tenth before the last
module _ (n : ℕ) where
  pub one-long : n < 10 → length (digits n) ≡ 1
  one-long h = ap length (digits-one n h)

  pub tenth_long : 10 ≤ n → length (digits n) ≡ length (digits (n / 10)) + 1
  tenth_long h = ap length (digits_more n h) ∙ length-append (digits (n / 10)) (digit (n % 10) ∷ [])

  pub one-digit : {old new : Written} → n < 10 → Added old (digit (n % 10) ∷ []) new → Added old (digits n) new
  one-digit h a = let e : n % 10 ≡ n = omega arith in rw (digits-one n h) (rw e at a)

  pub last-digit : {old mid new : Written} → 10 ≤ n → Added old (digits (n / 10)) mid → Added mid (digit (n % 10) ∷ []) new → Added old (digits n) new
  last-digit h a b = rw (digits_more n h) (added_then a b)
