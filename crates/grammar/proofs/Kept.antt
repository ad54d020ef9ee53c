-- One term of every promise of the front page.
-- Assumes nothing.
use Prim.Native.Nat.{ℕ, suc, ◌≤◌, ◌<◌}
use native.Mathlib.Omega.{arith}
use mathlib.Core.Path.{◌≡◌, sym, subst}
use mathlib.Core.Logic.{◌⊎◌, inl, inr}
use mathlib.Core.List.{List}
use mathlib.Core.Option.{Option, none, some}
use lib.ListN.{length, take}
use Rattle.grammar.specs.Tokens.{Token}
use Rattle.grammar.specs.Source.{Text}
use Rattle.grammar.specs.Grammar.{ReadsText}
use Rattle.grammar.specs.Legal.{Reading, Viable, text_bytes, LeavesGrammar, at_byte, at_limit, at_end, Keeps}
use Rattle.grammar.specs.Walk.{PlaceTold}
use Rattle.grammar.specs.Walk.{first_illegal}
use Rattle.grammar.specs.Promises.{GrammarPromises}
use Rattle.grammar.proofs.OneLexing.{one_lexing}
use Rattle.grammar.proofs.OneReading.{one_reading}
use Rattle.grammar.proofs.Prefixes.{before, one_place, not_both, viable-earlier}
use Rattle.grammar.proofs.Exact.{first-illegal-exact}

both_one : (bytes : List ℕ) (ts us : List Token) (t u : Text) → Reading bytes ts t → Reading bytes us u → (ts ≡ us) × (t ≡ u)
both_one bytes ts us t u r s =
    let e : ts ≡ us = one_lexing r.lexed s.lexed in
    (e, one_reading r.parsed (subst (λ x. ReadsText x u) (sym e) s.parsed))

either : (bytes : List ℕ) → Keeps bytes ⊎ ((i : ℕ) × LeavesGrammar bytes i)
either bytes = go (first_illegal bytes) (first-illegal-exact bytes)
  where
    go : (o : Option ℕ) → PlaceTold bytes o → Keeps bytes ⊎ ((i : ℕ) × LeavesGrammar bytes i)
    go none h = inl h
    go (some i) h = inr (i, h)

nowhere : (bytes : List ℕ) → Keeps bytes ⊎ ((i : ℕ) × LeavesGrammar bytes i) → ((i : ℕ) → LeavesGrammar bytes i → ⊥) → Keeps bytes
nowhere bytes (inl k) n = k
nowhere bytes (inr h) n = absurd (n h.0 h.1)

after : (bytes : List ℕ) (i k : ℕ) → LeavesGrammar bytes i → i < length bytes → i < text_bytes → i < k → Viable (take k bytes) → ⊥
after bytes i k (at_byte l m v n) g h j w = n (viable-earlier (suc i) k bytes j w)
after bytes i k (at_limit l v) g h j w = omega (arith, h)
after bytes i k (at_end l v n) g h j w = omega (arith, g)

within : (bytes : List ℕ) (i : ℕ) → LeavesGrammar bytes i → (i ≤ length bytes) × (i ≤ text_bytes)
within bytes i (at_byte l m v n) = (omega (arith, l), omega (arith, m))
within bytes i (at_limit l v) = (omega (arith, l), omega arith)
within bytes i (at_end l v n) = (omega arith, l)

pub kept : GrammarPromises
kept =
    record {
      one_lexing = λ i bytes ts us t u. one_lexing t u;
      one_parsing = λ ts t u r s. one_reading r s;
      one_reading = both_one;
      keeps_or_leaves = either;
      never_both = λ bytes i l k. not_both bytes l k;
      one_place = λ bytes i j l m. one_place bytes l m;
      no_place = λ bytes. (λ k i l. not_both bytes l k, nowhere bytes (either bytes));
      legal_before = λ bytes i k l h. viable-earlier k i bytes h (before bytes l);
      illegal_after = after;
      place_within = within;
    }
