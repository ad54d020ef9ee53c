-- A chain of alternatives matched one after the other: what was matched so far, and what is left.
-- Assumes nothing.
use Prim.Native.Nat.{ℕ, zero, suc, ◌-◌, ◌<◌}
use mathlib.Core.List.{List}
use mathlib.Core.Path.{◌≡◌, refl, sym, ◌∙◌}
use native.Mathlib.Omega.{arith}
use Rattle.records.specs.Words.{next_word, word}
use Rattle.records.specs.Trees.{end, alternatives, follow}
use Rattle.records.specs.Decoding.{pattern_of}
use Rattle.meaning.specs.Matching.{matches}
use Rattle.meaning.specs.Decisions.{No, chain_decision}
use Rattle.values.specs.Matchings.{Matching, with_rest, MatchedAll, MatchedOne, Chosen}
use Rattle.meaning.specs.Evaluation.{choose}
use Rattle.meaning.specs.Undecided.{undecided_rule}
use Rattle.behaviour.specs.Firing.{or_after, first_yes}
use Rattle.values.specs.MatchAnswers.{decision_of, told}
use Rattle.values.specs.declared.Match.{Match}
use Rattle.values.specs.declared.Match.TheVariants as Matched'
use Rattle.values.proofs.ChainLaws.{first-told, few-told, told-alone, yes-stays}
use Rattle.values.proofs.Matches.{past, rest_is, taken_in}

-- the whole chain from p is what was matched so far, with what is left from x
pub record Gathered (s : List ℕ) (p : ℕ) (v : List ℕ) (a : Match) (x : ℕ) : Type 0 where
  pub decides : matches (pattern_of s (alternatives s p)) v ≡ with_rest (λ q. matches q v) (decision_of a) s (follow end (alternatives s) x)
  pub tells : first_yes s (alternatives s p) v ≡ or_after (decision_of a) (told a) (first_yes s (follow end (alternatives s) x) v)
  pub few : told a < 4096

-- at first nothing is matched, and the whole chain is left
pub gathering-begun : {s : List ℕ} {n : ℕ} {widths : List ℕ} {p : ℕ} {v : List ℕ} → Matching s n widths p v → Gathered s p v Matched'.No p
gathering-begun {p = zero} m = absurd (let h = past m in omega arith)
gathering-begun {p = suc p} m = record { decides = sym (rest_is m No); tells = refl; few = omega arith }

module _ {s : List ℕ} {p : ℕ} {v : List ℕ} where
  pub gone-on : {n : ℕ} {widths : List ℕ} {at : ℕ} → Matching s n widths at v → (a b c : Match) {x : ℕ} → (at ≡ 0 → ⊥)
      → Gathered s p v a at → MatchedOne s at v b
      → (decision_of c ≡ chain_decision (decision_of a) (decision_of b)) × (told c ≡ or_after (decision_of a) (told a) (told b))
      → x ≡ word s at 1 → Gathered s p v c x
  gone-on {at = zero} m a b c f h o e ex = absurd (f refl)
  gone-on {at = suc at} m a b c f h o e ex =
      record {
        decides = h.decides ∙ taken_in m a b c o.decides e.0 ex;
        tells =
            h.tells
            ∙ rw (o.tells, e.0, e.1, ex)
            (first-told (decision_of a) (decision_of b) (told a) (told b) (first_yes s (follow end (alternatives s) (next_word s (suc at))) v));
        few = rw e.1 (few-told (decision_of a) (told a) (told b) h.few o.few);
      }

  -- and after a yes nothing more
  pub up-to-yes : (a : Match) {x y : ℕ} → Gathered s p v a y → x ≡ or_after (decision_of a) 0 y → Gathered s p v a x
  up-to-yes (Matched'.Yes r) {x} {y} h e =
      record { decides = h.decides ∙ rw e (yes-stays (λ q. matches q v) s (follow end (alternatives s) y)); tells = h.tells; few = h.few }
  up-to-yes Matched'.No h e = rw e h
  up-to-yes Matched'.Undecided h e = rw e h

  pub ended : (a : Match) {x : ℕ} → Gathered s p v a x → x ≡ 0 → MatchedAll s p v a
  ended a h e = record { decides = sym (rw e at h.decides); tells = sym (rw e at h.tells ∙ told-alone a); few = h.few }

  -- the value of an IF, by the answer of its match
  pub by-match : (a : Match) {otherwise out out' : List ℕ} {k : ℕ} → MatchedAll s p v a
      → (out' ≡ choose undecided_rule (decision_of a) out otherwise) × (k ≡ told a) → Chosen s p v otherwise out out' k
  by-match a e g = record { chosen = rw (← e.decides) g.0; tells = g.1 ∙ e.tells; few = rw g.1 e.few }

-- what is left of the records, and nothing at the end of a chain
abbrev pub left : ℕ → ℕ → ℕ
left n zero = 0
left n (suc x) = suc (n - suc x)

pub left-falls : (n at x : ℕ) → (at ≡ 0 → ⊥) → at < n → ((x ≡ 0 → ⊥) → (at < x) × (x < n)) → left n x < left n at
left-falls n zero x f h g = absurd (f refl)
left-falls n (suc at) zero f h g = omega arith
left-falls n (suc at) (suc x) f h g = let q = g (λ z. omega arith) in omega (arith, q.0, q.1)
