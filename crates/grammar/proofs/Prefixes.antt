-- What can be continued to a legal text, and the one place at which a text leaves the grammar: by the definitions alone.
-- Assumes nothing.
use Prim.Native.Nat.{ℕ, suc, ◌≤◌, ◌<◌}
use native.Mathlib.Omega.{arith}
use native.Mathlib.Decide.{dec_lt}
use mathlib.Core.Path.{◌≡◌, refl, sym, ap, subst, ◌∙◌}
use mathlib.Core.List.{List, [], ◌∷◌, ◌++◌, append_assoc, append-nil}
use lib.ListN.{length, take, drop, take-append-drop}
use lib.Seq.{take-take, take_all}
use Rattle.grammar.specs.Legal.{Legal, Viable, text_bytes, LeavesGrammar, at_byte, at_limit, at_end, Keeps}

pub legal-viable : (bs : List ℕ) → Legal bs → Viable bs
legal-viable bs h = ([], subst Legal (sym (append-nil bs)) h)

-- what begins a text that can be continued can be continued
pub viable-take : (m : ℕ) (bs : List ℕ) → Viable bs → Viable (take m bs)
viable-take m bs v = (
  drop m bs ++ v.0,
  subst Legal (ap (λ l. l ++ v.0) (sym (take-append-drop m bs)) ∙ append_assoc (take m bs) (drop m bs) v.0) v.1,
)

pub viable-earlier : (m n : ℕ) (bs : List ℕ) → m ≤ n → Viable (take n bs) → Viable (take m bs)
viable-earlier m n bs l v = subst Viable (take-take m n bs l) (viable-take m (take n bs) v)

-- a place's prefix can be continued, and with the byte at the place it cannot
module _ (bs : List ℕ) where
  pub before : {i : ℕ} → LeavesGrammar bs i → Viable (take i bs)
  before (at_byte l m v n) = v
  before (at_limit l v) = v
  before (at_end l v n) = subst Viable (sym (take_all (length bs) bs (omega arith))) v

  pub keeps-viable : Keeps bs → Viable bs
  keeps-viable k = legal-viable bs k.legal

  -- no byte after which no continuation is legal comes before what can be continued
  not-later : {i : ℕ} (j : ℕ) → i < j → (Viable (take (suc i) bs) → ⊥) → Viable (take j bs) → ⊥
  not-later {i} j l n v = n (viable-earlier (suc i) j bs l v)

  whole-taken : Viable bs → Viable (take (length bs) bs)
  whole-taken v = subst Viable (sym (take_all (length bs) bs (omega arith))) v

  same_byte : (i j : ℕ) → (Viable (take (suc i) bs) → ⊥) → Viable (take j bs) → (Viable (take (suc j) bs) → ⊥) → Viable (take i bs) → i ≡ j
  same_byte i j n v m w = go (dec_lt i j) (dec_lt j i)
    where
      go : Dec (i < j) → Dec (j < i) → i ≡ j
      go (yes l) d = absurd (not-later j l n v)
      go (no l) (yes k) = absurd (not-later i k m w)
      go (no l) (no k) = omega (arith, l, k)

  pub one_place : {i j : ℕ} → LeavesGrammar bs i → LeavesGrammar bs j → i ≡ j
  one_place {i} {j} (at_byte l m v n) (at_byte l' m' v' n') = same_byte i j n v' n' v
  one_place (at_byte l m v n) (at_limit l' v') = absurd (not-later text_bytes m n v')
  one_place (at_byte l m v n) (at_end l' v' n') = absurd (not-later (length bs) l n (whole-taken v'))
  one_place (at_limit l v) (at_byte l' m' v' n') = absurd (not-later text_bytes m' n' v)
  one_place (at_limit l v) (at_limit l' v') = refl
  one_place (at_limit l v) (at_end l' v' n') = absurd (omega arith)
  one_place (at_end l v n) (at_byte l' m' v' n') = absurd (not-later (length bs) l' n' (whole-taken v))
  one_place (at_end l v n) (at_limit l' v') = absurd (omega arith)
  one_place (at_end l v n) (at_end l' v' n') = refl

  pub not_both : {i : ℕ} → LeavesGrammar bs i → Keeps bs → ⊥
  not_both (at_byte l m v n) k = not-later (length bs) l n (whole-taken (keeps-viable k))
  not_both (at_limit l v) k = let h : length bs ≤ text_bytes = k.short in omega arith
  not_both (at_end l v n) k = n k.legal
