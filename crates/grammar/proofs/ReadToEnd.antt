-- Tokens that the machine reads to its end are those of a text.
-- Assumes nothing.
use Prim.Native.Nat.{ℕ}
use mathlib.Core.Path.{◌≡◌, sym, subst}
use mathlib.Core.Bool.{Bool, true, false, cond}
use mathlib.Core.List.{List, [], ◌∷◌}
use mathlib.Core.Option.{Option, none, some}
use native.Mathlib.Omega.{arith}
use lib.Dec.{T, eqb, eqb→eq}
use Rattle.grammar.specs.Tokens.{Token, keyword, symbol, name_token}
use Rattle.grammar.specs.Source.{identifier, Text, text}
use Rattle.grammar.specs.Grammar.{ReadsText, reads_text}
use Rattle.grammar.specs.Rows.{State, start, done, state_number, Lead, Action, Transition, on, transitions}
use Rattle.grammar.specs.Machine.{Config, dead, live, WordLeft, no_word, find, perform, taken, on_token, after_tokens, ends, can_end}
use Rattle.grammar.specs.Machine.{lead_of, lead_byte, lead_number}
use Rattle.grammar.proofs.Awaiting.{Indexing, indexing, await-end}
use Rattle.grammar.proofs.Sound.{Empty, SoundFrom, SoundAt, Moves, EachTransition, moves}
use Rattle.grammar.proofs.Numbered.{same-lead, same_state}

-- the row that is found
abbrev pub OfFound : (Lead → Action → Type 0) → Option Transition → Type 0
OfFound P none = Unit {0}
OfFound P (some (on l a)) = P l a

pub picked : (P : Lead → Action → Type 0) (b : ℕ) (rs : List Transition) → EachTransition P rs → OfFound P (find b rs)
picked P b [] e = tt
picked P b (on l a ∷ more) e = go (eqb b (lead_byte l)) e.0 (picked P b more e.1)
  where
    go : (x : Bool) → P l a → OfFound P (find b more) → OfFound P (cond x (some (on l a)) (find b more))
    go true h k = h
    go false h k = k

module _ (ts : List Token) (q : State) (K : List State) (b : List Token) where
  moved : (t : Token) (l : Lead) (a : Action) → lead_of t ≡ l → Moves ts q l a → SoundFrom ts q K (t ∷ b) → SoundAt ts (perform a K no_word) b
  moved (keyword k p) l a e m h = subst (λ x. Moves ts q x a) (sym e) m K b p h
  moved (symbol s p) l a e m h = subst (λ x. Moves ts q x a) (sym e) m K b p h
  moved (name_token w p) l a e m h = subst (λ x. Moves ts q x a) (sym e) m K b w p h

  by_row : (t : Token) (r : Option Transition) → OfFound (Moves ts q) r → SoundFrom ts q K (t ∷ b) → SoundAt ts (taken (lead_of t) K r) b
  by_row t none m h = tt
  by_row t (some (on l a)) m h = go (eqb (lead_number (lead_of t)) (lead_number l)) (eqb→eq (lead_number (lead_of t)) (lead_number l))
    where
      go : (x : Bool) → (T x → lead_number (lead_of t) ≡ lead_number l) → SoundAt ts (cond x (perform a K no_word) dead) b
      go true e = moved t l a (same-lead (lead_of t) l (e tt)) m h
      go false e = tt

  by_token : (t : Token) → SoundFrom ts q K (t ∷ b) → SoundAt ts (on_token t q K) b
  by_token t h = by_row t (find (lead_byte (lead_of t)) (transitions q)) (picked (Moves ts q) (lead_byte (lead_of t)) (transitions q) (moves ts q)) h

by-tokens : (ts b : List Token) (c : Config) → SoundAt ts c b → SoundAt ts (after_tokens c b) []
by-tokens ts [] c h = h
by-tokens ts (t ∷ b) dead h = tt
by-tokens ts (t ∷ b) (live q K w) h = by-tokens ts b (on_token t q K) (by_token ts q K b t h)

-- the end is reached in one state alone
pub ends-done : (q : State) (K : List State) (w : WordLeft) → ends (live q K w) ≡ true → q ≡ done
ends-done q K w h = go (can_end w) h
  where
    test : (x : Bool) → (T x → state_number q ≡ 16) → x ≡ true → q ≡ done
    test true e k = same_state q done (e tt)
    test false e k = absurd (let z : ◌≡◌ {A = ℕ} 0 1 = cc in omega arith)

    go : (x : Bool) → cond x (eqb (state_number q) 16) false ≡ true → q ≡ done
    go true k = test (eqb (state_number q) 16) (eqb→eq (state_number q) 16) k
    go false k = absurd (let z : ◌≡◌ {A = ℕ} 0 1 = cc in omega arith)

whole-text : {ts : List Token} (K : List State) → Empty K → Indexing ts K [] → (t : Text) × ReadsText ts t
whole-text [] u (indexing (await-end h) d) = h _ d
whole-text (q ∷ K) u i = absurd u

ended : (ts : List Token) (c : Config) → SoundAt ts c [] → ends c ≡ true → (t : Text) × ReadsText ts t
ended ts dead s h = absurd (let z : ◌≡◌ {A = ℕ} 0 1 = cc in omega arith)
ended ts (live q K w) s h = let f = subst (λ x. SoundFrom ts x K []) (ends-done q K w h) s in whole-text K f.0 f.1

pub read-to-end : (ts : List Token) → ends (after_tokens (live start [] no_word) ts) ≡ true → (t : Text) × ReadsText ts t
read-to-end ts h =
    ended ts (after_tokens (live start [] no_word) ts)
    (by-tokens ts ts (live start [] no_word) (tt, λ d r k. λ ds w p c l. λ e x. (text d ds (identifier w p) e, reads_text k l x)))
    h
