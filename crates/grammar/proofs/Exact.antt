-- The machine reads to its end exactly the legal texts, and reads on exactly where some continuation is legal; so the place that it finds is
-- the one at which the text leaves the grammar.
-- Assumes nothing.
use Prim.Native.Nat.{ℕ, suc, ◌+◌, ◌≤◌, ◌<◌}
use native.Mathlib.Omega.{arith}
use mathlib.Core.Path.{◌≡◌, refl, sym, ap, subst, ◌∙◌}
use mathlib.Core.Bool.{Bool, true, false, cond, not}
use mathlib.Core.List.{List, [], ◌∷◌, ◌++◌}
use mathlib.Core.Option.{none, some}
use lib.ListN.{length, take, length-take}
use lib.Seq.{take-take, take_all}
use lib.Dec.{T, ltb, ltb→lt, nltb→le}
use Rattle.grammar.specs.Tokens.{Token, Tokens}
use Rattle.grammar.specs.Legal.{Legal, Viable, text_bytes, LeavesGrammar, at_byte, at_limit, at_end}
use Rattle.grammar.specs.Walk.{PlaceTold}
use Rattle.grammar.specs.Rows.{State, start}
use Rattle.grammar.specs.Machine.{Config, dead, live, WordLeft, no_word, on_byte, after_bytes, ends, begins}
use Rattle.grammar.specs.Walk.{Walked, stopped, came_to, onward, walk, concluded, first_illegal}
use Rattle.grammar.proofs.Derived.{derived}
use Rattle.grammar.proofs.ReadToEnd.{read-to-end}
use Rattle.grammar.proofs.Endings.{completable}
use Rattle.grammar.proofs.Words.{Continued, no-word}
use Rattle.grammar.proofs.RowFound.{dead-bytes}
use Rattle.grammar.proofs.BytesOfTokens.{bytes-of-tokens}
use Rattle.grammar.proofs.TokensOfBytes.{tokens-of-bytes}

pub legal-read : (bs : List ℕ) → Legal bs → ends (after_bytes begins bs) ≡ true
legal-read bs (ts, t, r) = bytes-of-tokens start [] r.lexed (ap ends (derived r.parsed))

all-lexed : {bs v rest : List ℕ} {ts : List Token} → Continued no_word bs v rest → Tokens (0 + length v) rest ts → Tokens 0 bs ts
all-lexed no-word t = t

pub read-legal : (bs : List ℕ) → ends (after_bytes begins bs) ≡ true → Legal bs
read-legal bs h =
    let x = tokens-of-bytes bs 0 start [] no_word h in
    let y = read-to-end x.later x.ending in
    (x.later, y.0, record { lexed = all-lexed x.continued x.lexed; parsed = y.1 })

bytes-append : (c : Config) (bs cs : List ℕ) → after_bytes c (bs ++ cs) ≡ after_bytes (after_bytes c bs) cs
bytes-append c [] cs = refl
bytes-append dead (b ∷ bs) [] = refl
bytes-append dead (b ∷ bs) (d ∷ cs) = refl
bytes-append (live q K w) (b ∷ bs) cs = bytes-append (on_byte b q K w) bs cs

-- the machine has a step so far
abbrev pub Alive : Config → Type 0
Alive dead = ⊥
Alive (live q K w) = Unit {0}

pub alive-viable : (bs : List ℕ) → Alive (after_bytes begins bs) → Viable bs
alive-viable bs h = go (after_bytes begins bs) refl h
  where
    go : (c : Config) → after_bytes begins bs ≡ c → Alive c → Viable bs
    go dead e a = absurd a
    go (live q K w) e a =
        let x = completable q K w in
        (x.0, read-legal (bs ++ x.0) (ap ends (bytes-append begins bs x.0 ∙ ap (λ c. after_bytes c x.0) e) ∙ x.1))

pub dead-not-viable : (bs : List ℕ) → after_bytes begins bs ≡ dead → Viable bs → ⊥
dead-not-viable bs h v =
    dead-bytes v.0 (ap ends (sym (bytes-append begins bs v.0 ∙ ap (λ c. after_bytes c v.0) h)) ∙ legal-read (bs ++ v.0) v.1)

-- where the walk stops
record Stops (bs : List ℕ) (i j : ℕ) (c : Config) : Type 0 where
  count : ℕ
  place : j ≡ i + count
  within : count < length bs
  until : Alive (after_bytes c (take count bs))
  there : after_bytes c (take (suc count) bs) ≡ dead

stops : (bs : List ℕ) (i j : ℕ) (q : State) (K : List State) (w : WordLeft) → walk bs i (live q K w) ≡ stopped j → Stops bs i j (live q K w)
stops [] i j q K w h = absurd (let z : ◌≡◌ {A = ℕ} 0 1 = cc in omega arith)
stops (b ∷ bs) i j q K w h = go (on_byte b q K w) refl h (λ r L v k. stops bs (suc i) j r L v k)
  where
    go : (c : Config) → on_byte b q K w ≡ c → onward (walk bs (suc i)) c i ≡ stopped j
        → ((r : State) (L : List State) (v : WordLeft) → walk bs (suc i) (live r L v) ≡ stopped j → Stops bs (suc i) j (live r L v))
        → Stops (b ∷ bs) i j (live q K w)
    go dead e k again = let f : i ≡ j = cc in record { count = 0; place = omega arith; within = omega arith; until = tt; there = e }
    go (live r L v) e k again =
        let s = again r L v k in
        record {
          count = suc s.count;
          place = omega (arith, s.place);
          within = omega (arith, s.within);
          until = subst (λ c. Alive (after_bytes c (take s.count bs))) (sym e) s.until;
          there = ap (λ c. after_bytes c (take (suc s.count) bs)) e ∙ s.there;
        }

-- where it does not
reaches : (bs : List ℕ) (i : ℕ) (q : State) (K : List State) (w : WordLeft) (d : Config)
    → walk bs i (live q K w) ≡ came_to d → (after_bytes (live q K w) bs ≡ d) × Alive d
reaches [] i q K w d h = let e : live q K w ≡ d = cc in (e, subst Alive e tt)
reaches (b ∷ bs) i q K w d h = go (on_byte b q K w) refl h (λ r L v k. reaches bs (suc i) r L v d k)
  where
    go : (c : Config) → on_byte b q K w ≡ c → onward (walk bs (suc i)) c i ≡ came_to d
        → ((r : State) (L : List State) (v : WordLeft) → walk bs (suc i) (live r L v) ≡ came_to d → (after_bytes (live r L v) bs ≡ d) × Alive d)
        → (after_bytes (on_byte b q K w) bs ≡ d) × Alive d
    go dead e k again = absurd (let z : ◌≡◌ {A = ℕ} 0 1 = cc in omega arith)
    go (live r L v) e k again = let s = again r L v k in (ap (λ c. after_bytes c bs) e ∙ s.0, s.1)

module _ (text : List ℕ) where
  stopped-told : (j : ℕ) → walk (take text_bytes text) 0 begins ≡ stopped j → LeavesGrammar text j
  stopped-told j h =
      let s = stops (take text_bytes text) 0 j start [] no_word h in
      let few : s.count < length (take text_bytes text) = s.within in
      let both = length-take text_bytes text in
      let below : s.count < text_bytes = omega (arith, few, both) in
      let e : s.count ≡ j = omega (arith, s.place) in
      subst (LeavesGrammar text) e
      (at_byte (omega (arith, few, both)) below
      (alive-viable (take s.count text)
      (subst (λ l. Alive (after_bytes begins l)) (take-take s.count text_bytes text (omega (arith, below))) s.until))
      (dead-not-viable (take (suc s.count) text)
      (ap (after_bytes begins) (sym (take-take (suc s.count) text_bytes text below)) ∙ s.there)))

  module _ (d : Config) (read : after_bytes begins (take text_bytes text) ≡ d) (alive : Alive d) where
    taken-viable : Viable (take text_bytes text)
    taken-viable = alive-viable (take text_bytes text) (subst Alive (sym read) alive)

    ended-told : length text ≤ text_bytes → (x : Bool) → ends d ≡ x → PlaceTold text (cond x none (some (length text)))
    ended-told l x e =
        let all : take text_bytes text ≡ text = take_all text_bytes text l in
        let whole : after_bytes begins text ≡ d = ap (after_bytes begins) (sym all) ∙ read in
        told x e (ap ends whole) (subst Viable all taken-viable)
      where
        told : (y : Bool) → ends d ≡ y → ends (after_bytes begins text) ≡ ends d → Viable text → PlaceTold text (cond y none (some (length text)))
        told true f g v = record { legal = read-legal text (g ∙ f); short = l }
        told false f g v = at_end l v (λ k. let z : false ≡ true = sym (g ∙ f) ∙ legal-read text k in absurd (let y : ◌≡◌ {A = ℕ} 0 1 = cc in omega arith))

    reached-told : (x : Bool) → (T x → text_bytes < length text) → (T (not x) → length text ≤ text_bytes)
        → PlaceTold text (cond x (some text_bytes) (cond (ends d) none (some (length text))))
    reached-told true l m = at_limit (l tt) taken-viable
    reached-told false l m = ended-told (m tt) (ends d) refl

  pub first-illegal-exact : PlaceTold text (first_illegal text)
  unfolding first_illegal
  first-illegal-exact = go (walk (take text_bytes text) 0 begins) refl
    where
      go : (o : Walked) → walk (take text_bytes text) 0 begins ≡ o → PlaceTold text (concluded (length text) o)
      go (stopped j) h = stopped-told j h
      go (came_to d) h =
          let r = reaches (take text_bytes text) 0 start [] no_word d h in
          reached-told d r.0 r.1 (ltb text_bytes (length text)) (ltb→lt text_bytes (length text)) (nltb→le text_bytes (length text))
