-- What the machine does on a token is what it does on the token's first byte, but for the rest of the word.
-- Assumes nothing.
use Prim.Native.Nat.{ℕ}
use native.Mathlib.Omega.{arith}
use mathlib.Core.Path.{◌≡◌, refl, sym, ap, subst, ◌∙◌}
use mathlib.Core.Bool.{Bool, true, false, cond}
use mathlib.Core.List.{List, [], ◌∷◌}
use mathlib.Core.Option.{Option, none, some}
use lib.Dec.{T, eqb, eqb→eq}
use borrow.Author.Tests.{eq-eqb}
use Rattle.grammar.specs.Tokens.{Token, ByteClass, is_blank, is_lower, is_upper, is_other, is_symbol, is_letter}
use Rattle.grammar.specs.Rows.{State, done, Lead, Action, go, call, return, Transition, on, transitions}
use Rattle.grammar.specs.Machine.{dead, live, WordLeft, no_word, find, perform_found, begin_token, fresh, perform, taken, after_tokens, after_bytes, ends}
use Rattle.grammar.specs.Machine.{lead_byte, lead_number, lead_word, alike}
use Rattle.grammar.proofs.Numbered.{same-lead}

-- an action leads to the same state and stack with any word
pub record Performed (a : Action) (K : List State) : Type 0 where
  pub state : State
  pub stack : List State
  pub reaches : (w : WordLeft) → perform a K w ≡ live state stack w

pub performed : (a : Action) (K : List State) → Performed a K
performed (go q) K = record { state = q; stack = K; reaches = λ w. refl }
performed (call r q) K = record { state = q; stack = r ∷ K; reaches = λ w. refl }
performed return [] = record { state = done; stack = []; reaches = λ w. refl }
performed return (q ∷ K) = record { state = q; stack = K; reaches = λ w. refl }

dead-tokens : (ts : List Token) → ends (after_tokens dead ts) ≡ true → ⊥
dead-tokens [] h = let z : ◌≡◌ {A = ℕ} 0 1 = cc in omega arith
dead-tokens (t ∷ ts) h = let z : ◌≡◌ {A = ℕ} 0 1 = cc in omega arith

pub dead-bytes : (bs : List ℕ) → ends (after_bytes dead bs) ≡ true → ⊥
dead-bytes [] h = let z : ◌≡◌ {A = ℕ} 0 1 = cc in omega arith
dead-bytes (b ∷ bs) h = let z : ◌≡◌ {A = ℕ} 0 1 = cc in omega arith

-- the row of a token that the machine can read
pub record ByToken (l : Lead) (q : State) (K : List State) (ts : List Token) : Type 0 where
  pub action : Action
  pub row : find (lead_byte l) (transitions q) ≡ some (on l action)
  pub ending : ends (after_tokens (perform action K no_word) ts) ≡ true

pub by_token : (l : Lead) (q : State) (K : List State) (ts : List Token)
    → ends (after_tokens (taken l K (find (lead_byte l) (transitions q))) ts) ≡ true → ByToken l q K ts
by_token l q K ts h = look (find (lead_byte l) (transitions q)) refl h
  where
    agree : (m : Lead) (a : Action) → find (lead_byte l) (transitions q) ≡ some (on m a)
        → (x : Bool) → (T x → lead_number l ≡ lead_number m) → ends (after_tokens (cond x (perform a K no_word) dead) ts) ≡ true → ByToken l q K ts
    agree m a e true f k = record { action = a; row = subst (λ n. find (lead_byte l) (transitions q) ≡ some (on n a)) (sym (same-lead l m (f tt))) e; ending = k }
    agree m a e false f k = absurd (dead-tokens ts k)

    look : (r : Option Transition) → find (lead_byte l) (transitions q) ≡ r → ends (after_tokens (taken l K r) ts) ≡ true → ByToken l q K ts
    look none e k = absurd (dead-tokens ts k)
    look (some (on m a)) e k = agree m a e (eqb (lead_number l) (lead_number m)) (eqb→eq (lead_number l) (lead_number m)) k

-- the row that is found has the byte it was looked for by
pub found-by : (b : ℕ) (l : Lead) (a : Action) (rs : List Transition) → find b rs ≡ some (on l a) → b ≡ lead_byte l
found-by b l a [] e = absurd (let z : ◌≡◌ {A = ℕ} 0 1 = cc in omega arith)
found-by b l a (on m c ∷ more) e = go (eqb b (lead_byte m)) (eqb→eq b (lead_byte m)) e (found-by b l a more)
  where
    same_row : on m c ≡ on l a → m ≡ l
    same_row f = cc

    go : (x : Bool) → (T x → b ≡ lead_byte m) → cond x (some (on m c)) (find b more) ≡ some (on l a) → (find b more ≡ some (on l a) → b ≡ lead_byte l) → b ≡ lead_byte l
    go true f k again = let r : on m c ≡ on l a = cc in f tt ∙ ap lead_byte (same_row r)
    go false f k again = again k

-- the row of a byte that begins a token which the machine can read
pub record ByByte (b : ℕ) (q : State) (K : List State) (bs : List ℕ) : Type 0 where
  pub lead : Lead
  pub action : Action
  pub leads : alike b ≡ lead_byte lead
  pub row : find (lead_byte lead) (transitions q) ≡ some (on lead action)
  pub ending : ends (after_bytes (perform action K (lead_word lead)) bs) ≡ true

pub by_byte : (b : ℕ) (q : State) (K : List State) (bs : List ℕ) → ends (after_bytes (begin_token b q K) bs) ≡ true → ByByte b q K bs
by_byte b q K bs h = look (find (alike b) (transitions q)) refl h
  where
    look : (r : Option Transition) → find (alike b) (transitions q) ≡ r → ends (after_bytes (perform_found r K) bs) ≡ true → ByByte b q K bs
    look none e k = absurd (dead-bytes bs k)
    look (some (on l a)) e k =
        let f = found-by (alike b) l a (transitions q) e in
        record { lead = l; action = a; leads = f; row = ap (λ n. find n (transitions q)) (sym f) ∙ e; ending = k }

-- a byte that begins a token
pub begins-token : (b : ℕ) (l : Lead) (a : Action) (q : State) (K : List State)
    → alike b ≡ lead_byte l → find (lead_byte l) (transitions q) ≡ some (on l a) → begin_token b q K ≡ perform a K (lead_word l)
begins-token b l a q K e f = ap (λ n. perform_found (find n (transitions q)) K) e ∙ ap (λ r. perform_found r K) f

pub takes-token : (l : Lead) (a : Action) (q : State) (K : List State)
    → find (lead_byte l) (transitions q) ≡ some (on l a) → taken l K (find (lead_byte l) (transitions q)) ≡ perform a K no_word
takes-token l a q K f = ap (λ r. taken l K r) f ∙ ap (λ x. cond x (perform a K no_word) dead) (eq-eqb (lead_number l) (lead_number l) refl)

pub letter-begins : (k : ByteClass) (b : ℕ) (q : State) (K : List State) → is_letter k ≡ true → fresh k b q K ≡ begin_token b q K
letter-begins is_lower b q K h = refl
letter-begins is_upper b q K h = refl
letter-begins is_blank b q K h = absurd (let z : ◌≡◌ {A = ℕ} 0 1 = cc in omega arith)
letter-begins is_other b q K h = absurd (let z : ◌≡◌ {A = ℕ} 0 1 = cc in omega arith)
letter-begins (is_symbol s) b q K h = refl
