-- The numbers of states, rows and words say what they stand for.
-- Assumes nothing.
use Prim.Native.Nat.{ℕ, zero, suc, ◌+◌, ◌-◌, ◌≤◌, ◌<◌}
use native.Mathlib.Omega.{arith}
use mathlib.Core.Path.{◌≡◌, refl, sym, ap, ap₂, ◌∙◌}
use mathlib.Core.List.{List, [], ◌∷◌, map}
use mathlib.Core.Option.{Option, none, some}
use lib.ListN.{length, get_or, get_or-map}
use lib.Dec.{lit<}
use borrow.Author.Tests.{ne_eqb}
use Rattle.grammar.specs.Tokens.{Keyword, TYPE, IN, INPUT, LET, INIT, REC, IF, MATCHES, THEN, ELSE, DELAY}
use Rattle.grammar.specs.Rows.{State, state_number, states, Lead, a_symbol, a_keyword, a_name, Action, go, call, return, Transition, on, transitions}
use Rattle.grammar.specs.Rows.{start}
use Rattle.grammar.specs.Machine.{live, back, perform_found, find, lead_word, perform}
use Rattle.grammar.proofs.Numbered.{state-found, state-below}
use Rattle.recognizer.specs.Coded.{state_of, word_of, keyword_word, word_of_lead, next_number, waits_number, row_next, row_waits, row_word, follows}
use Rattle.recognizer.specs.Coded.{lead_bytes, table_of}

-- the numbers from i on
abbrev counted : ℕ → ℕ → List ℕ
counted i zero = []
counted i (suc n) = i ∷ counted (suc i) n

counted-at : (i n k : ℕ) → k < n → get_or (counted i n) k 0 ≡ i + k
counted-at i zero k h = absurd (omega arith)
counted-at i (suc n) zero h = omega arith
counted-at i (suc n) (suc k) h = counted-at (suc i) n k (omega arith) ∙ omega arith

pub number-of-state : (s : ℕ) → s < 47 → state_number (state_of s) ≡ s
number-of-state s h = sym (get_or-map state_number states s start) ∙ counted-at 0 47 s h ∙ omega arith

keyword-below : (k : Keyword) → keyword_word k < 60
keyword-below TYPE = lit< tt
keyword-below IN = lit< tt
keyword-below INPUT = lit< tt
keyword-below LET = lit< tt
keyword-below INIT = lit< tt
keyword-below REC = lit< tt
keyword-below IF = lit< tt
keyword-below MATCHES = lit< tt
keyword-below THEN = lit< tt
keyword-below ELSE = lit< tt
keyword-below DELAY = lit< tt

word_below : (l : Lead) → word_of_lead l < 60
word_below (a_symbol s) = lit< tt
word_below (a_keyword k) = keyword-below k
word_below a_name = lit< tt

keyword-word : (k : Keyword) → word_of (keyword_word k) ≡ lead_word (a_keyword k)
keyword-word TYPE = refl
keyword-word IN = refl
keyword-word INPUT = refl
keyword-word LET = refl
keyword-word INIT = refl
keyword-word REC = refl
keyword-word IF = refl
keyword-word MATCHES = refl
keyword-word THEN = refl
keyword-word ELSE = refl
keyword-word DELAY = refl

word-found : (l : Lead) → word_of (word_of_lead l) ≡ lead_word l
word-found (a_symbol s) = refl
word-found (a_keyword k) = keyword-word k
word-found a_name = refl

-- what a row's numbers say is what the row says
back-again : (q : State) → state_of (state_number q + 1 - 1) ≡ q
back-again q = let e : state_number q + 1 - 1 ≡ state_number q = omega arith in ap state_of e ∙ state-found q

row-follows : (l : Lead) (a : Action) (K : List State) → follows (next_number a) (waits_number a) (word_of_lead l) K ≡ perform a K (lead_word l)
row-follows l (go q) K =
    rw (ne_eqb (state_number q + 1) 0 (λ e. omega arith), ne_eqb (state_number q + 1) 48 (λ e. omega (arith, state-below q)))
    (ap₂ (λ r w. live r K w) (back-again q) (word-found l))
row-follows l (call r q) K =
    rw
    (ne_eqb (state_number q + 1) 0 (λ e. omega arith), ne_eqb (state_number q + 1) 48 (λ e. omega (arith, state-below q)), ne_eqb (state_number r + 1) 0 (λ e. omega arith))
    (ap₂ (λ x w. live x (state_of (state_number r + 1 - 1) ∷ K) w) (back-again q) (word-found l) ∙ ap (λ x. live q (x ∷ K) (lead_word l)) (back-again r))
row-follows l return K = ap (back K) (word-found l)

next-below : (a : Action) → next_number a ≤ 48
next-below (go q) = omega (arith, state-below q)
next-below (call r q) = omega (arith, state-below q)
next-below return = omega arith

waits-below : (a : Action) → waits_number a ≤ 47
waits-below (go q) = omega arith
waits-below (call r q) = omega (arith, state-below r)
waits-below return = omega arith

pub row-followed : (r : Option Transition) (K : List State) → follows (row_next r) (row_waits r) (row_word r) K ≡ perform_found r K
row-followed none K = refl
row-followed (some (on l a)) K = row-follows l a K

pub row-next-below : (r : Option Transition) → row_next r ≤ 48
row-next-below none = omega arith
row-next-below (some (on l a)) = next-below a

pub row-waits-below : (r : Option Transition) → row_waits r ≤ 47
row-waits-below none = omega arith
row-waits-below (some (on l a)) = waits-below a

pub row-word-below : (r : Option Transition) → row_word r < 60
row-word-below none = omega arith
row-word-below (some (on l a)) = word_below l

mapped_at : {A B : Type 0} (f : A → B) (l : List A) (c : ℕ) (d : A) (e : B) → c < length l → get_or (map f l) c e ≡ f (get_or l c d)
mapped_at f [] c d e h = absurd (omega arith)
mapped_at f (x ∷ l) zero d e h = refl
mapped_at f (x ∷ l) (suc c) d e h = mapped_at f l c d e (omega arith)

-- the entry of a state and a class in a table
pub table-entry-at : (f : Option Transition → ℕ) (s c : ℕ) → s < 47 → c < 18
    → get_or (get_or (table_of f) s []) c 0 ≡ f (find (get_or lead_bytes c 0) (transitions (state_of s)))
table-entry-at f s c h l =
    ap (λ k. get_or k c 0) (mapped_at (λ q. map (λ b. f (find b (transitions q))) lead_bytes) states s start [] h)
    ∙ mapped_at (λ b. f (find b (transitions (state_of s)))) lead_bytes c 0 0 l
