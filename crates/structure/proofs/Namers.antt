-- The table of namings as words are added to it: a word that names record w turns w's entry into its own naming where there was
-- none; leaves it where the word and all before it are words d; and turns it into 65,535 in all other cases. Assumes nothing.
use mathlib.Core.Path.{◌≡◌, refl, sym, ◌∙◌, ap, subst}
use mathlib.Core.Bool.{Bool, true, false, not, cond, ◌&&◌, and-false, false≢true}
use mathlib.Core.Logic.{◌⊎◌, inl, inr}
use Rattle.std.specs.Prelude.{Option, Some, None, MatchOption, is_some}
use mathlib.Core.List.{List, [], ◌∷◌, ◌++◌, append-nil, append_assoc}
use Prim.Native.Nat.{ℕ, zero, suc, ◌+◌, ◌-◌, ◌*◌, ◌%◌, ◌≤◌, ◌<◌}
use native.Mathlib.Omega.{arith}
use native.Mathlib.Numerals.{add-one, sub-one}
use native.Mathlib.Decide.{ℕ_discrete}
use borrow.Author.Tests.{eq-eqb, ne_eqb, lt-ltb}
use lib.Dec.{eqb}
use lib.ListN.{get_or}
use Rattle.records.specs.Words.{word, count}
use Rattle.records.specs.Kinds.{Ask}
use Rattle.records.specs.Says.{ask_at, Naming, names, names_at, if_named, namings, namings_in, namings_below, by_word_d, well_named}
use Rattle.records.proofs.Tests.{both_left, both_right}
use Rattle.structure.specs.Rules.{wrong_naming}
use Rattle.structure.specs.declared.naming.Naming as Coded
use Rattle.structure.specs.NamerEntries.{NamingNoted}
use Rattle.structure.specs.NamerTable.{summary, ByWords, NamingsAdded, NamingsHeld}

-- one naming more
well-by-d : (n : Naming) (ns : List Naming) (m : Naming) → well_named (n ∷ (ns ++ m ∷ [])) ≡ by_word_d (n ∷ (ns ++ m ∷ []))
well-by-d n [] m = refl
well-by-d n (k ∷ ns) m = refl

not-by-d : (n : Naming) (ns : List Naming) → well_named (n ∷ ns) ≡ false → by_word_d (n ∷ ns) ≡ false
not-by-d n [] e = absurd (false≢true (sym e))
not-by-d n (k ∷ ns) e = e

all-by-d : (n : Naming) (ns : List Naming) → well_named (n ∷ ns) ≡ true → n.at ≡ 5 → by_word_d (n ∷ ns) ≡ true
all-by-d n [] e d = rw (eq-eqb n.at 5 d)
all-by-d n (k ∷ ns) e d = e

last-other : (ns : List Naming) (m : Naming) → m.at < 5 → by_word_d (ns ++ m ∷ []) ≡ false
last-other [] m l = rw (ne_eqb m.at 5 (omega arith))
last-other (n ∷ ns) m l = rw (last-other ns m l) (and-false (eqb n.at 5))

other-before : (ns : List Naming) (m : Naming) → by_word_d ns ≡ false → by_word_d (ns ++ m ∷ []) ≡ false
other-before [] m e = absurd (false≢true (sym e))
other-before (n ∷ ns) m e = go (eqb n.at 5) e (other-before ns m)
  where
    go : (b : Bool) → (b && by_word_d ns) ≡ false → (by_word_d ns ≡ false → by_word_d (ns ++ m ∷ []) ≡ false)
        → (b && by_word_d (ns ++ m ∷ [])) ≡ false
    go true f rest = rest f
    go false f rest = refl

d-after : (ns : List Naming) (m : Naming) → by_word_d ns ≡ true → m.at ≡ 5 → by_word_d (ns ++ m ∷ []) ≡ true
d-after [] m e d = rw (eq-eqb m.at 5 d)
d-after (n ∷ ns) m e d =
    rw (both_left (eqb n.at 5) (by_word_d ns) e, d-after ns m (both_right (eqb n.at 5) (by_word_d ns) e) d)

summary-none : (ns : List Naming) → summary ns ≡ 0 → ns ≡ []
summary-none [] e = refl
summary-none (n ∷ ns) e = absurd (go (well_named (n ∷ ns)) e)
  where
    go : (b : Bool) → cond b (8 * n.by + n.at + 1) 65535 ≡ 0 → ⊥
    go true f = omega arith
    go false f = omega arith

-- what the entry of a record is with the naming m beside those that it has
module _ {entry : ℕ} (m : Naming) (ns : List Naming) (words : ByWords ns) (e : entry ≡ summary ns) where
  pub entry_first : entry ≡ 0 → 8 * m.by + m.at + 1 ≡ summary (ns ++ m ∷ [])
  entry_first z = rw (summary-none ns (sym e ∙ z))

  pub entry-several : (entry ≡ 0 → ⊥) → m.at < 5 → 65535 ≡ summary (ns ++ m ∷ [])
  entry-several f l = go ns e
    where
      go : (ns : List Naming) → entry ≡ summary ns → 65535 ≡ summary (ns ++ m ∷ [])
      go [] e = absurd (f e)
      go (n ∷ ns) e = rw (well-by-d n ns m, last-other (n ∷ ns) m l)

  pub entry-mixed : (entry ≡ 0 → ⊥) → m.at ≡ 5 → (entry % 8 ≡ m.at + 1 → ⊥) → 65535 ≡ summary (ns ++ m ∷ [])
  entry-mixed f d other = go ns e
    where
      go : (ns : List Naming) → entry ≡ summary ns → 65535 ≡ summary (ns ++ m ∷ [])
      go [] e = absurd (f e)
      go (n ∷ ns) e = rw (well-by-d n ns m, other-before (n ∷ ns) m (by (well_named (n ∷ ns)) refl))
        where
          by : (b : Bool) → well_named (n ∷ ns) ≡ b → by_word_d (n ∷ ns) ≡ false
          by false w = not-by-d n ns w
          by true w =
              let v : entry ≡ 8 * n.by + n.at + 1 = e ∙ rw w in
              rw (ne_eqb n.at 5 (λ a. other (omega (arith, v, a, d))))

  pub entry-shared : (entry ≡ 0 → ⊥) → m.at ≡ 5 → entry % 8 ≡ m.at + 1 → entry ≡ summary (ns ++ m ∷ [])
  entry-shared f d same = go ns words e
    where
      go : (ns : List Naming) → ByWords ns → entry ≡ summary ns → entry ≡ summary (ns ++ m ∷ [])
      go [] words e = absurd (f e)
      go (n ∷ ns) words e = by (well_named (n ∷ ns)) refl
        where
          by : (b : Bool) → well_named (n ∷ ns) ≡ b → entry ≡ summary (n ∷ (ns ++ m ∷ []))
          by false w = let v : entry ≡ 65535 = e ∙ rw w in absurd (omega (arith, v, same, d))
          by true w =
              let v : entry ≡ 8 * n.by + n.at + 1 = e ∙ rw w in
              let a : n.at ≡ 5 = omega (arith, v, same, d, words.0) in
              rw (well-by-d n ns m, d-after (n ∷ ns) m (all-by-d n ns w a) d) v

-- an entry of 65,535 stays
pub entry-badly : (m : Naming) (ns : List Naming) → ByWords ns → m.at < 6 → 65535 ≡ summary ns → 65535 ≡ summary (ns ++ m ∷ [])
entry-badly m ns words l e = go (ℕ_discrete m.at 5)
  where
    go : Dec (m.at ≡ 5) → 65535 ≡ summary (ns ++ m ∷ [])
    go (yes d) = entry-mixed m ns words e (λ z. omega arith) d (λ z. omega (arith, z, d))
    go (no f) = entry-several m ns words e (λ z. omega arith) (omega (arith, l, f))

module _ (s : List ℕ) (q k : ℕ) where
  abbrev added : ℕ → List Naming
  added r = if_named (names_at s r q k) q k

  -- a word that is noted adds what it names
  pub adds-noted : (x : Ask) (w : ℕ) (before after : List ℕ) → x ≡ ask_at s q k → w ≡ word s q k
      → NamingNoted (names x) w q k before after → NamingsAdded added before after
  adds-noted x w before after ex ew noted = record {
    long = λ e. noted.long ∙ e;
    entries = λ r ns h words e. go r ns h words e (names x) refl (ℕ_discrete w r);
  }
    where
      other : (r : ℕ) → names_at s r q k ≡ false → (names x ≡ true → r ≡ w → ⊥) → r < 4096 → (ns : List Naming)
          → get_or before r 0 ≡ summary ns → get_or after r 0 ≡ summary (ns ++ added r)
      other r f d h ns e = rw (f, append-nil) (noted.others r h d ∙ e)

      go : (r : ℕ) (ns : List Naming) → r < 4096 → ByWords ns → get_or before r 0 ≡ summary ns → (b : Bool) → names x ≡ b
          → Dec (w ≡ r) → get_or after r 0 ≡ summary (ns ++ added r)
      go r ns h words e false t d =
          other r (rw (← ex, t)) (λ u p. false≢true (sym t ∙ u)) h ns e
      go r ns h words e true t (no f) =
          other r (rw (← ew, ne_eqb w r f, and-false)) (λ u p. f (sym p)) h ns e
      go r ns h words e true t (yes p) =
          rw (← ex, t, ← ew, eq-eqb w r p, ← p) (noted.here t (rw p h) ns words (rw p e))

pub adds-nothing : (before : List ℕ) → NamingsAdded (λ _. []) before before
adds-nothing before = record { long = λ e. e; entries = λ r ns h words e. rw append-nil e }

-- namings are by words
words_append : (xs ys : List Naming) → ByWords xs → ByWords ys → ByWords (xs ++ ys)
words_append [] ys p q = q
words_append (x ∷ xs) ys p q = (p.0, words_append xs ys p.1 q)

words-if : (q k : ℕ) (b : Bool) → k < 6 → ByWords (if_named b q k)
words-if q k true l = (l, tt)
words-if q k false l = tt

words-in : (s : List ℕ) (r q k : ℕ) → k < 6 → ByWords (namings_in s r q k)
words-in s r q zero l = tt
words-in s r q (suc k) l =
    words_append (namings_in s r q k) _ (words-in s r q k (omega arith)) (words-if q (suc k) (names_at s r q (suc k)) l)

pub words-below : (s : List ℕ) (r q : ℕ) → ByWords (namings_below s r q)
words-below s r zero = tt
words-below s r (suc q) = words_append (namings_below s r q) _ (words-below s r q) (words-in s r q 5 (omega arith))

words-all : (s : List ℕ) (r : ℕ) → ByWords (namings s r)
unfolding namings
words-all s r = words-below s r (count s)

-- what is added twice over is added at once
pub adds-both : (f g h : ℕ → List Naming) (before between after : List ℕ) → ((r : ℕ) → h r ≡ f r ++ g r) → ((r : ℕ) → ByWords (f r))
    → NamingsAdded f before between → NamingsAdded g between after → NamingsAdded h before after
adds-both f g h before between after e words p q =
    record {
      long = λ l. q.long (p.long l);
      entries = λ r ns l ws z.
          rw (e r, ← append_assoc ns (f r) (g r))
          (q.entries r (ns ++ f r) l (words_append ns (f r) ws (words r)) (p.entries r ns l ws z));
    }

pub adds-to : (f g h : ℕ → List Naming) (before after : List ℕ) → ((r : ℕ) → h r ≡ f r ++ g r) → ((r : ℕ) → ByWords (f r))
    → NamingsHeld f before → NamingsAdded g before after → NamingsHeld h after
adds-to f g h before after e words p q =
    record { long = q.long p.long; entries = λ r l. rw (e r) (q.entries r (f r) l (words r) (p.entries r l)) }

-- one word more of a record
pub adds-word : (s : List ℕ) (q k : ℕ) (before between after : List ℕ) → 1 ≤ k → k < 6
    → NamingsAdded (λ r. namings_in s r q (k - 1)) before between → NamingsAdded (added s q k) between after
    → NamingsAdded (λ r. namings_in s r q (k + 1 - 1)) before after
adds-word s q zero before between after h l a b = absurd (omega arith)
adds-word s q (suc k) before between after h l a b =
    rw (add-one, sub-one)
    (adds-both (λ r. namings_in s r q k) (added s q (suc k)) _ before between after (λ r. refl) (λ r. words-in s r q k (omega arith)) (rw sub-one at a) b)

pub all-words : (s : List ℕ) (q k : ℕ) (before after : List ℕ) → k ≡ 6 → NamingsAdded (λ r. namings_in s r q (k - 1)) before after
    → NamingsAdded (λ r. namings_in s r q 5) before after
all-words s q k before after e a = subst (λ (m : ℕ). NamingsAdded (λ r. namings_in s r q (m - 1)) before after) e a

-- a record is well named where its entry is neither 0 nor 65,535
well : (ns : List Naming) → (summary ns ≡ 0 → ⊥) → (summary ns ≡ 65535 → ⊥) → well_named ns ≡ true
well [] f g = absurd (f refl)
well (n ∷ ns) f g = go (well_named (n ∷ ns)) g
  where
    go : (b : Bool) → (cond b (8 * n.by + n.at + 1) 65535 ≡ 65535 → ⊥) → b ≡ true
    go true h = refl
    go false h = absurd (h refl)

not-well : (ns : List Naming) → summary ns ≡ 65535 → ByWords ns → well_named ns ≡ false
not-well [] e w = refl
not-well (n ∷ ns) e w = go (well_named (n ∷ ns)) e
  where
    go : (b : Bool) → cond b (8 * n.by + n.at + 1) 65535 ≡ 65535 → b ≡ false
    go true h = absurd (omega (arith, w.0))
    go false h = refl

pub first-naming : (s : List ℕ) (r : ℕ) → r < 1 → wrong_naming s r ≡ false
unfolding wrong_naming
first-naming s r h = let e : r ≡ 0 = omega arith in rw e

module _ (s table : List ℕ) (all : NamingsHeld (namings s) table) (r : ℕ) (h : 0 < r) (l : r < 4096) where
  pub unnamed : get_or table r 0 ≡ 0 → wrong_naming s r ≡ true
  unfolding wrong_naming
  unnamed e = rw (lt-ltb 0 r h, summary-none (namings s r) (sym (all.entries r l) ∙ e))

  pub named-badly : get_or table r 0 ≡ 65535 → wrong_naming s r ≡ true
  unfolding wrong_naming
  named-badly e = rw (lt-ltb 0 r h, not-well (namings s r) (sym (all.entries r l) ∙ e) (words-all s r))

  pub named-well : (get_or table r 0 ≡ 0 → ⊥) → (get_or table r 0 ≡ 65535 → ⊥) → wrong_naming s r ≡ false
  unfolding wrong_naming
  named-well f g =
      rw (
        lt-ltb 0 r h,
        well (namings s r) (λ e. f (all.entries r l ∙ e)) (λ e. g (all.entries r l ∙ e)),
      )

-- a record is wrongly named exactly where no word is given
pub misnamed : (s table : List ℕ) (r : ℕ) → 0 < r → r < 4096 → NamingsHeld (namings s) table → (o : Option Coded.Naming)
    → MatchOption o ((get_or table r 0 ≡ 0) ⊎ (get_or table r 0 ≡ 65535))
    (λ n. (get_or table r 0 ≡ 8 * n.by + n.at + 1) × (n.at < 8) × (get_or table r 0 < 65535))
    → (b : Bool) → is_some o ≡ not b → b ≡ wrong_naming s r
misnamed s table r h l all None m true e = go m
  where
    go : (get_or table r 0 ≡ 0) ⊎ (get_or table r 0 ≡ 65535) → true ≡ wrong_naming s r
    go (inl z) = sym (unnamed s table all r h l z)
    go (inr z) = sym (named-badly s table all r h l z)
misnamed s table r h l all None m false e = absurd (false≢true e)
misnamed s table r h l all (Some n) m false e =
    sym (named-well s table all r h l (λ z. omega (arith, m.0, z)) (λ z. omega (arith, m.2, z)))
misnamed s table r h l all (Some n) m true e = absurd (false≢true (sym e))

pub one-record-more : (s : List ℕ) (r q : ℕ) → namings_below s r (q + 1) ≡ namings_below s r q ++ namings_in s r q 5
one-record-more s r q = rw (add-one q)

pub all-records : (s : List ℕ) (n q : ℕ) (table : List ℕ) → n ≡ count s → q ≤ n → n ≤ q
    → NamingsHeld (λ r. namings_below s r q) table → NamingsHeld (namings s) table
unfolding namings
all-records s n q table c h l p =
    let e : q ≡ count s = omega arith in
    record { long = p.long; entries = λ r b. p.entries r b ∙ ap (λ (x : ℕ). summary (namings_below s r x)) e }
