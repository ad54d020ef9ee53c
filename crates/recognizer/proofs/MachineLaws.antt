-- A step of the code is a step of the machine: a law for each way out of a function.
-- Assumes nothing.
use Rattle.std.specs.Prelude.{IsTrue, ◌↔◌}
use Prim.Native.Nat.{ℕ, ◌+◌, ◌≤◌, ◌<◌}
use native.Mathlib.Omega.{arith}
use native.Mathlib.Decide.{dec_lt}
use borrow.Author.Rules.{rules}
use mathlib.Core.Path.{◌≡◌, refl, sym, ap, ap₂, subst, ◌∙◌}
use mathlib.Core.Logic.{◌⊎◌, inl, inr}
use mathlib.Core.Bool.{Bool, true, false, cond}
use mathlib.Core.List.{List, []}
use mathlib.Core.Option.{Option}
use lib.ListN.{length, get_or}
use lib.Dec.{eqb}
use borrow.Author.Tests.{eq-eqb, ne_eqb, eqb-true, lt-ltb, le-ltb, le-leb, lt-leb}
use Rattle.grammar.specs.Rows.{State, Transition, transitions}
use Rattle.grammar.specs.Machine.{Config, dead, live, find, on_byte, can_end, ends}
use Rattle.recognizer.specs.Coded.{state_of, word_of, follows, Standing, standing, live_at, Stepped, Tables}
use Rattle.recognizer.specs.declared.tables.TheConstants.{NEXTS, WAITS, WORDS}
use Rattle.recognizer.specs.Coded.{table_of, next_table, waits_table, word_table, row_next, row_waits, row_word, lead_bytes, after_lead, after_byte_class}
use Rattle.recognizer.specs.Coded.{lettered, followed, letter_table, class_of}
use Rattle.recognizer.proofs.RowLaws.{table-entry-at, row-followed, row-next-below, row-waits-below, row-word-below}
use Rattle.recognizer.proofs.WordLaws.{spelled, follows-byte, whole-number, ends-number}

-- what a test says of what it tests
pub told-false : {r : Bool} {P : Type 0} → IsTrue r ↔ P → r ≡ false → P → ⊥
told-false i e p = grind rules

pub told-true : {r : Bool} {P : Type 0} → IsTrue r ↔ P → r ≡ true → P
told-true i e = grind rules

any : (t : Bool) (c : Config) → cond t c c ≡ c
any true c = refl
any false c = refl

past : {class : ℕ} → (((10 ≤ class) × (class ≤ 18)) → ⊥) → 10 ≤ class → 18 < class
past {class} m l = go (dec_lt 18 class)
  where
    go : Dec (18 < class) → 18 < class
    go (yes h) = h
    go (no h) = absurd (m (l, omega (arith, h)))

-- the same configuration by another name
pub moved-as : {c d : Config} {old new : Standing} {ok : Bool} → c ≡ d → Stepped d old ok new → Stepped c old ok new
moved-as e m = record { stepped = e ∙ m.stepped; higher = m.higher }

-- the tables of the code are the machine's
pub tables_right : Tables NEXTS WAITS WORDS
unfolding next_table waits_table word_table
tables_right = record { nexts_right = refl; waits_right = refl; words_right = refl }

-- a row read from the tables, at an index of numbers that are the state and the class
module _ {class row c : ℕ} {nexts waits words : List (List ℕ)} (few : row < 47) (low : class < 18) (f : c ≡ class) (t : Tables nexts waits words) where
  abbrev found : Option Transition
  found = find (get_or lead_bytes class 0) (transitions (state_of row))

  entry_read : (g : Option Transition → ℕ) (table : List (List ℕ)) → table ≡ table_of g → get_or (get_or table row []) c 0 ≡ g found
  entry_read g table h = ap₂ (λ x y. get_or (get_or x row []) y 0) h f ∙ table-entry-at g row class few low

  next-read : get_or (get_or nexts row []) c 0 ≡ row_next found
  unfolding next_table
  next-read = entry_read row_next nexts t.nexts_right

  waits-read : get_or (get_or waits row []) c 0 ≡ row_waits found
  unfolding waits_table
  waits-read = entry_read row_waits waits t.waits_right

  word_read : get_or (get_or words row []) c 0 ≡ row_word found
  unfolding word_table
  word_read = entry_read row_word words t.words_right

  pub row-fits : (get_or (get_or nexts row []) c 0 ≤ 48) × (get_or (get_or waits row []) c 0 ≤ 47) × (get_or (get_or words row []) c 0 < 60)
  row-fits = (
    subst (λ x. x ≤ 48) (sym next-read) (row-next-below found),
    subst (λ x. x ≤ 47) (sym waits-read) (row-waits-below found),
    subst (λ x. x < 60) (sym word_read) (row-word-below found),
  )

  row-taken : (K : List State)
      → after_lead class (state_of row) K ≡ follows (get_or (get_or nexts row []) c 0) (get_or (get_or waits row []) c 0) (get_or (get_or words row []) c 0) K
  row-taken K =
      sym
      (ap (λ x. follows x (get_or (get_or waits row []) c 0) (get_or (get_or words row []) c 0) K) next-read
      ∙ ap₂ (λ x y. follows (row_next found) x y K) waits-read word_read
      ∙ row-followed found K)

  pub begun-by : {old new : Standing} {ok : Bool} → state_of row ≡ old.state
      → Stepped (follows (get_or (get_or nexts row []) c 0) (get_or (get_or waits row []) c 0) (get_or (get_or words row []) c 0) old.waiting) old ok new
      → Stepped (after_lead class old.state old.waiting) old ok new
  begun-by {old} e m = moved-as (ap (λ q. after_lead class q old.waiting) (sym e) ∙ row-taken old.waiting) m

-- the fields of a machine, and the configuration that they are
module _ (s w : ℕ) (K : List State) {old : Standing} (e : standing (state_of s) K (word_of w) ≡ old) (few : w < 60) where
  -- the same machine
  pub unmoved : (c : Config) → c ≡ dead → Stepped c old false old
  unmoved c d = record { stepped = d; higher = omega arith }

  -- with another word
  pub reworded : (c : Config) (v : ℕ) → c ≡ live (state_of s) K (word_of v) → Stepped c old true (standing (state_of s) K (word_of v))
  reworded c v d = record { stepped = d; higher = let h : length old.waiting ≡ length K = ap (λ x. length x.waiting) (sym e) in omega arith }

  on_old : (b : ℕ) → on_byte b old.state old.waiting old.word ≡ on_byte b (state_of s) K (word_of w)
  on_old b = ap (λ p. on_byte b p.state p.waiting p.word) (sym e)

  -- the letter that is awaited, read at an index that is the word
  module _ {i : ℕ} (r : i ≡ w) where
    awaits : get_or letter_table w 0 ≡ get_or letter_table i 0
    awaits = ap (λ j. get_or letter_table j 0) (sym r)

    pub word-ended : get_or letter_table i 0 ≡ 0 → can_end old.word ≡ true
    word-ended t = ap (λ p. can_end p.word) (sym e) ∙ whole-number few ∙ eq-eqb (get_or letter_table w 0) 0 (awaits ∙ t)

    ends-read : s < 47 → ends (live_at old) ≡ cond (eqb (get_or letter_table i 0) 0) (eqb s 16) false
    ends-read h = ap (λ p. ends (live_at p)) (sym e) ∙ ends-number few s K h ∙ ap (λ x. cond (eqb x 0) (eqb s 16) false) awaits

    pub done-ended : s < 47 → get_or letter_table i 0 ≡ 0 → eqb s 16 ≡ ends (live_at old)
    done-ended h t = sym (ends-read h ∙ ap (λ x. cond x (eqb s 16) false) (eq-eqb (get_or letter_table i 0) 0 t))

    pub not-done : s < 47 → (get_or letter_table i 0 ≡ 0 → ⊥) → eqb (get_or letter_table i 0) 0 ≡ ends (live_at old)
    not-done h n =
        let f : eqb (get_or letter_table i 0) 0 ≡ false = ne_eqb (get_or letter_table i 0) 0 n in
        f ∙ sym (ends-read h ∙ ap (λ x. cond x (eqb s 16) false) f)

    module _ (b : ℕ) (n : get_or letter_table i 0 ≡ 0 → ⊥) where
      spelled-on : on_byte b old.state old.waiting old.word ≡ cond (eqb b (get_or letter_table i 0)) (live (state_of s) K (word_of (w + 1))) dead
      spelled-on = on_old b ∙ spelled few b (get_or letter_table i 0) (state_of s) K awaits n

      pub wrong-letter : (b ≡ get_or letter_table i 0 → ⊥) → Stepped (on_byte b old.state old.waiting old.word) old false old
      wrong-letter m = unmoved _ (spelled-on ∙ ap (λ x. cond x (live (state_of s) K (word_of (w + 1))) dead) (ne_eqb b (get_or letter_table i 0) m))

      pub right-letter : b ≡ get_or letter_table i 0 → Stepped (on_byte b old.state old.waiting old.word) old true (standing (state_of s) K (word_of (w + 1)))
      right-letter m = reworded _ (w + 1) (spelled-on ∙ ap (λ x. cond x (live (state_of s) K (word_of (w + 1))) dead) (eq-eqb b (get_or letter_table i 0) m))

  -- a byte by its class, where the word can end
  module _ (ended : can_end old.word ≡ true) (b : ℕ) {class : ℕ} (c : class ≡ class_of b) where
    as-followed : on_byte b old.state old.waiting old.word ≡ followed class (state_of s) K w
    as-followed =
        on_old b
        ∙ follows-byte few b (state_of s) K
        (eqb-true (get_or letter_table w 0) 0 (sym (whole-number few) ∙ ap (λ p. can_end p.word) e ∙ ended))
        ∙ ap (λ x. followed x (state_of s) K w) (sym c)

    pub blank-read : class ≡ 19 → Stepped (on_byte b old.state old.waiting old.word) old true (standing (state_of s) K (word_of 0))
    blank-read f = reworded _ 0 (as-followed ∙ rw (eq-eqb class 19 f))

    module _ (n : class ≡ 19 → ⊥) where
      module _ (o : (w ≡ 0) ⊎ (((10 ≤ class) × (class ≤ 18)) → ⊥)) where
        token-read : on_byte b old.state old.waiting old.word ≡ after_byte_class class (state_of s) K
        token-read = as-followed ∙ go o (dec_lt class 10)
          where
            go : (w ≡ 0) ⊎ (((10 ≤ class) × (class ≤ 18)) → ⊥) → Dec (class < 10) → followed class (state_of s) K w ≡ after_byte_class class (state_of s) K
            go (inl z) d = rw (ne_eqb class 19 n, eq-eqb w 0 z)
            go (inr m) (yes l) = rw (ne_eqb class 19 n, lt-leb 10 class l) (any (eqb w 0) (after_byte_class class (state_of s) K))
            go (inr m) (no l) =
                let high : 18 < class = past m (omega (arith, l)) in
                rw (ne_eqb class 19 n, le-leb 10 class (omega (arith, l)), ne_eqb class 10 (λ f. omega arith), le-leb 18 class (omega arith)) (any (eqb w 0) dead)

        pub token-begun : class < 18 → on_byte b old.state old.waiting old.word ≡ after_lead class old.state old.waiting
        token-begun l =
            token-read
            ∙ ap (λ x. cond x dead (after_lead class (state_of s) K)) (lt-leb 18 class l)
            ∙ ap (λ p. after_lead class p.state p.waiting) e

        pub none-begun : {r : Bool} → IsTrue r ↔ (class < 18) → r ≡ false → Stepped (on_byte b old.state old.waiting old.word) old r old
        none-begun i f =
            let l : class < 18 → ⊥ = told-false i f in
            subst (λ x. Stepped (on_byte b old.state old.waiting old.word) old x old) (sym f)
            (unmoved _ (token-read ∙ ap (λ x. cond x dead (after_lead class (state_of s) K)) (le-leb 18 class (omega (arith, l)))))

      module _ (o : w ≡ 0 → ⊥) (l : 10 ≤ class) where
        lettered-on : on_byte b old.state old.waiting old.word ≡ lettered class (state_of s) K w
        lettered-on = as-followed ∙ rw (ne_eqb class 19 n, ne_eqb w 0 o, le-leb 10 class l)

        pub no-letter-more : ((class ≡ 10 → ⊥) ⊎ (16 ≤ w)) → Stepped (on_byte b old.state old.waiting old.word) old false old
        no-letter-more m = unmoved _ (lettered-on ∙ go m)
          where
            go : (class ≡ 10 → ⊥) ⊎ (16 ≤ w) → lettered class (state_of s) K w ≡ dead
            go (inl f) = rw (ne_eqb class 10 f)
            go (inr h) = rw (le-ltb w 16 h) (any (eqb class 10) dead)

        pub one-letter-more : class ≡ 10 → w < 16 → Stepped (on_byte b old.state old.waiting old.word) old true (standing (state_of s) K (word_of (w + 1)))
        one-letter-more f h = reworded _ (w + 1) (lettered-on ∙ rw (eq-eqb class 10 f, lt-ltb w 16 h))
