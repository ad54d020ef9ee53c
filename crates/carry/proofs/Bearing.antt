-- The label of a record as the code finds it, and the table of delays by their labels: each record entered in its turn. A label that
-- an entry has is borne by a lower record; one that it has not is entered, and no other entry changes.
-- Assumes nothing.
use Prim.Native.Nat.{ℕ, zero, suc, ◌+◌, ◌≤◌, ◌<◌}
use mathlib.Core.Bool.{Bool, true, false, ◌&&◌}
use mathlib.Core.List.{List}
use mathlib.Core.Option.{Option, none, some}
use mathlib.Core.Path.{◌≡◌, refl, sym, ap, subst, ◌∙◌}
use native.Mathlib.Omega.{arith}
use native.Mathlib.Decide.{ℕ_discrete}
use native.Mathlib.Numerals.{add-one}
use borrow.Author.Tests.{eqb-true, eq-eqb, ne_eqb, lt-ltb, ltb-true}
use lib.Dec.{eqb, ltb}
use lib.ListN.{get_or, set, length-set, replicate, length-replicate, get_or-replicate}
use lib.Seq.{get_or-set_same, get_or-set_other}
use Rattle.records.specs.Words.{count, word}
use Rattle.records.specs.Kinds.{expression, delay, is_delay}
use Rattle.records.specs.Says.{kind_at}
use Rattle.records.proofs.Tests.{both_left, both_right}
use Rattle.records.proofs.Table.{is-delay}
use Rattle.records.proofs.Asked.{past-header}
use Rattle.answers.specs.Answers.{lowest, or_here, is_some}
use Rattle.std.specs.Prelude.{Some, None}
use Rattle.records.specs.declared.kinds.Kind.{Kind}
use Rattle.records.specs.declared.kinds.Kind.TheVariants as Coded
use Rattle.records.specs.Kinded.{kind_meant}
use Rattle.records.proofs.Kinded.{not-delay}
use Rattle.answers.proofs.Lowest.{lowest_none, lowest-is}
use Rattle.carry.specs.Labels.{label, bears, label_twice}
use Rattle.carry.specs.Bearers.{entry_bearer, Bearers, Labelling, Labelled, AllLabelled}

-- a record that is no delay has no label
pub label-none : (s : List ℕ) (r : ℕ) (k : Kind) → kind_meant k ≡ kind_at s r → (k ≡ Coded.Delay → ⊥) → 0 ≡ label s r
label-none s r k e f = rw (← e, not-delay k f) refl

-- a delay's is its word d
pub label_is : (s : List ℕ) (r : ℕ) → kind_at s r ≡ expression delay → (l : ℕ) → l ≡ word s r 5 → l ≡ label s r
label_is s r e l el = rw e el

-- a record with a label is a delay
pub labelled-delay : (s : List ℕ) (r : ℕ) → 0 < label s r → kind_at s r ≡ expression delay
labelled-delay s r h = go (is_delay (kind_at s r)) refl
  where
    go : (b : Bool) → is_delay (kind_at s r) ≡ b → kind_at s r ≡ expression delay
    go true e = is-delay (kind_at s r) e
    go false e = let z : label s r ≡ 0 = rw e refl in absurd (omega arith)

-- nothing bears 0
pub none-bears : (s : List ℕ) (m : ℕ) → lowest (bears s 0) m ≡ none
none-bears s m = lowest_none (bears s 0) m (λ r h. refl)

-- a record with another label does not bear this one
other-label : (s : List ℕ) (l r : ℕ) → (label s r ≡ l → ⊥) → bears s l r ≡ false
other-label s l r f = rw (ne_eqb (label s r) l f) (and_none (ltb 0 l))
  where
    and_none : (b : Bool) → (b && false) ≡ false
    and_none true = refl
    and_none false = refl

unlabelled-bears : (s : List ℕ) (l r : ℕ) → label s r ≡ 0 → bears s l r ≡ false
unlabelled-bears s zero r e = refl
unlabelled-bears s (suc l) r e = other-label s (suc l) r (λ z. let y : 0 ≡ suc l = sym e ∙ z in omega arith)

pub own-label : (s : List ℕ) (l r : ℕ) → 0 < l → label s r ≡ l → bears s l r ≡ true
own-label s l r h e = rw (lt-ltb 0 l h, e, eq-eqb l l refl) refl

-- what a bearer is
pub bears-label : (s : List ℕ) (l q : ℕ) → bears s l q ≡ true → (0 < l) × (label s q ≡ l)
bears-label s l q e =
    (ltb-true 0 l (both_left (ltb 0 l) (eqb (label s q) l) e), eqb-true (label s q) l (both_right (ltb 0 l) (eqb (label s q) l) e))

-- a search past a record that does not pass
lowest-past : (p : ℕ → Bool) (m : ℕ) → p m ≡ false → lowest p (m + 1) ≡ lowest p m
lowest-past p m e = rw (add-one m, e) (go (lowest p m))
  where
    go : (o : Option ℕ) → or_here o false m ≡ o
    go none = refl
    go (some r) = refl

lowest-here : (p : ℕ → Bool) (m : ℕ) → lowest p m ≡ none → p m ≡ true → lowest p (m + 1) ≡ some m
lowest-here p m e f = rw (add-one m, e, f) refl

entry-none : (x : ℕ) → entry_bearer x ≡ none → x ≡ 0
entry-none zero e = refl
entry-none (suc x) e = let z : ◌≡◌ {A = ℕ} 0 1 = cc in absurd (omega arith)

entry-some : (x : ℕ) → (x ≡ 0 → ⊥) → entry_bearer x ≡ some x
entry-some zero f = absurd (f refl)
entry-some (suc x) f = refl

-- a table of zeros has no delay
pub no-bearer : (s : List ℕ) → Bearers s 0 (replicate {A = ℕ} 65536 0)
no-bearer s =
    record { long = length-replicate {A = ℕ} 65536 0; entries = λ l h. ap entry_bearer (get_or-replicate {A = ℕ} 65536 l 0 0 h) }

module _ {s : List ℕ} {n rec : ℕ} {table : List ℕ} (g : Labelling s n rec table) {l : ℕ} (e : l ≡ label s rec) where
  here_in : rec < count s
  here_in = let c = g.sized.counted in let h = g.there in omega arith

  -- no label
  pub unlabelled-noted : l ≡ 0 → Labelled s rec false table
  unfolding label_twice
  unlabelled-noted z =
      let none_here : label s rec ≡ 0 = sym e ∙ z in
      record {
        answered = rw (none_here, none-bears s rec) refl;
        long = g.below.long;
        entered = λ _. record {
          long = g.below.long;
          entries = λ k h. g.below.entries k h ∙ sym (lowest-past (bears s k) rec (unlabelled-bears s k rec none_here));
        };
      }

  module _ (small : l < 65536) where
    before : entry_bearer (get_or table l 0) ≡ lowest (bears s (label s rec)) rec
    before = g.below.entries l small ∙ ap (λ k. lowest (bears s k) rec) e

    -- a label that a lower record bears
    pub twice-noted : (get_or table l 0 ≡ 0 → ⊥) → Labelled s rec true table
    unfolding label_twice
    twice-noted f =
        record {
          answered = ap is_some (sym (entry-some (get_or table l 0) f) ∙ before);
          long = g.below.long;
          entered = λ z. let y : ◌≡◌ {A = ℕ} 0 1 = cc in absurd (omega arith);
        }

    -- a label that none bears
    pub newly-noted : (l ≡ 0 → ⊥) → get_or table l 0 ≡ 0 → Labelled s rec false (set table l rec)
    unfolding label_twice
    newly-noted f z =
        record {
          answered = ap is_some (rw z at before);
          long = length-set table l rec ∙ g.below.long;
          entered = λ _. record { long = length-set table l rec ∙ g.below.long; entries = λ k h. at k h (ℕ_discrete k l) };
        }
      where
        past : 0 < rec
        past =
            let d = labelled-delay s rec (rw e at (positive l f)) in past-header g.written rec (rw d refl)
          where
            positive : (x : ℕ) → (x ≡ 0 → ⊥) → 0 < x
            positive x f = omega arith

        at : (k : ℕ) → k < 65536 → Dec (k ≡ l) → entry_bearer (get_or (set table l rec) k 0) ≡ lowest (bears s k) (rec + 1)
        at k h (yes p) =
            let held : get_or (set table l rec) k 0 ≡ rec = rw p (get_or-set_same table l rec 0 (let y = g.below.long in omega arith)) in
            let none_below : lowest (bears s k) rec ≡ none = sym (g.below.entries k h) ∙ rw (p, z) refl in
            rw held
            (entry-some rec (λ y. let q = past in omega arith)
            ∙ sym (lowest-here (bears s k) rec none_below (own-label s k rec (positive k (λ y. f (sym p ∙ y))) (sym e ∙ sym p))))
          where
            positive : (x : ℕ) → (x ≡ 0 → ⊥) → 0 < x
            positive x f = omega arith
        at k h (no p) =
            rw (get_or-set_other table l k rec 0 p)
            (g.below.entries k h ∙ sym (lowest-past (bears s k) rec (other-label s k rec (λ y. p (sym y ∙ sym e)))))

-- all records up to one whose label a lower one bears
pub found-twice : {s : List ℕ} {n rec : ℕ} {twice : Bool} {table : List ℕ} → rec < n → ((q : ℕ) → q < rec → label_twice s q ≡ false)
    → Labelled s rec twice table → twice ≡ true → AllLabelled s n (Some rec) table
found-twice {s} {n} {rec} h below g e =
    record {
      answered = sym (lowest-is (label_twice s) n rec h (sym g.answered ∙ e) below);
      entered = λ z. let y : ◌≡◌ {A = ℕ} 0 1 = cc in absurd (omega arith);
    }

-- or all of them
pub none-twice : {s : List ℕ} {n rec : ℕ} {table : List ℕ} → rec ≤ n → n ≤ rec → ((q : ℕ) → q < rec → label_twice s q ≡ false)
    → Bearers s rec table → AllLabelled s n None table
none-twice {s} {n} {rec} {table} h f below b =
    let e : rec ≡ n = omega arith in
    record {
      answered = sym (lowest_none (label_twice s) n (λ q k. below q (omega arith)));
      entered = λ _. subst (λ k. Bearers s k table) e b;
    }
