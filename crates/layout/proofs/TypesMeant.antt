-- The type records of a text are its declarations: what a type name stands for is the type that its record says, also with more steps down
-- than needed. A name that is not there has number 0, and the header says the same type as such a name.
-- Assumes nothing.
use Prim.Native.Nat.{ℕ, zero, suc, ◌+◌, ◌<◌}
use mathlib.Core.Path.{◌≡◌, refl, ap₂, ◌∙◌}
use mathlib.Core.Bool.{Bool, true, false, cond}
use mathlib.Core.List.{List, [], ◌∷◌, ◌++◌}
use mathlib.Core.Option.{Option, none, some}
use native.Mathlib.Omega.{arith}
use lib.ListN.{length}
use Rattle.picoella.specs.Language.{Ty, Flat, TyTuple}
use Rattle.records.specs.Words.{kind_word, word_a, word_b}
use Rattle.records.specs.Kinds.{row_of, kind_of, type_of, flat, pair, header}
use Rattle.records.specs.Says.{kind_at}
use Rattle.records.specs.Trees.{type_step, type_within, type_at}
use Rattle.records.specs.SheetOf.{words}
use Rattle.grammar.specs.Source.{Identifier, Declaration, Constructors, PairOf}
use Rattle.name_rules.specs.Declared.{same_name}
use Rattle.name_rules.specs.Constants.{letters}
use Rattle.layout.specs.Resolved.{
  TypeEntry,
  type_entry,
  type_meant,
  type_number,
  after_entry,
  type_entries_from,
  ConstructorEntry,
  constructor_entry,
  constructor_entries_of,
  constructor_entries_from,
  constructor_meant,
}
use Rattle.layout.specs.Distances.{type_or}
use Rattle.layout.specs.Layout.{next_type, types_laid, number_or}
use Rattle.layout.proofs.Standing.{RecordIs, Stands, none-stand, one-stands}

-- record j says τ
pub record SaysType (s : List ℕ) (j : ℕ) (τ : Ty) : Type 0 where
  pub within : (fuel : ℕ) → j < fuel → type_within s fuel j ≡ τ

-- the first record is a header
pub record Headed (s : List ℕ) : Type 0 where
  pub kind-one : kind_word s 0 ≡ 1

-- each entry's record, below i, says the type that the name stands for
pub data AllSay (s : List ℕ) (i : ℕ) : List TypeEntry → Type 0 where
  none-say : AllSay s i []
  one-says : {v : List ℕ} {j : ℕ} {τ : Ty} {T : List TypeEntry} → j < i → SaysType s j τ → AllSay s i T → AllSay s i (type_entry v j τ ∷ T)

-- each constructor's type is a flat type record with so many constructors
pub data AllFlat (s : List ℕ) : List ConstructorEntry → Type 0 where
  none-flat : AllFlat s []
  one-flat : {v : List ℕ} {t n k : ℕ} {C : List ConstructorEntry}
      → SaysType s t (Flat t n) → word_a s t ≡ n → AllFlat s C → AllFlat s (constructor_entry v t n k ∷ C)

module _ {s : List ℕ} (headed : Headed s) where
  header-within : (fuel : ℕ) → 0 < fuel → type_within s fuel 0 ≡ Flat 0 0
  unfolding type_within kind_of row_of
  header-within zero h = let no : ⊥ = omega arith in elim no [ ]
  header-within (suc f) h = rw headed.kind-one

  pub header-says : SaysType s 0 (Flat 0 0)
  header-says = record { within = header-within }

  -- both a name's number and its type, by the entry that is the name's
  looked-up : {i : ℕ} → 0 < i → (b : Bool) (j k : ℕ) (σ τ : Ty) → j < i → SaysType s j σ → (k < i) × SaysType s k τ
      → (cond b j k < i) × SaysType s (cond b j k) (cond b σ τ)
  looked-up p true j k σ τ h x y = (h, x)
  looked-up p false j k σ τ h x y = y

  pub number-says : {i : ℕ} → 0 < i → {T : List TypeEntry} → AllSay s i T → (w : List ℕ)
      → (type_number T w < i) × SaysType s (type_number T w) (type_meant T w)
  number-says p none-say w = (p, header-says)
  number-says p (one-says {v} {j} {τ} {T} h x t) w =
      looked-up p (same_name w v) j (type_number T w) τ (type_meant T w) h x (number-says p t w)

  -- the same of a type that may not be there
  pub or-says : {i : ℕ} → 0 < i → {T : List TypeEntry} → AllSay s i T → (w : Option (List ℕ)) → SaysType s (number_or T w) (type_or T w)
  or-says p t none = header-says
  or-says p t (some w) = (number-says p t w).1

  later-say : {i : ℕ} {T : List TypeEntry} → AllSay s i T → AllSay s (suc i) T
  later-say none-say = none-say
  later-say {i} (one-says {j = j} h x t) = let k : j < suc i = omega arith in one-says k x (later-say t)

  flat-within : (j n : ℕ) → kind_word s j ≡ 16 → word_a s j ≡ n → (fuel : ℕ) → j < fuel → type_within s fuel j ≡ Flat j n
  unfolding type_within kind_of row_of
  flat-within j n k a zero h = let no : ⊥ = omega arith in elim no [ ]
  flat-within j n k a (suc f) h = rw (k, a)

  flat-says : (j n : ℕ) → kind_word s j ≡ 16 → word_a s j ≡ n → SaysType s j (Flat j n)
  flat-says j n k a = record { within = flat-within j n k a }

  pair-within : (j a b : ℕ) {σ τ : Ty} → kind_word s j ≡ 17 → word_a s j ≡ a → word_b s j ≡ b → a < j → b < j → SaysType s a σ
      → SaysType s b τ → (fuel : ℕ) → j < fuel → type_within s fuel j ≡ TyTuple σ τ
  unfolding type_within kind_of row_of
  pair-within j a b k p q la lb x y zero h = let no : ⊥ = omega arith in elim no [ ]
  pair-within j a b k p q la lb x y (suc f) h =
      rw (k, p, q) (ap₂ TyTuple (x.within f (omega arith)) (y.within f (omega arith)))

  pair-says : (j a b : ℕ) {σ τ : Ty} → kind_word s j ≡ 17 → word_a s j ≡ a → word_b s j ≡ b → a < j → b < j → SaysType s a σ
      → SaysType s b τ → SaysType s j (TyTuple σ τ)
  pair-says j a b k p q la lb x y = record { within = pair-within j a b k p q la lb x y }

  pub entries-say : {i : ℕ} → 0 < i → {T : List TypeEntry} → AllSay s i T → (ds : List Declaration) → Stands s i (types_laid i T ds)
      → AllSay s (i + length ds) (type_entries_from i T ds)
  entries-say {i} p t [] h = rw ((let e : i + 0 ≡ i = omega arith in e)) t
  entries-say {i} p {T} t (Constructors n c cs ∷ ds) (one-stands x h) =
      let e : i + suc (length ds) ≡ suc i + length ds = omega arith in
      rw e
      (entries-say {i = suc i} (omega arith) (one-says (omega arith) (flat-says i (length (c ∷ cs)) x.kind-is x.a-is) (later-say t)) ds h)
  entries-say {i} p {T} t (PairOf n a b ∷ ds) (one-stands x h) =
      let e : i + suc (length ds) ≡ suc i + length ds = omega arith in
      let f = number-says p t (letters a) in
      let g = number-says p t (letters b) in
      rw e
      (entries-say {i = suc i} (omega arith)
      (one-says (omega arith)
      (pair-says i (type_number T (letters a)) (type_number T (letters b)) x.kind-is x.a-is x.b-is f.0 g.0 f.1 g.1)
      (later-say t))
      ds h)

  flat_append : {C C' : List ConstructorEntry} → AllFlat s C → AllFlat s C' → AllFlat s (C ++ C')
  flat_append none-flat y = y
  flat_append (one-flat x a t) y = one-flat x a (flat_append t y)

  all_of : (t n k : ℕ) (cs : List Identifier) → SaysType s t (Flat t n) → word_a s t ≡ n → AllFlat s (constructor_entries_of t n k cs)
  all_of t n k [] x a = none-flat
  all_of t n k (c ∷ cs) x a = one-flat x a (all_of t n (suc k) cs x a)

  pub constructors-flat : {i : ℕ} (T : List TypeEntry) (ds : List Declaration) → Stands s i (types_laid i T ds)
      → AllFlat s (constructor_entries_from i ds)
  constructors-flat T [] h = none-flat
  constructors-flat {i} T (Constructors n c cs ∷ ds) (one-stands x h) =
      flat_append
      (all_of i (length (c ∷ cs)) 1 (c ∷ cs) (flat-says i (length (c ∷ cs)) x.kind-is x.a-is) x.a-is)
      (constructors-flat (after_entry i T (Constructors n c cs)) ds h)
  constructors-flat {i} T (PairOf n a b ∷ ds) (one-stands x h) = constructors-flat (after_entry i T (PairOf n a b)) ds h
