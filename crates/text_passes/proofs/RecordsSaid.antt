-- A record of a text's expression with words as the table of kinds asks: it is well said, no header
-- and no type.
-- Assumes nothing.
use Prim.Native.Nat.{ℕ, ◌<◌}
use mathlib.Core.Path.{◌≡◌, refl}
use mathlib.Core.Bool.{Bool, true, false, not, ◌&&◌, or-true, and-false}
use mathlib.Core.List.{List}
use borrow.Author.Tests.{eq-eqb, lt-ltb, le-ltb, leb-true, leb-false}
use lib.Dec.{eqb, ltb, leb}
use Rattle.records.specs.Words.{count, word_a}
use Rattle.records.specs.Kinds.{Sort, types, expressions, patterns, leafs, sort_number, same_sort, row_of, kind_of, ask_of, is_header, is_flat, next_of}
use Rattle.records.specs.Says.{kind_at, sort_at, higher, meets, well_said}
use Rattle.structure.specs.Rules.{wrong_record}
use Rattle.layout.proofs.Standing.{RecordIs}

-- a record that is no header and no type, whose words are what the table asks
pub record Said (s : List ℕ) (r : ℕ) : Type 0 where
  pub other : is_header (kind_at s r) ≡ false
  pub no-type : same_sort (sort_at s r) types ≡ false
  pub said : well_said s r ≡ true

pub higher-true : (s : List ℕ) (r w : ℕ) (σ : Sort) → r < w → w < count s → sort_at s w ≡ σ → higher s r σ w ≡ true
higher-true s r w σ h k e = rw (lt-ltb r w h, lt-ltb w (count s) k, e) (eq-eqb (sort_number σ) (sort_number σ) refl)

pub next-none : (s : List ℕ) (r : ℕ) (σ : Sort) → meets s r (next_of σ) 0 ≡ true
next-none s r σ = refl

pub next-some : (s : List ℕ) (r w : ℕ) (σ : Sort) → higher s r σ w ≡ true → meets s r (next_of σ) w ≡ true
next-some s r w σ h = rw h (or-true (eqb w 0))

pub lower-type-word : (s : List ℕ) (r w : ℕ) → w < r → sort_at s w ≡ types → (ltb w r && same_sort (sort_at s w) types) ≡ true
lower-type-word s r w h e = rw (lt-ltb w r h, e)

-- a type's record is wrong only where it has too many constructors
over-many : (a : ℕ) → not (leb a 255 && true) ≡ ltb 255 a
over-many a = go (leb a 255) refl
  where
    go : (b : Bool) → leb a 255 ≡ b → not (b && true) ≡ ltb 255 a
    go true e = let h = leb-true a 255 e in rw (le-ltb 255 a h)
    go false e = let h = leb-false a 255 e in rw (lt-ltb 255 a h)

pub wrong-flat : {s : List ℕ} {r n a : ℕ} → 0 < r → RecordIs s r 16 n a 0 0 0 → meets s r (next_of types) n ≡ true
    → 0 < a
    → wrong_record s r ≡ ltb 255 a
unfolding wrong_record well_said ask_of row_of kind_of
wrong-flat {s} {r} {n} {a} past x hn some =
    rw (x.kind-is, x.next_is, x.a-is, x.b-is, x.c-is, x.d-is, hn, lt-ltb 0 r past, lt-ltb 0 a some) (over-many a)

pub wrong-pair : {s : List ℕ} {r n a b : ℕ} → RecordIs s r 17 n a b 0 0 → meets s r (next_of types) n ≡ true
    → (ltb a r && same_sort (sort_at s a) types) ≡ true → (ltb b r && same_sort (sort_at s b) types) ≡ true → wrong_record s r ≡ false
unfolding wrong_record well_said ask_of row_of kind_of
wrong-pair {s} {r} x hn ha hb =
    rw (x.kind-is, x.next_is, x.a-is, x.b-is, x.c-is, x.d-is, hn, ha, hb) (and-false (ltb 0 r))

module _ {s : List ℕ} {r : ℕ} where
  pub said-constant : {a b : ℕ} → RecordIs s r 32 0 a b 0 0 → (ltb a r && same_sort (sort_at s a) types) ≡ true
      → higher s r leafs b ≡ true → Said s r
  unfolding well_said ask_of row_of kind_of
  said-constant x ha hb =
      record {
        other = rw x.kind-is;
        no-type = rw x.kind-is;
        said = rw (x.kind-is, x.next_is, x.a-is, x.b-is, x.c-is, x.d-is, ha, hb);
      }

  pub said-name : {a : ℕ} → RecordIs s r 33 0 a 0 0 0 → Said s r
  unfolding well_said ask_of row_of kind_of
  said-name x =
      record {
        other = rw x.kind-is;
        no-type = rw x.kind-is;
        said = rw (x.kind-is, x.next_is, x.b-is, x.c-is, x.d-is);
      }

  pub said-tuple : {a b : ℕ} → RecordIs s r 34 0 a b 0 0 → higher s r expressions a ≡ true
      → higher s r expressions b ≡ true → Said s r
  unfolding well_said ask_of row_of kind_of
  said-tuple x ha hb =
      record {
        other = rw x.kind-is;
        no-type = rw x.kind-is;
        said = rw (x.kind-is, x.next_is, x.a-is, x.b-is, x.c-is, x.d-is, ha, hb);
      }

  pub said-first : {a : ℕ} → RecordIs s r 35 0 a 0 0 0 → higher s r expressions a ≡ true → Said s r
  unfolding well_said ask_of row_of kind_of
  said-first x ha =
      record {
        other = rw x.kind-is;
        no-type = rw x.kind-is;
        said = rw (x.kind-is, x.next_is, x.a-is, x.b-is, x.c-is, x.d-is, ha);
      }

  pub said-second : {a : ℕ} → RecordIs s r 36 0 a 0 0 0 → higher s r expressions a ≡ true → Said s r
  unfolding well_said ask_of row_of kind_of
  said-second x ha =
      record {
        other = rw x.kind-is;
        no-type = rw x.kind-is;
        said = rw (x.kind-is, x.next_is, x.a-is, x.b-is, x.c-is, x.d-is, ha);
      }

  pub said-let : {a b : ℕ} → RecordIs s r 37 0 a b 0 0 → higher s r expressions a ≡ true
      → higher s r expressions b ≡ true → Said s r
  unfolding well_said ask_of row_of kind_of
  said-let x ha hb =
      record {
        other = rw x.kind-is;
        no-type = rw x.kind-is;
        said = rw (x.kind-is, x.next_is, x.a-is, x.b-is, x.c-is, x.d-is, ha, hb);
      }

  pub said-feedback : {a b c : ℕ} → RecordIs s r 38 0 a b c 0 → (ltb a r && same_sort (sort_at s a) types) ≡ true
      → higher s r expressions b ≡ true → higher s r expressions c ≡ true → Said s r
  unfolding well_said ask_of row_of kind_of
  said-feedback x ha hb hc =
      record {
        other = rw x.kind-is;
        no-type = rw x.kind-is;
        said = rw (x.kind-is, x.next_is, x.a-is, x.b-is, x.c-is, x.d-is, ha, hb, hc);
      }

  pub said-if : {a b c d : ℕ} → RecordIs s r 39 0 a b c d → higher s r expressions a ≡ true
      → higher s r expressions b ≡ true → higher s r expressions c ≡ true → higher s r patterns d ≡ true → Said s r
  unfolding well_said ask_of row_of kind_of
  said-if x ha hb hc hd =
      record {
        other = rw x.kind-is;
        no-type = rw x.kind-is;
        said = rw (x.kind-is, x.next_is, x.a-is, x.b-is, x.c-is, x.d-is, ha, hb, hc, hd);
      }

  pub said-delay : {a b c : ℕ} → RecordIs s r 40 0 a b c 0 → (ltb a r && same_sort (sort_at s a) types) ≡ true
      → higher s r leafs b ≡ true → higher s r expressions c ≡ true → Said s r
  unfolding well_said ask_of row_of kind_of
  said-delay x ha hb hc =
      record {
        other = rw x.kind-is;
        no-type = rw x.kind-is;
        said = rw (x.kind-is, x.next_is, x.a-is, x.b-is, x.c-is, ha, hb, hc);
      }

  pub said-whole : {n a : ℕ} → RecordIs s r 48 n a 0 0 0 → meets s r (next_of patterns) n ≡ true
      → (ltb a r && same_sort (sort_at s a) types) ≡ true → Said s r
  unfolding well_said ask_of row_of kind_of
  said-whole x hn ha =
      record {
        other = rw x.kind-is;
        no-type = rw x.kind-is;
        said = rw (x.kind-is, x.next_is, x.a-is, x.b-is, x.c-is, x.d-is, hn, ha);
      }

  pub said-constructor : {n a b : ℕ} → RecordIs s r 49 n a b 0 0 → meets s r (next_of patterns) n ≡ true
      → (ltb a r && is_flat (kind_at s a)) ≡ true → (ltb 0 b && leb b (word_a s a)) ≡ true → Said s r
  unfolding well_said ask_of row_of kind_of
  said-constructor x hn ha hb =
      record {
        other = rw x.kind-is;
        no-type = rw x.kind-is;
        said = rw (x.kind-is, x.next_is, x.a-is, x.b-is, x.c-is, x.d-is, hn, ha, hb);
      }

  pub said-parts : {n a b : ℕ} → RecordIs s r 50 n a b 0 0 → meets s r (next_of patterns) n ≡ true
      → higher s r patterns a ≡ true → higher s r patterns b ≡ true → Said s r
  unfolding well_said ask_of row_of kind_of
  said-parts x hn ha hb =
      record {
        other = rw x.kind-is;
        no-type = rw x.kind-is;
        said = rw (x.kind-is, x.next_is, x.a-is, x.b-is, x.c-is, x.d-is, hn, ha, hb);
      }

  pub said-leaf : {n a : ℕ} → RecordIs s r 64 n a 0 0 0 → meets s r (next_of leafs) n ≡ true → leb a 255 ≡ true
      → Said s r
  unfolding well_said ask_of row_of kind_of
  said-leaf x hn ha =
      record {
        other = rw x.kind-is;
        no-type = rw x.kind-is;
        said = rw (x.kind-is, x.next_is, x.a-is, x.b-is, x.c-is, x.d-is, hn, ha);
      }
