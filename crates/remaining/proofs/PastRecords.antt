-- The records that 22 is about, by their kinds; and the counts of sets, one after the other.
-- Assumes nothing.
use Prim.Native.Nat.{ℕ, zero, suc, ◌+◌, ◌≤◌, ◌<◌}
use mathlib.Core.Bool.{Bool, true, false, ◌&&◌, ◌||◌}
use mathlib.Core.List.{List, [], ◌∷◌}
use mathlib.Core.Path.{◌≡◌, refl, sym, ◌∙◌}
use native.Mathlib.Omega.{arith}
use native.Mathlib.Numerals.{add-one}
use lib.Dec.{ltb}
use lib.Count.{ones}
use lib.ListN.{length, get_or, set, take, length-set, length-map}
use lib.Seq.{take-length, take-suc, take-suc-set}
use Rattle.records.specs.Words.{word, word_a}
use Rattle.records.specs.declared.kinds.Kind.{Kind}
use Rattle.records.specs.declared.kinds.Kind.TheVariants as Coded
use Rattle.records.specs.Kinds.{expression, feedback, type_of, flat, is_flat}
use Rattle.records.specs.Kinded.{kind_meant}
use Rattle.records.specs.Says.{kind_at}
use Rattle.structure.specs.Rules.{is_feedback}
use Rattle.possible.specs.Possible.{past_sets}
use Rattle.sets.specs.Words.{ones_of}

neither : (k : Kind) → (k ≡ Coded.Feedback → ⊥) → (k ≡ Coded.FlatType → ⊥) → (b : Bool) → (is_feedback (kind_meant k) || (is_flat (kind_meant k) && b)) ≡ false
neither Coded.Feedback f g b = absurd (f refl)
neither Coded.FlatType f g b = absurd (g refl)
neither Coded.Unknown f g b = refl
neither Coded.Header f g b = refl
neither Coded.PairType f g b = refl
neither Coded.Constant f g b = refl
neither Coded.Name f g b = refl
neither Coded.Pair f g b = refl
neither Coded.First f g b = refl
neither Coded.Second f g b = refl
neither Coded.Let f g b = refl
neither Coded.If f g b = refl
neither Coded.Delay f g b = refl
neither Coded.WholePattern f g b = refl
neither Coded.ConstructorPattern f g b = refl
neither Coded.PairPattern f g b = refl
neither Coded.Leaf f g b = refl

module _ (s : List ℕ) (r : ℕ) where
  pub past-feedback : kind_at s r ≡ expression feedback → true ≡ past_sets s r
  unfolding past_sets
  past-feedback e = rw e refl

  pub past-flat : {a : ℕ} → kind_at s r ≡ type_of flat → a ≡ word s r 2 → ltb 64 a ≡ past_sets s r
  unfolding past_sets
  past-flat {a} e ea = rw (e, ea) refl

  pub past-neither : (k : Kind) → kind_meant k ≡ kind_at s r → (k ≡ Coded.Feedback → ⊥) → (k ≡ Coded.FlatType → ⊥) → false ≡ past_sets s r
  unfolding past_sets
  past-neither k e f g = sym (rw (← e) (neither k f g (ltb 64 (word_a s r))))

-- the counts before i are made
pub record CountedTo (words : List ℕ) (i : ℕ) (out : List ℕ) : Type 0 where
  pub few : i ≤ length words
  pub long : length out ≡ length words
  pub so_far : take i out ≡ take i (ones_of words)

ones-at : (ws : List ℕ) (i : ℕ) → i < length ws → get_or (ones_of ws) i 0 ≡ ones (get_or ws i 0)
ones-at [] i h = absurd (omega arith)
ones-at (w ∷ ws) zero h = refl
ones-at (w ∷ ws) (suc i) h = ones-at ws i (omega arith)

pub none-counted : (words out : List ℕ) → length words ≡ length out → CountedTo words 0 out
none-counted words out e = record { few = omega arith; long = sym e; so_far = refl }

pub count_next : (words : List ℕ) (i : ℕ) (out : List ℕ) (v : ℕ) → CountedTo words i out → i < length words → v ≡ ones (get_or words i 0)
    → CountedTo words (i + 1) (set out i v)
count_next words i out v f h e =
    let l = f.long in
    let m = length-map words ones in
    record {
      few = omega arith;
      long = length-set out i v ∙ l;
      so_far =
          rw (add-one i, take-suc-set out i v (omega arith), take-suc (ones_of words) i 0 (omega arith), f.so_far, e, ones-at words i h) refl;
    }

pub all-counted : (words : List ℕ) (i : ℕ) (out : List ℕ) → CountedTo words i out → length words ≤ i → out ≡ ones_of words
all-counted words i out f h =
    let w = f.few in
    let l = f.long in
    let m = length-map words ones in
    let e : i ≡ length words = omega arith in
    let whole : take (length out) out ≡ take (length (ones_of words)) (ones_of words) = rw (l, m, ← e) f.so_far in
    sym (take-length out) ∙ whole ∙ take-length (ones_of words)
