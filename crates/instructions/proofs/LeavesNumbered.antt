-- The numbers of a text's type names: each is below the number of the next declaration, one number has one name, and the leaves of the type
-- with that number are those that are counted by its name.
-- Assumes nothing.
use Prim.Native.Nat.{ℕ, zero, suc, ◌+◌, ◌≤◌, ◌<◌, min}
use native.Mathlib.Omega.{arith}
use mathlib.Core.Path.{◌≡◌, refl, sym, ap, ap₂, ◌∙◌}
use mathlib.Core.Bool.{Bool, true, false, cond}
use mathlib.Core.List.{List, [], ◌∷◌}
use lib.ListN.{length}
use lib.Dec.{eqb}
use borrow.Author.Tests.{eq-eqb, ne_eqb}
use Rattle.grammar.specs.Source.{Declaration, Constructors, PairOf}
use Rattle.name_rules.specs.Declared.{same_name}
use Rattle.name_rules.proofs.SameName.{same-equal}
use Rattle.name_rules.specs.Constants.{letters}
use Rattle.name_rules.specs.RecordsNeeded.{LeafCount, leaf_count_of, leaf_counts}
use Rattle.layout.specs.Resolved.{TypeEntry, type_number, type_entries_from, type_entries}
use Rattle.instructions.specs.Assembly.{DeclaredType, leaves_numbered, held_types}
use Rattle.instructions.specs.RecordOrder.{types_onto, declared_types}

-- the names of the types declared so far, by numbers and by their leaves
pub record NumberedTypes (T : List DeclaredType) (E : List TypeEntry) (L : List LeafCount) : Type 0 where
  pub below : (w : List ℕ) → type_number E w ≤ length T
  pub one_name : (v w : List ℕ) → type_number E v ≡ type_number E w → 0 < type_number E v → v ≡ w
  pub leaves-agree : (w : List ℕ) → leaves_numbered T (type_number E w) ≡ leaf_count_of L w

-- the last type's number, and those before it
pub last-leaves : (T : List DeclaredType) (d k : ℕ) → d ≡ suc (length T) → cond (eqb d (suc (length T))) k (leaves_numbered T d) ≡ k
last-leaves T d k e = ap (λ x. cond x k (leaves_numbered T d)) (eq-eqb d (suc (length T)) e)

pub lower-leaves : (T : List DeclaredType) (d k : ℕ) → d ≤ length T → cond (eqb d (suc (length T))) k (leaves_numbered T d) ≡ leaves_numbered T d
lower-leaves T d k l = ap (λ x. cond x k (leaves_numbered T d)) (ne_eqb d (suc (length T)) (λ e. omega arith))

module _ {T : List DeclaredType} {E : List TypeEntry} {L : List LeafCount} (N : NumberedTypes T E L) {i : ℕ} (at : i ≡ suc (length T)) where
  more-below : (v w : List ℕ) → cond (same_name w v) i (type_number E w) ≤ suc (length T)
  more-below v w = go (same_name w v) (N.below w)
    where
      go : (b : Bool) → type_number E w ≤ length T → cond b i (type_number E w) ≤ suc (length T)
      go true l = omega arith
      go false l = omega arith

  more-one-name : (v u w : List ℕ) → cond (same_name u v) i (type_number E u) ≡ cond (same_name w v) i (type_number E w)
      → 0 < cond (same_name u v) i (type_number E u) → u ≡ w
  more-one-name v u w = go (same_name u v) (same_name w v) (same-equal u v) (same-equal w v) (N.below u) (N.below w)
    where
      go : (b c : Bool) → (b ≡ true → u ≡ v) → (c ≡ true → w ≡ v) → type_number E u ≤ length T → type_number E w ≤ length T
          → cond b i (type_number E u) ≡ cond c i (type_number E w) → 0 < cond b i (type_number E u) → u ≡ w
      go true true f g l m e p = f refl ∙ sym (g refl)
      go true false f g l m e p = absurd (omega arith)
      go false true f g l m e p = absurd (omega arith)
      go false false f g l m e p = N.one_name u w e p

  -- the leaves of a type that is declared next, whatever it is
  more-agree : (v : List ℕ) (k : ℕ) (w : List ℕ)
      → cond (eqb (cond (same_name w v) i (type_number E w)) (suc (length T))) k (leaves_numbered T (cond (same_name w v) i (type_number E w)))
      ≡ cond (same_name w v) k (leaf_count_of L w)
  more-agree v k w = go (same_name w v) (N.below w) (N.leaves-agree w)
    where
      go : (b : Bool) → type_number E w ≤ length T → leaves_numbered T (type_number E w) ≡ leaf_count_of L w
          → cond (eqb (cond b i (type_number E w)) (suc (length T))) k (leaves_numbered T (cond b i (type_number E w))) ≡ cond b k (leaf_count_of L w)
      go true l e = last-leaves T i k at
      go false l e = lower-leaves T (type_number E w) k l ∙ e

pub numbered-from : (i : ℕ) {T : List DeclaredType} {E : List TypeEntry} {L : List LeafCount} (ds : List Declaration)
    → i ≡ suc (length T) → NumberedTypes T E L → NumberedTypes (types_onto i E ds T) (type_entries_from i E ds) (leaf_counts L ds)
numbered-from i [] at N = N
numbered-from i {T} {E} {L} (Constructors t c cs ∷ ds) at N =
    numbered-from (suc i) ds (ap suc at)
    (record {
      below = more-below N at (letters t);
      one_name = more-one-name N at (letters t);
      leaves-agree = more-agree N at (letters t) 1;
    })
numbered-from i {T} {E} {L} (PairOf t a b ∷ ds) at N =
    numbered-from (suc i) ds (ap suc at)
    (record {
      below = more-below N at (letters t);
      one_name = more-one-name N at (letters t);
      leaves-agree = λ w.
          more-agree N at (letters t) (min 64 (leaves_numbered T (type_number E (letters a)) + leaves_numbered T (type_number E (letters b)))) w
          ∙ ap (λ k. cond (same_name w (letters t)) k (leaf_count_of L w))
          (ap₂ (λ x y. min 64 (x + y)) (N.leaves-agree (letters a)) (N.leaves-agree (letters b)));
    })

pub nothing-numbered : NumberedTypes [] [] []
nothing-numbered = record { below = λ w. omega arith; one_name = λ v w e p. absurd (omega arith); leaves-agree = λ w. refl }

pub types-numbered : (ds : List Declaration) → NumberedTypes (declared_types ds) (type_entries ds) (leaf_counts [] ds)
types-numbered ds = numbered-from 1 ds refl nothing-numbered

-- the leaves of a type by its number are those by its name
pub leaves-numbered : (ds : List Declaration) (w : List ℕ)
    → leaves_numbered (declared_types ds) (type_number (type_entries ds) w) ≡ leaf_count_of (leaf_counts [] ds) w
leaves-numbered ds w = (types-numbered ds).leaves-agree w

-- tables of types hold as many as are asked for
pub types-counted : (pairs : List Bool) (firsts seconds : List ℕ) (k : ℕ) → length (held_types pairs firsts seconds k) ≡ k
types-counted pairs firsts seconds zero = refl
types-counted pairs firsts seconds (suc k) = ap suc (types-counted pairs firsts seconds k)
