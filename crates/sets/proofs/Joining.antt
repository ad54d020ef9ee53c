-- Sets joined leaf by leaf.
-- Assumes nothing.
use Prim.Native.Nat.{ℕ, zero, suc, ◌≤◌, ◌<◌}
use mathlib.Core.List.{List, [], ◌∷◌}
use mathlib.Core.Path.{◌≡◌, refl, sym, ap, ap₂}
use native.Mathlib.Omega.{arith}
use lib.Bits.{bit_or}
use lib.ListN.{length, get_or}
use Rattle.possibilities.specs.Sets.{ConstructorSet, set_word, set_words, unions}
use Rattle.possibilities.proofs.SetWords.{word-union}
use Rattle.values.proofs.LeafByLeaf.{JoinedTo, all-joined}
use Rattle.sets.specs.Words.{or_leaves}

joined_length : (vs ws : List ℕ) → length (or_leaves vs ws) ≡ length vs
joined_length [] ws = refl
joined_length (v ∷ vs) [] = ap suc (joined_length vs [])
joined_length (v ∷ vs) (w ∷ ws) = ap suc (joined_length vs ws)

joined_at : (vs ws : List ℕ) → length ws ≡ length vs → (j : ℕ) → j < length vs
    → get_or (or_leaves vs ws) j 0 ≡ bit_or (get_or vs j 0) (get_or ws j 0)
joined_at [] ws e j h = absurd (omega arith)
joined_at (v ∷ vs) [] e j h = absurd (omega arith)
joined_at (v ∷ vs) (w ∷ ws) e zero h = refl
joined_at (v ∷ vs) (w ∷ ws) e (suc j) h = joined_at vs ws (omega arith) j (omega arith)

-- where all words are joined, the slice is that of the joined words
pub sets-joined : (otherwise out₀ : List ℕ) (i : ℕ) (out : List ℕ) → length otherwise ≡ length out₀ → length out₀ ≤ i
    → JoinedTo bit_or otherwise out₀ i out → out ≡ or_leaves out₀ otherwise
sets-joined otherwise out₀ i out k h c =
    all-joined bit_or otherwise out₀ (or_leaves out₀ otherwise) (joined_length out₀ otherwise) (joined_at out₀ otherwise k) i out h c

-- of sets it is their unions
pub join-unions : (Ss Ts : List ConstructorSet) → or_leaves (set_words Ss) (set_words Ts) ≡ set_words (unions Ss Ts)
join-unions [] Ts = refl
join-unions (S ∷ Ss) [] = ap (λ l. set_word S ∷ l) (join-unions Ss [])
join-unions (S ∷ Ss) (T ∷ Ts) = ap₂ ◌∷◌ (sym (word-union S T)) (join-unions Ss Ts)
