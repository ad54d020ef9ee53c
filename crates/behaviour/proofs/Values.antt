-- The values of a circuit's delays: each delay has a place for each leaf of its type, and each leaf's count is a byte; the sheet holds
-- the values at their places; and where they are of their types the leaves of the sheet fit. By induction on the tree, and for
-- the counts on the type records, from the lowest up.
-- Assumes nothing.
use Prim.Native.Nat.{ℕ, zero, suc, ◌≤◌, ◌<◌}
use mathlib.Core.List.{
  List,
  [],
  ◌∷◌,
  ◌++◌,
  map,
  Memᴰ,
}
use mathlib.Core.Path.{◌≡◌, refl}
use native.Mathlib.Omega.{arith}
use Rattle.picoella.specs.Language.{bounds}
use Rattle.records.specs.Words.{word_a, word_b}
use Rattle.records.specs.Kinds.{TypeKind, flat, pair, types}
use Rattle.records.specs.Kinds as Kinds
use Rattle.records.specs.Says.{kind_at}
use Rattle.records.specs.Trees.{
  type_at,
  TypeRecord,
  Tree,
  no_expression,
  constant_of,
  name_of,
  tuple_of,
  first_of,
  second_of,
  let_of,
  feedback_of,
  if_of,
  delay_of,
  type_record_of,
}
use Rattle.records.specs.Decoding.{leaf_values}
use Rattle.records.specs.Written.{Written}
use Rattle.records.proofs.Table.{ask_of_kind, kind-of-sort}
use Rattle.records.proofs.Asked.{as-kind-asks}
use Rattle.records.proofs.Types.{pair_parts, flat-type, pair-type}
use Rattle.records.proofs.TypeRecords.{first_part, second-part}
use Rattle.records.proofs.Grown.{Grown}
use Rattle.accepted.proofs.Scopes.{as-many-leaves}
use Rattle.accepted.proofs.AcceptedAgain.{ValuesFit}
use Rattle.accepted.proofs.LeafBounds.{bounds-small}
use Rattle.behaviour.specs.Terms.{term}
use Rattle.behaviour.specs.Delays.{entries}
use Rattle.behaviour.specs.Entries.{Entry, assigned}
use Rattle.behaviour.proofs.Members.{either}
use Rattle.behaviour.proofs.Frames.{EachDelay, Valued, HasPlaces, Reads}

pub tree-has-places : {s : List ℕ} → Written s → (Γ : List ℕ) (e : Tree) → Grown s e → Valued (term s Γ e) → EachDelay HasPlaces (term s Γ e)
tree-has-places {s} w Γ no_expression g v = tt
tree-has-places {s} w Γ (constant_of r t ls) g v = tt
tree-has-places {s} w Γ (name_of r k) g v = tt
tree-has-places {s} w Γ (tuple_of r a b) g v = (tree-has-places w Γ a g.0 v.0, tree-has-places w Γ b g.1 v.1)
tree-has-places {s} w Γ (first_of r a) g v = tree-has-places w Γ a g v
tree-has-places {s} w Γ (second_of r a) g v = tree-has-places w Γ a g v
tree-has-places {s} w Γ (let_of r a b) g v = (tree-has-places w Γ a g.0 v.0, tree-has-places w (type_record_of s Γ a ∷ Γ) b g.1 v.1)
tree-has-places {s} w Γ (feedback_of r t a b) g v = (tree-has-places w (t ∷ Γ) a g.1 v.0, tree-has-places w (t ∷ Γ) b g.2 v.1)
tree-has-places {s} w Γ (if_of r a p b c) g v =
    (tree-has-places w Γ a g.0 v.0, tree-has-places w Γ b g.2 v.1, tree-has-places w Γ c g.3 v.2)
tree-has-places {s} w Γ (delay_of r t ls a) g v = (
  record { as_many = as-many-leaves s (type_at s t) ls v.0; small = bounds-small w t g.0 },
  tree-has-places w Γ a g.1 v.1,
)

reads_both : (read : ℕ → ℕ) (es fs : List Entry) → Reads read es → Reads read fs → Reads read (es ++ fs)
reads_both read es fs a b e = either es fs (a e) (b e)

reads-assigned : (read : ℕ → ℕ) (ls : List ℕ) → Reads read (assigned ls (map read ls))
reads-assigned read [] e m = elim m [ ]
reads-assigned read (l ∷ ls) e (Memᴰ.head p) = rw p refl
reads-assigned read (l ∷ ls) e (Memᴰ.tail m) = reads-assigned read ls e m

-- the sheet holds the values at their places
pub tree-reads : (s Γ : List ℕ) (e : Tree) → Reads (word_a s) (entries (term s Γ e))
tree-reads s Γ no_expression = λ e m. elim m [ ]
tree-reads s Γ (constant_of r t ls) = λ e m. elim m [ ]
tree-reads s Γ (name_of r k) = λ e m. elim m [ ]
tree-reads s Γ (tuple_of r a b) =
    reads_both (word_a s) (entries (term s Γ a)) (entries (term s Γ b)) (tree-reads s Γ a) (tree-reads s Γ b)
tree-reads s Γ (first_of r a) = tree-reads s Γ a
tree-reads s Γ (second_of r a) = tree-reads s Γ a
tree-reads s Γ (let_of r a b) =
    let Δ = type_record_of s Γ a ∷ Γ in
    reads_both (word_a s) (entries (term s Γ a)) (entries (term s Δ b)) (tree-reads s Γ a) (tree-reads s Δ b)
tree-reads s Γ (feedback_of r t a b) =
    reads_both (word_a s) (entries (term s (t ∷ Γ) a)) (entries (term s (t ∷ Γ) b)) (tree-reads s (t ∷ Γ) a) (tree-reads s (t ∷ Γ) b)
tree-reads s Γ (if_of r a p b c) =
    reads_both (word_a s) (entries (term s Γ a)) (entries (term s Γ b) ++ entries (term s Γ c)) (tree-reads s Γ a)
    (reads_both (word_a s) (entries (term s Γ b)) (entries (term s Γ c)) (tree-reads s Γ b) (tree-reads s Γ c))
tree-reads s Γ (delay_of r t ls a) =
    reads_both (word_a s) (entries (term s Γ a)) (assigned ls (leaf_values s ls)) (tree-reads s Γ a) (reads-assigned (word_a s) ls)

-- where values are of their types, leaves fit
pub valued-fitting : (s Γ : List ℕ) (e : Tree) → Valued (term s Γ e) → ValuesFit s e
valued-fitting s Γ no_expression v = tt
valued-fitting s Γ (constant_of r t ls) v = v
valued-fitting s Γ (name_of r k) v = tt
valued-fitting s Γ (tuple_of r a b) v = (valued-fitting s Γ a v.0, valued-fitting s Γ b v.1)
valued-fitting s Γ (first_of r a) v = valued-fitting s Γ a v
valued-fitting s Γ (second_of r a) v = valued-fitting s Γ a v
valued-fitting s Γ (let_of r a b) v = (valued-fitting s Γ a v.0, valued-fitting s (type_record_of s Γ a ∷ Γ) b v.1)
valued-fitting s Γ (feedback_of r t a b) v = (valued-fitting s (t ∷ Γ) a v.0, valued-fitting s (t ∷ Γ) b v.1)
valued-fitting s Γ (if_of r a p b c) v = (valued-fitting s Γ a v.0, valued-fitting s Γ b v.1, valued-fitting s Γ c v.2)
valued-fitting s Γ (delay_of r t ls a) v = (v.0, valued-fitting s Γ a v.1)
