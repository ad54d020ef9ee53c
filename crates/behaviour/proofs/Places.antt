-- Where the values of a circuit's delays stand: at the delays' leaves in the tree, in another order, and at no constant's leaf.
-- By induction on the tree.
-- Assumes nothing.
use Prim.Native.Nat.{ℕ}
use mathlib.Core.Bool.{Bool, true, false}
use mathlib.Core.List.Memᴰ
use mathlib.Core.List.{
  List,
  [],
  ◌∷◌,
  ◌++◌,
  map,
  Memᴰ,
}
use mathlib.Core.Logic.{◌⊎◌, inl, inr}
use Rattle.records.specs.Trees.{
  Tree,
  no_expression,
  constant_of,
  name_of,
  tuple_of,
  first_of,
  second_of,
  let_of,
  feedback_of,
  if_of,
  delay_of,
  listed,
  held,
  delay_leaves,
  type_record_of,
}
use Rattle.records.specs.Written.{Distinct}
use Rattle.records.specs.Decoding.{leaf_values}
use Rattle.behaviour.specs.Terms.{term}
use Rattle.behaviour.specs.Delays.{entries, places}
use Rattle.behaviour.specs.Entries.{Entry, assigned}
use Rattle.behaviour.proofs.Entries.{places_of, places-append}
use Rattle.behaviour.proofs.Members.{Among, among-both, Apart, distinct-parts, Rearranged, rearranged-same, rearranged-both, rearranged-swapped}
use Rattle.behaviour.proofs.Frames.{assigned-places}

-- the entries of two terms stand where those of the parts do
joined : (es fs : List Entry) (rs ls : List ℕ) → Rearranged rs (places_of es) → Rearranged ls (places_of fs)
    → Rearranged (rs ++ ls) (places_of (es ++ fs))
joined es fs rs ls a b = rw (places-append es fs) (rearranged-both rs ls (places_of es) (places_of fs) a b)

pub tree_places : (s Γ : List ℕ) (e : Tree) → Rearranged (delay_leaves e) (places (term s Γ e))
tree_places s Γ no_expression = rearranged-same []
tree_places s Γ (constant_of r t ls) = rearranged-same []
tree_places s Γ (name_of r k) = rearranged-same []
tree_places s Γ (tuple_of r a b) =
    joined (entries (term s Γ a)) (entries (term s Γ b)) (delay_leaves a) (delay_leaves b) (tree_places s Γ a) (tree_places s Γ b)
tree_places s Γ (first_of r a) = tree_places s Γ a
tree_places s Γ (second_of r a) = tree_places s Γ a
tree_places s Γ (let_of r a b) =
    let Δ = type_record_of s Γ a ∷ Γ in
    joined (entries (term s Γ a)) (entries (term s Δ b)) (delay_leaves a) (delay_leaves b) (tree_places s Γ a) (tree_places s Δ b)
tree_places s Γ (feedback_of r t a b) =
    joined (entries (term s (t ∷ Γ) a)) (entries (term s (t ∷ Γ) b)) (delay_leaves a) (delay_leaves b)
    (tree_places s (t ∷ Γ) a) (tree_places s (t ∷ Γ) b)
tree_places s Γ (if_of r a p b c) =
    joined (entries (term s Γ a)) (entries (term s Γ b) ++ entries (term s Γ c)) (delay_leaves a) (delay_leaves b ++ delay_leaves c)
    (tree_places s Γ a)
    (joined (entries (term s Γ b)) (entries (term s Γ c)) (delay_leaves b) (delay_leaves c) (tree_places s Γ b) (tree_places s Γ c))
tree_places s Γ (delay_of r t ls a) =
    rw (places-append (entries (term s Γ a)) (assigned ls (leaf_values s ls)), assigned-places ls (leaf_values s ls))
    (rearranged-swapped ls (delay_leaves a) ls (places (term s Γ a)) (rearranged-same ls) (tree_places s Γ a))

-- the leaves of constants or of delays are among those of both
among-listed : (b : Bool) (rs : List ℕ) → Among (listed b rs) rs
among-listed true rs x m = m
among-listed false rs x m = elim m [ ]

among-held : (c d : Bool) (e : Tree) → Among (held false c d e) (held false true true e)
among-held c d no_expression = λ x m. m
among-held c d (constant_of r t ls) = among-listed c ls
among-held c d (name_of r k) = λ x m. m
among-held c d (tuple_of r a b) =
    among-both (held false c d a) (held false c d b) (held false true true a) (held false true true b) (among-held c d a)
    (among-held c d b)
among-held c d (first_of r a) = among-held c d a
among-held c d (second_of r a) = among-held c d a
among-held c d (let_of r a b) =
    among-both (held false c d a) (held false c d b) (held false true true a) (held false true true b) (among-held c d a)
    (among-held c d b)
among-held c d (feedback_of r t a b) =
    among-both (held false c d a) (held false c d b) (held false true true a) (held false true true b) (among-held c d a)
    (among-held c d b)
among-held c d (if_of r a p b e) =
    among-both (held false c d a) (held false c d b ++ held false c d e) (held false true true a)
    (held false true true b ++ held false true true e) (among-held c d a)
    (among-both (held false c d b) (held false c d e) (held false true true b) (held false true true e) (among-held c d b)
    (among-held c d e))
among-held c d (delay_of r t ls a) =
    among-both (listed d ls) (held false c d a) ls (held false true true a) (among-listed d ls) (among-held c d a)

-- what is apart within two lists that are apart
apart-both : (A B rs ls rs' ls' : List ℕ) → Distinct (A ++ B) → Among rs A → Among rs' A → Among ls B → Among ls' B
    → (Distinct A → Apart rs rs') → (Distinct B → Apart ls ls') → Apart (rs ++ ls) (rs' ++ ls')
apart-both A B rs ls rs' ls' d ra ra' lb lb' f g x m n =
    let p = distinct-parts A B d in go p (Memᴰ.append_cases rs m) (Memᴰ.append_cases rs' n)
  where
    go : Distinct A × Distinct B × Apart A B → Memᴰ x rs ⊎ Memᴰ x ls → Memᴰ x rs' ⊎ Memᴰ x ls' → ⊥
    go p (inl m) (inl n) = f p.0 x m n
    go p (inl m) (inr n) = p.2 x (ra x m) (lb' x n)
    go p (inr m) (inl n) = p.2 x (ra' x n) (lb x m)
    go p (inr m) (inr n) = g p.1 x m n

abbrev constant_leaves : Tree → List ℕ
constant_leaves e = held false true false e

abbrev both : Tree → List ℕ
both e = held false true true e

two-apart : (a b : Tree) → Distinct (both a ++ both b) → (Distinct (both a) → Apart (constant_leaves a) (delay_leaves a))
    → (Distinct (both b) → Apart (constant_leaves b) (delay_leaves b))
    → Apart (constant_leaves a ++ constant_leaves b) (delay_leaves a ++ delay_leaves b)
two-apart a b d f g =
    apart-both (both a) (both b) (constant_leaves a) (constant_leaves b) (delay_leaves a) (delay_leaves b) d
    (among-held true false a) (among-held false true a) (among-held true false b) (among-held false true b) f g

-- no leaf is a constant's and a delay's
pub constants-apart : (e : Tree) → Distinct (held false true true e) → Apart (held false true false e) (delay_leaves e)
constants-apart no_expression d = λ x m n. elim m [ ]
constants-apart (constant_of r t ls) d = λ x m n. elim n [ ]
constants-apart (name_of r k) d = λ x m n. elim m [ ]
constants-apart (tuple_of r a b) d = two-apart a b d (constants-apart a) (constants-apart b)
constants-apart (first_of r a) d = constants-apart a d
constants-apart (second_of r a) d = constants-apart a d
constants-apart (let_of r a b) d = two-apart a b d (constants-apart a) (constants-apart b)
constants-apart (feedback_of r t a b) d = two-apart a b d (constants-apart a) (constants-apart b)
constants-apart (if_of r a p b c) d =
    apart-both (both a) (both b ++ both c) (constant_leaves a) (constant_leaves b ++ constant_leaves c) (delay_leaves a)
    (delay_leaves b ++ delay_leaves c) d (among-held true false a) (among-held false true a)
    (among-both (constant_leaves b) (constant_leaves c) (both b) (both c) (among-held true false b) (among-held true false c))
    (among-both (delay_leaves b) (delay_leaves c) (both b) (both c) (among-held false true b) (among-held false true c))
    (constants-apart a) (λ q. two-apart b c q (constants-apart b) (constants-apart c))
constants-apart (delay_of r t ls a) d =
    apart-both ls (both a) [] (constant_leaves a) ls (delay_leaves a) d (λ x m. elim m [ ]) (λ x m. m) (among-held true false a)
    (among-held false true a) (λ q x m n. elim m [ ]) (constants-apart a)
