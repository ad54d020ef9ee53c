-- A sheet with only leaves and labels rewritten has the same kinds, types, chains, alternatives, trees and namings: none of them
-- reads the word a of a leaf record or the word d of a delay. Each by induction on the steps, a record at a time: it is a leaf,
-- whose word a is not read, or its words are the same but for a label.
-- Assumes nothing.
use Prim.Native.Nat.{ℕ, zero, suc, ◌<◌}
use mathlib.Core.Bool.{Bool, true, false, cond}
use mathlib.Core.List.{List, ◌++◌}
use mathlib.Core.Path.{◌≡◌, refl, sym, ap, ap₂, fun_ext, ◌∙◌}
use mathlib.Core.Logic.{◌⊎◌, inl, inr}
use native.Mathlib.Omega.{arith}
use native.Mathlib.Decide.{ℕ_discrete}
use Rattle.records.specs.Words.{word, count, next_word, word_a, word_b, word_c, word_d}
use Rattle.records.specs.Kinds.{
  Kind,
  header,
  type_of,
  expression,
  pattern,
  leaf,
  unknown,
  constant,
  name,
  tuple,
  first,
  second,
  let_in,
  feedback,
  if_matches,
  delay,
  kind_of,
  is_delay,
}
use Rattle.records.specs.Says.{kind_at, names, names_at, if_named, namings_in, namings_below, namings}
use Rattle.records.specs.Trees.{
  type_within,
  type_at,
  is_pair_of,
  pair_below,
  pair_of,
  Tree,
  constant_of,
  if_of,
  delay_of,
  tree_step,
  chain_within,
  chain,
  alternatives_within,
  alternatives,
  tree_within,
  tree_at,
  circuit,
}
use Rattle.records.specs.Rewritten.{Rewritten}
use Rattle.records.proofs.Table.{ask_of_kind, ask-by-kind, is-delay}

pub leaf-or-not : (k : Kind) → (k ≡ leaf) ⊎ (k ≡ leaf → ⊥)
leaf-or-not leaf = inl refl
leaf-or-not header = inr (λ e. let z : ◌≡◌ {A = ℕ} 0 1 = cc in omega arith)
leaf-or-not (type_of k) = inr (λ e. let z : ◌≡◌ {A = ℕ} 0 1 = cc in omega arith)
leaf-or-not (expression k) = inr (λ e. let z : ◌≡◌ {A = ℕ} 0 1 = cc in omega arith)
leaf-or-not (pattern k) = inr (λ e. let z : ◌≡◌ {A = ℕ} 0 1 = cc in omega arith)
leaf-or-not unknown = inr (λ e. let z : ◌≡◌ {A = ℕ} 0 1 = cc in omega arith)

pub delay-or-not : (k : Kind) → (k ≡ expression delay) ⊎ (k ≡ expression delay → ⊥)
delay-or-not k = go (is_delay k) refl
  where
    go : (b : Bool) → is_delay k ≡ b → (k ≡ expression delay) ⊎ (k ≡ expression delay → ⊥)
    go true e = inl (is-delay k e)
    go false e = inr (λ f. let z : ◌≡◌ {A = ℕ} 0 1 = cc in omega arith)

-- the words of record r are the same, up to word c
abbrev pub SameWords : List ℕ → List ℕ → ℕ → Type 0
SameWords s s' r = (k : ℕ) → k < 5 → word s' r k ≡ word s r k

module _ {s s' : List ℕ} (o : Rewritten s s') where
  pub same_count : count s' ≡ count s
  unfolding count
  same_count = rw o.length

  pub same_kind : (r : ℕ) → kind_at s' r ≡ kind_at s r
  same_kind r = ap kind_of (o.leaves r 0 (omega arith) (λ e. omega arith))

  pub same_next : (r : ℕ) → next_word s' r ≡ next_word s r
  same_next r = o.leaves r 1 (omega arith) (λ e. omega arith)

  -- a record is a leaf or has the same words up to word c
  pub leaf-or-same : (r : ℕ) → (kind_at s r ≡ leaf) ⊎ SameWords s s' r
  leaf-or-same r = go (leaf-or-not (kind_at s r))
    where
      go : (kind_at s r ≡ leaf) ⊎ (kind_at s r ≡ leaf → ⊥) → (kind_at s r ≡ leaf) ⊎ SameWords s s' r
      go (inl e) = inl e
      go (inr f) = inr (o.others r f)

  chains-same : (n : ℕ) → chain_within s' n ≡ chain_within s n
  unfolding chain_within
  chains-same zero = refl
  chains-same (suc n) = fun_ext (λ r. rw (same_next r, chains-same n))

  pub same-chain : (r : ℕ) → chain s' r ≡ chain s r
  unfolding chain
  same-chain r = rw (same_count, chains-same (count s))

  types_same : (n : ℕ) → type_within s' n ≡ type_within s n
  unfolding type_within
  types_same zero = refl
  types_same (suc n) = fun_ext (λ r. go r (leaf-or-same r) (types_same n))
    where
      go : (r : ℕ) → (kind_at s r ≡ leaf) ⊎ SameWords s s' r → type_within s' n ≡ type_within s n
          → type_within s' (suc n) r ≡ type_within s (suc n) r
      go r (inl e) ih = rw (same_kind r, e)
      go r (inr e) ih = rw (e 0 (omega arith), e 2 (omega arith), e 3 (omega arith), ih)

  pub same-type : (r : ℕ) → type_at s' r ≡ type_at s r
  unfolding type_at
  same-type r = rw (types_same (suc r))

  pub same-pair : (a b r : ℕ) → is_pair_of s' a b r ≡ is_pair_of s a b r
  same-pair a b r = go (leaf-or-same r)
    where
      go : (kind_at s r ≡ leaf) ⊎ SameWords s s' r → is_pair_of s' a b r ≡ is_pair_of s a b r
      go (inl e) = rw (same_kind r, e)
      go (inr e) = rw (e 0 (omega arith), e 2 (omega arith), e 3 (omega arith))

  pub same-pair-below : (a b n : ℕ) → pair_below s' a b n ≡ pair_below s a b n
  same-pair-below a b zero = refl
  same-pair-below a b (suc n) = go (pair_below s a b n) refl (same-pair-below a b n)
    where
      go : (v : ℕ) → pair_below s a b n ≡ v → pair_below s' a b n ≡ v → pair_below s' a b (suc n) ≡ pair_below s a b (suc n)
      go zero e f = rw (e, f) (ap (λ t. cond t n 0) (same-pair a b n))
      go (suc r) e f = rw (e, f)

  pub same-pair-of : (a b : ℕ) → pair_of s' a b ≡ pair_of s a b
  unfolding pair_of
  same-pair-of a b = rw (same_count, same-pair-below a b (count s))

  alternatives-same : (n : ℕ) → alternatives_within s' n ≡ alternatives_within s n
  unfolding alternatives_within
  alternatives-same zero = refl
  alternatives-same (suc n) = fun_ext (λ r. go r (leaf-or-same r) (alternatives-same n))
    where
      go : (r : ℕ) → (kind_at s r ≡ leaf) ⊎ SameWords s s' r → alternatives_within s' n ≡ alternatives_within s n
          → alternatives_within s' (suc n) r ≡ alternatives_within s (suc n) r
      go r (inl e) ih = rw (same_kind r, e)
      go r (inr e) ih =
          rw (e 0 (omega arith), e 1 (omega arith), e 2 (omega arith), e 3 (omega arith), ih)

  pub same-alternatives : (r : ℕ) → alternatives s' r ≡ alternatives s r
  unfolding alternatives
  same-alternatives r = rw (same_count, alternatives-same (count s))

  -- the word d counts at an IF alone
  tree-step-same : (go : ℕ → Tree) (k : Kind) (r a b c d d' : ℕ) → ((k ≡ expression delay → ⊥) → d' ≡ d)
      → tree_step s' go k r a b c d' ≡ tree_step s go k r a b c d
  tree-step-same go header r a b c d d' e = refl
  tree-step-same go (type_of k) r a b c d d' e = refl
  tree-step-same go (expression constant) r a b c d d' e = ap (constant_of r a) (same-chain b)
  tree-step-same go (expression name) r a b c d d' e = refl
  tree-step-same go (expression tuple) r a b c d d' e = refl
  tree-step-same go (expression first) r a b c d d' e = refl
  tree-step-same go (expression second) r a b c d d' e = refl
  tree-step-same go (expression let_in) r a b c d d' e = refl
  tree-step-same go (expression feedback) r a b c d d' e = refl
  tree-step-same go (expression if_matches) r a b c d d' e =
      ap (λ p. if_of r (go a) p (go b) (go c))
      (ap (alternatives s') (e (λ f. let z : ◌≡◌ {A = ℕ} 0 1 = cc in omega arith)) ∙ same-alternatives d)
  tree-step-same go (expression delay) r a b c d d' e = ap (λ ls. delay_of r a ls (go c)) (same-chain b)
  tree-step-same go (pattern k) r a b c d d' e = refl
  tree-step-same go leaf r a b c d d' e = refl
  tree-step-same go unknown r a b c d d' e = refl

  trees-same : (n : ℕ) → tree_within s' n ≡ tree_within s n
  unfolding tree_within
  trees-same zero = refl
  trees-same (suc n) = fun_ext (λ r. go r (leaf-or-same r) (trees-same n))
    where
      go : (r : ℕ) → (kind_at s r ≡ leaf) ⊎ SameWords s s' r → tree_within s' n ≡ tree_within s n
          → tree_within s' (suc n) r ≡ tree_within s (suc n) r
      go r (inl e) ih = rw (same_kind r, e)
      go r (inr e) ih =
          rw (e 0 (omega arith), e 2 (omega arith), e 3 (omega arith), e 4 (omega arith), ih)
          (tree-step-same (tree_within s n) (kind_at s r) r (word_a s r) (word_b s r) (word_c s r) (word_d s r) (word_d s' r) (o.unlabelled r))

  pub same-tree : (r : ℕ) → tree_at s' r ≡ tree_at s r
  unfolding tree_at
  same-tree r = rw (same_count, trees-same (count s))

  pub same-circuit : circuit s' ≡ circuit s
  unfolding circuit
  same-circuit = rw (o.leaves 0 3 (omega arith) (λ e. omega arith), same-tree (word_b s 0))

  same-naming : (r q k : ℕ) → k < 6 → names_at s' r q k ≡ names_at s r q k
  same-naming r q k h = go (ℕ_discrete k 2) (ℕ_discrete k 5) (leaf-or-same q) (delay-or-not (kind_at s q))
    where
      -- the word a of a leaf asks for a byte and the word d of a delay for any number: they name nothing
      unnamed : (z : List ℕ) (x : Kind) → kind_at z q ≡ x → names (ask_of_kind x k) ≡ false → names_at z r q k ≡ false
      unnamed z x e f = rw (ask-by-kind z q k x e, f)

      apart : (x : Kind) → kind_at s q ≡ x → names (ask_of_kind x k) ≡ false → names_at s' r q k ≡ names_at s r q k
      apart x e f = unnamed s' x (same_kind q ∙ e) f ∙ sym (unnamed s x e f)

      go : Dec (k ≡ 2) → Dec (k ≡ 5) → (kind_at s q ≡ leaf) ⊎ SameWords s s' q
          → (kind_at s q ≡ expression delay) ⊎ (kind_at s q ≡ expression delay → ⊥) → names_at s' r q k ≡ names_at s r q k
      go (no f) (no g) d x = rw (o.leaves q 0 (omega arith) (λ e. omega arith), o.leaves q k (omega arith) f)
      go (yes z) y (inr e) x = rw (z, e 0 (omega arith), e 2 (omega arith))
      go (yes z) y (inl e) x = apart leaf e (rw z (unfold ask_of_kind in refl))
      go (no f) (yes z) d (inl e) = apart (expression delay) e (rw z (unfold ask_of_kind in refl))
      go (no f) (yes z) d (inr g) = rw (z, o.leaves q 0 (omega arith) (λ e. omega arith), o.unlabelled q g)

  pub same-namings : (r : ℕ) → namings s' r ≡ namings s r
  unfolding namings
  same-namings r = rw same_count (below (count s))
    where
      within : (q n : ℕ) → n < 6 → namings_in s' r q n ≡ namings_in s r q n
      within q zero h = refl
      within q (suc n) h = ap₂ ◌++◌ (within q n (omega arith)) (ap (λ t. if_named t q (suc n)) (same-naming r q (suc n) h))

      below : (n : ℕ) → namings_below s' r n ≡ namings_below s r n
      below zero = refl
      below (suc n) = ap₂ ◌++◌ (below n) (within n 5 (omega arith))
