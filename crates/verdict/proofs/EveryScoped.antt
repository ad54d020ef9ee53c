-- Every expression record of a sheet that passes codes 1 to 6 has a scope. It is named by a word, and a word that names an expression
-- is the header's word b or a part of an expression, which is a lower record. By induction on the records, from the lowest up.
-- Assumes nothing.
use Prim.Native.Nat.{ℕ, zero, suc, ◌<◌}
use mathlib.Core.Bool.{Bool, true, false, ◌||◌, false≢true}
use mathlib.Core.List.{List, [], ◌∷◌, Memᴰ}
use mathlib.Core.Path.{◌≡◌, refl, sym, ◌∙◌}
use native.Mathlib.Omega.{arith}
use lib.Dec.{eqb}
use borrow.Author.Tests.{eqb-true}
use Rattle.records.specs.Words.{count, word, word_a}
use Rattle.records.specs.Kinds.{
  expressions,
  Kind,
  header,
  type_of,
  flat,
  pair,
  expression,
  pattern,
  leaf,
  unknown,
  ExpressionKind,
  constant,
  name,
  tuple,
  first,
  second,
  let_in,
  feedback,
  if_matches,
  delay,
  whole,
  constructor,
  parts,
  Ask,
  zeroed,
  next_of,
  part,
  any_type,
  lower_type,
  lower_flat,
  constructor_of,
  counted,
  byte,
  free,
  total,
  never,
  is_header,
}
use Rattle.records.specs.Says.{kind_at, sort_at, ask_at, Naming, names, namings, well_named}
use Rattle.records.specs.Trees.{tree_at, type_record_of}
use Rattle.records.specs.Written.{Written}
use Rattle.records.proofs.Tests.{never_both, both_left, both_right}
use Rattle.records.proofs.Table.{ask_of_kind, ask-by-kind, ask_number}
use Rattle.records.proofs.Asked.{AskMeans, as-asked, past-header}
use Rattle.records.proofs.Namings.{in-namings-names, namer-lower}
use Rattle.structure.specs.Rules.{Passes}
use Rattle.structure.proofs.Passes.{written, well-named}
use Rattle.verdict.specs.Scopes.{inputs}
use Rattle.verdict.specs.Scopes.{
  Scope,
  root,
  tuple_first,
  tuple_second,
  of-first,
  of-second,
  let_defining,
  let_body,
  feedback_defining,
  feedback_body,
  if_tested,
  if_then,
  if_else,
  of-delay,
}

-- what holds of a record where it holds of all lower ones holds of all records
pub from-below : (P : ℕ → Type 0) → ((r : ℕ) → ((q : ℕ) → q < r → P q) → P r) → (r : ℕ) → P r
from-below P step r = go (suc r) r (omega arith)
  where
    go : (m r : ℕ) → r < m → P r
    go zero r h = absurd (omega arith)
    go (suc m) r h = step r (λ q below. go m q (omega arith))

-- by the words 1 to 5
by_word : (P : ℕ → Type 0) → P 1 → P 2 → P 3 → P 4 → P 5 → (j : ℕ) → 0 < j → j < 6 → P j
by_word P a b c d e zero low high = absurd (omega arith)
by_word P a b c d e (suc zero) low high = a
by_word P a b c d e (suc (suc zero)) low high = b
by_word P a b c d e (suc (suc (suc zero))) low high = c
by_word P a b c d e (suc (suc (suc (suc zero)))) low high = d
by_word P a b c d e (suc (suc (suc (suc (suc zero))))) low high = e
by_word P a b c d e (suc (suc (suc (suc (suc (suc j)))))) low high = absurd (omega arith)

-- the word asks for an expression, as a part or as a next
abbrev asks_expression : Ask → Bool
asks_expression a = eqb (ask_number a) (ask_number (part expressions)) || eqb (ask_number a) (ask_number (next_of expressions))

-- a word that names an expression asks for one
names-expression : (s : List ℕ) (q w : ℕ) (a : Ask) → names a ≡ true → AskMeans s q a w → 0 < w → sort_at s w ≡ expressions
    → asks_expression a ≡ true
names-expression s q w (next_of σ) e m h f = rw (sym (m h).2 ∙ f)
names-expression s q w (part σ) e m h f = rw (sym m.2 ∙ f)
names-expression s q w zeroed e m h f = absurd (never_both false e refl)
names-expression s q w any_type e m h f = absurd (never_both false e refl)
names-expression s q w lower_type e m h f = absurd (never_both false e refl)
names-expression s q w lower_flat e m h f = absurd (never_both false e refl)
names-expression s q w constructor_of e m h f = absurd (never_both false e refl)
names-expression s q w counted e m h f = absurd (never_both false e refl)
names-expression s q w byte e m h f = absurd (never_both false e refl)
names-expression s q w free e m h f = absurd (never_both false e refl)
names-expression s q w total e m h f = absurd (never_both false e refl)
names-expression s q w never e m h f = absurd (never_both false e refl)

abbrev Scoped : List ℕ → ℕ → Type 0
Scoped s r = (Γ : List ℕ) × Scope s r Γ

no : {A : Type 0} → false ≡ true → A
no e = absurd (false≢true e)

module _ (s : List ℕ) (q : ℕ) where
  -- an expression named by word j of a record of this kind has a scope where that record has one, if it is an expression
  abbrev Through : Kind → ℕ → Type 0
  Through k j = asks_expression (ask_of_kind k j) ≡ true → Scoped s (word s q j)

  named-through : (k : Kind) → kind_at s q ≡ k → (is_headed : k ≡ header → q ≡ 0) → ((e : ExpressionKind) → k ≡ expression e → Scoped s q)
      → (j : ℕ) → 0 < j → j < 6 → Through k j
  unfolding ask_of_kind
  named-through header e z c = by_word (Through header) no no (λ t. rw (z refl) (inputs s, root)) no no
  named-through (type_of flat) e z c = by_word (Through (type_of flat)) no no no no no
  named-through (type_of pair) e z c = by_word (Through (type_of pair)) no no no no no
  named-through (expression constant) e z c = by_word (Through (expression constant)) no no no no no
  named-through (expression name) e z c = by_word (Through (expression name)) no no no no no
  named-through (expression tuple) e z c =
      let o = c tuple refl in
      by_word (Through (expression tuple)) no (λ t. (o.0, tuple_first e o.1)) (λ t. (o.0, tuple_second e o.1)) no no
  named-through (expression first) e z c =
      let o = c first refl in by_word (Through (expression first)) no (λ t. (o.0, of-first e o.1)) no no no
  named-through (expression second) e z c =
      let o = c second refl in by_word (Through (expression second)) no (λ t. (o.0, of-second e o.1)) no no no
  named-through (expression let_in) e z c =
      let o = c let_in refl in
      by_word (Through (expression let_in)) no (λ t. (o.0, let_defining e o.1))
      (λ t. (type_record_of s o.0 (tree_at s (word_a s q)) ∷ o.0, let_body e o.1)) no no
  named-through (expression feedback) e z c =
      let o = c feedback refl in
      by_word (Through (expression feedback)) no no (λ t. (word_a s q ∷ o.0, feedback_defining e o.1))
      (λ t. (word_a s q ∷ o.0, feedback_body e o.1)) no
  named-through (expression if_matches) e z c =
      let o = c if_matches refl in
      by_word (Through (expression if_matches)) no (λ t. (o.0, if_tested e o.1)) (λ t. (o.0, if_then e o.1))
      (λ t. (o.0, if_else e o.1)) no
  named-through (expression delay) e z c =
      let o = c delay refl in by_word (Through (expression delay)) no no no (λ t. (o.0, of-delay e o.1)) no
  named-through (pattern whole) e z c = by_word (Through (pattern whole)) no no no no no
  named-through (pattern constructor) e z c = by_word (Through (pattern constructor)) no no no no no
  named-through (pattern parts) e z c = by_word (Through (pattern parts)) no no no no no
  named-through leaf e z c = by_word (Through leaf) no no no no no
  named-through unknown e z c = by_word (Through unknown) no no no no no

-- a record that is well named is named
named : (ns : List Naming) → well_named ns ≡ true → (x : Naming) × Memᴰ x ns
named [] e = no e
named (x ∷ ns) e = (x, Memᴰ.head refl)

header-first : {s : List ℕ} → Written s → (q : ℕ) → q < count s → kind_at s q ≡ header → q ≡ 0
header-first {s} w zero h e = refl
header-first {s} w (suc q) h e = absurd (never_both (is_header (kind_at s (suc q))) (rw e) (w.others (suc q) (omega arith) h))

pub scoped : {s : List ℕ} → Passes s → (r : ℕ) → r < count s → sort_at s r ≡ expressions → Scoped s r
scoped {s} p = from-below (λ r. r < count s → sort_at s r ≡ expressions → Scoped s r) step
  where
    step : (r : ℕ) → ((q : ℕ) → q < r → q < count s → sort_at s q ≡ expressions → Scoped s q)
        → r < count s → sort_at s r ≡ expressions → Scoped s r
    step r below h e =
        let w = written p in
        let past = past-header w r (rw e) in
        let f = named (namings s r) (well-named p r past h) in
        let x : Naming = f.0 in
        let n = in-namings-names s r x f.1 in
        let lower = namer-lower w r x past n in
        let a = both_left (names (ask_at s x.by x.at)) (eqb (word s x.by x.at) r) n.names in
        let b = both_right (names (ask_at s x.by x.at)) (eqb (word s x.by x.at) r) n.names in
        let same : word s x.by x.at ≡ r = eqb-true (word s x.by x.at) r b in
        let m = as-asked w x.by x.at (ask_at s x.by x.at) n.there n.low n.high refl in
        let asks = names-expression s x.by (word s x.by x.at) (ask_at s x.by x.at) a m (rw same past) (rw same e) in
        rw same at
        (named-through s x.by (kind_at s x.by) refl (header-first w x.by n.there)
        (λ k c. below x.by lower.0 n.there (rw c)) x.at n.low n.high
        (rw (ask-by-kind s x.by x.at (kind_at s x.by) refl) at asks))
