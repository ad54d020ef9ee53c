-- Every expression record of a sheet is an expression of the circuit, with names in scope: it is named, by a lower record, with a
-- word that names an expression; that is the header's word b, and then it is the root, or a part of an expression record, which
-- is one of the circuit. By induction on the records, from the lowest up.
-- Assumes nothing.
use Prim.Native.Nat.{ℕ, zero, suc, ◌<◌}
use mathlib.Core.Bool.{Bool, true, false}
use mathlib.Core.List.{List, [], ◌∷◌, Memᴰ}
use mathlib.Core.Path.{◌≡◌, refl, sym, ◌∙◌}
use native.Mathlib.Omega.{arith}
use lib.Dec.{eqb}
use borrow.Author.Tests.{eqb-true}
use Rattle.records.specs.Words.{word, count}
use Rattle.records.specs.Kinds.{
  Kind,
  header,
  type_of,
  expression,
  pattern,
  leaf,
  unknown,
  flat,
  pair,
  constant,
  name,
  tuple,
  first,
  second,
  let_in,
  feedback,
  if_matches,
  delay,
  whole,
  constructor,
  parts,
  ExpressionKind,
  expressions,
  is_header,
  same_sort,
  sort_of,
  Ask,
  zeroed,
  next_of,
  part,
  any_type,
  lower_type,
  lower_flat,
  constructor_of,
  counted,
  byte,
  free,
  total,
  never,
}
use Rattle.records.specs.Says.{kind_at, sort_at, ask_at, Naming, names, namings, well_named}
use Rattle.records.specs.Written.{Written, WellNamed}
use Rattle.records.proofs.Tests.{never_both, both_left, both_right}
use Rattle.records.proofs.Table.{ask_of_kind, ask-by-kind}
use Rattle.records.proofs.Asked.{AskMeans, as-asked}
use Rattle.records.proofs.Namings.{in-namings-names, namer-lower}
use Rattle.verdict.specs.Scopes.{
  Scope,
  root,
  tuple_first,
  tuple_second,
  of-first,
  of-second,
  let_defining,
  let_body,
  feedback_defining,
  feedback_body,
  if_tested,
  if_then,
  if_else,
  of-delay,
}

-- record q is an expression of the circuit
abbrev pub HasScope : List ℕ → ℕ → Type 0
HasScope s q = (Γ : List ℕ) × Scope s q Γ

-- a word that asks this names an expression
abbrev names_expression : Ask → Bool
names_expression zeroed = false
names_expression (next_of σ) = same_sort σ expressions
names_expression (part σ) = same_sort σ expressions
names_expression any_type = false
names_expression lower_type = false
names_expression lower_flat = false
names_expression constructor_of = false
names_expression counted = false
names_expression byte = false
names_expression free = false
names_expression total = false
names_expression never = false

by_word : (P : ℕ → Type 0) → P 1 → P 2 → P 3 → P 4 → P 5 → (j : ℕ) → 0 < j → j < 6 → P j
by_word P a b c d e zero low high = absurd (omega arith)
by_word P a b c d e (suc zero) low high = a
by_word P a b c d e (suc (suc zero)) low high = b
by_word P a b c d e (suc (suc (suc zero))) low high = c
by_word P a b c d e (suc (suc (suc (suc zero)))) low high = d
by_word P a b c d e (suc (suc (suc (suc (suc zero))))) low high = e
by_word P a b c d e (suc (suc (suc (suc (suc (suc j)))))) low high = absurd (omega arith)

module _ (s : List ℕ) (q : ℕ) where
  -- what a word of a record of this kind leads to
  abbrev Leads : Kind → ℕ → Type 0
  Leads k j = names_expression (ask_of_kind k j) ≡ true → HasScope s (word s q j)

  abbrev not_named : {A : Type 0} → false ≡ true → A
  not_named e = absurd (never_both false e refl)

  -- an expression's parts
  of-expression : (k : ExpressionKind) → kind_at s q ≡ expression k → HasScope s q → (j : ℕ) → 0 < j → j < 6 → Leads (expression k) j
  unfolding ask_of_kind
  of-expression constant e (Γ, c) = by_word (Leads (expression constant)) not_named not_named not_named not_named not_named
  of-expression name e (Γ, c) = by_word (Leads (expression name)) not_named not_named not_named not_named not_named
  of-expression tuple e (Γ, c) =
      by_word (Leads (expression tuple)) not_named (λ h. (Γ, tuple_first e c)) (λ h. (Γ, tuple_second e c)) not_named not_named
  of-expression first e (Γ, c) =
      by_word (Leads (expression first)) not_named (λ h. (Γ, of-first e c)) not_named not_named not_named
  of-expression second e (Γ, c) =
      by_word (Leads (expression second)) not_named (λ h. (Γ, of-second e c)) not_named not_named not_named
  of-expression let_in e (Γ, c) =
      by_word (Leads (expression let_in)) not_named (λ h. (Γ, let_defining e c)) (λ h. (_, let_body e c)) not_named not_named
  of-expression feedback e (Γ, c) =
      by_word (Leads (expression feedback)) not_named not_named (λ h. (_, feedback_defining e c)) (λ h. (_, feedback_body e c)) not_named
  of-expression if_matches e (Γ, c) =
      by_word (Leads (expression if_matches)) not_named (λ h. (Γ, if_tested e c)) (λ h. (Γ, if_then e c)) (λ h. (Γ, if_else e c)) not_named
  of-expression delay e (Γ, c) =
      by_word (Leads (expression delay)) not_named not_named not_named (λ h. (Γ, of-delay e c)) not_named

  -- and no others but the root
  of-kind : (k : Kind) → kind_at s q ≡ k → (k ≡ header → q ≡ 0) → ((k' : ExpressionKind) → k ≡ expression k' → HasScope s q)
      → (j : ℕ) → 0 < j → j < 6 → Leads k j
  unfolding ask_of_kind
  of-kind header e first-record scoped =
      by_word (Leads header) not_named not_named (λ h. rw (first-record refl) (_, root)) not_named not_named
  of-kind (type_of flat) e first-record scoped = by_word (Leads (type_of flat)) not_named not_named not_named not_named not_named
  of-kind (type_of pair) e first-record scoped = by_word (Leads (type_of pair)) not_named not_named not_named not_named not_named
  of-kind (expression k) e first-record scoped = of-expression k e (scoped k refl)
  of-kind (pattern whole) e first-record scoped = by_word (Leads (pattern whole)) not_named not_named not_named not_named not_named
  of-kind (pattern constructor) e first-record scoped =
      by_word (Leads (pattern constructor)) not_named not_named not_named not_named not_named
  of-kind (pattern parts) e first-record scoped = by_word (Leads (pattern parts)) not_named not_named not_named not_named not_named
  of-kind leaf e first-record scoped = by_word (Leads leaf) not_named not_named not_named not_named not_named
  of-kind unknown e first-record scoped = by_word (Leads unknown) not_named not_named not_named not_named not_named

-- a word that names an expression asks for one
asks-expression : (s : List ℕ) (r : ℕ) (a : Ask) (w : ℕ) → names a ≡ true → AskMeans s r a w → 0 < w → sort_at s w ≡ expressions
    → names_expression a ≡ true
asks-expression s r (next_of σ) w n m h e = rw (sym (m h).2 ∙ e)
asks-expression s r (part σ) w n m h e = rw (sym m.2 ∙ e)
asks-expression s r zeroed w n m h e = n
asks-expression s r any_type w n m h e = n
asks-expression s r lower_type w n m h e = n
asks-expression s r lower_flat w n m h e = n
asks-expression s r constructor_of w n m h e = n
asks-expression s r counted w n m h e = n
asks-expression s r byte w n m h e = n
asks-expression s r free w n m h e = n
asks-expression s r total w n m h e = n
asks-expression s r never w n m h e = n

a-naming : (ns : List Naming) → well_named ns ≡ true → (x : Naming) × Memᴰ x ns
a-naming [] e = absurd (never_both false e refl)
a-naming (x ∷ ns) e = (x, Memᴰ.head refl)

pub every-expression : {s : List ℕ} → Written s → WellNamed s → (q : ℕ) → 0 < q → q < count s → sort_at s q ≡ expressions → HasScope s q
every-expression {s} w well q low high e = go (suc q) q (omega arith) low high e
  where
    header-first : (r : ℕ) → r < count s → kind_at s r ≡ header → r ≡ 0
    header-first zero h e = refl
    header-first (suc r) h e = absurd (never_both (is_header (kind_at s (suc r))) (rw e) (w.others (suc r) (omega arith) h))

    past : (k : ExpressionKind) (r : ℕ) → kind_at s r ≡ expression k → 0 < r
    past k zero z = let g = w.headed in let y : ◌≡◌ {A = ℕ} 0 1 = cc in omega arith
    past k (suc r) z = omega arith

    go : (n q : ℕ) → q < n → 0 < q → q < count s → sort_at s q ≡ expressions → HasScope s q
    go zero q h low high e = absurd (omega arith)
    go (suc n) q h low high e =
        let f = a-naming (namings s q) (well q low high) in
        let x = f.0 in
        let m = in-namings-names s q x f.1 in
        let below = namer-lower w q x low m in
        let a = both_left (names (ask_at s x.by x.at)) (eqb (word s x.by x.at) q) m.names in
        let same : word s x.by x.at ≡ q =
        eqb-true (word s x.by x.at) q (both_right (names (ask_at s x.by x.at)) (eqb (word s x.by x.at) q) m.names) in
        let asked = as-asked w x.by x.at (ask_at s x.by x.at) m.there m.low m.high refl in
        let named : names_expression (ask_at s x.by x.at) ≡ true =
        asks-expression s x.by (ask_at s x.by x.at) (word s x.by x.at) a asked (rw same low) (rw same e) in
        rw same at
        (of-kind s x.by (kind_at s x.by) refl (header-first x.by m.there)
        (λ k z. go n x.by (omega arith) (past k x.by z) m.there (rw z))
        x.at m.low m.high (rw (ask-by-kind s x.by x.at (kind_at s x.by) refl) at named))
