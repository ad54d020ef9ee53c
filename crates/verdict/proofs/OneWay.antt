-- What is carried down from the root to an expression record, each word that names a part changing it by a rule, is one thing, in a
-- sheet that passes codes 1 to 6: one word names the record, so what it is a part of is one record, to which one thing was carried.
-- The names in scope are such a thing, and so is the way itself. By induction on the records, from the lowest up.
-- Assumes nothing.
use Prim.Native.Nat.{ℕ, ◌<◌}
use mathlib.Core.Bool.{true, ◌&&◌}
use mathlib.Core.List.{List}
use mathlib.Core.Path.{◌≡◌, refl, sym, ap, ◌∙◌}
use native.Mathlib.Omega.{arith}
use lib.Dec.{ltb}
use Rattle.records.specs.Words.{count, word, word_b}
use Rattle.records.specs.Kinds.{expressions, expression, ExpressionKind, part}
use Rattle.records.specs.Says.{kind_at, Naming}
use Rattle.records.proofs.Table.{ask_of_kind}
use Rattle.records.proofs.Asked.{part-of-kind, root_is, past-header}
use Rattle.records.proofs.Namings.{Names, namer-lower, part-names, part-word-other, only-naming}
use Rattle.structure.specs.Rules.{Passes}
use Rattle.structure.proofs.Passes.{written, well-named}
use Rattle.structure.proofs.Depths.{root_names}
use Rattle.verdict.proofs.EveryScoped.{from-below}

-- what is carried to record r: to the root what it starts with, and to the part in word j of a record of kind k what the rule makes
-- of that record's
pub data Carried {A : Type 0} (s : List ℕ) (start : A) (rule : (record-number : ℕ) → ExpressionKind → (word_number : ℕ) → A → A)
    : ℕ → A → Type 0 where
  to-root : Carried s start rule (word_b s 0) start
  to_part : {q : ℕ} {a : A} (k : ExpressionKind) (j : ℕ) → kind_at s q ≡ expression k → (ltb 0 j && ltb j 6) ≡ true
      → ask_of_kind (expression k) j ≡ part expressions → Carried s start rule q a → Carried s start rule (word s q j) (rule q k j a)

one-naming : {s : List ℕ} → Passes s → (r : ℕ) (x y : Naming) → 0 < r → x.at < 5 → y.at < 5 → Names s r x → Names s r y → x ≡ y
one-naming {s} p r x y past d e n m =
    let h = (namer-lower (written p) r x past n).1 in
    let a = only-naming s (well-named p) r x past h d n in
    let b = only-naming s (well-named p) r y past h e m in
    cc

module _ (A : Type 0) {s : List ℕ} (start : A) (rule : ℕ → ExpressionKind → ℕ → A → A) (p : Passes s) where
  carried-there : {r : ℕ} {a : A} → Carried s start rule r a → r < count s
  carried-there to-root = (root_is (written p)).1
  carried-there (to_part {q = q} k j e t a c) =
      (part-of-kind (written p) q (expression k) expressions (carried-there c) e j t a).1

  -- a part of a record to which something was carried
  record OfPart (r : ℕ) (a : A) : Type 0 where
    by : ℕ
    at : ℕ
    kind : ExpressionKind
    is : kind_at s by ≡ expression kind
    word_number : (ltb 0 at && ltb at 6) ≡ true
    asked : ask_of_kind (expression kind) at ≡ part expressions
    around : A
    carried : Carried s start rule by around
    part-is : word s by at ≡ r
    becomes : a ≡ rule by kind at around

  data Came (r : ℕ) (a : A) : Type 0 where
    as-root : word_b s 0 ≡ r → a ≡ start → Came r a
    as-part : OfPart r a → Came r a

  came : {r : ℕ} {a : A} → Carried s start rule r a → Came r a
  came to-root = as-root refl refl
  came (to_part {q = q} {a = a} k j e t h c) = as-part (record {
    by = q;
    at = j;
    kind = k;
    is = e;
    word_number = t;
    asked = h;
    around = a;
    carried = c;
    part-is = refl;
    becomes = refl;
  })

  part-naming : {r : ℕ} {a : A} → (o : OfPart r a)
      → (0 < r) × (o.at < 5) × Names s r (record { by = o.by; at = o.at })
  part-naming {r} o =
      let h = carried-there o.carried in
      let f = part-of-kind (written p) o.by (expression o.kind) expressions h o.is o.at o.word_number o.asked in
      let e = o.part-is in (
        omega arith,
        part-word-other (expression o.kind) expressions o.at o.asked o.word_number refl,
        rw o.part-is at (part-names s o.by (expression o.kind) expressions h o.is o.at o.word_number o.asked),
      )

  -- the root is no part: its naming is the header's
  root-or-part : {r : ℕ} {a : A} → word_b s 0 ≡ r → OfPart r a → ⊥
  root-or-part {r} e o =
      let n = part-naming o in
      let x : Naming = record { by = 0; at = 3 } in
      let y : Naming = record { by = o.by; at = o.at } in
      let same = one-naming p r x y n.0 (omega arith) n.1 (rw e at (root_names (written p))) n.2 in
      let zero_is : 0 ≡ o.by = ap (λ (m : Naming). m.by) same in
      let past : 0 < o.by = past-header (written p) o.by (rw o.is) in
      omega arith

  one-carried : (r : ℕ) (a b : A) → Carried s start rule r a → Carried s start rule r b → a ≡ b
  one-carried = from-below (λ r. (a b : A) → Carried s start rule r a → Carried s start rule r b → a ≡ b) step
    where
      step : (r : ℕ) → ((q : ℕ) → q < r → (a b : A) → Carried s start rule q a → Carried s start rule q b → a ≡ b)
          → (a b : A) → Carried s start rule r a → Carried s start rule r b → a ≡ b
      step r below a b c d = go (came c) (came d)
        where
          go : Came r a → Came r b → a ≡ b
          go (as-root e f) (as-root g h) = f ∙ sym h
          go (as-root e f) (as-part o) = absurd (root-or-part e o)
          go (as-part o) (as-root e f) = absurd (root-or-part e o)
          go (as-part o) (as-part u) =
              let n = part-naming o in
              let m = part-naming u in
              let x : Naming = record { by = o.by; at = o.at } in
              let y : Naming = record { by = u.by; at = u.at } in
              let same = one-naming p r x y n.0 n.1 m.1 n.2 m.2 in
              let by : o.by ≡ u.by = ap (λ (z : Naming). z.by) same in
              let at : o.at ≡ u.at = ap (λ (z : Naming). z.at) same in
              let kind : o.kind ≡ u.kind = let a = o.is in let b = u.is in cc in
              let lower = (namer-lower (written p) r x n.0 n.2).0 in
              let around : o.around ≡ u.around = below o.by lower o.around u.around o.carried (rw by u.carried) in
              let a = o.becomes in
              let b = u.becomes in
              cc

pub carried-only : {A : Type 0} {s : List ℕ} {start : A} {rule : ℕ → ExpressionKind → ℕ → A → A} → Passes s → (r : ℕ) (a b : A)
    → Carried s start rule r a → Carried s start rule r b → a ≡ b
carried-only {A} {s} {start} {rule} p = one-carried A start rule p
