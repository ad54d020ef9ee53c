-- The records of a text decode to its expression with distances, whether the sheet is accepted or not. By induction on the reading: each
-- production has its record, and the records of its parts stand where the record says.
-- Assumes nothing.
use Prim.Native.Nat.{ℕ, zero, suc, ◌+◌, ◌≤◌, min}
use mathlib.Core.Path.{◌≡◌, refl, ap, ap₂, sym, ◌∙◌}
use mathlib.Core.Bool.{Bool, true, false, cond, ◌&&◌}
use mathlib.Core.List.{List, [], ◌∷◌, ◌++◌, map}
use mathlib.Core.Option.{Option, some}
use native.Mathlib.Omega.{arith}
use lib.ListN.{length, replicate, length-append, length-replicate}
use Rattle.picoella.specs.Language.{leaves, Expr}
use Rattle.picoella.specs.Language as Language
use Rattle.records.specs.Words.{count, word_a}
use Rattle.records.specs.Kinds.{row_of, kind_of}
use Rattle.records.specs.SheetOf.{Record, words, sheet_of}
use Rattle.records.specs.Trees.{
  type_at,
  Alternatives,
  end,
  Tree,
  follow,
  chain_within,
  chain,
  alternatives_within,
  alternatives,
  tree_within,
  tree_at,
  circuit,
}
use Rattle.records.specs.Decoding.{
  leaf_values,
  or_else,
  pattern_of,
  expression_of,
  all_patterns,
  is_all_there,
  when_there,
  decode,
}
use Rattle.grammar.specs.Tokens.{Token}
use Rattle.grammar.specs.Source.{Identifier, identifier, Declaration, SourceConstant, OfConstructor, Undefined, ConstantPair}
use Rattle.grammar.specs.Source.{SourcePattern, Alone, PatternPair, Either, Text, text}
use Rattle.grammar.specs.Source.{
  Expression,
  NameUse,
  UndefinedOf,
  PairExpression,
  FirstOf,
  SecondOf,
  LetExpression,
  LetRecExpression,
  IfExpression,
  DelayExpression,
}
use Rattle.grammar.specs.Grammar.{ReadsPattern, reads_alone, reads_parts, reads_alone_or, reads_parts_or}
use Rattle.name_rules.specs.Declared.{is_among, is_declared, at_first, type_role, constructor_role}
use Rattle.name_rules.specs.Checks.{AllPass}
use Rattle.name_rules.specs.Names.{after_all, pattern_checks}
use Rattle.name_rules.specs.RecordsNeeded.{pattern_records}
use Rattle.layout.specs.Resolved.{type_meant, type_entries, type_number, constructor_meant, constructor_entries, distance}
use Rattle.layout.specs.Distances.{pattern_meant}
use Rattle.layout.specs.Layout.{leaves_laid, pattern_laid}
use Rattle.layout.proofs.Standing.{RecordIs, Stands, none-stand, one-stands, stands-append}
use Rattle.layout.proofs.ConstructorTables.{pass-both, passes, pass-rest, type-or-constructor}
use Rattle.layout.proofs.Tables.{TablesMeant}
use Rattle.layout.proofs.Sizes.{leaves-length, pattern-length}

-- a chain of one or more leaves
pub chain-read : {s : List ℕ} (fuel r : ℕ) (vs : List ℕ) → 1 ≤ length vs → length vs ≤ fuel → Stands s r (leaves_laid r vs)
    → leaf_values s (chain_within s fuel r) ≡ vs
unfolding chain_within
chain-read fuel r [] enough h st = let no : ⊥ = omega arith in elim no [ ]
chain-read zero r (v ∷ vs) enough h st = let no : ⊥ = omega arith in elim no [ ]
chain-read (suc f) r (v ∷ []) enough h (one-stands x st) = rw (x.next_is, x.a-is)
chain-read (suc f) r (v ∷ w ∷ vs) enough h (one-stands x st) =
    rw (x.next_is, x.a-is) (ap (λ l. v ∷ l) (chain-read f (suc r) (w ∷ vs) (omega arith) (omega arith) st))

-- alternatives that say a pattern
pub record SaysPattern (s : List ℕ) (a : Alternatives) (p : Language.Pattern) : Type 0 where
  pub all : all_patterns a ≡ true
  pub reads : pattern_of s a ≡ p
  pub proper : (q x : Language.Pattern) → or_else q a x ≡ Language.Bar q x

pub pattern-some : {a b : List Token} {m : SourcePattern} → ReadsPattern a m b → 1 ≤ pattern_records m
pattern-some reads_alone = omega arith
pattern-some (reads_parts x y) = omega arith
pattern-some (reads_alone_or x) = omega arith
pattern-some (reads_parts_or x y z) = omega arith

-- what follows an alternative whose next is this makes `then` of its pattern
pub record AlternativesFollowed (s : List ℕ) (f next : ℕ) (then : Language.Pattern → Language.Pattern) : Type 0 where
  pub all : all_patterns (follow end (alternatives_within s f) next) ≡ true
  pub reads : (p : Language.Pattern)
      → or_else p (follow end (alternatives_within s f) next) (pattern_of s (follow end (alternatives_within s f) next)) ≡ then p

none-follow : {s : List ℕ} {f : ℕ} → AlternativesFollowed s f 0 (λ p. p)
none-follow = record { all = refl; reads = λ p. refl }

some-follow : {s : List ℕ} {f next r : ℕ} {q : Language.Pattern} → next ≡ suc r → SaysPattern s (alternatives_within s f (suc r)) q
    → AlternativesFollowed s f next (λ p. Language.Bar p q)
some-follow e x = rw e (record { all = x.all; reads = λ p. x.proper p _ ∙ ap (Language.Bar p) x.reads })

module _ {s : List ℕ} {ds : List Declaration} (T : TablesMeant s ds) where
  -- an alternative that is a name
  alone : {then : Language.Pattern → Language.Pattern} (f r next p : ℕ) (w : List ℕ)
      → Stands s r (pattern_laid ds next r (Alone (identifier w p)))
      → AllPass (pattern_checks (after_all at_first ds) (Alone (identifier w p))) → AlternativesFollowed s f next then
      → SaysPattern s (alternatives_within s (suc f) r) (then (pattern_meant ds (Alone (identifier w p))))
  unfolding alternatives_within kind_of row_of
  alone {then} f r next p w st h after =
      go (is_declared type_role w (after_all at_first ds)) st (T.types w)
      (λ n. T.counts w (type-or-constructor w (after_all at_first ds) (passes h) n)) refl
    where
      t : ℕ
      t = type_number (type_entries ds) w

      c : ℕ
      c = (constructor_meant (constructor_entries ds) w).type

      k : ℕ
      k = (constructor_meant (constructor_entries ds) w).number

      n : ℕ
      n = (constructor_meant (constructor_entries ds) w).constructors

      go : (b : Bool) → Stands s r (cond b (words 48 next t 0 0 0 ∷ []) (words 49 next c k 0 0 ∷ []))
          → type_at s t ≡ type_meant (type_entries ds) w → (is_declared type_role w (after_all at_first ds) ≡ false → word_a s c ≡ n)
          → is_declared type_role w (after_all at_first ds) ≡ b
          → SaysPattern s (alternatives_within s (suc f) r)
          (then (cond b (Language.Whole (type_meant (type_entries ds) w)) (Language.Constructor c n k)))
      go true (one-stands x st) e g d =
          record {
            all = rw (x.kind-is, x.next_is) after.all;
            reads = rw (x.kind-is, x.next_is, x.a-is, e) (after.reads _);
            proper = λ q y. rw x.kind-is;
          }
      go false (one-stands x st) e g d =
          record {
            all = rw (x.kind-is, x.next_is) after.all;
            reads = rw (x.kind-is, x.next_is, x.a-is, x.b-is, g d) (after.reads _);
            proper = λ q y. rw x.kind-is;
          }

  -- one that is a pair, from its parts
  parts : {then : Language.Pattern → Language.Pattern} {p q : Language.Pattern} (f r next a b : ℕ) → RecordIs s r 50 next a b 0 0
      → SaysPattern s (alternatives_within s f a) p → SaysPattern s (alternatives_within s f b) q → AlternativesFollowed s f next then
      → SaysPattern s (alternatives_within s (suc f) r) (then (Language.Parts p q))
  unfolding alternatives_within kind_of row_of
  parts f r next a b x y z after =
      record {
        all = rw (x.kind-is, x.next_is, x.a-is, x.b-is, y.all, z.all) after.all;
        reads = rw (x.kind-is, x.next_is, x.a-is, x.b-is, y.reads, z.reads) (after.reads _);
        proper = λ q y. rw x.kind-is;
      }

  paired : {then : Language.Pattern → Language.Pattern} (f r next : ℕ) (m n : SourcePattern)
      → Stands s r (pattern_laid ds next r (PatternPair m n)) → AllPass (pattern_checks (after_all at_first ds) (PatternPair m n))
      → AlternativesFollowed s f next then
      → (Stands s (suc r) (pattern_laid ds 0 (suc r) m) → AllPass (pattern_checks (after_all at_first ds) m)
      → SaysPattern s (alternatives_within s f (suc r)) (pattern_meant ds m))
      → (Stands s (suc r + pattern_records m) (pattern_laid ds 0 (suc r + pattern_records m) n)
      → AllPass (pattern_checks (after_all at_first ds) n)
      → SaysPattern s (alternatives_within s f (suc r + pattern_records m)) (pattern_meant ds n))
      → SaysPattern s (alternatives_within s (suc f) r) (then (pattern_meant ds (PatternPair m n)))
  paired f r next m n (one-stands x st) good after y z =
      let parted = stands-append (suc r) (pattern_laid ds 0 (suc r) m) (pattern_laid ds 0 (suc r + pattern_records m) n) st in
      let checked = pass-both (pattern_checks (after_all at_first ds) m) (pattern_checks (after_all at_first ds) n) good in
      let l = pattern-length ds 0 (suc r) m in
      let second : Stands s (suc r + pattern_records m) (pattern_laid ds 0 (suc r + pattern_records m) n) = rw l at parted.1 in
      parts f r next (suc r) (suc r + pattern_records m) x (y parted.0 checked.0) (z second checked.1) after

  pub pattern-read : {a b : List Token} {m : SourcePattern} → ReadsPattern a m b → (fuel r : ℕ) → pattern_records m ≤ fuel
      → Stands s r (pattern_laid ds 0 r m) → AllPass (pattern_checks (after_all at_first ds) m)
      → SaysPattern s (alternatives_within s fuel r) (pattern_meant ds m)
  pattern-read rd zero r h st good = let enough = pattern-some rd in let no : ⊥ = omega arith in elim no [ ]
  pattern-read (reads_alone {p} {w}) (suc f) r h st good = alone f r 0 p w st good none-follow
  pattern-read (reads_alone_or {p} {q} {w} {o = o} rd) (suc f) r h st good =
      let parted = stands-append r (pattern_laid ds (r + 1) r (Alone (identifier w p))) (pattern_laid ds 0 (r + 1) o) st in
      let checked = pass-both (pattern_checks (after_all at_first ds) (Alone (identifier w p))) (pattern_checks (after_all at_first ds) o) good in
      let e : r + 1 ≡ suc r = omega arith in
      let l = pattern-length ds (r + 1) r (Alone (identifier w p)) in
      let rest : Stands s (suc r) (pattern_laid ds 0 (suc r) o) = rw (l, e) at parted.1 in
      alone f r (r + 1) p w parted.0 checked.0 (some-follow e (pattern-read rd f (suc r) (omega arith) rest checked.1))
  pattern-read (reads_parts {m = m} {n = n} rd re) (suc f) r h st good =
      paired f r 0 m n st good none-follow (pattern-read rd f (suc r) (omega arith))
      (pattern-read re f (suc r + pattern_records m) (omega arith))
  pattern-read (reads_parts_or {m = m} {n = n} {o = o} rd re rf) (suc f) r h st good =
      let two = PatternPair m n in
      let after = suc (r + (pattern_records m + pattern_records n)) in
      let parted = stands-append r (pattern_laid ds (r + pattern_records two) r two) (pattern_laid ds 0 (r + pattern_records two) o) st in
      let l = pattern-length ds (r + pattern_records two) r two in
      let e : r + pattern_records two ≡ after = omega arith in
      let rest : Stands s after (pattern_laid ds 0 after o) = rw (l, e) at parted.1 in
      let checked = pass-both (pattern_checks (after_all at_first ds) two) (pattern_checks (after_all at_first ds) o) good in
      paired f r (r + pattern_records two) m n parted.0 checked.0
      (some-follow e (pattern-read rf f after (omega arith) rest checked.1))
      (pattern-read rd f (suc r) (omega arith)) (pattern-read re f (suc r + pattern_records m) (omega arith))
