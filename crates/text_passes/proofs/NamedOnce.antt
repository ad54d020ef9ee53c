-- Each record of a text's sheet but the header is named by one word, and the sheet's length fits:
-- codes 1 and 4 never come.
-- Assumes nothing.
use Prim.Native.Nat.{ℕ, suc, ◌+◌, ◌*◌, ◌%◌, ◌≤◌, ◌<◌}
use mathlib.Core.Path.{◌≡◌, refl, ap, sym, ◌∙◌}
use mathlib.Core.Bool.{false}
use mathlib.Core.List.{List, [], ◌∷◌}
use native.Mathlib.Omega.{arith}
use borrow.Author.Tests.{le-ltb, eq-eqb}
use lib.ListN.{length}
use Rattle.records.specs.Words.{count}
use Rattle.records.specs.SheetOf.{Record, words, sheet_of}
use Rattle.records.specs.Says.{namings, namings_below}
use Rattle.structure.specs.Rules.{wrong_length}
use Rattle.grammar.specs.Tokens.{Token}
use Rattle.grammar.specs.Source.{identifier, Text, text}
use Rattle.name_rules.specs.RecordsNeeded.{records_needed}
use Rattle.layout.specs.Layout.{text_records, sheet_of_text}
use Rattle.layout.proofs.Standing.{sheet-count}
use Rattle.layout.proofs.Kept as Translation
use Rattle.text_passes.specs.Promises.{FittingText, EachNamedOnce}
use Rattle.text_passes.proofs.Nested.{TextNested, text-nested}
use Rattle.text_passes.proofs.Counting.{
  times_in,
  times_from,
  times_below,
  times-append,
  one_below,
  below_step,
  below_all,
  below-past,
  times_among,
  by-named,
  nested-counted,
}

pub records-counted : (t : Text) → count (sheet_of_text t) ≡ length (text_records t)
unfolding sheet_of_text
records-counted t = sheet-count (text_records t)

text-counted : {s : List ℕ} {m n : ℕ} → TextNested s m n → (x : ℕ) → 0 < x → x < 1 + m + n → times_from s x 0 (1 + m + n) ≡ 1
text-counted {s} {m} {n} h x past within =
    let root = suc m in
    let a = nested-counted x past h.types in
    let b = nested-counted x past h.expression in
    let c : times_in s x 0 ≡ times_among x (root ∷ 1 ∷ []) = by-named s x 0 ∙ ap (times_among x) h.header in
    let one = below_step 1 x in
    let two = below_step root x in
    let none = below-past 1 x past in
    let all = below_all (root + n) x (omega (arith, within)) in
    let t = times-append s x 0 (1 + m) n in
    let u = times-append s x 0 1 m in
    let after : 1 + m ≡ root = omega arith in
    let f : 0 + (1 + m) ≡ root = omega arith in
    let y = ap (λ q. times_from s x q n) f in
    let v = ap (λ q. one_below q x) after in
    let z : times_from s x 0 1 ≡ times_in s x 0 = omega arith in
    omega (arith, a, b, c, one, two, none, all, t, u, v, y, z)

pub named_once : EachNamedOnce
unfolding namings
named_once ts (text d ds (identifier w p) e) rd good x past within =
    let t = text d ds (identifier w p) e in
    let s = sheet_of_text t in
    let c : count s ≡ records_needed t = records-counted t ∙ (Translation.kept).as_many_records ts t rd good in
    let n = text-counted (text-nested d ds w p e good) x past (rw c at within) in
    let f : 0 + records_needed t ≡ records_needed t = omega arith in
    let g = times_below s x 0 (records_needed t) in
    let h : length (namings_below s x (count s)) ≡ length (namings_below s x (0 + records_needed t)) = ap (λ q. length (namings_below s x q)) (c ∙ sym f) in
    h ∙ g ∙ omega (arith, n)

pub sheet_long : (rs : List Record) → length (sheet_of rs) ≡ 12 * length rs
sheet_long [] = refl
sheet_long (words kind next a b c d ∷ rs) = let e = sheet_long rs in omega arith

fits : (s : List ℕ) (n : ℕ) → length s ≡ 12 * n → 1 ≤ n → n ≤ 4096 → wrong_length s ≡ false
unfolding wrong_length
fits s n e low high =
    rw (
      le-ltb (length s) 12 (omega (arith, e, low)),
      le-ltb 49152 (length s) (omega (arith, e, high)),
      eq-eqb (length s % 12) 0 (omega (arith, e)),
    )

pub length-passes : (ts : List Token) (t : Text) → FittingText ts t → wrong_length (sheet_of_text t) ≡ false
unfolding sheet_of_text
length-passes ts (text d ds n e) fitting =
    let t = text d ds n e in
    let c = (Translation.kept).as_many_records ts t fitting.read fitting.good in
    let few = fitting.few in
    let some : 1 ≤ length (text_records t) = omega arith in
    let high : length (text_records t) ≤ 4096 = omega (arith, c, few) in
    fits (sheet_of (text_records t)) (length (text_records t)) (sheet_long (text_records t)) some high
