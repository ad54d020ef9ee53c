-- The walk by naming words visits nested records in the order of their numbers, and so those of a
-- text.
-- Assumes nothing.
use Prim.Native.Nat.{ℕ, zero, suc, ◌+◌, ◌-◌, ◌≤◌, ◌<◌}
use mathlib.Core.Path.{◌≡◌, refl, ap, ap₂, sym, ◌∙◌}
use mathlib.Core.List.{List, [], ◌∷◌, ◌++◌}
use native.Mathlib.Omega.{arith}
use lib.ListN.{length}
use Rattle.records.specs.Words.{count, next_word, word_b}
use Rattle.records.specs.SheetOf.{sheet_of}
use Rattle.records.specs.Trees.{follow}
use Rattle.grammar.specs.Source.{identifier, Declaration, Expression, text}
use Rattle.name_rules.specs.RecordsNeeded.{records_needed}
use Rattle.layout.specs.Layout.{room_of, text_records, sheet_of_text}
use Rattle.layout.proofs.Standing.{Stands, one-stands, sheet-stands}
use Rattle.layout.proofs.Kept as Translation
use Rattle.text_passes.specs.RecordWalk.{walk_order, named_by, visit_each, walk_within, record_walk, numbers_from}
use Rattle.text_passes.specs.Promises.{RecordsInOrder}
use Rattle.text_passes.proofs.Nested.{Nested, nested, AllNested, none-nested, zero-nested, part-nested, text-nested}
use Rattle.text_passes.proofs.NamedOnce.{records-counted}

numbers-append : (r m n : ℕ) → numbers_from r (m + n) ≡ numbers_from r m ++ numbers_from (r + m) n
numbers-append r zero n = let e : r + 0 ≡ r = omega arith in let f : 0 + n ≡ n = omega arith in rw (e, f)
numbers-append r (suc m) n =
    let e : r + suc m ≡ suc r + m = omega arith in
    let f : suc m + n ≡ suc (m + n) = omega arith in
    rw (e, f) (ap (λ l. r ∷ l) (numbers-append (suc r) m n))

follow-past : (go : ℕ → List ℕ) (w : ℕ) → 0 < w → follow [] go w ≡ go w
follow-past go zero h = absurd (omega arith)
follow-past go (suc w) h = refl

-- from record r the walk visits n records in order, with n steps or more
record Walks (s : List ℕ) (r n : ℕ) : Type 0 where
  visits : (fuel : ℕ) → n ≤ fuel → walk_within s fuel r ≡ numbers_from r n

-- and so it does from each of these, m records from p on
record EachWalks (s : List ℕ) (p m : ℕ) (ws : List ℕ) : Type 0 where
  visits : (fuel : ℕ) → m ≤ fuel → visit_each (walk_within s fuel) ws ≡ numbers_from p m

one-step : {s : List ℕ} {r m : ℕ} {ws : List ℕ} → named_by s r walk_order ≡ ws → EachWalks s (suc r) m ws → Walks s r (suc m)
unfolding walk_within
one-step {s} {r} {m} {ws} named x = record { visits = go }
  where
    go : (fuel : ℕ) → suc m ≤ fuel → walk_within s fuel r ≡ numbers_from r (suc m)
    go zero h = absurd (omega arith)
    go (suc f) h =
        ap (λ ks. r ∷ visit_each (walk_within s f) ks) named ∙ ap (λ l. r ∷ l) (x.visits f (omega arith))

two-walk : {s : List ℕ} {p n m : ℕ} {ws : List ℕ} → 0 < p → Walks s p n → EachWalks s (p + n) m ws → EachWalks s p (n + m) (p ∷ ws)
two-walk {s} {p} {n} {m} past x y =
    record {
      visits =
          λ fuel h. ap₂ ◌++◌ (follow-past (walk_within s fuel) p past ∙ x.visits fuel (omega (arith, h))) (y.visits fuel (omega (arith, h)))
          ∙ sym (numbers-append p n m);
    }

mutual
  nested-walks : {s : List ℕ} {r n : ℕ} → Nested s r n → Walks s r n
  nested-walks (nested {r = r} named parts) = one-step named (all-walk (let h : 0 < suc r = omega arith in h) parts)

  all-walk : {s : List ℕ} {p m : ℕ} {ws : List ℕ} → 0 < p → AllNested s p m ws → EachWalks s p m ws
  all-walk past none-nested = record { visits = λ fuel h. refl }
  all-walk past (zero-nested more) = let x = all-walk past more in record { visits = x.visits }
  all-walk {s} {p} past (part-nested {n = n} {ws = ws} here size x more) =
      rw (here, size) (two-walk past (nested-walks x) (all-walk (let h : 0 < p + n = omega (arith, past) in h) more))

walk-all : (s : List ℕ) (r n : ℕ) → Walks s r n → n ≤ count s → record_walk s r ≡ numbers_from r n
unfolding record_walk
walk-all s r n x h = x.visits (count s) h

-- the header's words
header-next : (d : Declaration) (ds : List Declaration) (w : List ℕ) (p : ℕ) (e : Expression)
    → (next_word (sheet_of_text (text d ds (identifier w p) e)) 0 ≡ 1) × (word_b (sheet_of_text (text d ds (identifier w p) e)) 0 ≡ suc (length (d ∷ ds)))
unfolding sheet_of_text
header-next d ds w p e = go (sheet-stands (text_records (text d ds (identifier w p) e)))
  where
    go : Stands (sheet_of (text_records (text d ds (identifier w p) e))) 0 (text_records (text d ds (identifier w p) e))
        → (next_word (sheet_of (text_records (text d ds (identifier w p) e))) 0 ≡ 1)
        × (word_b (sheet_of (text_records (text d ds (identifier w p) e))) 0 ≡ suc (length (d ∷ ds)))
    go (one-stands x st) = (x.next_is, x.b-is)

pub records_in_order : RecordsInOrder
records_in_order ts (text d ds (identifier w p) e) rd good =
    let t = text d ds (identifier w p) e in
    let s = sheet_of_text t in
    let m = length (d ∷ ds) in
    let n = room_of (d ∷ ds) [] e in
    let x = text-nested d ds w p e good in
    let h = header-next d ds w p e in
    let c : count s ≡ records_needed t = records-counted t ∙ (Translation.kept).as_many_records ts t rd good in
    let rest : count s - suc m ≡ n = omega (arith, c) in
    let root = h.1 in
    record {
      first-type = h.0;
      types = walk-all s 1 m (nested-walks x.types) (omega (arith, c));
      root = root;
      expression = rw (root, rest) (walk-all s (suc m) n (nested-walks x.expression) (omega (arith, c)));
    }
