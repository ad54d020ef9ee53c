-- The stages of the check, one after the other: where a stage finds no fault the next begins, and
-- the first that finds one gives the verdict. Assumes nothing.
use mathlib.Core.Path.{◌≡◌, sym, ◌∙◌, ap, subst}
use mathlib.Core.Bool.{Bool, true, false, not, ◌||◌}
use mathlib.Core.List.{List, [], ◌∷◌}
use mathlib.Core.Option.{none, some}
use Prim.Native.Nat.{ℕ, ◌/◌, ◌%◌, ◌≤◌, ◌<◌}
use native.Mathlib.Omega.{arith}
use borrow.Author.Tests.{ltb-false, eqb-true, le-ltb, eq-eqb, not-false}
use lib.Dec.{eqb, ltb}
use lib.ListN.{length}
use Rattle.records.specs.Words.{count, word}
use Rattle.records.specs.Trees.{tree_at, circuit}
use Rattle.records.specs.Written.{Written}
use Rattle.records.proofs.Tests.{neither_left, neither_right}
use Rattle.records.proofs.Asked.{root_is}
use Rattle.records.proofs.TypeRecords.{input-type}
use Rattle.answers.specs.Answers.{lowest, code, verdict_answer}
use Rattle.answers.specs.Searches.{found}
use Rattle.answers.proofs.Lowest.{lowest-some-passes}
use Rattle.records.specs.Sized.{Sized}
use Rattle.structure.specs.Rules.{Passes, wrong_length, wrong_header, wrong_record, wrong_naming, wrong_type, too_deep}
use Rattle.structure.specs.LeafTable.{LeavesCounted}
use Rattle.std.specs.Prelude.{Option, Some, None}
use Rattle.structure.proofs.Passes.{written, written-by, well-named}
use Rattle.structure.proofs.Depths.{depth-of-root}
use Rattle.typing.specs.Judging.{Ground, Judging, Judged, Context}
use Rattle.verdict.specs.Stages.{CheckingRecords, CheckingNamings, CheckingTypes, CheckingDepths, RulesChecked, StagesChecked}
use Rattle.verdict.specs.Verdict.{verdict, by_types, by_records}
use Rattle.verdict.specs.Scopes.{inputs}
use Rattle.typing.specs.Outcomes.{Outcome, Sound, Fault}
use Rattle.answers.specs.Answers.{Verdict}
use Rattle.answers.specs.Answers.{Accepted, WrongHeader, WrongRecord, WrongNaming, WrongType, TooDeep, IllTyped}
use Rattle.typing.proofs.Bounds.{counts-leaves}
use Rattle.typing.proofs.Outcomes.{passed, faulted}

-- the type rules
module _ {s : List ℕ} {n : ℕ} {widths : List ℕ} (g : Ground s n widths) (Γ : List ℕ) {x y : ℕ} (ex : x ≡ word s 0 2)
    (ey : y ≡ word s 0 3) (scope : Γ ≡ x ∷ []) where
  pub root-ready : length widths ≡ 4096 → Judging s n Γ y widths
  root-ready long =
      let w = written g.passes in
      let r = root_is w in
      let c = g.sized.counted in
      let d = depth-of-root w (well-named g.passes) in
      record {
        ground = g;
        long = long;
        there = omega (arith, r.1, ey);
        sort = rw ey r.2;
        deep = rw (scope, ey) (omega arith);
        context = subst (λ (Γ : List ℕ). Context s Γ) (sym scope) (rw ex (input-type w), tt);
      }

  -- judging the root is judging the circuit
  the-circuit : (answer : Outcome) (before after : List ℕ) → Judged s Γ (tree_at s y) answer before after
      → Judged s (inputs s) (circuit s) answer before after
  unfolding circuit
  the-circuit answer before after d = rw (scope, ex, ey) at d

  pub rules-accept : (answer : Outcome) (t : ℕ) (before after : List ℕ) → Judged s Γ (tree_at s y) answer before after
      → answer ≡ Sound t → RulesChecked s (by_types s) (Accepted t) before after
  unfolding by_types
  rules-accept answer t before after d e =
      let p = passed t (the-circuit answer before after d) e in
      record { answered = rw (p.none-fails, p.typed); long = p.counted.long; notes = λ u q. p.notes }

  pub rules-refuse : (answer : Outcome) (r : ℕ) (before after : List ℕ) → Judged s Γ (tree_at s y) answer before after
      → answer ≡ Fault r → RulesChecked s (by_types s) (IllTyped r) before after
  unfolding by_types
  rules-refuse answer r before after d e =
      let c = the-circuit answer before after d in
      let f = faulted r c e in
      record {
        answered = rw f;
        long = c.counted.long;
        notes = λ u q. let z : ◌≡◌ {A = ℕ} 0 1 = cc in absurd (omega arith);
      }

-- what a search over n records found is what one over all records finds
module _ (s : List ℕ) {n : ℕ} (p : ℕ → Bool) {o : Option ℕ} (c : n ≡ count s) (e : found o ≡ lowest p n) where
  found_none : o ≡ None → lowest p (count s) ≡ none
  found_none q = rw (← c) (sym e ∙ ap found q)

  found_at : {r : ℕ} → o ≡ Some r → lowest p (count s) ≡ some r
  found_at q = rw (← c) (sym e ∙ ap found q)

-- a stage that finds nothing: the next may begin
module _ {s : List ℕ} {n : ℕ} where
  pub length-passed : n ≡ length s / 12 → wrong_length s ≡ false → CheckingRecords s n
  unfolding wrong_length count
  length-passed e w =
      let rest = neither_right (ltb (length s) 12) (ltb 49152 (length s) || not (eqb (length s % 12) 0)) w in
      let low : 12 ≤ length s = ltb-false (length s) 12 (neither_left (ltb (length s) 12) (ltb 49152 (length s) || not (eqb (length s % 12) 0)) w) in
      let high : length s ≤ 49152 = ltb-false 49152 (length s) (neither_left (ltb 49152 (length s)) (not (eqb (length s % 12) 0)) rest) in
      let even : length s % 12 ≡ 0 =
      eqb-true (length s % 12) 0
      (not-false (eqb (length s % 12) 0) (neither_right (ltb 49152 (length s)) (not (eqb (length s % 12) 0)) rest)) in
      record {
        sized = record { counted = e; whole = omega arith; some = omega arith; few = omega arith };
        length = w;
      }

  -- a sheet has a length that is no code's
  pub checking : Sized s n → CheckingRecords s n
  unfolding wrong_length
  checking z =
      let w = z.whole in
      let a = z.some in
      let b = z.few in
      record {
        sized = z;
        length = rw (le-ltb (length s) 12 (omega arith), le-ltb 49152 (length s) (omega arith), eq-eqb (length s % 12) 0 (omega arith));
      }

  -- what a search finds is a record's number, and small
  pub record-fits : Sized s n → (p : ℕ → Bool) (o : Option ℕ) → found o ≡ lowest p n → {r : ℕ} → o ≡ Some r → r < 4294967296
  record-fits z p o e {r} q =
      let f = lowest-some-passes p n r (sym e ∙ ap found q) in
      let b = z.few in
      omega (arith, f.0)

  pub records-passed : CheckingRecords s n → wrong_header s ≡ false → (o : Option ℕ) → found o ≡ lowest (wrong_record s) n → o ≡ None
      → CheckingNamings s n
  records-passed m h o e q = record {
    measured = m;
    header = h;
    records = found_none s (wrong_record s) m.sized.counted e q;
  }

  pub names-passed : CheckingNamings s n → (o : Option ℕ) → found o ≡ lowest (wrong_naming s) n → o ≡ None → CheckingTypes s n
  names-passed r o e q = record {
    recorded = r;
    namings = found_none s (wrong_naming s) r.measured.sized.counted e q;
  }

  pub types-passed : CheckingTypes s n → (o : Option ℕ) → found o ≡ lowest (wrong_type s) n → o ≡ None → CheckingDepths s n
  types-passed t o e q = record {
    named = t;
    types = found_none s (wrong_type s) t.recorded.measured.sized.counted e q;
  }

  pub recorded-written : CheckingNamings s n → Written s
  recorded-written r = written-by r.measured.length r.header r.records

  pub depths-passed : CheckingDepths s n → (o : Option ℕ) → found o ≡ lowest (too_deep s) n → o ≡ None → (table : List ℕ)
      → LeavesCounted s n table → Ground s n table
  depths-passed f o e q table c =
      let r = f.named.recorded in
      let z = r.measured.sized in
      let p : Passes s =
      record {
        length = r.measured.length;
        header = r.header;
        records = r.records;
        namings = f.named.namings;
        types = f.types;
        depths = found_none s (too_deep s) z.counted e q;
      } in
      record { sized = z; passes = p; leaves = counts-leaves s n table z.counted p c }

-- a stage that finds a fault, where none before it did: the verdict is its own
module _ {s : List ℕ} {n : ℕ} where
  refused : (answer : Verdict) (after : List ℕ) → 0 < code (verdict_answer answer) → answer ≡ verdict s → StagesChecked s n answer after
  refused answer after h e = record {
    answered = e;
    notes = λ t q. let z : code (verdict_answer answer) ≡ 0 = ap (λ (w : Verdict). code (verdict_answer w)) q in absurd (omega arith);
  }

  pub header_refused : (after : List ℕ) → wrong_length s ≡ false → wrong_header s ≡ true → StagesChecked s n WrongHeader after
  unfolding verdict
  header_refused after l e = refused WrongHeader after (omega arith) (rw (l, e))

  module _ (o : Option ℕ) (r : ℕ) (q : o ≡ Some r) (after : List ℕ) where
    pub record-refused : (m : CheckingRecords s n) → wrong_header s ≡ false → found o ≡ lowest (wrong_record s) n → StagesChecked s n (WrongRecord r) after
    unfolding verdict by_records
    record-refused m h e =
        refused (WrongRecord r) after (omega arith) (rw (m.length, h, found_at s (wrong_record s) m.sized.counted e q))

    pub naming-refused : (m : CheckingNamings s n) → found o ≡ lowest (wrong_naming s) n → StagesChecked s n (WrongNaming r) after
    unfolding verdict by_records
    naming-refused m e =
        refused (WrongNaming r) after (omega arith)
        (rw (m.measured.length, m.header, m.records, found_at s (wrong_naming s) m.measured.sized.counted e q))

    pub type-refused : (m : CheckingTypes s n) → found o ≡ lowest (wrong_type s) n → StagesChecked s n (WrongType r) after
    unfolding verdict by_records
    type-refused m e =
        let c = m.recorded in
        refused (WrongType r) after (omega arith)
        (rw (c.measured.length, c.header, c.records, m.namings, found_at s (wrong_type s) c.measured.sized.counted e q))

    pub depth-refused : (m : CheckingDepths s n) → found o ≡ lowest (too_deep s) n → StagesChecked s n (TooDeep r) after
    unfolding verdict by_records
    depth-refused m e =
        let c = m.named.recorded in
        refused (TooDeep r) after (omega arith)
        (rw (
          c.measured.length,
          c.header,
          c.records,
          m.named.namings,
          m.types,
          found_at s (too_deep s) c.measured.sized.counted e q,
        ))

-- a sheet that passes codes 1 to 6: the type rules decide
pub rules-decide : {s : List ℕ} {n : ℕ} {table : List ℕ} → Ground s n table → LeavesCounted s n table → {answer : Verdict} {after : List ℕ}
    → RulesChecked s (by_types s) answer table after → StagesChecked s n answer after
unfolding verdict by_records
rules-decide {table = table} g counts c =
    let p = g.passes in
    record {
      answered = c.answered ∙ rw (p.length, p.header, p.records, p.namings, p.types, p.depths);
      notes = λ t q. (table, counts, c.notes t q);
    }
