-- What the functions of carrying ask of their callers can be had: at the sheet T with a label, running and as it began, there is an
-- instance of each record that a `requires` names. The table of an accepted sheet's labels is made record by record.
-- Assumes nothing.
use Prim.Native.Nat.{ℕ, zero, suc, ◌≤◌, ◌<◌}
use mathlib.Core.Bool.{false, not}
use mathlib.Core.List.{List}
use mathlib.Core.Path.{◌≡◌, refl, subst}
use native.Mathlib.Omega.{arith}
use native.Mathlib.Decide.{ℕ_discrete}
use native.Mathlib.Numerals.{add-one}
use borrow.Author.Tests.{ltb-true, not-false}
use lib.Dec.{ltb}
use lib.ListN.{get_or, set, replicate}
use Rattle.records.specs.Words.{word, count, word_a, word_b}
use Rattle.records.specs.Kinds.{row_of, kind_of, ask_of, expression, delay}
use Rattle.records.specs.Says.{kind_at, well_said, namings}
use Rattle.records.specs.Trees.{type_within, type_at, pair_of, chain_within, chain, alternatives_within, alternatives, tree_within, tree_at, circuit}
use Rattle.records.specs.Sized.{Sized}
use Rattle.records.specs.Written.{Written}
use Rattle.structure.specs.Rules.{ancestry_within, ancestry, depth, nesting, wrong_length, wrong_header, wrong_record, wrong_naming, wrong_type, too_deep}
use Rattle.answers.proofs.Lowest.{lowest-none-fails}
use Rattle.verdict.specs.Verdict.{by_types, by_records, verdict}
use Rattle.answers.specs.Answers.{Accepted}
use Rattle.accepted.proofs.Small.{accepted-sized}
use Rattle.carry.specs.Labels.{label, label_twice}
use Rattle.carry.specs.Bearers.{Bearers, Labelling, Labelled}
use Rattle.carry.specs.Carrying.{Comparing, Taking, SheetAccepted, Carrying}
use Rattle.carry.specs.Cases.{labelled_toggle}
use Rattle.carry.proofs.Bearing.{no-bearer, unlabelled-noted, twice-noted, newly-noted}
use Rattle.carry.proofs.Delays.{is-written, delay-type, delay-leaves}

-- the sheet as it began, and after a cycle
abbrev began : List ℕ
began = labelled_toggle 5 2

abbrev running : List ℕ
running = labelled_toggle 5 1

accepted-began : verdict began ≡ Accepted 1
unfolding verdict by_records by_types wrong_length wrong_header wrong_record wrong_naming wrong_type too_deep depth nesting ancestry ancestry_within circuit tree_at tree_within alternatives alternatives_within chain chain_within pair_of type_at type_within namings well_said ask_of kind_of row_of word count
accepted-began = refl

accepted-running : verdict running ≡ Accepted 1
unfolding verdict by_records by_types wrong_length wrong_header wrong_record wrong_naming wrong_type too_deep depth nesting ancestry ancestry_within circuit tree_at tree_within alternatives alternatives_within chain chain_within pair_of type_at type_within namings well_said ask_of kind_of row_of word count
accepted-running = refl

began-is : SheetAccepted began 17
began-is = record { sized = accepted-sized accepted-began; type = 1; accepted = accepted-began }

running-is : SheetAccepted running 17
running-is = record { sized = accepted-sized accepted-running; type = 1; accepted = accepted-running }

running-labelling : Labelling running 17 0 (replicate {A = ℕ} 65536 0)
running-labelling =
    record { sized = running-is.sized; written = is-written accepted-running; there = omega arith; below = no-bearer running }

delay-began : kind_at began 3 ≡ expression delay
unfolding kind_of row_of word
delay-began = refl

delay-running : kind_at running 3 ≡ expression delay
unfolding kind_of row_of word
delay-running = refl

comparing : Comparing running 17 (word_a running 3) began 17 (word_a began 3)
comparing =
    record {
      before = delay-type running-is 3 (omega arith) delay-running (word_a running 3) refl;
      after = delay-type began-is 3 (omega arith) delay-began (word_a began 3) refl;
    }

taking : Taking running 17 (word_b running 3) began 17 (word_b began 3) began
unfolding chain chain_within word count
taking =
    record {
      before = delay-leaves running-is 3 (omega arith) delay-running (word_b running 3) refl;
      after = delay-leaves began-is 3 (omega arith) delay-began (word_b began 3) refl;
      many = refl;
      long = refl;
    }

-- the table of a written sheet whose labels are words, where none stands twice, record by record
module _ {s : List ℕ} {n : ℕ} (sized : Sized s n) (w : Written s) (small : (q : ℕ) → q < n → label s q < 65536)
    (once : (q : ℕ) → q < n → label_twice s q ≡ false) where
  table_of : (k : ℕ) → k ≤ n → (table : List ℕ) × Bearers s k table
  table_of zero h = (replicate {A = ℕ} 65536 0, no-bearer s)
  table_of (suc k) h = go (table_of k (omega arith))
    where
      go : ((table : List ℕ) × Bearers s k table) → (table : List ℕ) × Bearers s (suc k) table
      go p = by (ℕ_discrete (label s k) 0) (ℕ_discrete (get_or p.0 (label s k) 0) 0)
        where
          g : Labelling s n k p.0
          g = record { sized = sized; written = w; there = omega arith; below = p.1 }

          next : (table : List ℕ) → Labelled s k false table → (table : List ℕ) × Bearers s (suc k) table
          next table l = (table, subst (λ m. Bearers s m table) (add-one k) (l.entered refl))

          by : Dec (label s k ≡ 0) → Dec (get_or p.0 (label s k) 0 ≡ 0) → (table : List ℕ) × Bearers s (suc k) table
          by (yes e) d = next p.0 (unlabelled-noted g refl e)
          by (no f) (yes z) = next (set p.0 (label s k) k) (newly-noted g refl (small k (omega arith)) f z)
          by (no f) (no z) =
              let t = (twice-noted g refl (small k (omega arith)) z).answered in
              let o = once k (omega arith) in
              let y : ◌≡◌ {A = ℕ} 0 1 = cc in
              absurd (omega arith)

running-small : (q : ℕ) → q < 17 → label running q < 65536
unfolding kind_of row_of word
running-small q h =
    ltb-true (label running q) 65536
    (not-false (ltb (label running q) 65536) (lowest-none-fails (λ r. not (ltb (label running r) 65536)) 17 refl q h))

running-table : (table : List ℕ) × Bearers running 17 table
unfolding label_twice kind_of row_of word
running-table =
    table_of running-is.sized (is-written accepted-running) running-small
    (lowest-none-fails (label_twice running) 17 refl) 17 (omega arith)

carrying : Carrying running 17 began 17 running-table.0 began
carrying = record { before = running-is; after = began-is; labels = running-table.1; long = refl }
