-- What the checks of a stimulus are called with is not contradictory, and the checks of one cycle tell: a sheet whose root is its
-- input, a pair of bits, is accepted, and there is a checked sheet of it. Of its stimuli 1 2 is one cycle, 1 2 2 1 two, and 1 3 has a
-- byte above its leaf's count. By computation.
-- Assumes nothing.
use Prim.Native.Nat.{ℕ, ◌*◌}
use mathlib.Core.List.{List, [], ◌∷◌}
use mathlib.Core.Path.{◌≡◌, refl}
use native.Mathlib.Omega.{arith}
use lib.ListN.{length}
use Rattle.picoella.specs.Language.{leaves, OfType}
use Rattle.records.specs.Words.{word, count}
use Rattle.records.specs.Kinds.{row_of, kind_of, ask_of}
use Rattle.records.specs.Says.{well_said, namings}
use Rattle.records.specs.Trees.{
  type_within,
  type_at,
  pair_of,
  TypeRecord,
  chain_within,
  chain,
  alternatives_within,
  alternatives,
  tree_within,
  tree_at,
  circuit,
}
use Rattle.structure.specs.Rules.{
  ancestry_within,
  ancestry,
  depth,
  nesting,
  wrong_length,
  wrong_header,
  wrong_record,
  wrong_naming,
  wrong_type,
  too_deep,
  Passes,
}
use Rattle.verdict.specs.Verdict.{by_types, by_records, verdict}
use Rattle.verdict.specs.declared.checked.Checked.{Checked}
use Rattle.answers.specs.Answers.{Accepted}
use Rattle.answers.specs.Answers.{first_applying}
use Rattle.answers.specs.Answers.{Answer}
use Rattle.answers.specs.Answers.{Done, Refused}
use Rattle.accepted.specs.Accepting.{Accepting}
use Rattle.accepted.proofs.Small.{accepted-passes}
use Rattle.accepted.proofs.Requirements as Requirements
use Rattle.stimulus.specs.Stimulus.{input_type, wrong_stimulus, wrong_byte}
use Rattle.stimulus.specs.OneCycle.{not_one_cycle, one_cycle_checks}
use Rattle.stimulus.proofs.OneCycle.{one-cycle-typed}

-- four records of six words: header, a type of two constructors, the pair of it, the input's name
abbrev paired : List ℕ
paired =
    1 ∷ 0 ∷ 1 ∷ 0 ∷ 2 ∷ 0 ∷ 3 ∷ 0 ∷ 4 ∷ 0 ∷ 0 ∷ 0
    ∷ 16 ∷ 0 ∷ 2 ∷ 0 ∷ 2 ∷ 0 ∷ 0 ∷ 0 ∷ 0 ∷ 0 ∷ 0 ∷ 0
    ∷ 17 ∷ 0 ∷ 0 ∷ 0 ∷ 1 ∷ 0 ∷ 1 ∷ 0 ∷ 0 ∷ 0 ∷ 0 ∷ 0
    ∷ 33 ∷ 0 ∷ 0 ∷ 0 ∷ 0 ∷ 0 ∷ 0 ∷ 0 ∷ 0 ∷ 0 ∷ 0 ∷ 0
    ∷ []

paired-accepted : verdict paired ≡ Accepted 2
unfolding verdict by_records by_types wrong_length wrong_header wrong_record wrong_naming wrong_type too_deep depth nesting ancestry ancestry_within circuit tree_at tree_within alternatives alternatives_within chain chain_within pair_of type_at type_within namings well_said ask_of kind_of row_of word count
paired-accepted = refl

paired-full : length paired ≡ 12 * count paired
unfolding count
paired-full = refl

paired-accepting : (widths : List ℕ) × Accepting paired (count paired) widths
paired-accepting =
    let p : Passes paired = accepted-passes paired-accepted in
    let t = Requirements.widths p paired-full in (
      t.0,
      record {
        sized = Requirements.sized p paired-full;
        type = 2;
        accepted = paired-accepted;
        table = t.1;
      },
    )

-- what `check_stimulus` and `check_one_cycle` ask
abbrev checked : Checked
checked = record {
  sheet = paired;
  widths = paired-accepting.0;
  output_type = 2;
  accepted = paired-accepted;
  counted = paired-accepting.1.table;
}

paired-checked : (c : Checked) × (c.sheet ≡ paired)
paired-checked = (checked, refl)

abbrev answered : List ℕ → Answer
answered stim = first_applying (one_cycle_checks paired stim) (Done 1)

told
    : (answered (1 ∷ 2 ∷ []) ≡ Done 1)
    × (answered [] ≡ Refused 8 0)
    × (answered (1 ∷ []) ≡ Refused 8 0)
    × (answered (1 ∷ 2 ∷ 2 ∷ 1 ∷ []) ≡ Refused 8 0)
    × (answered (1 ∷ 3 ∷ 3 ∷ []) ≡ Refused 8 0)
    × (answered (1 ∷ 3 ∷ []) ≡ Refused 9 1)
unfolding not_one_cycle wrong_stimulus wrong_byte type_at type_within kind_of row_of word
told = (refl, refl, refl, refl, refl, refl)

one-of-type : OfType (input_type paired) (1 ∷ 2 ∷ [])
unfolding not_one_cycle wrong_stimulus wrong_byte type_at type_within kind_of row_of word
one-of-type = one-cycle-typed paired (1 ∷ 2 ∷ []) (refl, (refl, tt))

-- what `first_above` asks, and the facts that it rests on
above-asked : (c : Checked) × (c.sheet ≡ paired) × TypeRecord c.sheet 2 × (2 ≡ leaves (type_at c.sheet 2))
unfolding type_at type_within kind_of row_of word count
above-asked = (checked, refl, record { past = omega arith; there = omega arith; sort = refl }, refl)

above-accepting : (widths : List ℕ) × Accepting paired (count paired) widths × TypeRecord paired 2 × (2 ≡ leaves (type_at paired 2))
unfolding type_at type_within kind_of row_of word count
above-accepting =
    let a = paired-accepting in
    (a.0, a.1, record { past = omega arith; there = omega arith; sort = refl }, refl)
