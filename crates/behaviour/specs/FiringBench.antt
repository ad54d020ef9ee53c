-- What fires on some sheets (docs/SHEETS.md, "Which alternative fired"): the sheet T and the sheets of the bench, and some on which an
-- undecided alternative stands before one that says yes, the settled value alone decides, and both branches of an IF have one.
-- One number a record: at an IF that of the alternative, 0 elsewhere.
use Rattle.std.specs.Prelude.{ℕ, ◌≡◌, List, [], ◌∷◌, replicate}
use Rattle.records.specs.Words.{count}
use Rattle.verdict.specs.Verdict.{verdict}
use Rattle.answers.specs.Answers.{Accepted}
use Rattle.behaviour.specs.Entries.{Entry, put_all, enter}
use Rattle.behaviour.specs.Bench.{bytes, gate_and, either_bit, equal_bits, not_fed_back, toggle, agreeing}
use Rattle.behaviour.specs.Firing.{fired}

-- the sheet, which is accepted with this type, on the input gives these numbers at these records, and 0 at every other
pub record FiringCase : Type 0 where
  pub sheet : List ℕ
  pub type : ℕ
  pub input : List ℕ
  pub told : List Entry

abbrev pub AllFire : List FiringCase → Type 0
AllFire [] = Unit {0}
AllFire (c ∷ cs) =
    (verdict c.sheet ≡ Accepted c.type)
    × (fired c.sheet c.input ≡ put_all enter c.told (replicate (count c.sheet) 0)) × AllFire cs

abbrev pub fires : (sheet : List ℕ) (type : ℕ) (input : List ℕ) → List Entry → FiringCase
fires s t i told = record { sheet = s; type = t; input = i; told = told }

abbrev pub tells : (record-number alternative : ℕ) → Entry
tells r n = record { place = r; value = n }

-- an IF on a bit with the chain 1|whole type
abbrev pub hi_or_any : List ℕ
hi_or_any =
    bytes
    (1 ∷ 1 ∷ 1 ∷ 2 ∷ 10 ∷ 0
    ∷ 16 ∷ 0 ∷ 2 ∷ 0 ∷ 0 ∷ 0
    ∷ 39 ∷ 0 ∷ 3 ∷ 4 ∷ 6 ∷ 8
    ∷ 33 ∷ 0 ∷ 0 ∷ 0 ∷ 0 ∷ 0
    ∷ 32 ∷ 0 ∷ 1 ∷ 5 ∷ 0 ∷ 0
    ∷ 64 ∷ 0 ∷ 1 ∷ 0 ∷ 0 ∷ 0
    ∷ 32 ∷ 0 ∷ 1 ∷ 7 ∷ 0 ∷ 0
    ∷ 64 ∷ 0 ∷ 2 ∷ 0 ∷ 0 ∷ 0
    ∷ 49 ∷ 9 ∷ 1 ∷ 1 ∷ 0 ∷ 0
    ∷ 48 ∷ 0 ∷ 1 ∷ 0 ∷ 0 ∷ 0
    ∷ [])

-- a feedback of a pair of bits, (0,0), (1,0), (1,1): its first part is hi, its second an IF on its own second part, pattern 1, whose
-- branches are both its own first part. In the round before the last the IF is undecided; at the settled value it says yes
abbrev pub last_round : List ℕ
last_round =
    bytes
    (1 ∷ 1 ∷ 1 ∷ 3 ∷ 16 ∷ 0
    ∷ 16 ∷ 2 ∷ 2 ∷ 0 ∷ 0 ∷ 0
    ∷ 17 ∷ 0 ∷ 1 ∷ 1 ∷ 0 ∷ 0
    ∷ 38 ∷ 0 ∷ 2 ∷ 4 ∷ 15 ∷ 0
    ∷ 34 ∷ 0 ∷ 5 ∷ 7 ∷ 0 ∷ 0
    ∷ 32 ∷ 0 ∷ 1 ∷ 6 ∷ 0 ∷ 0
    ∷ 64 ∷ 0 ∷ 1 ∷ 0 ∷ 0 ∷ 0
    ∷ 39 ∷ 0 ∷ 8 ∷ 11 ∷ 13 ∷ 10
    ∷ 36 ∷ 0 ∷ 9 ∷ 0 ∷ 0 ∷ 0
    ∷ 33 ∷ 0 ∷ 0 ∷ 0 ∷ 0 ∷ 0
    ∷ 49 ∷ 0 ∷ 1 ∷ 1 ∷ 0 ∷ 0
    ∷ 35 ∷ 0 ∷ 12 ∷ 0 ∷ 0 ∷ 0
    ∷ 33 ∷ 0 ∷ 0 ∷ 0 ∷ 0 ∷ 0
    ∷ 35 ∷ 0 ∷ 14 ∷ 0 ∷ 0 ∷ 0
    ∷ 33 ∷ 0 ∷ 0 ∷ 0 ∷ 0 ∷ 0
    ∷ 33 ∷ 0 ∷ 0 ∷ 0 ∷ 0 ∷ 0
    ∷ [])

-- an IF on a bit, pattern 1, with an IF on the same bit in its then branch, pattern 2, and one in its else branch, the whole type
abbrev pub both_branches : List ℕ
both_branches =
    bytes
    (1 ∷ 1 ∷ 1 ∷ 2 ∷ 15 ∷ 0
    ∷ 16 ∷ 0 ∷ 2 ∷ 0 ∷ 0 ∷ 0
    ∷ 39 ∷ 0 ∷ 3 ∷ 5 ∷ 10 ∷ 4
    ∷ 33 ∷ 0 ∷ 0 ∷ 0 ∷ 0 ∷ 0
    ∷ 49 ∷ 0 ∷ 1 ∷ 1 ∷ 0 ∷ 0
    ∷ 39 ∷ 0 ∷ 6 ∷ 8 ∷ 9 ∷ 7
    ∷ 33 ∷ 0 ∷ 0 ∷ 0 ∷ 0 ∷ 0
    ∷ 49 ∷ 0 ∷ 1 ∷ 2 ∷ 0 ∷ 0
    ∷ 33 ∷ 0 ∷ 0 ∷ 0 ∷ 0 ∷ 0
    ∷ 33 ∷ 0 ∷ 0 ∷ 0 ∷ 0 ∷ 0
    ∷ 39 ∷ 0 ∷ 11 ∷ 13 ∷ 14 ∷ 12
    ∷ 33 ∷ 0 ∷ 0 ∷ 0 ∷ 0 ∷ 0
    ∷ 48 ∷ 0 ∷ 1 ∷ 0 ∷ 0 ∷ 0
    ∷ 33 ∷ 0 ∷ 0 ∷ 0 ∷ 0 ∷ 0
    ∷ 33 ∷ 0 ∷ 0 ∷ 0 ∷ 0 ∷ 0
    ∷ [])

abbrev pub firing_cases : List FiringCase
firing_cases =
    fires toggle 1 (1 ∷ []) (tells 5 7 ∷ tells 8 10 ∷ [])
    ∷ fires toggle 1 (2 ∷ []) (tells 5 0 ∷ tells 8 10 ∷ [])
    ∷ fires toggle 1 (0 ∷ []) (tells 5 0 ∷ tells 8 10 ∷ [])
    ∷ fires gate_and 1 (1 ∷ 1 ∷ []) (tells 3 9 ∷ [])
    ∷ fires gate_and 1 (2 ∷ 0 ∷ []) (tells 3 0 ∷ [])
    ∷ fires gate_and 1 (1 ∷ 0 ∷ []) (tells 3 0 ∷ [])
    ∷ fires either_bit 1 (2 ∷ []) (tells 2 9 ∷ [])
    ∷ fires either_bit 1 (0 ∷ []) (tells 2 0 ∷ [])
    ∷ fires equal_bits 1 (2 ∷ 2 ∷ []) (tells 3 12 ∷ [])
    ∷ fires equal_bits 1 (2 ∷ 1 ∷ []) (tells 3 0 ∷ [])
    ∷ fires hi_or_any 1 (0 ∷ []) (tells 2 9 ∷ [])
    ∷ fires hi_or_any 1 (1 ∷ []) (tells 2 8 ∷ [])
    ∷ fires not_fed_back 1 (1 ∷ []) (tells 3 0 ∷ [])
    ∷ fires agreeing 2 (0 ∷ []) (tells 4 7 ∷ tells 14 0 ∷ [])
    ∷ fires agreeing 2 (1 ∷ []) (tells 4 7 ∷ tells 14 16 ∷ [])
    ∷ fires last_round 2 (0 ∷ []) (tells 7 10 ∷ [])
    ∷ fires both_branches 1 (1 ∷ []) (tells 2 4 ∷ tells 5 0 ∷ tells 10 12 ∷ [])
    ∷ fires both_branches 1 (2 ∷ []) (tells 2 0 ∷ tells 5 7 ∷ tells 10 12 ∷ [])
    ∷ []
