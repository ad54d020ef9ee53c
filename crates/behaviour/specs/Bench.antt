-- The bench cases (docs/SHEETS.md) that are marked P, on bytes: sheets run by the definition of the run, patterns of their records
-- matched, and a feedback's chain from undefined; and a sheet on which the rule for an undecided IF tells, in a feedback too
-- (docs/SHEETS.md, "One cycle"). Bit has constructors 1 hi and 2 lo. A sheet is written by its words, six a record: kind, next, a,
-- b, c, d.
use Rattle.std.specs.Prelude.{ℕ, zero, suc, ◌%◌, ◌/◌, ◌≡◌, List, [], ◌∷◌, ◌++◌, length, replicate}
use Rattle.records.specs.Words.{word_a, word_b}
use Rattle.records.specs.Trees.{type_at, alternatives, tree_at}
use Rattle.records.specs.Decoding.{pattern_of}
use Rattle.verdict.specs.Verdict.{verdict}
use Rattle.verdict.specs.Scopes.{inputs}
use Rattle.answers.specs.Answers.{Accepted}
use Rattle.meaning.specs.Matching.{matches}
use Rattle.meaning.specs.Decisions.{Decision, Yes, Undecided}
use Rattle.meaning.specs.Undecided.{undecided_rule}
use Rattle.meaning.specs.Evaluation.{applications}
use Rattle.behaviour.specs.Terms.{term}
use Rattle.stimulus.specs.Stimulus.{cycle_count}
use Rattle.answers.specs.Answers.{packed}
use Rattle.behaviour.specs.Entries.{put_word}
use Rattle.behaviour.specs.Run.{answer, final_out, final_next}
use Rattle.behaviour.specs.Afterwards.{applied}

-- the bytes of words, low byte first
abbrev pub bytes : List ℕ → List ℕ
bytes [] = []
bytes (w ∷ ws) = w % 256 ∷ w / 256 ∷ bytes ws

pub data Case : Type 0 where
  -- the sheet on the stimulus gives these outputs, and next is this sheet
  runs : (sheet stimulus outputs next : List ℕ) → Case
  -- the sheet has this output type, and on the stimulus it gives these outputs in so many cycles; next is this sheet
  runs_typed : (sheet : List ℕ) (type : ℕ) (stimulus outputs : List ℕ) (count : ℕ) (next : List ℕ) → Case
  -- the pattern at this record of the sheet gives this answer on the value
  pattern_says : (sheet : List ℕ) (pattern : ℕ) (value : List ℕ) → Decision → Case
  -- the feedback that is the sheet's root goes through these values, and to the last in as many applications
  goes : (sheet input : List ℕ) (chain : List (List ℕ)) (counted : ℕ) → Case

-- the values from undefined, the first n
abbrev pub values_before : (ℕ → List ℕ) → ℕ → List (List ℕ)
values_before value zero = []
values_before value (suc n) = values_before value n ++ (value n ∷ [])

abbrev pub CaseHolds : Case → Type 0
CaseHolds (runs s stim outs next) =
    (packed (answer s stim (replicate (length outs) 0) (replicate (length s) 0)) ≡ cycle_count s stim)
    × (final_out s stim (replicate (length outs) 0) (replicate (length s) 0) ≡ outs)
    × (final_next s stim (replicate (length outs) 0) (replicate (length s) 0) ≡ next)
CaseHolds (runs_typed s t stim outs n next) =
    (verdict s ≡ Accepted t)
    × (packed (answer s stim (replicate (length outs) 0) (replicate (length s) 0)) ≡ n)
    × (final_out s stim (replicate (length outs) 0) (replicate (length s) 0) ≡ outs)
    × (final_next s stim (replicate (length outs) 0) (replicate (length s) 0) ≡ next)
CaseHolds (pattern_says s p v a) = matches (pattern_of s (alternatives s p)) v ≡ a
CaseHolds (goes s i chain n) =
    let q = word_b s 0 in
    let σ = type_at s (word_a s q) in
    let part = term s (word_a s q ∷ inputs s) (tree_at s (word_b s q)) in
    (values_before (applied (i ∷ []) σ part) (length chain) ≡ chain) × (applications undecided_rule (i ∷ []) σ part ≡ n)

abbrev pub AllCasesHold : List Case → Type 0
AllCasesHold [] = Unit {0}
AllCasesHold (c ∷ cs) = CaseHolds c × AllCasesHold cs

-- AND: an IF on the pair of inputs, pattern (1,1), then 1, else 2
abbrev pub gate_and : List ℕ
gate_and =
    bytes
    (1 ∷ 1 ∷ 2 ∷ 3 ∷ 12 ∷ 0
    ∷ 16 ∷ 2 ∷ 2 ∷ 0 ∷ 0 ∷ 0
    ∷ 17 ∷ 0 ∷ 1 ∷ 1 ∷ 0 ∷ 0
    ∷ 39 ∷ 0 ∷ 4 ∷ 5 ∷ 7 ∷ 9
    ∷ 33 ∷ 0 ∷ 0 ∷ 0 ∷ 0 ∷ 0
    ∷ 32 ∷ 0 ∷ 1 ∷ 6 ∷ 0 ∷ 0
    ∷ 64 ∷ 0 ∷ 1 ∷ 0 ∷ 0 ∷ 0
    ∷ 32 ∷ 0 ∷ 1 ∷ 8 ∷ 0 ∷ 0
    ∷ 64 ∷ 0 ∷ 2 ∷ 0 ∷ 0 ∷ 0
    ∷ 50 ∷ 0 ∷ 10 ∷ 11 ∷ 0 ∷ 0
    ∷ 49 ∷ 0 ∷ 1 ∷ 1 ∷ 0 ∷ 0
    ∷ 49 ∷ 0 ∷ 1 ∷ 1 ∷ 0 ∷ 0
    ∷ [])

-- an IF on a bit with the chain 1|2, then 1, else 2
abbrev pub either_bit : List ℕ
either_bit =
    bytes
    (1 ∷ 1 ∷ 1 ∷ 2 ∷ 10 ∷ 0
    ∷ 16 ∷ 0 ∷ 2 ∷ 0 ∷ 0 ∷ 0
    ∷ 39 ∷ 0 ∷ 3 ∷ 4 ∷ 6 ∷ 8
    ∷ 33 ∷ 0 ∷ 0 ∷ 0 ∷ 0 ∷ 0
    ∷ 32 ∷ 0 ∷ 1 ∷ 5 ∷ 0 ∷ 0
    ∷ 64 ∷ 0 ∷ 1 ∷ 0 ∷ 0 ∷ 0
    ∷ 32 ∷ 0 ∷ 1 ∷ 7 ∷ 0 ∷ 0
    ∷ 64 ∷ 0 ∷ 2 ∷ 0 ∷ 0 ∷ 0
    ∷ 49 ∷ 9 ∷ 1 ∷ 1 ∷ 0 ∷ 0
    ∷ 49 ∷ 0 ∷ 1 ∷ 2 ∷ 0 ∷ 0
    ∷ [])

-- the same with the whole type
abbrev pub whole_bit : List ℕ
whole_bit =
    bytes
    (1 ∷ 1 ∷ 1 ∷ 2 ∷ 9 ∷ 0
    ∷ 16 ∷ 0 ∷ 2 ∷ 0 ∷ 0 ∷ 0
    ∷ 39 ∷ 0 ∷ 3 ∷ 4 ∷ 6 ∷ 8
    ∷ 33 ∷ 0 ∷ 0 ∷ 0 ∷ 0 ∷ 0
    ∷ 32 ∷ 0 ∷ 1 ∷ 5 ∷ 0 ∷ 0
    ∷ 64 ∷ 0 ∷ 1 ∷ 0 ∷ 0 ∷ 0
    ∷ 32 ∷ 0 ∷ 1 ∷ 7 ∷ 0 ∷ 0
    ∷ 64 ∷ 0 ∷ 2 ∷ 0 ∷ 0 ∷ 0
    ∷ 48 ∷ 0 ∷ 1 ∷ 0 ∷ 0 ∷ 0
    ∷ [])

-- an IF on a pair of bits with the chain (1,1)|(2,2), then 1, else 2
abbrev pub equal_bits : List ℕ
equal_bits =
    bytes
    (1 ∷ 1 ∷ 2 ∷ 3 ∷ 15 ∷ 0
    ∷ 16 ∷ 2 ∷ 2 ∷ 0 ∷ 0 ∷ 0
    ∷ 17 ∷ 0 ∷ 1 ∷ 1 ∷ 0 ∷ 0
    ∷ 39 ∷ 0 ∷ 4 ∷ 5 ∷ 7 ∷ 9
    ∷ 33 ∷ 0 ∷ 0 ∷ 0 ∷ 0 ∷ 0
    ∷ 32 ∷ 0 ∷ 1 ∷ 6 ∷ 0 ∷ 0
    ∷ 64 ∷ 0 ∷ 1 ∷ 0 ∷ 0 ∷ 0
    ∷ 32 ∷ 0 ∷ 1 ∷ 8 ∷ 0 ∷ 0
    ∷ 64 ∷ 0 ∷ 2 ∷ 0 ∷ 0 ∷ 0
    ∷ 50 ∷ 12 ∷ 10 ∷ 11 ∷ 0 ∷ 0
    ∷ 49 ∷ 0 ∷ 1 ∷ 1 ∷ 0 ∷ 0
    ∷ 49 ∷ 0 ∷ 1 ∷ 1 ∷ 0 ∷ 0
    ∷ 50 ∷ 0 ∷ 13 ∷ 14 ∷ 0 ∷ 0
    ∷ 49 ∷ 0 ∷ 1 ∷ 2 ∷ 0 ∷ 0
    ∷ 49 ∷ 0 ∷ 1 ∷ 2 ∷ 0 ∷ 0
    ∷ [])

-- a NOT fed back on itself
abbrev pub not_fed_back : List ℕ
not_fed_back =
    bytes
    (1 ∷ 1 ∷ 1 ∷ 2 ∷ 11 ∷ 0
    ∷ 16 ∷ 0 ∷ 2 ∷ 0 ∷ 0 ∷ 0
    ∷ 38 ∷ 0 ∷ 1 ∷ 3 ∷ 10 ∷ 0
    ∷ 39 ∷ 0 ∷ 4 ∷ 5 ∷ 7 ∷ 9
    ∷ 33 ∷ 0 ∷ 0 ∷ 0 ∷ 0 ∷ 0
    ∷ 32 ∷ 0 ∷ 1 ∷ 6 ∷ 0 ∷ 0
    ∷ 64 ∷ 0 ∷ 2 ∷ 0 ∷ 0 ∷ 0
    ∷ 32 ∷ 0 ∷ 1 ∷ 8 ∷ 0 ∷ 0
    ∷ 64 ∷ 0 ∷ 1 ∷ 0 ∷ 0 ∷ 0
    ∷ 49 ∷ 0 ∷ 1 ∷ 1 ∷ 0 ∷ 0
    ∷ 33 ∷ 0 ∷ 0 ∷ 0 ∷ 0 ∷ 0
    ∷ [])

-- a feedback of a pair of bits, defined as (hi, its own first part)
abbrev pub own_first : List ℕ
own_first =
    bytes
    (1 ∷ 1 ∷ 1 ∷ 3 ∷ 10 ∷ 0
    ∷ 16 ∷ 2 ∷ 2 ∷ 0 ∷ 0 ∷ 0
    ∷ 17 ∷ 0 ∷ 1 ∷ 1 ∷ 0 ∷ 0
    ∷ 38 ∷ 0 ∷ 2 ∷ 4 ∷ 9 ∷ 0
    ∷ 34 ∷ 0 ∷ 5 ∷ 7 ∷ 0 ∷ 0
    ∷ 32 ∷ 0 ∷ 1 ∷ 6 ∷ 0 ∷ 0
    ∷ 64 ∷ 0 ∷ 1 ∷ 0 ∷ 0 ∷ 0
    ∷ 35 ∷ 0 ∷ 8 ∷ 0 ∷ 0 ∷ 0
    ∷ 33 ∷ 0 ∷ 0 ∷ 0 ∷ 0 ∷ 0
    ∷ 33 ∷ 0 ∷ 0 ∷ 0 ∷ 0 ∷ 0
    ∷ [])

-- a feedback defined as itself
abbrev pub itself : List ℕ
itself =
    bytes
    (1 ∷ 1 ∷ 1 ∷ 2 ∷ 5 ∷ 0
    ∷ 16 ∷ 0 ∷ 2 ∷ 0 ∷ 0 ∷ 0
    ∷ 38 ∷ 0 ∷ 1 ∷ 3 ∷ 4 ∷ 0
    ∷ 33 ∷ 0 ∷ 0 ∷ 0 ∷ 0 ∷ 0
    ∷ 33 ∷ 0 ∷ 0 ∷ 0 ∷ 0 ∷ 0
    ∷ [])

-- the sheet T (docs/SHEETS.md, "Sheet T")
abbrev pub toggle : List ℕ
toggle =
    bytes
    (1 ∷ 1 ∷ 1 ∷ 2 ∷ 17 ∷ 0
    ∷ 16 ∷ 0 ∷ 2 ∷ 0 ∷ 0 ∷ 0
    ∷ 38 ∷ 0 ∷ 1 ∷ 3 ∷ 16 ∷ 0
    ∷ 40 ∷ 0 ∷ 1 ∷ 4 ∷ 5 ∷ 0
    ∷ 64 ∷ 0 ∷ 2 ∷ 0 ∷ 0 ∷ 0
    ∷ 39 ∷ 0 ∷ 6 ∷ 8 ∷ 15 ∷ 7
    ∷ 33 ∷ 0 ∷ 1 ∷ 0 ∷ 0 ∷ 0
    ∷ 49 ∷ 0 ∷ 1 ∷ 1 ∷ 0 ∷ 0
    ∷ 39 ∷ 0 ∷ 9 ∷ 11 ∷ 13 ∷ 10
    ∷ 33 ∷ 0 ∷ 0 ∷ 0 ∷ 0 ∷ 0
    ∷ 49 ∷ 0 ∷ 1 ∷ 2 ∷ 0 ∷ 0
    ∷ 32 ∷ 0 ∷ 1 ∷ 12 ∷ 0 ∷ 0
    ∷ 64 ∷ 0 ∷ 1 ∷ 0 ∷ 0 ∷ 0
    ∷ 32 ∷ 0 ∷ 1 ∷ 14 ∷ 0 ∷ 0
    ∷ 64 ∷ 0 ∷ 2 ∷ 0 ∷ 0 ∷ 0
    ∷ 33 ∷ 0 ∷ 0 ∷ 0 ∷ 0 ∷ 0
    ∷ 33 ∷ 0 ∷ 0 ∷ 0 ∷ 0 ∷ 0
    ∷ [])

-- a feedback of a pair of bits whose defining part is an IF on its own first part, pattern 1, then (1,1), else (1,2); its body is an
-- IF on the input, pattern 1, then a delay of the feedback, else the feedback. On input 0 both IFs are undecided at first, and
-- their branches agree in some leaves (docs/SHEETS.md, "One cycle")
abbrev pub agreeing : List ℕ
agreeing =
    bytes
    (1 ∷ 1 ∷ 1 ∷ 3 ∷ 22 ∷ 0
    ∷ 16 ∷ 2 ∷ 2 ∷ 0 ∷ 0 ∷ 0
    ∷ 17 ∷ 0 ∷ 1 ∷ 1 ∷ 0 ∷ 0
    ∷ 38 ∷ 0 ∷ 2 ∷ 4 ∷ 14 ∷ 0
    ∷ 39 ∷ 0 ∷ 5 ∷ 8 ∷ 11 ∷ 7
    ∷ 35 ∷ 0 ∷ 6 ∷ 0 ∷ 0 ∷ 0
    ∷ 33 ∷ 0 ∷ 0 ∷ 0 ∷ 0 ∷ 0
    ∷ 49 ∷ 0 ∷ 1 ∷ 1 ∷ 0 ∷ 0
    ∷ 32 ∷ 0 ∷ 2 ∷ 9 ∷ 0 ∷ 0
    ∷ 64 ∷ 10 ∷ 1 ∷ 0 ∷ 0 ∷ 0
    ∷ 64 ∷ 0 ∷ 1 ∷ 0 ∷ 0 ∷ 0
    ∷ 32 ∷ 0 ∷ 2 ∷ 12 ∷ 0 ∷ 0
    ∷ 64 ∷ 13 ∷ 1 ∷ 0 ∷ 0 ∷ 0
    ∷ 64 ∷ 0 ∷ 2 ∷ 0 ∷ 0 ∷ 0
    ∷ 39 ∷ 0 ∷ 15 ∷ 17 ∷ 21 ∷ 16
    ∷ 33 ∷ 0 ∷ 1 ∷ 0 ∷ 0 ∷ 0
    ∷ 49 ∷ 0 ∷ 1 ∷ 1 ∷ 0 ∷ 0
    ∷ 40 ∷ 0 ∷ 2 ∷ 18 ∷ 20 ∷ 0
    ∷ 64 ∷ 19 ∷ 0 ∷ 0 ∷ 0 ∷ 0
    ∷ 64 ∷ 0 ∷ 0 ∷ 0 ∷ 0 ∷ 0
    ∷ 33 ∷ 0 ∷ 0 ∷ 0 ∷ 0 ∷ 0
    ∷ 33 ∷ 0 ∷ 0 ∷ 0 ∷ 0 ∷ 0
    ∷ [])

-- the same with (1,1) in the delay
abbrev pub agreed : List ℕ
agreed = put_word 19 1 (put_word 18 1 agreeing)

abbrev pub bench_cases : List Case
bench_cases =
    runs gate_and (2 ∷ 0 ∷ []) (2 ∷ []) gate_and
    ∷ runs gate_and (1 ∷ 0 ∷ []) (0 ∷ []) gate_and
    ∷ runs gate_and (1 ∷ 1 ∷ []) (1 ∷ []) gate_and
    ∷ pattern_says either_bit 8 (0 ∷ []) Undecided
    ∷ runs either_bit (0 ∷ []) (0 ∷ []) either_bit
    ∷ pattern_says whole_bit 8 (0 ∷ []) Yes
    ∷ runs whole_bit (0 ∷ []) (1 ∷ []) whole_bit
    ∷ runs not_fed_back (1 ∷ []) (0 ∷ []) not_fed_back
    ∷ goes own_first (0 ∷ []) ((0 ∷ 0 ∷ []) ∷ (1 ∷ 0 ∷ []) ∷ (1 ∷ 1 ∷ []) ∷ []) 2
    ∷ runs own_first (0 ∷ []) (1 ∷ 1 ∷ []) own_first
    ∷ runs itself (1 ∷ []) (0 ∷ []) itself
    ∷ runs_typed toggle 1 (1 ∷ 2 ∷ 1 ∷ []) (2 ∷ 1 ∷ 1 ∷ []) 3 toggle
    ∷ pattern_says equal_bits 9 (0 ∷ 0 ∷ []) Undecided
    ∷ runs equal_bits (0 ∷ 0 ∷ []) (0 ∷ []) equal_bits
    ∷ goes agreeing (0 ∷ []) ((0 ∷ 0 ∷ []) ∷ (1 ∷ 0 ∷ []) ∷ (1 ∷ 1 ∷ []) ∷ []) 2
    ∷ runs agreeing (0 ∷ 0 ∷ []) (0 ∷ 0 ∷ 1 ∷ 1 ∷ []) agreed
    ∷ []
