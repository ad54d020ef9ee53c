-- What the functions of the run are called with is not contradictory: for every well-formed call of one cycle or more there are a table, names' bytes and
-- a table of delay values with which its run, its first cycle, its root and the leaves that it copies meet what they ask; so at
-- the sheet T of docs/SHEETS.md on 1 2 1, where the root is a feedback that is ready to be settled, record 4 a chain of leaves,
-- and record 7 a pattern that a value is matched against. Each form of expression that has a function of its own is ready to be
-- evaluated, in T or in the sheet with pairs of `crates/accepted/proofs/PairWitness.antt` on 1 2.
-- Assumes nothing.
use Prim.Native.Nat.{ℕ, zero, suc, ◌-◌, ◌*◌, ◌<◌}
use mathlib.Core.List.{List, [], ◌∷◌}
use mathlib.Core.Path.{◌≡◌, refl}
use mathlib.Core.Bool.{true}
use native.Mathlib.Omega.{arith}
use lib.ListN.{length, get_or, take, replicate}
use Rattle.picoella.specs.Language.{leaves}
use Rattle.records.specs.Words.{word, word_a, word_b, word_c, count}
use Rattle.records.specs.Kinds.{
  row_of,
  kind_of,
  ExpressionKind,
  expression,
  name,
  tuple,
  first,
  second,
  let_in,
  feedback,
  if_matches,
  delay,
  leafs,
  patterns,
}
use Rattle.records.specs.Says.{kind_at, sort_at}
use Rattle.records.specs.Trees.{type_within, type_at, TypeRecord, chain_within, chain, alternatives_within, alternatives}
use Rattle.structure.specs.Rules.{Passes}
use Rattle.accepted.proofs.Laws.{written}
use Rattle.typing.specs.Judgements.{pattern_fits}
use Rattle.verdict.specs.Scopes.{inputs}
use Rattle.verdict.specs.Scopes.{Scope, tuple_first, tuple_second, let_defining, if_tested, of-delay}
use Rattle.accepted.specs.Accepting.{Accepting}
use Rattle.accepted.proofs.Requirements.{widths}
use Rattle.accepted.proofs.Requirements as Requirements
use Rattle.accepted.proofs.PairWitness as PairWitness
use Rattle.stimulus.specs.Stimulus.{input_leaves, cycle_count, wrong_stimulus, wrong_byte}
use Rattle.behaviour.specs.Afterwards.{WellFormed}
use Rattle.behaviour.specs.Bench.{toggle}
use Rattle.stimulus.proofs.Stimulus.{stimulus-whole}
use Rattle.behaviour.proofs.Witness.{ones, room_of_t, toggle-formed}
use Rattle.values.specs.Chained.{Chained}
use Rattle.values.specs.Matchings.{Matching}
use Rattle.values.specs.Slots.{entered}
use Rattle.evaluator.specs.Evaluating.{EvaluatingIn, SettlingIn}
use Rattle.evaluator.proofs.Frames.{zeros-long}
use Rattle.evaluator.proofs.Parts.{room-ready}
use Rattle.evaluator.proofs.Feedbacks.{feedback-settling}
use Rattle.stepper.specs.Cycling.{Copying, Cycling}
use Rattle.stepper.proofs.Cycling.{root-evaluating, copying}
use Rattle.simulator.specs.Running.{RunningCycles}
use Rattle.simulator.proofs.Running.{Lending, before-all, lending}
use Rattle.accepted.proofs.Small.{accepted-passes, accepted-records}

abbrev names : List ℕ
names = replicate 4096 0

-- a well-formed call with a first cycle
module _ {s stim out next : List ℕ} {t : ℕ} (h : WellFormed s stim out next t) (some : 0 < length stim) where
  passes : Passes s
  passes = accepted-passes h.accepted

  full : length s ≡ 12 * count s
  full = accepted-records s h.accepted

  abbrev table : List ℕ
  table = (widths passes full).0

  running : RunningCycles s (count s) table stim (input_leaves s) (leaves (type_at s t)) (cycle_count s stim) s out
  running =
      record {
        over = record {
          sized = Requirements.sized passes full;
          type = t;
          accepted = h.accepted;
          table = (widths passes full).1;
          whole = h.whole;
          fitting = h.fitting;
          takes = refl;
          gives = refl;
          counted = refl;
        };
        room = h.room;
        start = refl;
      }

  accepting : Accepting s (count s) table
  accepting =
      record { sized = Requirements.sized passes full; type = t; accepted = h.accepted; table = (widths passes full).1 }

  -- there is a first cycle
  some-cycle : 0 < cycle_count s stim
  some-cycle = let w = stimulus-whole s stim h.whole in positive (cycle_count s stim) (input_leaves s) (length stim) some w.1
    where
      positive : (n w l : ℕ) → 0 < l → l ≡ n * w → 0 < n
      positive zero w l k e = absurd (omega arith)
      positive (suc n) w l k e = omega arith

  first-lending : Lending s (count s) table names names stim 0 (input_leaves s) s out 0 (leaves (type_at s t))
  first-lending =
      lending running (before-all running (zeros-long 4096) (zeros-long 4096)) some-cycle

  abbrev input : List ℕ
  input = take (input_leaves s) stim

  abbrev part : List ℕ
  part = take (leaves (type_at s t)) out

  first-cycling : Cycling s (count s) table names names input s part
  first-cycling = first-lending.cycling

  first-copying : Copying s (count s) s
  first-copying = copying first-cycling

  first-ready : EvaluatingIn s (count s) table (entered 0 input names) 1 (word_b s 0) part (inputs s)
  first-ready = root-evaluating first-cycling refl refl

  -- where the root is a feedback
  abbrev started : List ℕ
  started = entered 1 (take (get_or table (word s (word_b s 0) 3) 0 - 0) (replicate 64 0)) (entered 0 input names)

  settling : kind_at s (word_b s 0) ≡ expression feedback
      → SettlingIn s (count s) table started 1 (word s (word_b s 0) 3) (take (get_or table (word s (word_b s 0) 3) 0 - 0) (replicate 64 0))
      (word_a s (word_b s 0)) (inputs s)
  settling e = feedback-settling first-ready e refl refl refl refl refl

  -- a chain of leaves, and a pattern
  chained : (l : ℕ) → l < count s → sort_at s l ≡ leafs → Chained s (count s) l (length (chain s l))
  chained l k e =
      record { sized = Requirements.sized passes full; written = written passes; there = k; sort = e; many = refl }

  matched : (p u : ℕ) (v : List ℕ) → p < count s → sort_at s p ≡ patterns → TypeRecord s u → pattern_fits s (alternatives s p) u ≡ true
      → length v ≡ leaves (type_at s u) → Matching s (count s) table p v
  matched p u v k e typed f l =
      record {
        type = u;
        against = record { sized = Requirements.sized passes full; passes = passes; there = k; sort = e; typed = typed };
        table = (widths passes full).1.patterns;
        fits = f;
        long = l;
      }

-- sheet T
some-input : 0 < length ones
some-input = omega arith

toggle-running
    : RunningCycles toggle (count toggle) (table toggle-formed some-input) ones (input_leaves toggle) (leaves (type_at toggle 1))
    (cycle_count toggle ones) toggle room_of_t
toggle-running = running toggle-formed some-input

toggle-accepting : Accepting toggle (count toggle) (table toggle-formed some-input)
toggle-accepting = accepting toggle-formed some-input

toggle-lending
    : Lending toggle (count toggle) (table toggle-formed some-input) names names ones 0 (input_leaves toggle) toggle room_of_t 0
    (leaves (type_at toggle 1))
toggle-lending = first-lending toggle-formed some-input

toggle-cycling
    : Cycling toggle (count toggle) (table toggle-formed some-input) names names (input toggle-formed some-input) toggle
    (part toggle-formed some-input)
toggle-cycling = first-cycling toggle-formed some-input

toggle-copying : Copying toggle (count toggle) toggle
toggle-copying = first-copying toggle-formed some-input

toggle-ready
    : EvaluatingIn toggle (count toggle) (table toggle-formed some-input) (entered 0 (input toggle-formed some-input) names) 1
    (word_b toggle 0) (part toggle-formed some-input) (inputs toggle)
toggle-ready = first-ready toggle-formed some-input

toggle-settling
    : SettlingIn toggle (count toggle) (table toggle-formed some-input) (started toggle-formed some-input) 1
    (word toggle (word_b toggle 0) 3)
    (take (get_or (table toggle-formed some-input) (word toggle (word_b toggle 0) 3) 0 - 0) (replicate 64 0))
    (word_a toggle (word_b toggle 0)) (inputs toggle)
unfolding word kind_of row_of
toggle-settling = settling toggle-formed some-input refl

toggle-chained : Chained toggle (count toggle) 4 1
unfolding count word kind_of row_of chain chain_within
toggle-chained = chained toggle-formed some-input 4 (omega arith) refl

toggle-matched : Matching toggle (count toggle) (table toggle-formed some-input) 7 (1 ∷ [])
unfolding count word kind_of row_of alternatives alternatives_within type_at type_within
toggle-matched =
    matched toggle-formed some-input 7 1 (1 ∷ []) (omega arith) refl
    (record { past = omega arith; there = omega arith; sort = refl }) refl refl

-- an expression of this kind is ready to be evaluated
abbrev ReadyOf : List ℕ → ExpressionKind → Type 0
ReadyOf s k =
    (widths : List ℕ) × (env : List ℕ) × (names : ℕ) × (rec : ℕ) × (out : List ℕ)
    × ((Γ : List ℕ) × EvaluatingIn s (count s) widths env names rec out Γ)
    × (kind_at s rec ≡ expression k)

module _ {s widths env : List ℕ} {names rec : ℕ} {out Γ : List ℕ} (r : EvaluatingIn s (count s) widths env names rec out Γ) where
  ready_of : (k : ExpressionKind) → kind_at s rec ≡ expression k → ReadyOf s k
  ready_of k e = (widths, env, names, rec, out, (Γ, r), e)

  -- and so is a part of it with the same names in scope
  ready-part : {x : ℕ} → Scope s x Γ → EvaluatingIn s (count s) widths env names x (take (get_or widths x 0 - 0) (replicate 64 0)) Γ
  ready-part c = room-ready r c refl refl

toggle-kinds
    : (kind_at toggle (word_b toggle 0) ≡ expression feedback)
    × (kind_at toggle (word_b toggle (word_b toggle 0)) ≡ expression delay)
    × (kind_at toggle (word_c toggle (word_b toggle (word_b toggle 0))) ≡ expression if_matches)
    × (kind_at toggle (word_a toggle (word_c toggle (word_b toggle (word_b toggle 0)))) ≡ expression name)
unfolding word kind_of row_of
toggle-kinds = (refl, refl, refl, refl)

toggle-feedback-ready : ReadyOf toggle feedback
toggle-feedback-ready = ready_of toggle-ready feedback toggle-kinds.0

toggle-delay-ready : ReadyOf toggle delay
toggle-delay-ready = ready_of toggle-settling.ready delay toggle-kinds.1

toggle-if-ready : ReadyOf toggle if_matches
toggle-if-ready =
    let d = toggle-settling.ready in
    ready_of (ready-part d (of-delay toggle-kinds.1 d.at_hand.scope)) if_matches toggle-kinds.2

toggle-name-ready : ReadyOf toggle name
toggle-name-ready =
    let d = toggle-settling.ready in
    let i = ready-part d (of-delay toggle-kinds.1 d.at_hand.scope) in
    ready_of (ready-part i (if_tested toggle-kinds.2 i.at_hand.scope)) name toggle-kinds.3

-- the sheet with pairs
pairs-formed : WellFormed PairWitness.sheet (1 ∷ 2 ∷ []) (replicate 2 0) (replicate 252 0) 3
unfolding type_at type_within kind_of row_of word count wrong_stimulus wrong_byte
pairs-formed = record { accepted = PairWitness.accepted; whole = refl; fitting = refl; room = refl; long = refl }

some_pair : 0 < length {A = ℕ} (1 ∷ 2 ∷ [])
some_pair = omega arith

abbrev pairs : List ℕ
pairs = PairWitness.sheet

pairs-kinds
    : (kind_at pairs (word_b pairs 0) ≡ expression let_in)
    × (kind_at pairs (word_a pairs (word_b pairs 0)) ≡ expression tuple)
    × (kind_at pairs (word_a pairs (word_a pairs (word_b pairs 0))) ≡ expression first)
    × (kind_at pairs (word_b pairs (word_a pairs (word_b pairs 0))) ≡ expression second)
unfolding word kind_of row_of
pairs-kinds = (refl, refl, refl, refl)

pairs-let-ready : ReadyOf pairs let_in
pairs-let-ready = ready_of (first-ready pairs-formed some_pair) let_in pairs-kinds.0

pairs-tuple-ready : ReadyOf pairs tuple
pairs-tuple-ready =
    let r = first-ready pairs-formed some_pair in
    ready_of (ready-part r (let_defining pairs-kinds.0 r.at_hand.scope)) tuple pairs-kinds.1

pairs-first-ready : ReadyOf pairs first
pairs-first-ready =
    let r = first-ready pairs-formed some_pair in
    let d = ready-part r (let_defining pairs-kinds.0 r.at_hand.scope) in
    ready_of (ready-part d (tuple_first pairs-kinds.1 d.at_hand.scope)) first pairs-kinds.2

pairs-second-ready : ReadyOf pairs second
pairs-second-ready =
    let r = first-ready pairs-formed some_pair in
    let d = ready-part r (let_defining pairs-kinds.0 r.at_hand.scope) in
    ready_of (ready-part d (tuple_second pairs-kinds.1 d.at_hand.scope)) second pairs-kinds.3
