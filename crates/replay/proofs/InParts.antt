-- Two parts of a shift, one after the other: the cycles and the recorded parts of the whole are
-- those of the first part and then those of the rest, and the rest's outputs are those from the
-- sheet after the first. So each cycle of the whole is compared as it is in its part.
-- Assumes nothing.
use Prim.Native.Nat.{ℕ, zero, suc, ◌+◌, ◌-◌, ◌*◌, ◌/◌, ◌%◌, ◌≤◌, ◌<◌}
use mathlib.Core.Bool.{false}
use mathlib.Core.List.{List, [], ◌∷◌, ◌++◌}
use mathlib.Core.Option.{Option, none}
use mathlib.Core.Path.{◌≡◌, refl, sym, ap, subst, ◌∙◌}
use native.Mathlib.Omega.{arith}
use native.Mathlib.Decide.{dec_lt}
use native.Mathlib.Nat.{zero-add, suc-add, mul-add-div_right, add-mul-mod_self_right, div-add-mod'}
use lib.ListN.{length, get_or, take, drop, length-append, length-drop}
use lib.Seq.{take-append-le, drop-append-le, get_or-append-add}
use borrow.Author.Tests.{le-ltb, eq-eqb}
use Rattle.picoella.specs.Language.{leaves}
use Rattle.records.specs.Words.{word_a}
use Rattle.records.specs.Rewritten.{Rewritten}
use Rattle.records.proofs.Rewritten.{same-type}
use Rattle.records.proofs.Types.{some-leaves}
use Rattle.answers.specs.Answers.{lowest}
use Rattle.answers.specs.Answers.{Done}
use Rattle.answers.proofs.Lowest.{lowest_none, lowest-none-fails}
use Rattle.verdict.specs.Verdict.{output_type, verdict}
use Rattle.answers.specs.Answers.{Accepted}
use Rattle.accepted.proofs.Calls.{accepted-output}
use Rattle.meaning.specs.Values.{AllOf}
use Rattle.meaning.specs.Undecided.{undecided_rule}
use Rattle.meaning.proofs.UndecidedRule.{rule-lawful}
use Rattle.stimulus.specs.Stimulus.{input_type, input_leaves, cycle_count, pieces, cycles, wrong_stimulus, wrong_byte}
use Rattle.stimulus.proofs.Stimulus.{stimulus-whole, cycles-typed, cycles-counted}
use Rattle.stimulus.proofs.Pieces.{pieces-length, piece-at}
use Rattle.behaviour.specs.Cycle.{after_by, output_by}
use Rattle.behaviour.specs.Afterwards.{OnlyDelays}
use Rattle.behaviour.specs.Run.{outputs_by, sheet_after, output_leaves}
use Rattle.behaviour.proofs.Run.{outputs-counted}
use Rattle.behaviour.proofs.AfterRun.{run-only-delays, run-accepted}
use Rattle.behaviour.proofs.Sheets.{only-leaves, header-same, accepted-written}
use Rattle.replay.specs.Replay.{Finding}
use Rattle.replay.specs.Replay.{Agrees, Differs}
use Rattle.replay.specs.Replay.{output_of, recorded_of, finding, replay_answer, when_agreed, final_replay}
use Rattle.replay.specs.Promises.{FormedReplay, FrontAgrees, ReplayInParts}
use Rattle.replay.proofs.Comparing.{InCycle}
use Rattle.replay.proofs.Found.{FoundUpTo, found_is, found-says}
use Rattle.replay.proofs.Answered.{formed-answer, replay_laws}

-- an element of the first of two lists
get_or-first : (xs ys : List (List ℕ)) (k : ℕ) → k < length xs → get_or (xs ++ ys) k [] ≡ get_or xs k []
get_or-first [] ys k h = absurd (omega arith)
get_or-first (x ∷ xs) ys zero h = refl
get_or-first (x ∷ xs) ys (suc k) h = get_or-first xs ys k (omega arith)

get_or-second : (xs ys : List (List ℕ)) (n k : ℕ) → length xs ≡ n → get_or (xs ++ ys) (n + k) [] ≡ get_or ys k []
get_or-second xs ys n k e = rw (← e) (get_or-append-add xs ys k [])

-- pieces of two lists, the first of whole pieces
pieces-both : (w n m : ℕ) (a b : List ℕ) → length a ≡ n * w → pieces w (n + m) (a ++ b) ≡ pieces w n a ++ pieces w m b
pieces-both w zero m [] b e = rw (zero-add m) refl
pieces-both w zero m (x ∷ a) b e = absurd (omega arith)
pieces-both w (suc n) m a b e =
    let l : w ≤ length a = omega arith in
    rw (suc-add n m, take-append-le w a b l, drop-append-le w a b l)
    (ap (λ (ps : List (List ℕ)). take w a ∷ ps) (pieces-both w n m (drop w a) b (length-drop w a ∙ omega arith)))

-- a run over two lists of inputs
outputs-both : (s : List ℕ) (is js : List (List ℕ))
    → outputs_by undecided_rule s (is ++ js) ≡ outputs_by undecided_rule s is ++ outputs_by undecided_rule (sheet_after undecided_rule s is) js
outputs-both s [] js = refl
outputs-both s (i ∷ is) js = ap (λ (os : List (List ℕ)). output_by undecided_rule s i ∷ os) (outputs-both (after_by undecided_rule s i) is js)

sheet-both : (s : List ℕ) (is js : List (List ℕ))
    → sheet_after undecided_rule s (is ++ js) ≡ sheet_after undecided_rule (sheet_after undecided_rule s is) js
sheet-both s [] js = refl
sheet-both s (i ∷ is) js = sheet-both (after_by undecided_rule s i) is js

-- what is found of the whole, from what is found of the rest after n agreeing cycles
after_cycles : ℕ → Finding → Finding
after_cycles n (Agrees m) = Agrees (n + m)
after_cycles n (Differs k l) = Differs (n + k) l

module _ (s stim rest recorded others next : List ℕ) (h : FormedReplay s stim recorded next)
    (g : FormedReplay s (stim ++ rest) (recorded ++ others) next)
  where
    abbrev w : ℕ
    w = input_leaves s

    abbrev wo : ℕ
    wo = output_leaves s

    abbrev n : ℕ
    n = cycle_count s stim

    abbrev m : ℕ
    m = cycle_count s rest

    abbrev after : List ℕ
    after = sheet_after undecided_rule s (cycles s stim)

    some-input : 0 < w
    some-input = some-leaves (input_type s)

    stim-long : length stim ≡ n * w
    stim-long = (stimulus-whole s stim h.whole).1

    both_long : length (stim ++ rest) ≡ n * w + length rest
    both_long = length-append stim rest ∙ ap (λ (x : ℕ). x + length rest) stim-long

    all-counted : cycle_count s (stim ++ rest) ≡ n + m
    all-counted = ap (λ (x : ℕ). x / w) both_long ∙ mul-add-div_right some-input n (length rest)

    rest-long : length rest ≡ m * w
    rest-long =
        let e = (stimulus-whole s (stim ++ rest) g.whole).1 in
        let c = all-counted in
        let b = both_long in
        let d : cycle_count s (stim ++ rest) * w ≡ n * w + m * w = rw c (omega arith) in
        omega arith

    all-cycles : cycles s (stim ++ rest) ≡ cycles s stim ++ cycles s rest
    unfolding cycles
    all-cycles = rw all-counted (pieces-both w n m stim rest stim-long)

    inputs_typed : AllOf (input_type s) (cycles s stim)
    inputs_typed = cycles-typed s stim h.whole h.fitting

    -- the sheet after the first part
    after-delays : OnlyDelays s after
    after-delays = run-only-delays rule-lawful h.accepted inputs_typed

    after-leaves : Rewritten s after
    after-leaves = only-leaves (accepted-written s h.accepted) after-delays

    after-input : input_type after ≡ input_type s
    after-input =
        rw (header-same (accepted-written s h.accepted) after-delays 2 (omega arith)) (same-type after-leaves (word_a s 0))

    after-verdict : verdict after ≡ Accepted (output_type s)
    after-verdict = run-accepted rule-lawful s h.accepted inputs_typed ∙ h.accepted

    after-type : output_type s ≡ output_type after
    after-type = accepted-output after (output_type s) after-verdict

    after-output : output_leaves after ≡ wo
    after-output = rw (← after-type) (ap leaves (same-type after-leaves (output_type s)))

    after-width : input_leaves after ≡ w
    after-width = ap leaves after-input

    after-cycles : cycles after rest ≡ cycles s rest
    unfolding cycles
    after-cycles = rw after-width refl

    after-counted : cycle_count after rest ≡ m
    after-counted = rw after-width refl

    -- the rest is formed
    rest-whole : wrong_stimulus after rest ≡ false
    unfolding wrong_stimulus
    rest-whole =
        let f = (stimulus-whole s (stim ++ rest) g.whole).0 in
        let b = both_long in
        let d = div-add-mod' (length rest) w in
        let l = rest-long in
        let z : length rest % w ≡ 0 = omega arith in
        rw (after-width, le-ltb 65535 (length rest) (omega arith), eq-eqb (length rest % w) 0 z) refl

    byte-same : (i : ℕ) → wrong_byte after rest i ≡ wrong_byte s (stim ++ rest) (length stim + i)
    unfolding wrong_byte
    byte-same i =
        let e : length stim + i ≡ i + n * w = let l = stim-long in omega arith in
        let r : (length stim + i) % w ≡ i % w = rw e (add-mul-mod_self_right i n w) in
        rw (after-width, after-input, r, get_or-append-add stim rest i 0) refl

    rest-fitting : lowest (wrong_byte after rest) (length rest) ≡ none
    rest-fitting =
        lowest_none (wrong_byte after rest) (length rest)
        (λ i b. byte-same i
        ∙ lowest-none-fails (wrong_byte s (stim ++ rest)) (length (stim ++ rest)) g.fitting (length stim + i)
        (let l = length-append stim rest in omega arith))

    recorded-whole : length recorded ≡ n * wo
    recorded-whole = h.recorded_long

    others-long : length others ≡ m * wo
    others-long =
        let e = g.recorded_long in
        let a = length-append recorded others in
        let r = recorded-whole in
        let d : cycle_count s (stim ++ rest) * wo ≡ n * wo + m * wo = rw all-counted (omega arith) in
        omega arith

    rest-formed : FormedReplay after rest others next
    rest-formed =
        record {
          accepted = after-verdict ∙ ap Accepted after-type;
          whole = rest-whole;
          fitting = rest-fitting;
          recorded_long = others-long ∙ rw (after-counted, after-output) refl;
          next_long = g.next_long ∙ sym after-delays.length;
        }

    -- each cycle is compared as in its part
    all-outputs : outputs_by undecided_rule s (cycles s (stim ++ rest))
        ≡ outputs_by undecided_rule s (cycles s stim) ++ outputs_by undecided_rule after (cycles after rest)
    all-outputs = rw (all-cycles, after-cycles) (outputs-both s (cycles s stim) (cycles s rest))

    first_counted : length (outputs_by undecided_rule s (cycles s stim)) ≡ n
    first_counted = outputs-counted s (cycles s stim) ∙ cycles-counted s stim

    part_at : (k : ℕ) → k < n + m
        → recorded_of s (recorded ++ others) k ≡ get_or (pieces wo n recorded ++ pieces wo m others) k []
    part_at k b =
        sym (piece-at wo (n + m) (recorded ++ others) k b)
        ∙ ap (λ (ps : List (List ℕ)). get_or ps k []) (pieces-both wo n m recorded others recorded-whole)

    module _ (j : ℕ) (b : j < n) where
      front-output : output_of s (stim ++ rest) j ≡ output_of s stim j
      front-output =
          rw all-outputs
          (get_or-first (outputs_by undecided_rule s (cycles s stim)) (outputs_by undecided_rule after (cycles after rest)) j
          (let c = first_counted in omega arith))

      front-recorded : recorded_of s (recorded ++ others) j ≡ recorded_of s recorded j
      front-recorded =
          part_at j (omega arith)
          ∙ get_or-first (pieces wo n recorded) (pieces wo m others) j (let l = pieces-length wo n recorded in omega arith)
          ∙ piece-at wo n recorded j b

      front-compared : {o : Option ℕ} → InCycle s stim recorded j o → InCycle s (stim ++ rest) (recorded ++ others) j o
      front-compared e = rw (front-output, front-recorded) e

      compared-front : {o : Option ℕ} → InCycle s (stim ++ rest) (recorded ++ others) j o → InCycle s stim recorded j o
      compared-front e = rw (front-output, front-recorded) at e

    module _ (j : ℕ) (b : j < m) where
      rest-output : output_of s (stim ++ rest) (n + j) ≡ output_of after rest j
      rest-output =
          rw all-outputs
          (get_or-second (outputs_by undecided_rule s (cycles s stim)) (outputs_by undecided_rule after (cycles after rest)) n j first_counted)

      rest-recorded : recorded_of s (recorded ++ others) (n + j) ≡ recorded_of after others j
      rest-recorded =
          part_at (n + j) (omega arith)
          ∙ get_or-second (pieces wo n recorded) (pieces wo m others) n j (pieces-length wo n recorded)
          ∙ piece-at wo m others j b
          ∙ rw after-output refl

      rest-compared : {o : Option ℕ} → InCycle after rest others j o → InCycle s (stim ++ rest) (recorded ++ others) (n + j) o
      rest-compared e = rw (rest-output, rest-recorded, ← after-output) e

    -- of a whole that agrees the first part agrees
    front-found : (all : ℕ) → finding s (stim ++ rest) (recorded ++ others) ≡ Agrees all → finding s stim recorded ≡ Agrees n
    front-found all e =
        let f = found-says s (stim ++ rest) (recorded ++ others) (Agrees all) e in
        let c = all-counted in
        found_is s stim recorded (Agrees n) (refl, λ j b. compared-front j b (f.1 j (omega arith)))

    -- where the first part agrees, the whole is found as the rest is
    module _ (first : (j : ℕ) → j < n → InCycle s stim recorded j none) where
      up_to : (k : ℕ) → k ≤ m → ((j : ℕ) → j < k → InCycle after rest others j none)
          → (j : ℕ) → j < n + k → InCycle s (stim ++ rest) (recorded ++ others) j none
      up_to k b f j c = go (dec_lt j n)
        where
          go : Dec (j < n) → InCycle s (stim ++ rest) (recorded ++ others) j none
          go (yes d) = front-compared j d (first j d)
          go (no d) =
              let e : n + (j - n) ≡ j = omega arith in
              subst (λ (i : ℕ). InCycle s (stim ++ rest) (recorded ++ others) i none) e
              (rest-compared (j - n) (omega arith) (f (j - n) (omega arith)))

      all_found : (f : Finding) → FoundUpTo after rest others (cycle_count after rest) f
          → finding s (stim ++ rest) (recorded ++ others) ≡ after_cycles n f
      unfolding after_cycles
      all_found (Agrees k) q =
          let c = all-counted in
          let a = after-counted in
          let e : k ≡ m = q.0 ∙ a in
          found_is s (stim ++ rest) (recorded ++ others) (Agrees (n + k))
          (rw (e, c) refl, λ j b. up_to m (omega arith) (λ i d. q.1 i (omega arith)) j (omega arith))
      all_found (Differs k l) q =
          let c = all-counted in
          let a = after-counted in
          let b : k < m = let x = q.0 in omega arith in
          found_is s (stim ++ rest) (recorded ++ others) (Differs (n + k) l)
          (omega arith, up_to k (omega arith) q.1, rest-compared k b q.2)

      whole-found : finding s (stim ++ rest) (recorded ++ others) ≡ after_cycles n (finding after rest others)
      whole-found = all_found (finding after rest others) (found-says after rest others (finding after rest others) refl)

    last-same : sheet_after undecided_rule after (cycles after rest) ≡ sheet_after undecided_rule s (cycles s (stim ++ rest))
    last-same = rw (after-cycles, all-cycles) (sym (sheet-both s (cycles s stim) (cycles s rest)))

-- each finding of the rest is that of the whole, n cycles later
module _ (n : ℕ) (f whole : Finding) (e : whole ≡ after_cycles n f) where
  agrees-later : (m : ℕ) → f ≡ Agrees m → whole ≡ Agrees (n + m)
  unfolding after_cycles
  agrees-later m q = e ∙ ap (after_cycles n) q

  differs-later : (k l : ℕ) → f ≡ Differs k l → whole ≡ Differs (n + k) l
  unfolding after_cycles
  differs-later k l q = e ∙ ap (after_cycles n) q

agrees-earlier : (n : ℕ) (f : Finding) (m : ℕ) → after_cycles n f ≡ Agrees (n + m) → f ≡ Agrees m
unfolding after_cycles
agrees-earlier n (Agrees k) m q = let z : n + k ≡ n + m = cc in let y : k ≡ m = omega arith in ap Agrees y
agrees-earlier n (Differs k l) m q = let z : ◌≡◌ {A = ℕ} 0 1 = cc in absurd (omega arith)

differs-earlier : (n : ℕ) (f : Finding) (k l : ℕ) → after_cycles n f ≡ Differs (n + k) l → f ≡ Differs k l
unfolding after_cycles
differs-earlier n (Agrees m) k l q = let z : ◌≡◌ {A = ℕ} 0 1 = cc in absurd (omega arith)
differs-earlier n (Differs j i) k l q =
    let z : n + j ≡ n + k = cc in
    let y : j ≡ k = omega arith in
    let x : i ≡ l = cc in
    rw (y, x) refl

-- what is left of the two
left-same : (n : ℕ) (f whole : Finding) → whole ≡ after_cycles n f → (new other next : List ℕ) → new ≡ other
    → when_agreed f new next ≡ when_agreed whole other next
unfolding after_cycles
left-same n (Agrees m) whole e new other next q = rw (e, q) refl
left-same n (Differs k l) whole e new other next q = rw e refl

pub front_agrees : FrontAgrees
front_agrees s stim rest recorded others next n a b e =
    let h = (((replay_laws s stim recorded next).lowest_first (Done 0)).0 a).0 in
    let g = (((replay_laws s (stim ++ rest) (recorded ++ others) next).lowest_first (Done 0)).0 b).0 in
    front-found s stim rest recorded others next h g n e

pub in_parts : ReplayInParts
unfolding final_replay
in_parts s stim rest recorded others next n a e b =
    let h = (((replay_laws s stim recorded next).lowest_first (Done 0)).0 a).0 in
    let g = (((replay_laws s (stim ++ rest) (recorded ++ others) next).lowest_first (Done 0)).0 b).0 in
    let p = found-says s stim recorded (Agrees n) e in
    let c : n ≡ cycle_count s stim = p.0 in
    let after = sheet_after undecided_rule s (cycles s stim) in
    let d : replay_answer after rest others next ≡ Done 0 = formed-answer after rest others next (rest-formed s stim rest recorded others next h g) in
    let w : finding s (stim ++ rest) (recorded ++ others) ≡ after_cycles n (finding after rest others) = rw c (whole-found s stim rest recorded others next h g p.1) in
    rw (a, e)
    (record {
      rest_done = d;
      agrees_where = λ m. (
        agrees-later n (finding after rest others) (finding s (stim ++ rest) (recorded ++ others)) w m,
        λ q. agrees-earlier n (finding after rest others) m (sym w ∙ q),
      );
      differs_where = λ k l. (
        differs-later n (finding after rest others) (finding s (stim ++ rest) (recorded ++ others)) w k l,
        λ q. differs-earlier n (finding after rest others) k l (sym w ∙ q),
      );
      same_next =
          rw (d, b)
          (left-same n (finding after rest others) (finding s (stim ++ rest) (recorded ++ others)) w
          (sheet_after undecided_rule after (cycles after rest)) (sheet_after undecided_rule s (cycles s (stim ++ rest))) next (last-same s stim rest recorded others next h g));
    })
