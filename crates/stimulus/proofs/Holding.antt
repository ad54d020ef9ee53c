-- The checks of a stimulus: the counts of the input's leaves stand in front of some room, what is found among the bytes by them is
-- what code 9 asks for, and each way out is the answer of the two checks.
-- Assumes nothing.
use Prim.Native.Nat.{ℕ, ◌*◌, ◌/◌, ◌%◌, ◌≤◌, ◌<◌}
use mathlib.Core.Bool.{Bool, true, false}
use mathlib.Core.List.{List, ◌++◌}
use mathlib.Core.Option.{none, some}
use mathlib.Core.Path.{◌≡◌, refl, sym, ap, ◌∙◌}
use native.Mathlib.Omega.{arith}
use native.Mathlib.Nat.{mul-le-mul_left}
use lib.Dec.{ltb}
use lib.ListN.{length, get_or, take, drop, replicate, length-append}
use lib.Seq.{take_at, length-take-le}
use Rattle.picoella.specs.Language.{bounds, leaves}
use Rattle.records.specs.Words.{word, word_a}
use Rattle.records.specs.Trees.{type_at, TypeRecord}
use Rattle.records.proofs.Types.{few-leaves, some-leaves, leaves-of-bounds}
use Rattle.records.proofs.TypeRecords.{input-type}
use Rattle.answers.specs.Answers.{lowest}
use Rattle.answers.specs.Searches.{found}
use Rattle.std.specs.Prelude.{Option, Some, None}
use Rattle.answers.specs.Answers.{Done, Refused}
use Rattle.answers.proofs.Lowest.{lowest-some-passes}
use Rattle.accepted.specs.Accepting.{Accepting}
use Rattle.accepted.proofs.Laws.{written, types-fit, exact}
use Rattle.stimulus.specs.Stimulus.{input_leaves, cycle_count, wrong_stimulus, wrong_byte}
use Rattle.stimulus.specs.Tests.{not_whole, above}
use Rattle.stimulus.specs.Holding.{Held}
use Rattle.stimulus.proofs.Stimulus.{stimulus-whole}

-- the counts of a type's leaves, in some room
module _ {s : List ℕ} {n : ℕ} {W : List ℕ} (g : Accepting s n W) {t w : ℕ} (u : TypeRecord s t) (e : w ≡ leaves (type_at s t))
    {R : List ℕ} (e_r : R ≡ replicate 64 0)
  where
    room-long : length R ≡ 64
    room-long = rw e_r refl

    pub counts-fit : w ≤ length R
    counts-fit =
        let l = room-long in
        let f = few-leaves (types-fit ((exact s g.type).0 g.accepted).0) t u.there u.sort in
        omega arith

    pub counts-taken : w ≡ length (take w R)
    counts-taken = sym (length-take-le w R counts-fit)

    pub counts-long : length (take w R) ≡ leaves (type_at s t)
    counts-long = let h = counts-fit in length-take-le w R (omega arith) ∙ omega arith

    module _ {o : List ℕ} (eo : o ≡ bounds (type_at s t)) where
      wide : length o ≡ w
      wide = rw eo (sym (leaves-of-bounds (type_at s t)) ∙ sym e)

      pub counts-inside : w ≤ length (o ++ drop w R)
      counts-inside = let l = length-append o (drop w R) in let k = wide in omega arith

      pub counts-ready : w ≡ length (take w (o ++ drop w R))
      counts-ready = sym (length-take-le w (o ++ drop w R) counts-inside)

      front : take w (o ++ drop w R) ≡ bounds (type_at s t)
      front = take_at o (drop w R) w (let k = wide in omega arith) ∙ eo

      pub some-counts : 0 < length (take w (o ++ drop w R))
      some-counts =
          let l = ap length front in
          let m = leaves-of-bounds (type_at s t) in
          let k = some-leaves (type_at s t) in
          omega arith

      pub counts-searched : (stim : List ℕ) (r : Option ℕ)
          → found r ≡ lowest (above (take w (o ++ drop w R)) stim) (length stim)
          → found r ≡ lowest (above (bounds (type_at s t)) stim) (length stim)
      counts-searched stim r f = rw front at f

module _ {s : List ℕ} {n : ℕ} {W : List ℕ} (g : Accepting s n W) {a : ℕ} (ea : a ≡ word s 0 2) where
  pub input-typed : TypeRecord s a
  input-typed = rw ea (input-type (written ((exact s g.type).0 g.accepted).0))

  pub input-there : a < 4096
  input-there =
      let c = g.sized.counted in let f = g.sized.few in let h = input-typed.there in omega arith

  pub input-takes : get_or W a 0 ≡ leaves (type_at s a)
  input-takes = g.table.types a input-typed

  pub input-few : get_or W a 0 ≤ 64
  input-few =
      let f = few-leaves (types-fit ((exact s g.type).0 g.accepted).0) a input-typed.there input-typed.sort in
      let e = input-takes in
      omega arith

  pub takes : get_or W a 0 ≡ input_leaves s
  takes = input-takes ∙ rw ea refl

  pub input-some : 0 < get_or W a 0
  input-some = let s = some-leaves (type_at s a) in let e = input-takes in omega arith

  module _ (stim : List ℕ) where
    stimulus-test : not_whole (length stim) (get_or W a 0) ≡ wrong_stimulus s stim
    unfolding wrong_stimulus
    stimulus-test = rw takes refl

    pub held-by-length : (b : Bool) → b ≡ not_whole (length stim) (get_or W a 0) → b ≡ true → Held s stim (Refused 8 0)
    held-by-length b e q =
        let z : wrong_stimulus s stim ≡ true = sym stimulus-test ∙ sym e ∙ q in
        record { answered = rw z refl; numbered = omega arith; small = omega arith }

    module _ (b : Bool) (e : b ≡ not_whole (length stim) (get_or W a 0)) (q : b ≡ false) where
      whole : wrong_stimulus s stim ≡ false
      whole = sym stimulus-test ∙ sym e ∙ q

      few_bytes : length stim ≤ 65535
      few_bytes = (stimulus-whole s stim whole).0

      module _ (r : Option ℕ) (f : found r ≡ lowest (above (bounds (type_at s a)) stim) (length stim)) where
        byte-test : found r ≡ lowest (wrong_byte s stim) (length stim)
        unfolding wrong_byte
        byte-test =
            let τ = type_at s (word_a s 0) in
            let h : found r ≡ lowest (above (bounds τ) stim) (length stim) = rw ea at f in
            h
            ∙ ap (λ (w : ℕ). lowest (λ i. ltb (get_or (bounds τ) (i % w) 0) (get_or stim i 0)) (length stim)) (sym (leaves-of-bounds τ))

        pub byte_small : (i : ℕ) → r ≡ Some i → i ≤ 65535
        byte_small i z =
            let l = lowest-some-passes (wrong_byte s stim) (length stim) i (sym byte-test ∙ ap found z) in
            let m = few_bytes in
            omega (arith, l.0)

        pub held-by-byte : (i : ℕ) → r ≡ Some i → Held s stim (Refused 9 i)
        held-by-byte i z =
            let l : lowest (wrong_byte s stim) (length stim) ≡ some i = sym byte-test ∙ ap found z in
            record { answered = rw (whole, l) refl; numbered = omega arith; small = byte_small i z }

        pub held_whole : r ≡ None → Held s stim (Done (length stim / get_or W a 0))
        held_whole z =
            let l : lowest (wrong_byte s stim) (length stim) ≡ none = sym byte-test ∙ ap found z in
            let c : length stim / get_or W a 0 ≡ cycle_count s stim = rw takes refl in
            let some = input-some in
            let t = takes in
            let h : length stim ≡ cycle_count s stim * input_leaves s = (stimulus-whole s stim whole).1 in
            let m : cycle_count s stim * 1 ≤ cycle_count s stim * input_leaves s = mul-le-mul_left (cycle_count s stim) (omega arith) in
            let few = few_bytes in
            record { answered = rw (whole, l, c) refl; numbered = omega arith; small = rw c (omega arith) }
