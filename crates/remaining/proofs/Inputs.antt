-- The sets of an input, those of the root, and how many are in each.
-- Assumes nothing.
use Prim.Native.Nat.{ℕ, ◌+◌, ◌-◌, ◌*◌, ◌≤◌, ◌<◌}
use mathlib.Core.List.{List, [], ◌∷◌, ◌++◌, map}
use mathlib.Core.Path.{◌≡◌, refl, sym, ap, ap₂, ◌∙◌}
use native.Mathlib.Omega.{arith}
use lib.ListN.{length, get_or, take, drop, replicate, length-map}
use Rattle.picoella.specs.Language.{bounds, leaves}
use Rattle.records.specs.Words.{word, word_a, word_b}
use Rattle.records.specs.Trees.{type_at, TypeRecord, circuit}
use Rattle.records.specs.Written.{Written}
use Rattle.records.proofs.Types.{few-leaves}
use Rattle.verdict.specs.Scopes.{root, inputs}
use Rattle.verdict.specs.Verdict.{output_type}
use Rattle.accepted.specs.Accepting.{Accepting}
use Rattle.accepted.proofs.Laws.{written, types-fit, accepted-by-types, input-context}
use Rattle.accepted.proofs.Calls.{accepted-output}
use Rattle.accepted.proofs.Small.{output-typed}
use Rattle.stimulus.specs.Stimulus.{input_type}
use Rattle.meaning.proofs.Order.{value-length, bounds-length}
use Rattle.behaviour.specs.Terms.{circuit_term}
use Rattle.values.specs.Slots.{slot, entered, frames}
use Rattle.evaluator.proofs.Frames.{back-part, back_long, lent-long, zeros-long, entered-slot, entered-long}
use Rattle.possibilities.specs.Sets.{ConstructorSet, members, set_word, set_words}
use Rattle.possibilities.proofs.SetWords.{word-members}
use Rattle.possible.specs.Possible.{possible_sets, possible_counts}
use Rattle.possible.proofs.FilledTerms.{positive-bounds}
use Rattle.possible.proofs.WithoutFeedback.{flat-few}
use Rattle.sets.specs.Words.{ones_of}
use Rattle.estimator.specs.Estimating.{SetsFilling, leaf_words, EstimatingIn, Estimated, sets_at, no_lengths, more_lengths}
use Rattle.estimator.proofs.SetHeld.{bounds-few, held-leaf-small}
use Rattle.estimator.proofs.SetLeaves.{words-of-leaves}
use Rattle.estimator.proofs.SetsAt.{of-type-length}
use Rattle.remaining.specs.Remaining.{Counting, InputSets, input_sets}

module _ {s : List ℕ} {n : ℕ} {W : List ℕ} (g : Accepting s n W) where
  w : Written s
  w = written ((accepted-by-types s g.type).0 g.accepted).0

  input-record : TypeRecord s (word_a s 0)
  input-record = (input-context ((accepted-by-types s g.type).0 g.accepted).0).0

  pub header-word : {k : ℕ} → k < 6 → (0 < n) × (k < 6)
  header-word h = (g.sized.some, h)

  input-few : leaves (input_type s) ≤ 64
  input-few =
      few-leaves (types-fit ((accepted-by-types s g.type).0 g.accepted).0) (word_a s 0) input-record.there input-record.sort

module _ {s : List ℕ} {n : ℕ} {W input value : List ℕ} (g : InputSets s n W input value) {R : List ℕ} (e_r : R ≡ replicate 64 0) where
  input-long : length input ≡ leaves (input_type s)
  input-long = value-length (input_type s) g.typed

  pub input-fits : length input ≤ length R
  input-fits = let l : length R ≡ 64 = rw e_r (zeros-long 64) in let f = input-few g.accepting in let i = input-long in omega arith

  module _ {t : ℕ} (et : t ≡ word s 0 2) where
    pub input-bounds : Accepting s n W × TypeRecord s t × (length (take (length input - 0) R) ≡ leaves (type_at s t))
    input-bounds =
        (g.accepting, rw et (input-record g.accepting), rw et (lent-long (length input) R input-fits ∙ input-long))

    module _ {o : List ℕ} (eo : o ≡ bounds (type_at s t)) where
      counts_are : o ≡ bounds (input_type s)
      counts_are = eo ∙ ap (λ (u : ℕ). bounds (type_at s u)) et

      counts-long : length o ≡ length input
      counts-long = ap length counts_are ∙ bounds-length (input_type s) ∙ sym input-long

      counts-back : take (length input - 0) (o ++ drop (length input - 0) R) ≡ o
      counts-back = back-part R o counts-long input-fits

      pub input-inside : length input ≤ length (o ++ drop (length input - 0) R)
      input-inside = let l = back_long R o counts-long input-fits in let f = input-fits in omega arith

      pub input-filling : SetsFilling (take (length input - 0) (o ++ drop (length input - 0) R)) input value
      input-filling =
          let c = counts-long in
          let v = g.room in
          let f = input-few g.accepting in
          let i = input-long in
          rw counts-back
          (record {
            as_many = omega arith;
            room = omega arith;
            few = omega arith;
            small = λ k h. rw counts_are
                (held-leaf-small (positive-bounds (w g.accepting) (word_a s 0) (input-record g.accepting))
                (bounds-few (w g.accepting) (flat-few s g.for_sets) (word_a s 0) (input-record g.accepting)) g.typed k (rw counts_are at h));
          })

      pub input-done : {value' : List ℕ} → value' ≡ leaf_words (take (length input - 0) (o ++ drop (length input - 0) R)) input
          → value' ≡ set_words (input_sets s input)
      input-done h = h ∙ ap (λ (l : List ℕ). leaf_words l input) (counts-back ∙ counts_are) ∙ words-of-leaves g.typed

-- the root
module _ {s : List ℕ} {n : ℕ} {W input out : List ℕ} (g : Counting s n W input out) where
  whole-input : length input ≡ leaves (input_type s)
  whole-input = value-length (input_type s) g.typed

  pub starting : (value : List ℕ) → length value ≡ length input → InputSets s n W input value
  starting value e = record { accepting = g.accepting; for_sets = g.for_sets; typed = g.typed; room = e }

  module _ {R : List ℕ} (e_r : R ≡ replicate 64 0) where
    pub start_fits : length input ≤ length R
    start_fits =
        let l : length R ≡ 64 = rw e_r (zeros-long 64) in let f = input-few g.accepting in let i = whole-input in omega arith

    pub start-lent : InputSets s n W input (take (length input - 0) R)
    start-lent = starting (take (length input - 0) R) (lent-long (length input) R start_fits)

    module _ {o : List ℕ} (eo : o ≡ set_words (input_sets s input)) where
      words_long : length o ≡ length input
      words_long =
          ap length eo ∙ length-map (input_sets s input) set_word ∙ of-type-length (input_type s) input ∙ sym whole-input

      pub start-inside : length input ≤ length (o ++ drop (length input - 0) R)
      start-inside = let l = back_long R o words_long start_fits in let f = start_fits in omega arith

      abbrev value : List ℕ
      value = take (length input - 0) (o ++ drop (length input - 0) R)

      value-is : value ≡ o
      value-is = back-part R o words_long start_fits

      module _ (env : List ℕ) (wide : length env ≡ 4096) where
        value-few : length value ≤ 64
        value-few =
            let a = ap length value-is in let b = words_long in let f = input-few g.accepting in let i = whole-input in omega arith

        pub input-slot-there : (64 * 0 + length value ≤ length env) × (length env ≤ 4096)
        input-slot-there = let f = value-few in (omega arith, omega arith)

        module _ {env₁ : List ℕ} (h : env₁ ≡ entered 0 value env) where
          entered-is : env₁ ≡ entered 0 o env
          entered-is = h ∙ ap (λ (l : List ℕ). entered 0 l env) value-is

          in-slot : slot 0 (leaves (input_type s)) env₁ ≡ set_words (input_sets s input)
          in-slot =
              ap (λ (k : ℕ). slot 0 k env₁) (sym (words_long ∙ whole-input))
              ∙ ap (slot 0 (length o)) entered-is
              ∙ entered-slot 0 o env (omega arith) ∙ eo

          framed : frames s (inputs s) env₁ ≡ map set_words (input_sets s input ∷ [])
          framed = ap (λ (l : List ℕ). l ∷ []) in-slot

          pub root-sets-ready : {x : ℕ} → x ≡ word s 0 3 → EstimatingIn s n W env₁ 1 x out (inputs s) (input_sets s input ∷ [])
          root-sets-ready ex =
              record {
                at_hand = record {
                  sized = g.accepting.sized;
                  type = g.type;
                  accepted = g.accepted;
                  table = g.accepting.table;
                  scope = rw ex root;
                  many = refl;
                  wide = rw h (entered-long 0 value env (omega arith) input-slot-there.0 ∙ wide);
                  room = g.room ∙ rw ex (ap (λ (u : ℕ). leaves (type_at s u)) (accepted-output s g.type g.accepted) ∙ own-width);
                };
                for_sets = g.for_sets;
                sets = framed;
                lengths = more_lengths (of-type-length (input_type s) input) no_lengths;
              }
            where
              own-width : leaves (type_at s (output_type s)) ≡ get_or W (word_b s 0) 0
              own-width = sym (unfold circuit in g.accepting.table.expressions root)

          pub root-done : {x : ℕ} → x ≡ word s 0 3 → {env₂ out' : List ℕ} → Estimated s n W env₁ 1 x out env₂ out'
              → out' ≡ set_words (possible_sets s input)
          unfolding possible_sets sets_at circuit_term circuit
          root-done ex p = (p.done (inputs s) (input_sets s input ∷ []) (root-sets-ready ex)).value ∙ rw ex refl

-- how many
counted : (Ss : List ConstructorSet) → ones_of (set_words Ss) ≡ map members Ss
counted [] = refl
counted (S ∷ Ss) = ap₂ ◌∷◌ (word-members S) (counted Ss)

module _ {s : List ℕ} {n : ℕ} {W input out : List ℕ} (g : Counting s n W input out) {R : List ℕ} (e_r : R ≡ replicate 64 0) where
  out-few : length out ≤ 64
  out-few =
      let p = ((accepted-by-types s g.type).0 g.accepted).0 in
      let t = output-typed g.accepted in
      let f = few-leaves (types-fit p) g.type t.there t.sort in
      let r = g.room in
      omega arith

  pub counts-room-fits : length out ≤ length R
  counts-room-fits = let l : length R ≡ 64 = rw e_r (zeros-long 64) in let f = out-few in omega arith

  pub counts-lent : Counting s n W input (take (length out - 0) R)
  counts-lent =
      record {
        accepting = g.accepting;
        type = g.type;
        accepted = g.accepted;
        for_sets = g.for_sets;
        typed = g.typed;
        room = lent-long (length out) R counts-room-fits ∙ g.room;
      }

  module _ {o : List ℕ} (eo : o ≡ set_words (possible_sets s input)) (lo : length o ≡ length (take (length out - 0) R)) where
    root-long : length o ≡ length out
    root-long = lo ∙ lent-long (length out) R counts-room-fits

    pub root-inside : length out ≤ length (o ++ drop (length out - 0) R)
    root-inside = let l = back_long R o root-long counts-room-fits in let f = counts-room-fits in omega arith

    root-back : take (length out - 0) (o ++ drop (length out - 0) R) ≡ o
    root-back = back-part R o root-long counts-room-fits

    pub counts-asked : (length (take (length out - 0) (o ++ drop (length out - 0) R)) ≡ length out) × (length out ≤ 64)
    counts-asked = (ap length root-back ∙ root-long, out-few)

    pub counts-done : {out' : List ℕ} → out' ≡ ones_of (take (length out - 0) (o ++ drop (length out - 0) R)) → out' ≡ possible_counts s input
    unfolding possible_counts
    counts-done h = h ∙ ap ones_of (root-back ∙ eo) ∙ counted (possible_sets s input)
