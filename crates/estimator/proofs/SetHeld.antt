-- The leaves of a constant, and those that a delay holds: their type, their chain, and that each is at most its count, of which there are
-- 1 to 64.
-- Assumes nothing.
use Prim.Native.Nat.{ℕ, zero, suc, ◌-◌, ◌≤◌, ◌<◌}
use mathlib.Core.List.{List, [], ◌∷◌, ◌++◌}
use mathlib.Core.Path.{◌≡◌, refl, sym, ap, ap₂, ◌∙◌}
use native.Mathlib.Omega.{arith}
use lib.ListN.{length, get_or, take, drop, replicate, length-map}
use Rattle.picoella.specs.Language.{bounds, leaves, Within, within_none, within_leaf, OfType}
use Rattle.records.specs.Words.{word, word_a, word_b, count}
use mathlib.Core.Bool.{true, false}
use Rattle.possible.proofs.WithoutFeedback.{no-feedback-at}
use Rattle.records.specs.Kinds.{Kind, kind_of, feedback, expression, constant, delay, leafs, TypeKind, flat, pair, types}
use Rattle.records.specs.Kinds as Kinds
use Rattle.records.specs.Says.{kind_at, sort_at}
use Rattle.records.specs.Trees.{type_at, TypeRecord, tree_at, chain, type_record_of}
use Rattle.records.specs.Decoding.{leaf_values}
use Rattle.records.specs.Written.{Written}
use Rattle.records.proofs.Table.{ask_of_kind, kind-of-sort}
use Rattle.records.proofs.Asked.{part-of-kind}
use Rattle.records.proofs.Types.{pair_parts, flat-type, pair-type}
use Rattle.records.proofs.TypeRecords.{first_part, second-part, type-word}
use Rattle.records.proofs.Trees.{tree-of}
use Rattle.accepted.specs.Accepting.{Accepting}
use Rattle.accepted.proofs.Laws.{within-fits}
use Rattle.accepted.proofs.Scopes.{judged-by-kind}
use Rattle.meaning.proofs.Order.{value-length, bounds-length}
use Rattle.values.specs.Chained.{Chained}
use Rattle.evaluator.proofs.Frames.{back-part, back_long, lent-long, zeros-long}
use Rattle.evaluator.proofs.Readiness.{ready-passes, ready-written, ready-there, in-circuit, room-few, entry-is}
use Rattle.possibilities.specs.Sets.{ConstructorSet}
use Rattle.possibilities.specs.Filling.{Positive, positive_none, positive_leaf}
use Rattle.possible.proofs.FilledTerms.{positive-bounds}
use Rattle.sets.specs.SetMatchings.{FewConstructors}
use Rattle.estimator.specs.Estimating.{EstimatingIn, EstimatedIn, HoldsLeaves, holds_constant, holds_delay, SetsFilling, leaf_words}
use Rattle.estimator.proofs.SetsAt.{leaves-words}
use Rattle.estimator.proofs.SetLeaves.{words-of-leaves}
use Rattle.estimator.proofs.SetReadiness.{few-for-sets}

-- each count is at most 64
abbrev pub AllFew : List ℕ → Type 0
AllFew [] = Unit {0}
AllFew (n ∷ ns) = (n ≤ 64) × AllFew ns

few-both : (ns ms : List ℕ) → AllFew ns → AllFew ms → AllFew (ns ++ ms)
few-both [] ms h k = k
few-both (n ∷ ns) ms h k = (h.0, few-both ns ms h.1 k)

pub bounds-few : {s : List ℕ} → Written s → FewConstructors s → (t : ℕ) → TypeRecord s t → AllFew (bounds (type_at s t))
bounds-few {s} w few t u = go (suc t) t (omega arith) u
  where
    go : (n t : ℕ) → t < n → TypeRecord s t → AllFew (bounds (type_at s t))
    go zero t h u = absurd (omega arith)
    go (suc n) t h u = let k = kind-of-sort types (kind_at s t) u.sort in by_kind k.0 k.1 (go n)
      where
        by_kind : (k : TypeKind) → kind_at s t ≡ Kinds.type_of k
            → ((a : ℕ) → a < n → TypeRecord s a → AllFew (bounds (type_at s a))) → AllFew (bounds (type_at s t))
        by_kind flat k lower = rw (flat-type s t k) (few t u.there k, tt)
        by_kind pair k lower =
            let p = pair_parts w t u.there k in
            rw (pair-type w t u.there k)
            (few-both (bounds (type_at s (word_a s t))) (bounds (type_at s (word_b s t)))
            (lower (word_a s t) (omega arith) (first_part w t u.there k))
            (lower (word_b s t) (omega arith) (second-part w t u.there k)))

pub held-leaf-small : {b v : List ℕ} → Positive b → AllFew b → Within b v → (i : ℕ) → i < length b
    → (1 ≤ get_or b i 0) × (get_or b i 0 ≤ 64) × (get_or v i 0 ≤ get_or b i 0)
held-leaf-small positive_none f within_none i h = absurd (omega arith)
held-leaf-small (positive_leaf p q) f (within_leaf k r) zero h = (p, f.0, k)
held-leaf-small (positive_leaf p q) f (within_leaf k r) (suc i) h = held-leaf-small q f.1 r i (omega arith)

module _ {s : List ℕ} {n : ℕ} {W env : List ℕ} {names rec : ℕ} {out Γ : List ℕ} {ρ : List (List ConstructorSet)}
    (r : EstimatingIn s n W env names rec out Γ ρ) (k : Kind) (holds : HoldsLeaves k) (e : kind_at s rec ≡ k) where
  w : Written s
  w = ready-written r.at_hand

  b : rec < count s
  b = ready-there r.at_hand

  abbrev t : ℕ
  t = word_a s rec

  typed : TypeRecord s t
  typed = go k holds e
    where
      go : (k : Kind) → HoldsLeaves k → kind_at s rec ≡ k → TypeRecord s t
      go k holds_constant e = type-word w rec (expression constant) b e 2 refl (unfold ask_of_kind in refl)
      go k holds_delay e = type-word w rec (expression delay) b e 2 refl (unfold ask_of_kind in refl)

  own-type : type_record_of s Γ (tree_at s rec) ≡ t
  own-type = go k holds e
    where
      go : (k : Kind) → HoldsLeaves k → kind_at s rec ≡ k → type_record_of s Γ (tree_at s rec) ≡ t
      go k holds_constant e = rw (tree-of w rec b (expression constant) e) refl
      go k holds_delay e = rw (tree-of w rec b (expression delay) e) refl

  fitting : OfType (type_at s t) (leaf_values s (chain s (word_b s rec)))
  fitting = go k holds e
    where
      go : (k : Kind) → HoldsLeaves k → kind_at s rec ≡ k → OfType (type_at s t) (leaf_values s (chain s (word_b s rec)))
      go k holds_constant e =
          within-fits (bounds (type_at s t)) (leaf_values s (chain s (word_b s rec))) (judged-by-kind (ready-passes r.at_hand) (in-circuit r.at_hand r.at_hand.scope) constant e)
      go k holds_delay e =
          within-fits (bounds (type_at s t)) (leaf_values s (chain s (word_b s rec))) (judged-by-kind (ready-passes r.at_hand) (in-circuit r.at_hand r.at_hand.scope) delay e).1

  chain-there : (word_b s rec < count s) × (sort_at s (word_b s rec) ≡ leafs)
  chain-there = go k holds e
    where
      go : (k : Kind) → HoldsLeaves k → kind_at s rec ≡ k → (word_b s rec < count s) × (sort_at s (word_b s rec) ≡ leafs)
      go k holds_constant e = let p = part-of-kind w rec (expression constant) leafs b e 3 refl (unfold ask_of_kind in refl) in (p.1, p.2)
      go k holds_delay e = let p = part-of-kind w rec (expression delay) leafs b e 3 refl (unfold ask_of_kind in refl) in (p.1, p.2)

  width : length out ≡ leaves (type_at s t)
  width = r.at_hand.room ∙ entry-is r.at_hand r.at_hand.scope ∙ ap (λ (u : ℕ). leaves (type_at s u)) own-type

  -- some room
  module _ {R : List ℕ} (e_r : R ≡ replicate 64 0) where
    pub held_fits : length out ≤ length R
    held_fits = let l : length R ≡ 64 = rw e_r (zeros-long 64) in let f = room-few r.at_hand in omega arith

    pub held-bounds : {x : ℕ} → x ≡ word s rec 2 → Accepting s n W × TypeRecord s x × (length (take (length out - 0) R) ≡ leaves (type_at s x))
    held-bounds ex = (
      record { sized = r.at_hand.sized; type = r.at_hand.type; accepted = r.at_hand.accepted; table = r.at_hand.table },
      rw ex typed,
      rw ex (lent-long (length out) R held_fits ∙ width),
    )

    pub held-chained : {x : ℕ} → x ≡ word s rec 3 → Chained s n x (length (take (length out - 0) R))
    held-chained ex =
        let c = r.at_hand.sized.counted in
        let p = chain-there in
        record {
          sized = r.at_hand.sized;
          written = w;
          there = omega (arith, p.0, ex);
          sort = rw ex p.1;
          many =
              rw ex
              (sym (length-map (chain s (word_b s rec)) (word_a s)) ∙ value-length (type_at s t) fitting ∙ sym width ∙ sym (lent-long (length out) R held_fits));
        }

  module _ {R Q : List ℕ} (e_r : R ≡ replicate 64 0) (e_q : Q ≡ replicate 64 0) {x y : ℕ} (ex : x ≡ word s rec 2) (ey : y ≡ word s rec 3)
      {o v : List ℕ} (eo : o ≡ bounds (type_at s x)) (ev : v ≡ leaf_values s (chain s y)) where
    counts_are : o ≡ bounds (type_at s t)
    counts_are = eo ∙ ap (λ (u : ℕ). bounds (type_at s u)) ex

    values-are : v ≡ leaf_values s (chain s (word_b s rec))
    values-are = ev ∙ ap (λ (u : ℕ). leaf_values s (chain s u)) ey

    counts-long : length o ≡ length out
    counts-long = ap length counts_are ∙ bounds-length (type_at s t) ∙ sym width

    values_long : length v ≡ length out
    values_long = ap length values-are ∙ value-length (type_at s t) fitting ∙ sym width

    abbrev m : ℕ
    m = length out

    counts-back : take (m - 0) (o ++ drop (m - 0) R) ≡ o
    counts-back = back-part R o counts-long (held_fits e_r)

    values-back : take (m - 0) (v ++ drop (m - 0) Q) ≡ v
    values-back = back-part Q v values_long (held_fits e_q)

    pub held-counts-inside : m ≤ length (o ++ drop (m - 0) R)
    held-counts-inside = let l = back_long R o counts-long (held_fits e_r) in let f = held_fits e_r in omega arith

    pub held-values-inside : m ≤ length (v ++ drop (m - 0) Q)
    held-values-inside = let l = back_long Q v values_long (held_fits e_q) in let f = held_fits e_q in omega arith

    filling : SetsFilling o v out
    filling =
        let a = counts-long in
        let c = values_long in
        let f = room-few r.at_hand in
        record {
          as_many = omega arith;
          room = omega arith;
          few = omega arith;
          small = λ i h. rw (counts_are, values-are)
              (held-leaf-small (positive-bounds w t typed) (bounds-few w (few-for-sets r) t typed) fitting i (rw counts_are at h));
        }

    pub held-filling : SetsFilling (take (m - 0) (o ++ drop (m - 0) R)) (take (m - 0) (v ++ drop (m - 0) Q)) out
    held-filling = rw (counts-back, values-back) filling

    pub held-done : {out' : List ℕ} → out' ≡ leaf_words (take (m - 0) (o ++ drop (m - 0) R)) (take (m - 0) (v ++ drop (m - 0) Q))
        → EstimatedIn s Γ ρ env names rec env out'
    held-done g =
        record {
          value =
              g ∙ ap₂ leaf_words (counts-back ∙ counts_are) (values-back ∙ values-are) ∙ words-of-leaves fitting
              ∙ sym (leaves-words w Γ ρ b k holds e);
          wide = r.at_hand.wide;
          kept = refl;
        }

-- the kinds of the two, and that no record is a feedback
pub held-constant : {k : Kind} → k ≡ expression constant → HoldsLeaves k
held-constant e = rw e holds_constant

pub held-delay : {k : Kind} → k ≡ expression delay → HoldsLeaves k
held-delay e = rw e holds_delay

pub never-feedback : {s : List ℕ} {n : ℕ} {W env : List ℕ} {names rec : ℕ} {out Γ : List ℕ} {ρ : List (List ConstructorSet)}
    → EstimatingIn s n W env names rec out Γ ρ → kind_at s rec ≡ expression feedback → ⊥
never-feedback {s} {rec = rec} r f =
    let g = no-feedback-at s r.for_sets rec (ready-there r.at_hand) in
    let h : true ≡ false = rw f at g in
    let z : ◌≡◌ {A = ℕ} 0 1 = cc in
    omega arith
