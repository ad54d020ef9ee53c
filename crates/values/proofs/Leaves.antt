-- A chain gone along leaf by leaf, its leaves read into a slice or a value held at them.
-- Assumes nothing.
use Prim.Native.Nat.{ℕ, zero, suc, ◌+◌, ◌≤◌, ◌<◌}
use mathlib.Core.List.{List, [], ◌∷◌, ◌++◌, append-nil}
use mathlib.Core.Path.{◌≡◌, refl, sym, ap, ◌∙◌}
use native.Mathlib.Omega.{arith}
use native.Mathlib.Numerals.{add-one}
use lib.ListN as ListN
use lib.ListN.{length, get_or, set, take, drop, length-drop}
use lib.Seq.{take-length, drop-length, drop-cons, append_snoc, take-suc-set}
use Rattle.records.specs.Words.{count, next_word, word_a}
use Rattle.records.specs.Kinds.{leaf, leafs}
use Rattle.records.specs.Says.{kind_at, sort_at}
use Rattle.records.specs.Trees.{chain, follow}
use Rattle.records.specs.Decoding.{leaf_values}
use Rattle.records.specs.Written.{Written}
use Rattle.records.proofs.Table.{ask_of_kind, kind-of-sort}
use Rattle.records.proofs.Asked.{as-kind-asks}
use Rattle.records.proofs.Trees.{chain-of, next-leaf}
use Rattle.behaviour.specs.Entries.{assigned, put_all, enter}

module _ {s : List ℕ} (w : Written s) where
  -- a leaf record's word a is a byte
  pub leaf-byte : {l : ℕ} → l < count s → sort_at s l ≡ leafs → word_a s l ≤ 255
  leaf-byte {l} h e = (unfold ask_of_kind in as-kind-asks w l leaf h (kind-of-sort leafs (kind_at s l) e) 2 refl)

  module _ (first : ℕ) where
    -- record l is leaf i of the chain, if there are so many
    pub record Along (i l : ℕ) : Type 0 where
      pub there : i < length (chain s first) → l < count s
      pub sort : i < length (chain s first) → sort_at s l ≡ leafs
      pub rest : i < length (chain s first) → drop i (chain s first) ≡ chain s l

    module _ {i l : ℕ} (a : Along i l) (h : i < length (chain s first)) where
      after : drop i (chain s first) ≡ l ∷ follow [] (chain s) (next_word s l)
      after = a.rest h ∙ chain-of w l (a.there h) (a.sort h)

      rest-after : drop (suc i) (chain s first) ≡ follow [] (chain s) (next_word s l)
      rest-after = ap tail (sym (drop-cons (chain s first) i 0 h) ∙ after)
        where
          tail : List ℕ → List ℕ
          tail [] = []
          tail (x ∷ xs) = xs

      pub leaf-here : drop i (chain s first) ≡ l ∷ drop (suc i) (chain s first)
      leaf-here = after ∙ ap (λ ls. l ∷ ls) (sym rest-after)

      pub along-next : {x : ℕ} → x ≡ next_word s l → Along (i + 1) x
      along-next e = rw (e, add-one i) (go (next_word s l) refl)
        where
          go : (y : ℕ) → y ≡ next_word s l → Along (suc i) y
          go zero z =
              let none : suc i < length (chain s first) → ⊥ = λ m.
              let g = length-drop (suc i) (chain s first) in
              let k : length (drop (suc i) (chain s first)) ≡ 0 = rw (rest-after, ← z) refl in
              omega arith in
              record { there = λ m. absurd (none m); sort = λ m. absurd (none m); rest = λ m. absurd (none m) }
          go (suc y) z =
              let p = next-leaf w l (a.there h) (a.sort h) (omega arith) in
              record { there = λ _. rw z p.1; sort = λ _. rw z p.2; rest = λ _. rest-after ∙ rw (← z) refl }

    -- the leaves before i are read
    pub record Read (i : ℕ) (out : List ℕ) : Type 0 where
      pub long : length out ≡ length (chain s first)
      pub so_far : take i out ++ leaf_values s (drop i (chain s first)) ≡ leaf_values s (chain s first)

    module _ {i l : ℕ} (a : Along i l) (h : i < length (chain s first)) where
      pub read_next : (out : List ℕ) {x : ℕ} → x ≡ word_a s l → Read i out → Read (i + 1) (set out i x)
      read_next out {x} e r =
          record {
            long = ListN.length-set out i x ∙ r.long;
            so_far =
                rw (add-one i, take-suc-set out i x (let m = r.long in omega arith))
                (append_snoc (take i out) x (leaf_values s (drop (suc i) (chain s first)))
                ∙ rw e (rw (leaf-here a h) at r.so_far));
          }

    pub all_read : (i : ℕ) (out : List ℕ) → length out ≤ i → i ≤ length out → Read i out → out ≡ leaf_values s (chain s first)
    all_read i out h k r =
        let e : i ≡ length out = omega arith in
        rw (e, take-length out, r.long, drop-length (chain s first), append-nil out) at r.so_far

    -- the value is held at the leaves before i
    abbrev pub HeldLeaves : (value held₀ : List ℕ) (i : ℕ) (held : List ℕ) → Type 0
    HeldLeaves value held₀ i held =
        put_all enter (assigned (drop i (chain s first)) (drop i value)) held ≡ put_all enter (assigned (chain s first) value) held₀

    pub held_next : (value held₀ : List ℕ) (i l : ℕ) → Along i l → length (chain s first) ≡ length value
        → i < length value → (held : List ℕ) → HeldLeaves value held₀ i held → HeldLeaves value held₀ (i + 1) (set held l (get_or value i 0))
    held_next value held₀ i l a e h held r =
        rw (add-one i) (rw (leaf-here a (omega arith), drop-cons value i 0 h) at r)

    pub all_held : (value held₀ : List ℕ) (i : ℕ) → length (chain s first) ≡ length value → i ≤ length value → length value ≤ i
        → (held : List ℕ) → HeldLeaves value held₀ i held → held ≡ put_all enter (assigned (chain s first) value) held₀
    all_held value held₀ i e h k held r =
        let f : i ≡ length (chain s first) = omega arith in rw (f, drop-length (chain s first)) at r
