-- What is written to a sheet is read back: the bytes outside the delay leaves' words a stay, so the tree and its types do; the
-- delays' places are distinct leaf records, so each holds what was written, and no constant's leaf does; so the term of the
-- sheet written is the term written, and the sheet is accepted with the same type. What a sheet holds, written to it, changes
-- nothing.
-- Assumes nothing.
use Prim.Native.Nat.{ℕ, ◌+◌, ◌*◌, ◌≤◌, ◌<◌}
use mathlib.Core.Bool.{true, false}
use mathlib.Core.List.{List, [], ◌∷◌, Memᴰ}
use mathlib.Core.Path.{◌≡◌, refl, sym, ap, ap₂, ◌∙◌}
use mathlib.Core.Logic.{◌⊎◌, inl, inr}
use native.Mathlib.Omega.{arith}
use native.Mathlib.Decide.{dec_lt}
use lib.ListN.{length, get_or}
use Rattle.records.specs.Words.{count, word, word_a}
use Rattle.records.specs.Kinds.{leaf, leafs}
use Rattle.records.specs.Says.{kind_at}
use Rattle.records.specs.Trees.{circuit, held, delay_leaves}
use Rattle.records.specs.Decoding.{leaf_values}
use Rattle.records.specs.Rewritten.{Rewritten}
use Rattle.records.specs.Written.{Written}
use Rattle.records.proofs.Table.{ask_of_kind, kind-of-sort}
use Rattle.records.proofs.Asked.{as-kind-asks}
use Rattle.records.proofs.Leaves.{circuit-leaves}
use Rattle.records.proofs.Distinct.{circuit-distinct}
use Rattle.records.proofs.Grown.{grown-circuit}
use Rattle.records.proofs.Rewritten.{same-circuit}
use Rattle.structure.specs.Rules.{Passes}
use Rattle.accepted.proofs.Laws.{written, well-named, accepted-by-types, input-context, accepted-judged}
use Rattle.verdict.specs.Verdict.{verdict}
use Rattle.verdict.specs.Scopes.{inputs}
use Rattle.answers.specs.Answers.{Accepted}
use Rattle.accepted.proofs.AcceptedAgain.{accepted-again}
use Rattle.meaning.specs.Elaboration.{Term, frame}
use Rattle.behaviour.specs.Terms.{circuit_term}
use Rattle.behaviour.specs.Delays.{entries, places}
use Rattle.behaviour.specs.Entries.{Entry, put_all, put_word}
use Rattle.behaviour.specs.Sheets.{write}
use Rattle.behaviour.specs.Writable.{Writable}
use Rattle.behaviour.specs.Afterwards.{OnlyDelays}
use Rattle.behaviour.proofs.Terms.{circuit-typed}
use Rattle.behaviour.proofs.Entries.{places_of, put-leaves, put-elsewhere, put-read}
use Rattle.behaviour.proofs.Cells.{InSheet, put-length, put_byte, sheet-cells, put-own}
use Rattle.behaviour.proofs.Members.{member-or-not, Rearranged}
use Rattle.behaviour.proofs.Frames.{
  same-places,
  fill,
  same-filled,
  EachDelay,
  same-placed,
  Valued,
  typed-valued,
  HasPlaces,
  Reads,
  fill-own,
  ByteEntries,
  values-small,
}
use Rattle.behaviour.proofs.Places.{tree_places, constants-apart}
use Rattle.behaviour.proofs.Values.{tree-has-places, tree-reads, valued-fitting}
use Rattle.behaviour.proofs.TermsAgain.{term-again}

-- the places of the circuit's delays are the delays' leaves
circuit-places : (s : List ℕ) → Rearranged (delay_leaves (circuit s)) (places (circuit_term s))
unfolding circuit_term
circuit-places s = tree_places s (inputs s) (circuit s)

pub framed-places : (s : List ℕ) (e : Term) → frame e ≡ frame (circuit_term s) → Rearranged (delay_leaves (circuit s)) (places e)
framed-places s e f = rw (same-places e (circuit_term s) f) (circuit-places s)

-- only delays' leaves change, whatever the values and the sheet
pub write-only-delays : (s : List ℕ) (e : Term) → frame e ≡ frame (circuit_term s) → OnlyDelays s (write s e)
unfolding write
write-only-delays s e f = record {
  length = put-leaves put_word length (entries e) (λ l m v a. put-length l v a) s;
  bytes = λ i other. put-leaves put_word (λ a. get_or a i 0) (entries e)
      (λ l m v a. let o = other l ((framed-places s e f).back l m) in put_byte i l v a o.0 o.1) s;
}

-- a word whose first byte is that of a word a is that word a
same-record : (r k l : ℕ) → k < 6 → 12 * r + 2 * k ≡ 12 * l + 4 → (r ≡ l) × (k ≡ 2)
same-record r k l h e = go (dec_lt r l) (dec_lt l r)
  where
    go : Dec (r < l) → Dec (l < r) → (r ≡ l) × (k ≡ 2)
    go (yes a) b = absurd (omega arith)
    go (no a) (yes b) = absurd (omega arith)
    go (no a) (no b) = (omega arith, omega arith)

-- a word of a record that is not the word a of a delay's leaf
pub same_word : {s s' : List ℕ} → OnlyDelays s s' → (r k : ℕ) → k < 6
    → ((l : ℕ) → Memᴰ l (delay_leaves (circuit s)) → r ≡ l → k ≡ 2 → ⊥) → word s' r k ≡ word s r k
unfolding word
same_word {s} {s'} o r k h other =
    ap₂ (λ x y. x + 256 * y)
    (o.bytes (12 * r + 2 * k) (λ l m. (λ e. let p = same-record r k l h e in other l m p.0 p.1, λ e. omega arith)))
    (o.bytes (12 * r + 2 * k + 1) (λ l m. (λ e. omega arith, λ e. let p = same-record r k l h (omega arith) in other l m p.0 p.1)))

-- where only delays' leaves differ only leaves do, and no label
pub only-leaves : {s s' : List ℕ} → Written s → OnlyDelays s s' → Rewritten s s'
only-leaves {s} {s'} w o = record {
  length = o.length;
  others = λ r f k h. same_word o r k (omega arith) (λ l m e g. f (is_leaf l m e));
  leaves = λ r k h f. same_word o r k (omega arith) (λ l m e g. f g);
  unlabelled = λ r f. same_word o r 5 (omega arith) (λ l m e g. absurd (omega arith));
}
  where
    is_leaf : {r : ℕ} (l : ℕ) → Memᴰ l (delay_leaves (circuit s)) → r ≡ l → kind_at s r ≡ leaf
    is_leaf {r} l m e = rw e (kind-of-sort leafs (kind_at s l) (circuit-leaves w false true l m).sort)

-- the header is no leaf
pub header-same : {s s' : List ℕ} → Written s → OnlyDelays s s' → (k : ℕ) → k < 5 → word s' 0 k ≡ word s 0 k
header-same w o =
    (only-leaves w o).others 0 (λ f. let g = w.headed in let z : ◌≡◌ {A = ℕ} 0 1 = cc in omega arith)

-- a leaf record of the sheet: its word a stands in the sheet, and is a byte
pub leaf-in-sheet : (s : List ℕ) (l : ℕ) → l < count s → InSheet l s
unfolding count
leaf-in-sheet s l h = omega arith

pub leaf-small : {s : List ℕ} → Written s → (l : ℕ) → l < count s → kind_at s l ≡ leaf → word_a s l ≤ 255
leaf-small w l h e = unfold ask_of_kind in as-kind-asks w l leaf h e 2 refl

-- the entry at a place
pub entry-at : (l : ℕ) (es : List Entry) → Memᴰ l (places_of es) → (e : Entry) × Memᴰ e es × (e.place ≡ l)
entry-at l [] m = elim m [ ]
entry-at l (e ∷ es) (Memᴰ.head p) = (e, Memᴰ.head refl, sym p)
entry-at l (e ∷ es) (Memᴰ.tail m) = let f = entry-at l es m in (f.0, Memᴰ.tail f.1, f.2)

-- entries that are held already
pub put-held : (s : List ℕ) (es : List Entry) → Reads (word_a s) es → ByteEntries es → put_all put_word es s ≡ s
put-held s [] reads small = refl
put-held s (e ∷ es) reads small =
    let here = reads e (Memᴰ.head refl) in
    let h = small e (Memᴰ.head refl) in
    let own : put_word e.place e.value s ≡ s = rw (← here) (put-own e.place s (omega arith)) in
    ap (put_all put_word es) own ∙ put-held s es (λ f m. reads f (Memᴰ.tail m)) (λ f m. small f (Memᴰ.tail m))

module _ (s : List ℕ) {t : ℕ} (v : verdict s ≡ Accepted t) where
  passes : Passes s
  passes = ((accepted-by-types s t).0 v).0

  pub accepted-written : Written s
  accepted-written = written passes

  pub circuit-valued : Valued (circuit_term s)
  circuit-valued = typed-valued (circuit-typed s t v)

  pub circuit-has-places : EachDelay HasPlaces (circuit_term s)
  unfolding circuit_term
  circuit-has-places = tree-has-places accepted-written (inputs s) (circuit s) (grown-circuit accepted-written) circuit-valued

  pub circuit-reads : Reads (word_a s) (entries (circuit_term s))
  unfolding circuit_term
  circuit-reads = tree-reads s (inputs s) (circuit s)

  -- what the sheet holds, written to it, changes nothing
  pub write_own : write s (circuit_term s) ≡ s
  unfolding write
  write_own = put-held s (entries (circuit_term s)) circuit-reads (values-small (circuit_term s) circuit-has-places circuit-valued)

  -- where another sheet differs in delays' leaves alone the constants' leaves stay, so its term is that of the sheet with each delay
  -- holding what now stands at its places
  constants-stay : {s' : List ℕ} → OnlyDelays s s' → (x : ℕ) → Memᴰ x (held false true false (circuit s)) → word_a s' x ≡ word_a s x
  constants-stay o x m =
      same_word o x 2 (omega arith)
      (λ l n e k. constants-apart (circuit s) (circuit-distinct accepted-written (well-named passes) false true true) x m (rw e n))

  pub circuit-filled : {s' : List ℕ} → OnlyDelays s s' → circuit_term s' ≡ fill (leaf_values s') (circuit_term s)
  unfolding circuit_term
  circuit-filled {s'} o =
      let p = passes in
      let only = only-leaves accepted-written o in
      let input : inputs s' ≡ inputs s = ap (λ u. u ∷ []) (header-same accepted-written o 2 (omega arith)) in
      rw (same-circuit only, input)
      (term-again only accepted-written (inputs s) (circuit s) (grown-circuit accepted-written) (input-context p)
      (accepted-judged t p v).0 (constants-stay o))

  module _ {e : Term} (h : Writable s t e) where
    -- only leaves are rewritten
    pub write-only-leaves : Rewritten s (write s e)
    write-only-leaves = only-leaves accepted-written (write-only-delays s e h.frame)

    has-places : EachDelay HasPlaces e
    has-places = same-placed HasPlaces (circuit_term s) e (sym h.frame) circuit-has-places

    -- each value is held at its place
    pub write_reads : Reads (word_a (write s e)) (entries e)
    unfolding write
    write_reads =
        let places = framed-places s e h.frame in
        put-read sheet-cells (entries e) s
        (places.distinct (circuit-distinct accepted-written (well-named passes) false false true))
        (λ l m. leaf-in-sheet s l (circuit-leaves accepted-written false true l (places.back l m)).there)

    -- every other record keeps its word a
    pub write-stays : {r : ℕ} → (Memᴰ r (places e) → ⊥) → word_a (write s e) r ≡ word_a s r
    unfolding write
    write-stays {r} n = put-elsewhere sheet-cells (entries e) r s n

    -- the term written is the term read
    pub write_read : circuit_term (write s e) ≡ e
    write_read =
        circuit-filled (write-only-delays s e h.frame)
        ∙ same-filled (leaf_values (write s e)) (circuit_term s) e (sym h.frame)
        ∙ fill-own (word_a (write s e)) e has-places (typed-valued h.typed) write_reads

    leaves-small : (r : ℕ) → r < count s → kind_at s r ≡ leaf → word_a (write s e) r ≤ 255
    leaves-small r b k = go (member-or-not r (places e))
      where
        go : Memᴰ r (places e) ⊎ (Memᴰ r (places e) → ⊥) → word_a (write s e) r ≤ 255
        go (inl m) =
            let f = entry-at r (entries e) m in
            let small = values-small e has-places (typed-valued h.typed) f.0 f.1 in
            let p = f.2 in
            rw (← p, write_reads f.0 f.1) small
        go (inr n) = rw (write-stays n) (leaf-small accepted-written r b k)

    -- the sheet written is accepted with the same type
    pub write-accepted : verdict (write s e) ≡ verdict s
    unfolding circuit_term
    write-accepted =
        let same = same-circuit write-only-leaves in
        let fits : Valued (circuit_term (write s e)) = rw write_read (typed-valued h.typed) in
        accepted-again write-only-leaves t v leaves-small
        (rw same at (valued-fitting (write s e) (inputs (write s e)) (circuit (write s e)) fits))
        ∙ sym v
