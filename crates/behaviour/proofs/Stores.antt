-- A table of delay values: where no delay of a term stands, entering what its delays hold leaves the table unchanged, and at
-- distinct places the values are read back. A sheet written twice over one frame is as written last. So what is written to a sheet
-- is the table copied at the delays' leaves, and also at any other leaves whose words the table has.
-- Assumes nothing.
use Prim.Native.Nat.{ℕ, ◌≤◌, ◌<◌}
use mathlib.Core.Bool.{true, false}
use mathlib.Core.List.{List, [], ◌∷◌, ◌++◌, map, Memᴰ}
use mathlib.Core.Path.{◌≡◌, refl, sym, ap, ◌∙◌}
use mathlib.Core.Logic.{◌⊎◌, inl, inr}
use native.Mathlib.Omega.{arith}
use lib.ListN.{length, get_or, length-set}
use Rattle.records.specs.Words.{word_a}
use Rattle.records.specs.Trees.{circuit, delay_leaves}
use Rattle.records.specs.Written.{Distinct}
use Rattle.records.proofs.Leaves.{circuit-leaves}
use Rattle.records.proofs.Distinct.{circuit-distinct}
use Rattle.accepted.proofs.Laws.{well-named, accepted-by-types}
use Rattle.verdict.specs.Verdict.{verdict}
use Rattle.answers.specs.Answers.{Accepted}
use Rattle.meaning.specs.Elaboration.{Term, frame}
use Rattle.behaviour.specs.Terms.{circuit_term}
use Rattle.behaviour.specs.Delays.{entries, places, store}
use Rattle.behaviour.specs.Entries.{Entry, assigned, put_all, enter, put_word}
use Rattle.behaviour.specs.Sheets.{write}
use Rattle.behaviour.specs.Writable.{Writable}
use Rattle.behaviour.specs.Copies.{copied}
use Rattle.behaviour.proofs.Entries.{put-append, put-leaves, put-again, put-elsewhere, put-read}
use Rattle.behaviour.proofs.Cells.{entry_at, InTable, table-cells, InSheet, sheet-cells}
use Rattle.behaviour.proofs.Members.{member-or-not, Among, Rearranged}
use Rattle.behaviour.proofs.Frames.{assigned-places, same-places, Reads, ByteEntries, values-small, same-placed, HasPlaces, typed-valued}
use Rattle.behaviour.proofs.Sheets.{
  framed-places,
  entry-at,
  put-held,
  accepted-written,
  circuit-has-places,
  write_reads,
  write-stays,
}

-- two parts, one after the other
pub store_both : (t u : Term) (h : List ℕ) → put_all enter (entries t ++ entries u) h ≡ store u (store t h)
store_both t u h = put-append enter (entries t) (entries u) h

-- a delay after its part
pub store-delay : (t : Term) (ls vs h : List ℕ)
    → put_all enter (entries t ++ assigned ls vs) h ≡ put_all enter (assigned ls vs) (store t h)
store-delay t ls vs h = put-append enter (entries t) (assigned ls vs) h

pub store_length : (t : Term) (h : List ℕ) → length (store t h) ≡ length h
store_length t h = put-leaves enter length (entries t) (λ l m v a. length-set a l v) h

pub store-elsewhere : (t : Term) (l : ℕ) (h : List ℕ) → (Memᴰ l (places t) → ⊥) → get_or (store t h) l 0 ≡ get_or h l 0
store-elsewhere t l h n = put-elsewhere table-cells (entries t) l h n

pub store-reads : (t : Term) (h : List ℕ) → Distinct (places t) → ((l : ℕ) → Memᴰ l (places t) → l < length h)
    → Reads (entry_at (store t h)) (entries t)
store-reads t h d room = put-read table-cells (entries t) h d room

-- a sheet written twice
pub write_again : (s : List ℕ) (t u : Term) → frame t ≡ frame u → write (write s u) t ≡ write s t
unfolding write
write_again s t u e =
    put-again sheet-cells (entries t) (entries u) s (λ l m. rw (same-places t u e) m)

-- a table copied at these records is its entries put there
copied-entries : (h ls s : List ℕ) → copied h ls s ≡ put_all put_word (assigned ls (map (entry_at h) ls)) s
copied-entries h [] s = refl
copied-entries h (l ∷ ls) s = copied-entries h ls (put_word l (get_or h l 0) s)

entry-assigned : (read : ℕ → ℕ) (ls : List ℕ) (e : Entry) → Memᴰ e (assigned ls (map read ls))
    → Memᴰ e.place ls × (e.value ≡ read e.place)
entry-assigned read [] e m = elim m [ ]
entry-assigned read (l ∷ ls) e (Memᴰ.head p) =
    (Memᴰ.head (ap (λ e. e.place) p), ap (λ e. e.value) p ∙ ap read (sym (ap (λ e. e.place) p)))
entry-assigned read (l ∷ ls) e (Memᴰ.tail m) = let f = entry-assigned read ls e m in (Memᴰ.tail f.0, f.1)

-- a table of one number a record has room for every delay's leaf
pub leaves-in-table : (s : List ℕ) (t : ℕ) → verdict s ≡ Accepted t → (l : ℕ) → Memᴰ l (delay_leaves (circuit s)) → l < 4096
leaves-in-table s t v l m =
    let w = accepted-written s v in
    let few = w.few in
    let there = (circuit-leaves w false true l m).there in
    omega arith

module _ {s : List ℕ} {t : ℕ} (v : verdict s ≡ Accepted t) {e : Term} (h : Writable s t e) where
  leaves-distinct : Distinct (places e)
  leaves-distinct =
      (framed-places s e h.frame).distinct
      (circuit-distinct (accepted-written s v) (well-named ((accepted-by-types s t).0 v).0) false false true)

  pub written_small : ByteEntries (entries e)
  written_small =
      values-small e (same-placed HasPlaces (circuit_term s) e (sym h.frame) (circuit-has-places s v)) (typed-valued h.typed)

  -- what is written is the table copied at these records: the delays' leaves, and others whose words the table has
  pub write-copied : (table ls : List ℕ) → ((l : ℕ) → Memᴰ l (delay_leaves (circuit s)) → l < length table)
      → Among (delay_leaves (circuit s)) ls
      → ((l : ℕ) → Memᴰ l ls → (Memᴰ l (delay_leaves (circuit s)) → ⊥)
      → (get_or table l 0 ≡ word_a s l) × (word_a s l ≤ 255))
      → write s e ≡ copied (store e table) ls s
  unfolding write
  write-copied table ls room all others =
      let fs = assigned ls (map (entry_at (store e table)) ls) in
      sym (put-held (write s e) fs (λ f m. (held f m).0) (λ f m. (held f m).1))
      ∙ put-again sheet-cells fs (entries e) s
      (λ l m. rw (assigned-places ls (map (entry_at (store e table)) ls)) (all l ((framed-places s e h.frame).back l m)))
      ∙ sym (copied-entries (store e table) ls s)
    where
      places-there : Rearranged (delay_leaves (circuit s)) (places e)
      places-there = framed-places s e h.frame

      at : (l : ℕ) → Memᴰ l ls → Memᴰ l (places e) ⊎ (Memᴰ l (places e) → ⊥)
          → (word_a (write s e) l ≡ get_or (store e table) l 0) × (get_or (store e table) l 0 ≤ 255)
      at l m (inl n) =
          let f = entry-at l (entries e) n in
          let in_table : get_or (store e table) f.0.place 0 ≡ f.0.value =
          store-reads e table leaves-distinct (λ k o. room k (places-there.back k o)) f.0 f.1 in
          let p = f.2 in
          rw (← p, in_table) (write_reads s v h f.0 f.1, written_small f.0 f.1)
      at l m (inr n) =
          let o = others l m (λ k. n (places-there.there l k)) in
          rw (store-elsewhere e l table n, o.0) (write-stays s v h n, o.1)

      held : (f : Entry) → Memᴰ f (assigned ls (map (entry_at (store e table)) ls))
          → (word_a (write s e) f.place ≡ f.value) × (f.value ≤ 255)
      held f m =
          let a = entry-assigned (entry_at (store e table)) ls f m in
          rw a.1 (at f.place a.0 (member-or-not f.place (places e)))

  -- in particular at the delays' leaves alone
  pub write-copied-delays : (table : List ℕ) → ((l : ℕ) → Memᴰ l (delay_leaves (circuit s)) → l < length table)
      → write s e ≡ copied (store e table) (delay_leaves (circuit s)) s
  write-copied-delays table room =
      write-copied table (delay_leaves (circuit s)) room (λ l m. m) (λ l m n. absurd (n m))
