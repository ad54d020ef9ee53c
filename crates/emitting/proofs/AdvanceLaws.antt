-- Records are put before those that stand, and an expression is completed with the indices that wait for it.
-- Assumes nothing.
use Prim.Native.Nat.{ℕ, zero, suc, ◌+◌, ◌-◌, ◌*◌, ◌≤◌, ◌<◌}
use mathlib.Core.Path.{◌≡◌, refl, ap, sym, ◌∙◌, subst}
use mathlib.Core.List.{List, [], ◌∷◌, ◌++◌}
use native.Mathlib.Omega.{arith}
use lib.ListN.{length, drop}
use Rattle.std.specs.Prelude.{Some, None}
use Rattle.records.specs.SheetOf.{Record, words, sheet_of}
use Rattle.records.specs.Kinded.{kind_number}
use Rattle.records.specs.declared.kinds.Kind.{Kind}
use Rattle.instructions.specs.Emission.{Slot, of_number, barrier, first_waits, second_waits, Emission, emission, completed, zeros_written, zeros_next, written_of}
use Rattle.emitting.specs.Slots.{Unwaited}
use Rattle.emitting.specs.Emitting.{RecordPut, Advancing, Advanced, ZerosPut}
use Rattle.emitting.specs.declared.writer.Writer.{Writer}

pub completed-grows : (R : List Record) (c : ℕ) (S : List Slot) → length R ≤ length (written_of (completed R c S))
completed-grows R c [] = omega arith
completed-grows R c (of_number n ∷ S) = omega arith
completed-grows R c (barrier ∷ S) = omega arith
completed-grows R c (first_waits ∷ S) = let l = completed-grows (words 35 0 c 0 0 0 ∷ R) (c - 1) S in omega arith
completed-grows R c (second_waits ∷ S) = let l = completed-grows (words 36 0 c 0 0 0 ∷ R) (c - 1) S in omega arith

-- a record before those that stand
pub record-on : {before after : List ℕ} {cursor r : ℕ} {w : Record} (R : List Record) (tail : List ℕ) → RecordPut before after cursor w r
    → 0 < cursor → drop (12 * cursor) before ≡ sheet_of R ++ tail → drop (12 * r) after ≡ sheet_of (w ∷ R) ++ tail
record-on {w = words k n a b c d} R tail put h e = put.put_there h ∙ ap (λ (t : List ℕ). sheet_of (words k n a b c d ∷ []) ++ t) e

-- an emission that is another by its definition
pub the_same : {R : List Record} {c : ℕ} {F G : Emission} {before after : List ℕ} {w : Writer} → F ≡ G
    → Advanced R c F before after w → Advanced R c G before after w
the_same {R} {c} {before = before} {after} {w} e a = subst (λ (H : Emission). Advanced R c H before after w) e a

-- a record is put, and then others before it
pub put_then : {R : List Record} {c r : ℕ} {w : Record} {F : Emission} {before mid after : List ℕ} {v : Writer}
    → RecordPut before mid c w r → length (w ∷ R) ≤ length (written_of F) → Advanced (w ∷ R) r F mid after v → Advanced R c F before after v
put_then {R} put grows a =
    record {
      state = a.state;
      laid_out = λ tail e fits.
          let one = put.one_less in
          a.laid_out tail (record-on R tail put (omega arith) e) (omega arith);
      as_long = a.as_long ∙ put.as_long;
    }

-- the indices down to some slots are written
pub record IndicesPut (sheet₀ : List ℕ) (S₀ : List Slot) (cursor : ℕ) (sheet : List ℕ) (S : List Slot) (at : ℕ) : Type 0 where
  pub moved : (R : List Record) → (R' : List Record)
      × (completed R' at S ≡ completed R cursor S₀)
      × ((tail : List ℕ) → drop (12 * cursor) sheet₀ ≡ sheet_of R ++ tail
      → length (written_of (completed R cursor S₀)) ≤ cursor + length R
      → (drop (12 * at) sheet ≡ sheet_of R' ++ tail) × (at + length R' ≡ cursor + length R))
  pub room : 12 * at ≤ length sheet
  pub as_long : length sheet ≡ length sheet₀
  pub lower : length S ≤ length S₀

pub no-index-put : {sheet : List ℕ} {w : Writer} → Advancing sheet w → IndicesPut sheet w.stack w.cursor sheet w.stack w.cursor
no-index-put a = record { moved = λ R. (R, refl, λ tail e l. (e, refl)); room = a.sheet_long; as_long = refl; lower = omega arith }

module _ {s₀ : List ℕ} {S₀ : List Slot} {cursor : ℕ} where
  index-before : {s s' : List ℕ} {S S' : List Slot} (at : ℕ) (kind : Kind) → Unwaited (Some kind) S S' → IndicesPut s₀ S₀ cursor s S at
      → RecordPut s s' at (words (kind_number kind) 0 at 0 0 0) (at - 1) → IndicesPut s₀ S₀ cursor s' S' (at - 1)
  index-before {S' = S'} at kind u i put =
      let room = i.room in
      let long = put.as_long in
      let lower = i.lower in
      let fewer = u.1 in
      record {
        moved = λ R.
            let m = i.moved R in
            let w = words (kind_number kind) 0 at 0 0 0 in
            let same = u.0 m.0 at ∙ m.1 in (
              w ∷ m.0,
              same,
              λ tail f l.
                  let stood = m.2 tail f l in
                  let grows = completed-grows (w ∷ m.0) (at - 1) S' in
                  let count = ap (λ (F : Emission). length (written_of F)) same in
                  let sum = stood.1 in
                  (record-on m.0 tail put (omega arith) stood.0, omega arith),
            );
        room = omega arith;
        as_long = put.as_long ∙ i.as_long;
        lower = omega arith;
      }

  pub index-put : {s s' : List ℕ} {S S' : List Slot} {at : ℕ} (kind : Kind) {r : ℕ} → Unwaited (Some kind) S S' → IndicesPut s₀ S₀ cursor s S at
      → RecordPut s s' at (words (kind_number kind) 0 at 0 0 0) r → IndicesPut s₀ S₀ cursor s' S' r
  index-put {s} {s'} {S} {S'} {at} kind {r} u i put =
      subst (λ (q : ℕ). IndicesPut s₀ S₀ cursor s' S' q) (sym put.one_less)
      (index-before at kind u i (subst (λ (q : ℕ). RecordPut s s' at (words (kind_number kind) 0 at 0 0 0) q) put.one_less put))

  pub indices-done : {s : List ℕ} {S S' : List Slot} (Q : List Slot) (at : ℕ) → Unwaited None S S' → IndicesPut s₀ S₀ cursor s S at → Q ≡ of_number at ∷ S'
      → (R : List Record) → Advanced R cursor (completed R cursor S₀) s₀ s (record { stack = Q; cursor = at; next = 0 })
  indices-done {s} {S} {S'} Q at u i e R =
      let m = i.moved R in
      let ends : completed R cursor S₀ ≡ emission m.0 at Q 0 =
      sym m.1 ∙ u.0 m.0 at ∙ ap (λ (Z : List Slot). emission m.0 at (of_number at ∷ Z) 0) (sym u.1) ∙ ap (λ (Z : List Slot). emission m.0 at Z 0) (sym e) in
      record {
        state = ends ∙ ap (λ (F : Emission). emission (written_of F) at Q 0) (sym ends);
        laid_out = λ tail f l. (m.2 tail f l).0 ∙ ap (λ (F : Emission). sheet_of (written_of F) ++ tail) (sym ends);
        as_long = i.as_long;
      }

-- an expression's record, and then what waits for it
pub expression-put : (S : List Slot) {c r : ℕ} {w : Record} {before mid after : List ℕ} {v : Writer} → RecordPut before mid c w r
    → ((Q : List Record) → Advanced Q r (completed Q r S) mid after v) → (R : List Record) → Advanced R c (completed (w ∷ R) (c - 1) S) before after v
expression-put S {c} {r} {w} put all R =
    the_same (ap (λ (q : ℕ). completed (w ∷ R) q S) put.one_less) (put_then put (completed-grows (w ∷ R) r S) (all (w ∷ R)))

-- a record alone
pub put_alone : {R : List Record} {c r x : ℕ} {w : Record} {S Q : List Slot} {before after : List ℕ} → RecordPut before after c w r → Q ≡ S
    → Advanced R c (emission (w ∷ R) (c - 1) S x) before after (record { stack = Q; cursor = r; next = x })
put_alone {R} {c} {r} {x} {w} {S} {Q} put e =
    let one = put.one_less in
    let same : emission (w ∷ R) (c - 1) S x ≡ emission (w ∷ R) r Q x = cc in
    record { state = same; laid_out = λ tail g l. record-on R tail put (omega arith) g; as_long = put.as_long }

-- a constant of one leaf
pub constant-put : (S : List Slot) (t : ℕ) {c r n : ℕ} {before mid after : List ℕ} {v : Writer} → RecordPut before mid c (words 64 0 n 0 0 0) r
    → ((Q : List Record) → Advanced Q r (completed (words 32 0 t r 0 0 ∷ Q) (r - 1) S) mid after v) → (R : List Record)
    → Advanced R c (completed (words 32 0 t (c - 1) 0 0 ∷ words 64 0 n 0 0 0 ∷ R) (c - 2) S) before after v
constant-put S t {c} {r} {n} put all R =
    let one = put.one_less in
    let two : r - 1 ≡ c - 2 = omega arith in
    let leaf = words 64 0 n 0 0 0 in
    let grows = completed-grows (words 32 0 t r 0 0 ∷ leaf ∷ R) (r - 1) S in
    let same : completed (words 32 0 t r 0 0 ∷ leaf ∷ R) (r - 1) S ≡ completed (words 32 0 t (c - 1) 0 0 ∷ leaf ∷ R) (c - 2) S = cc in
    the_same same (put_then put (omega arith) (all (leaf ∷ R)))

pub zeros-written-length : (k : ℕ) (R : List Record) (c x : ℕ) → length (zeros_written k R c x) ≡ k + length R
zeros-written-length zero R c x = omega arith
zeros-written-length (suc k) R c x = zeros-written-length k (words 64 x 0 0 0 0 ∷ R) (c - 1) (c - 1) ∙ (let e : k + suc (length R) ≡ suc k + length R = omega arith in e)

-- undefined leaves, and then records before them
pub zeros-then : {R : List Record} {k c x r y : ℕ} {F : Emission} {before mid after : List ℕ} {v : Writer}
    → ZerosPut k before mid c x r y → k + length R ≤ length (written_of F)
    → Advanced (zeros_written k R c x) r F mid after v → Advanced R c F before after v
zeros-then {R} {k} {c} {x} put grows a =
    record {
      state = a.state;
      laid_out = λ tail e fits.
          let moved = put.cursor_moved in
          let long = zeros-written-length k R c x in
          a.laid_out tail (put.laid_out R tail e (omega arith)) (omega arith);
      as_long = a.as_long ∙ put.as_long;
    }

pub undefined-put : (S : List Slot) (t : ℕ) {S' : List Slot} {k c r y : ℕ} {before mid after : List ℕ} {v : Writer} → ZerosPut k before mid c 0 r y → S' ≡ S
    → ((Q : List Record) → Advanced Q r (completed (words 32 0 t r 0 0 ∷ Q) (r - 1) S') mid after v) → (R : List Record)
    → Advanced R c (completed (words 32 0 t (c - k) 0 0 ∷ zeros_written k R c 0) (c - k - 1) S) before after v
undefined-put S t {S'} {k} {c} {r} put e all R =
    let moved = put.cursor_moved in
    let Z = zeros_written k R c 0 in
    let long = zeros-written-length k R c 0 in
    let grows = completed-grows (words 32 0 t r 0 0 ∷ Z) (r - 1) S' in
    let same : completed (words 32 0 t r 0 0 ∷ Z) (r - 1) S' ≡ completed (words 32 0 t (c - k) 0 0 ∷ Z) (c - k - 1) S = cc in
    the_same same (zeros-then put (omega arith) (all Z))

-- so many undefined leaves alone
pub zeros-alone : {R : List Record} {k c x r y : ℕ} {S Q : List Slot} {before after : List ℕ} → ZerosPut k before after c x r y → Q ≡ S
    → Advanced R c (emission (zeros_written k R c x) (c - k) S (zeros_next k c x)) before after (record { stack = Q; cursor = r; next = y })
zeros-alone {R} {k} {c} {x} {r} {y} {S} {Q} put e =
    let moved = put.cursor_moved in
    let told = put.next_told in
    let same : emission (zeros_written k R c x) (c - k) S (zeros_next k c x) ≡ emission (zeros_written k R c x) r Q y = cc in
    let long = zeros-written-length k R c x in
    record { state = same; laid_out = λ tail g l. put.laid_out R tail g (omega arith); as_long = put.as_long }
