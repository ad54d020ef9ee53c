-- Lines of cycles joined and added chunk by chunk, and the pieces of a listing laid end to end.
-- Assumes nothing.
use Prim.Native.Nat.{ℕ, zero, suc, ◌+◌, ◌*◌, ◌-◌, ◌/◌, ◌≤◌, ◌<◌}
use mathlib.Core.Path.{◌≡◌, refl, sym, ap, ◌∙◌}
use mathlib.Core.List.{List, ◌++◌, append_assoc, append-nil}
use native.Mathlib.Omega.{arith}
use native.Mathlib.Nat.{zero-add, suc-add, add-zero, add_comm, zero-mul, suc-mul, add-mul, mul-le-mul_left, le-div_iff_mul-le, div-lt_iff_lt-mul}
use native.Mathlib.Numerals.{add-one}
use lib.ListN.{length, take, drop, length-append, length-drop}
use lib.Seq.{drop-drop, take_at, drop-append_seam}
use Rattle.listing.specs.Lines.{cycle_line, cycle_lines}
use Rattle.listing.specs.Promises.{LinesLaid, nothing, piece, LinesFill, WholeListing}
use Rattle.listing.specs.Texts.{Written, Added}
use Rattle.listing.proofs.Added.{added-long, added_then}
use Rattle.listing.proofs.Chunks.{Adding}

-- the lines of m cycles and then of n more
pub lines_join :
    (w m n k : ℕ) (leaves : List ℕ) →
    cycle_lines w (m + n) k leaves ≡ cycle_lines w m k leaves ++ cycle_lines w n (k + m) (drop (m * w) leaves)
lines_join w zero n k leaves = rw (zero-add n, add-zero k, zero-mul w) refl
lines_join w (suc m) n k leaves =
    let number : k + suc m ≡ suc k + m = omega arith in
    let rest : drop (suc m * w) leaves ≡ drop (m * w) (drop w leaves) =
    ap (λ i. drop i leaves) (suc-mul m w ∙ add_comm (m * w) w) ∙ sym (drop-drop (m * w) w leaves)
    in
    rw (suc-add m n, number, rest, lines_join w m n (suc k) (drop w leaves))
    (sym (append_assoc (cycle_line k (take w leaves)) (cycle_lines w m (suc k) (drop w leaves)) (cycle_lines w n (suc k + m) (drop (m * w) (drop w leaves)))))

-- a line more
line-more :
    (w count k : ℕ) (leaves : List ℕ) →
    cycle_lines w (count + 1) k leaves ≡ cycle_lines w count k leaves ++ cycle_line (k + count) (take w (drop (count * w) leaves))
line-more w count k leaves = lines_join w count 1 k leaves ∙ rw append-nil refl

-- a chunk more
module _ {old : Written} {k w : ℕ} {leaves : List ℕ} {now : Written} {count : ℕ} {rest : List ℕ} {size : ℕ} (a : Adding old k w leaves now count rest size) where
  rest-long : length rest ≡ length leaves - count * w
  rest-long = rw (a.left, length-drop (count * w) leaves) refl

  pub line-added :
      (line more : List ℕ) {new : Written} {left : ℕ} →
      left ≡ size →
      (rest ≡ line ++ more) × (length line ≡ size) →
      0 < w →
      Added now (cycle_line (k + count) line) new →
      Adding old k w leaves new (count + 1) more left
  line-added line more same step some b =
      let long : length line ≡ w = step.1 ∙ a.long in
      let first : take w rest ≡ line = rw step.0 (take_at line more w long) in
      let after : drop w rest ≡ more = rw (step.0, ← long) (drop-append_seam line more) in
      let all : length rest ≡ length line + length more = ap length step.0 ∙ length-append line more in
      let from = rest-long in
      let m : (count + 1) * w ≡ count * w + w = ap (λ c. c * w) (add-one count) ∙ suc-mul count w in
      record {
        lines = rw (line-more w count k leaves, ← a.left, first) (added_then a.lines b);
        inside = omega arith;
        left = sym after ∙ ap (drop w) a.left ∙ drop-drop w (count * w) leaves ∙ ap (λ n. drop n leaves) (sym m);
        long = same ∙ a.long;
      }

-- of the lines added to a text in the front of a buffer, what `FilledLines` says
pub lines_fill : LinesFill
lines_fill old new k w count first outputs buffer room fits number inside some a =
    let lines : List ℕ = cycle_lines w count k (drop first outputs) in
    let long = added-long a.lines in
    let same = a.lines.room in
    let left = length-drop first outputs in
    let i = a.inside in
    let m : count * 1 ≤ count * w = mul-le-mul_left count some in
    record {
      lines = record {
        wrote = record { bytes = refl; place = long; inside = omega arith };
        taken = refl;
        numbered = omega arith;
        inside = omega arith;
      };
      full = λ h.
          let n : (count + 1) * w ≡ count * w + w = ap (λ c. c * w) (add-one count) ∙ suc-mul count w in
          let f = a.full (omega arith) in
          omega arith;
    }

-- what is printed are the lines of the first k cycles
printed-lines :
    (w : ℕ) (outputs : List ℕ) (k first : ℕ) (text : List ℕ) →
    LinesLaid w outputs k first text →
    (text ≡ cycle_lines w k 0 outputs) × (first ≡ k * w)
printed-lines w outputs k first text nothing = (refl, sym (zero-mul w))
printed-lines w outputs k first text (piece {k = j} {first = f} {text = t} buffer at after count next end p h) =
    let before = printed-lines w outputs j f t p in
    let number : 0 + j ≡ j = omega arith in (
      rw (before.0, before.1) (sym (rw number at (lines_join w j count 0 outputs))),
      h.lines.taken ∙ rw before.1 (sym (add-mul j count w)),
    )

printed-inside : (w k first : ℕ) (outputs text : List ℕ) → LinesLaid w outputs k first text → first ≤ length outputs
printed-inside w k first outputs text nothing = omega arith
printed-inside w k first outputs text (piece buffer at after count next end p h) = h.lines.inside

pub whole-listing : WholeListing
whole-listing w k first outputs text some p left =
    let lines = printed-lines w outputs k first text p in
    let inside = printed-inside w k first outputs text p in
    let start = lines.1 in
    let more : suc k * w ≡ k * w + w = suc-mul k w in
    let least : k ≤ length outputs / w = (le-div_iff_mul-le some).1 (omega arith) in
    let most : length outputs / w < suc k = (div-lt_iff_lt-mul some).1 (omega arith) in
    let number : k ≡ length outputs / w = omega arith in
    (lines.0 ∙ ap (λ n. cycle_lines w n 0 outputs) number, number)
