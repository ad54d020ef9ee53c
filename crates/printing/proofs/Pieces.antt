-- The pieces: lines until the room runs out leave the text from the next cycle on; where room is left no cycle is, and the last line
-- follows. Laid end to end the pieces are the text.
-- Assumes nothing.
use Prim.Native.Nat.{ℕ, zero, suc, ◌+◌, ◌*◌, ◌-◌, ◌/◌, ◌^◌, ◌≤◌, ◌<◌}
use mathlib.Core.Path.{◌≡◌, refl, sym, ap, ◌∙◌}
use mathlib.Core.Bool.{Bool, true}
use Rattle.std.specs.Prelude.{Option, Some, None}
use mathlib.Core.List.{List, [], ◌++◌, append_assoc, append-nil}
use native.Mathlib.Omega.{arith}
use native.Mathlib.Nat.{zero-mul, sub-zero, suc-mul, add-mul, le-div_iff_mul-le, div-lt_iff_lt-mul}
use lib.ListN.{length, take, drop, length-append, length-drop}
use lib.Seq.{drop-drop, length-take-le}
use native.Mathlib.Decide.{dec_le}
use Rattle.std.specs.Borrow.{GName}
use Rattle.listing.specs.Digits.{digits}
use Rattle.listing.specs.Lines.{ascii, type_line, cycles_line, cycle_lines, listing}
use Rattle.listing.specs.Texts.{Written, HasRoom, Added}
use Rattle.listing.specs.Seen.{written}
use Rattle.listing.specs.declared.Text.{Text}
use Rattle.listing.specs.Fills.{LinesAdded}
use Rattle.listing.proofs.Lengths.{number-few}
use Rattle.listing.proofs.Filling.{lines_join}
use Rattle.listing.proofs.Added.{added-long, added_then}
use Rattle.listing.specs.Lines.{word_line, refused_line}
use Rattle.listing.specs.Wrote.{TextPut}
use Rattle.listing.proofs.Front.{text-front, bytes-once, front-taken, front-inside}
use Rattle.printing.specs.Pieces.{told_text, text_from, text_left, Pieced, PiecesLaid, last_one, then_more}
use Rattle.printing.specs.PutLines.{PuttingLines, PutLines, text_after, IsPiece}

-- a line has a byte at least
some-cycles : (n : ℕ) → 0 < length (cycles_line n)
some-cycles n =
    let l : length (cycles_line n) ≡ 7 + length (digits n ++ ascii "\n") = length-append (ascii "cycles ") (digits n ++ ascii "\n") in
    omega arith

type-short : (t : ℕ) → t < 2 ^ 64 → length (type_line t) ≤ 26
type-short t h =
    let few = number-few t h in
    let l : length (type_line t) ≡ 5 + length (digits t ++ ascii "\n") = length-append (ascii "type ") (digits t ++ ascii "\n") in
    let m : length (digits t ++ ascii "\n") ≡ length (digits t) + 1 = length-append (digits t) (ascii "\n") in
    omega arith

module _ {old : Written} {w k : ℕ} (outputs : List ℕ) {new : Written} {count : ℕ} (some : 0 < w) (inside : k * w ≤ length outputs)
    (a : LinesAdded old k w (drop (k * w) outputs) new count)
  where
    next_inside : (k + count) * w ≤ length outputs
    next_inside = let l = length-drop (k * w) outputs in let i = a.inside in let m = add-mul k count w in omega arith

    cycles-left : k + count ≤ length outputs / w
    cycles-left = (le-div_iff_mul-le some).1 next_inside

    lines_left : (m : ℕ) → length outputs / w ≡ k + count + m
        → cycle_lines w (length outputs / w - k) k (drop (k * w) outputs)
        ≡ cycle_lines w count k (drop (k * w) outputs) ++ cycle_lines w m (k + count) (drop ((k + count) * w) outputs)
    lines_left m e =
        let n : length outputs / w - k ≡ count + m = omega arith in
        let d : drop (count * w) (drop (k * w) outputs) ≡ drop ((k + count) * w) outputs =
        drop-drop (count * w) (k * w) outputs ∙ ap (λ i. drop i outputs) (sym (add-mul k count w))
        in
        rw n (lines_join w count m k (drop (k * w) outputs) ∙ rw d refl)

    pub lines-stop : HasRoom old 280 → {left : ℕ} → length new.bytes + left ≡ new.room → left < 280 → PutLines old w k outputs new (Some (k + count))
    lines-stop room full short =
        let long = added-long a.lines in
        let same = a.lines.room in
        let c = cycles-left in
        let lines = cycle_lines w count k (drop (k * w) outputs) in
        record {
          part = lines;
          wrote = a.lines;
          text =
              rw (lines_left (length outputs / w - (k + count)) (omega arith))
              (append_assoc lines (cycle_lines w (length outputs / w - (k + count)) (k + count) (drop ((k + count) * w) outputs)) (cycles_line (length outputs / w)));
          more = omega arith;
          inside = next_inside;
        }

    module _ {left : ℕ} (full : length new.bytes + left ≡ new.room) (room : 280 ≤ left) where
      none_left : length outputs / w ≡ k + count
      none_left =
          let more : suc (k + count) * w ≡ (k + count) * w + w = suc-mul (k + count) w in
          let most : length outputs / w < suc (k + count) = (div-lt_iff_lt-mul some).1 (omega (arith, under)) in
          let least = cycles-left in
          omega arith
        where
          under : length outputs < (k + count) * w + w
          under = go (dec_le ((k + count) * w + w) (length outputs))
            where
              go : Dec ((k + count) * w + w ≤ length outputs) → length outputs < (k + count) * w + w
              go (yes h) =
                  let l = length-drop (k * w) outputs in
                  let m = add-mul k count w in
                  let n = add-mul count 1 w in
                  let z = a.full (omega arith) in
                  absurd (omega arith)
              go (no h) = omega arith

      pub lines_end : {end : Written} → Added new (cycles_line (k + count)) end → PutLines old w k outputs end None
      lines_end v =
          let lines = cycle_lines w count k (drop (k * w) outputs) in
          let some-bytes = some-cycles (k + count) in
          let long = length-append lines (cycles_line (k + count)) in
          let n : length outputs / w ≡ k + count + 0 = let e = none_left in omega arith in
          record {
            part = lines ++ cycles_line (k + count);
            wrote = added_then a.lines v;
            text = rw (lines_left 0 n, append-nil lines, none_left) (sym (append-nil (lines ++ cycles_line (k + count))));
            more = omega arith;
            inside = omega arith;
          }

-- after the first line
pub first-lines : {room w : ℕ} {outputs rest : List ℕ} {lender : GName} (t : ℕ) {mid : Written}
    → Added (record { bytes = []; room = room; rest = rest; lender = lender }) (type_line t) mid
    → t < 2 ^ 64 → 560 ≤ room → PuttingLines mid w 0 outputs
first-lines t v small enough =
    let long = added-long v in
    let same = v.room in
    let short = type-short t small in
    record { room = omega arith; inside = omega arith }

-- what a text ends with is a piece, in the buffer that was lent to it
module _ {before : List ℕ} {lender : GName} {old : Written} (begun : old ≡ record { bytes = []; room = length before; rest = before; lender = lender })
    (t : Text) {after : List ℕ} (loan : after ≡ t.buffer.now) {end : ℕ} (ends : end ≡ length (written t).bytes)
    {w : ℕ} {outputs : List ℕ} {next : Option ℕ}
  where
    pub next-piece : {k : ℕ} → PutLines old w k outputs (written t) next → IsPiece (text_from w k outputs) w outputs after end next
    next-piece l =
        let here : take end after ≡ l.part = front-taken t loan ends ∙ bytes-once begun l.wrote in
        let long : end ≡ length l.part = ends ∙ ap length (sym (front-taken t loan ends) ∙ here) in
        let some = l.more in
        record {
          text = l.text ∙ ap (λ (part : List ℕ). part ++ text_after w outputs next) (sym here);
          more = omega arith;
          room = front-inside t loan ends;
          start = refl;
          inside = l.inside;
        }

    pub first-piece : (type_record : ℕ) {mid : Written} → Added old (type_line type_record) mid → PutLines mid w 0 outputs (written t) next
        → IsPiece (listing type_record w outputs) w outputs after end next
    first-piece type_record a l =
        let line : List ℕ = type_line type_record in
        let here : take end after ≡ line ++ l.part =
        front-taken t loan ends ∙ l.wrote.bytes ∙ ap (λ (part : List ℕ). part ++ l.part) (bytes-once begun a)
        in
        let long : end ≡ length (line ++ l.part) = ends ∙ ap length (sym (front-taken t loan ends) ∙ here) in
        let both = length-append line l.part in
        let some = l.more in
        let rest = rw (zero-mul w, sub-zero (length outputs / w)) at l.text in
        record {
          text =
              append_assoc line (cycle_lines w (length outputs / w) 0 outputs) (cycles_line (length outputs / w))
              ∙ ap (λ (part : List ℕ). line ++ part) rest
              ∙ sym (append_assoc line l.part (text_after w outputs next))
              ∙ ap (λ (part : List ℕ). part ++ text_after w outputs next) (sym here);
          more = omega arith;
          room = front-inside t loan ends;
          start = refl;
          inside = l.inside;
        }

-- the line of a refusal is the one piece of what is told
some-refusal : (c p : ℕ) → 0 < length (refused_line c p)
some-refusal c p =
    let l : length (refused_line c p) ≡ 8 + length (digits c ++ word_line (ascii " at ") p) =
    length-append (ascii "refused ") (digits c ++ word_line (ascii " at ") p)
    in
    omega arith

pub refusal-pieced : {buffer after : List ℕ} {end : ℕ} (c p t w : ℕ) (outputs : List ℕ) → (c ≡ 0 → ⊥) → TextPut buffer 0 (refused_line c p) after end
    → Pieced (told_text c p t w outputs) w outputs after end 0 0 true
refusal-pieced zero p t w outputs d v = absurd (d refl)
refusal-pieced (suc c) p t w outputs d v =
    let front = text-front v in
    let place = v.place in
    let some = some-refusal (suc c) p in
    let room = front.1 in
    record {
      text = sym (rw append-nil front.0);
      more = omega arith;
      room = omega arith;
      start = sym (zero-mul w);
      inside = omega arith;
    }

-- each piece leaves less
pub piece-less : {before : List ℕ} {w : ℕ} {outputs after : List ℕ} {end k first : ℕ} {last : Bool} → Pieced before w outputs after end k first last
    → length (text_left last w k outputs) < length before
piece-less {before = before} {w = w} {outputs = outputs} {after = after} {end = end} {k = k} {last = last} p =
    let e : length before ≡ length (take end after) + length (text_left last w k outputs) =
    ap length p.text ∙ length-append (take end after) (text_left last w k outputs)
    in
    let l : length (take end after) ≡ end = length-take-le end after p.room in
    let m = p.more in
    omega arith

pub laid-end-to-end : (w : ℕ) (outputs before text : List ℕ) → PiecesLaid w outputs before text → text ≡ before
laid-end-to-end w outputs before text (last_one buffer end k first p) = sym (p.text ∙ append-nil (take end buffer))
laid-end-to-end w outputs before text (then_more {text = rest} buffer end k first p more) =
    ap (λ (left : List ℕ). take end buffer ++ left) (laid-end-to-end w outputs (text_from w k outputs) rest more) ∙ sym p.text
