-- A text made of a lent buffer stands in the front of all that buffer, and what lay behind it
-- stays. After the loan the buffer is what the text's own was, `after`.
-- Assumes nothing.
use Prim.Native.Nat.{ℕ, ◌+◌, ◌≤◌}
use mathlib.Core.Path.{◌≡◌, sym, ap, ◌∙◌}
use mathlib.Core.List.{List, [], ◌++◌}
use native.Mathlib.Omega.{arith}
use native.Mathlib.Nat.{zero-add}
use lib.ListN.{length, take, drop, length-append, take-append-drop}
use lib.Seq.{length-take-le, take_at}
use Rattle.std.specs.Borrow.{GName}
use Rattle.listing.specs.Wrote.{with_text, TextPut}
use Rattle.listing.specs.Texts.{Written, Added}
use Rattle.listing.specs.Seen.{written}
use Rattle.listing.specs.declared.Text.{Text}

-- a text that is put at the start is the buffer's front
pub text-front : {buffer text after : List ℕ} {end : ℕ} → TextPut buffer 0 text after end → (take end after ≡ text) × (end ≤ length after)
unfolding with_text
text-front {buffer} {text} {after} {end} t =
    let rest : List ℕ = drop (0 + length text) buffer in
    let long : length after ≡ length text + length rest = ap length t.bytes ∙ length-append text rest in
    let place = t.place in
    (ap (take end) t.bytes ∙ take_at text rest end (omega arith), omega arith)

-- what was added to an empty text is all of it
pub bytes-once : {room : ℕ} {rest : List ℕ} {lender : GName} {old new : Written} {text : List ℕ}
    → old ≡ record { bytes = []; room = room; rest = rest; lender = lender } → Added old text new → new.bytes ≡ text
bytes-once {text = text} begun a = a.bytes ∙ ap (λ (w : Written). w.bytes ++ text) begun

-- as many bytes are written as the text's length says
written-long : (t : Text) → length (written t).bytes ≡ t.len
written-long t = length-take-le t.len t.buffer.now t.inside

module _ (t : Text) {after : List ℕ} (loan : after ≡ t.buffer.now) {end : ℕ} (ends : end ≡ length (written t).bytes) where
  -- they are the buffer's, up to the place after them
  pub front-taken : take end after ≡ (written t).bytes
  front-taken = ap (take end) loan ∙ ap (λ n. take n t.buffer.now) (ends ∙ written-long t)

  pub front-inside : end ≤ length after
  front-inside =
      let same : length after ≡ length t.buffer.now = ap length loan in
      let long = written-long t in
      let most = t.inside in
      omega arith

  -- what was added to an empty text is put at the buffer's front
  module _ {buffer : List ℕ} {lender : GName} {old : Written} (begun : old ≡ record { bytes = []; room = length buffer; rest = buffer; lender = lender })
      {text : List ℕ} (a : Added old text (written t))
    where
      pub front-put : TextPut buffer 0 text after end
      unfolding with_text
      front-put =
          let behind : (written t).rest ≡ drop (length text) buffer = a.rest ∙ ap (λ (w : Written). drop (length text) w.rest) begun in
          let room : length t.buffer.now ≡ length buffer = a.room ∙ ap (λ (w : Written). w.room) begun in
          let all-bytes : (written t).bytes ≡ text = bytes-once begun a in
          let long = written-long t in
          let most = t.inside in
          record {
            bytes =
                loan
                ∙ sym (take-append-drop t.len t.buffer.now)
                ∙ rw (all-bytes, behind) (ap (λ n. text ++ drop n buffer) (sym (zero-add (length text))));
            place = ends ∙ ap length all-bytes ∙ sym (zero-add (length text));
            inside = omega arith;
          }
