-- The text stands where the one before it ended, and what lay behind it stays. Assumes nothing.
use Prim.Native.Nat.{◌+◌, ◌-◌, ◌≤◌}
use mathlib.Core.Path.{◌≡◌, refl, sym, ap, ◌∙◌}
use native.Mathlib.Omega.{arith}
use lib.ListN.{length}
use lib.Seq.{length-take-le}
use Rattle.std.proofs.Common.{rules}
use Rattle.std.proofs.lemmas.List.{drop-drop}
use Rattle.std.proofs.lemmas.Slice.{take-put_mid, drop-put_mid}
use Rattle.listing.proofs.Text.put_text.Goals as goal

pub returns : goal.returns
returns c =
    let b = c.args.self.now.buffer.now in
    let n = c.args.self.now.len in
    let t = c.args.text.now in
    let s = c.copy_from_slice.new.self in
    let k = (n + length t) - n in
    let written = length-take-le n b c.args.self.now.inside in
    let asked = c.requires in
    let inside : n + length t ≤ length b = omega arith in
    let same : s ≡ t = c.copy_from_slice.ensures.after in
    let long : length s ≡ length t = ap length same in
    let middle : length s ≡ k = omega arith in
    record {
      bytes = take-put_mid n k b s (n + length t) (omega arith) c.args.self.now.inside ∙ rw same refl;
      room = search rules;
      rest = drop-put_mid n k b s (n + length t) (omega arith) c.args.self.now.inside middle ∙ sym (drop-drop (length t) n b);
      lender = search rules;
    }
