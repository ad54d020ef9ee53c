-- The byte stands where the text ended, and what lay behind it stays. Assumes nothing.
use Prim.Native.Nat.{◌+◌, ◌<◌}
use mathlib.Core.Path.{sym, ◌∙◌}
use native.Mathlib.Omega.{arith}
use lib.ListN.{length}
use lib.Seq.{length-take-le}
use Rattle.std.proofs.Common.{rules}
use Rattle.std.proofs.lemmas.List.{drop-drop, drop-set-lt, take_more_set}
use Rattle.listing.proofs.Text.put_byte.Goals as goal

pub returns : goal.returns
returns c =
    let b = c.args.self.now.buffer.now in
    let n = c.args.self.now.len in
    let long = length-take-le n b c.args.self.now.inside in
    let asked = c.requires in
    let inside : n < length b = omega arith in
    record {
      bytes = take_more_set b n c.args.b inside;
      room = search rules;
      rest = drop-set-lt (n + 1) b n c.args.b (omega arith) ∙ sym (drop-drop 1 n b);
      lender = search rules;
    }
