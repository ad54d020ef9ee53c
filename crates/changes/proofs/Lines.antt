-- The report's lines, written one after the other in room of 280 bytes each.
-- Assumes nothing.
use Prim.Native.Nat.{ℕ, ◌+◌, ◌*◌, ◌^◌, ◌≤◌, ◌<◌}
use mathlib.Core.List.{List}
use mathlib.Core.Path.{◌≡◌}
use native.Mathlib.Omega.{arith}
use native.Mathlib.Numerals.{add-one}
use lib.ListN.{length, length-append}
use Rattle.listing.specs.Digits.{digits}
use Rattle.listing.specs.Lines.{ascii, word_line}
use Rattle.listing.specs.Texts.{Written, Added}
use Rattle.listing.proofs.Lengths.{number-few}
use Rattle.listing.proofs.Added.{added-long, added_then}
use Rattle.changes.specs.Changes.{changes_of}
use Rattle.changes.specs.ReportLines.{leaf_line, leaf_lines}

leaf-line-short : (l n : ℕ) → l < 2 ^ 64 → n < 2 ^ 64 → length (leaf_line l n) ≤ 280
leaf-line-short l n hl hn =
    let a = number-few l hl in
    let b = number-few n hn in
    let c = length-append (digits l) (word_line (ascii ": ") n) in
    let d = length-append (digits n) (ascii "\n") in
    omega arith

-- a line more
pub line_more : {old now new : Written} (w : ℕ) (outputs : List ℕ) (leaf : ℕ) {n : ℕ} → leaf < 2 ^ 64 → n < 2 ^ 64 → n ≡ changes_of w outputs leaf
    → Added old (leaf_lines w outputs leaf) now × (length now.bytes ≤ length old.bytes + leaf * 280)
    → Added now (leaf_line leaf n) new
    → Added old (leaf_lines w outputs (leaf + 1)) new × (length new.bytes ≤ length old.bytes + (leaf + 1) * 280)
line_more w outputs leaf {n} small few e before a =
    let short = leaf-line-short leaf n small few in
    let long = added-long a in
    let room = before.1 in
    (rw (add-one leaf) (added_then before.0 (rw e at a)), omega arith)
