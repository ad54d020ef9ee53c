-- The names with the hash of the last one are again those before it.
-- Assumes nothing.
use Rattle.std.proofs.Common.{◌∙◌, ap, arith}
use Rattle.symbols.specs.Names.{hash_of}
use Rattle.symbols.proofs.Search.{hashed-less, entry-read}
use Rattle.symbols.proofs.tables.NameTable.pop.Goals as goal

pub invariant_of-self : goal.invariant_of-self
invariant_of-self c =
    let t = c.args.self.now.hashed in
    let h = t.room in
    let read = entry-read c.args.self.now.text.now c.args.self.now.spans _ c.index-spans-last.result (omega (arith, t.spans_long)) in
    record { hashed = hashed-less t _ c.requires (c.hash-hash.ensures.0 ∙ ap hash_of (c.letters.ensures ∙ read)) }
