-- The last name with a hash comes before the new one.
-- Assumes nothing.
use Rattle.std.proofs.Common.{◌∙◌, ap}
use Rattle.symbols.specs.Names.{hash_of}
use Rattle.symbols.proofs.Search.{hashed-more}
use Rattle.symbols.proofs.tables.NameTable.push.Goals as goal

pub invariant_of-self : goal.invariant_of-self
invariant_of-self c = record { hashed = hashed-more c.args.self.now.hashed c.args.span _ c.requires.0 c.requires.1 (c.hash-hash.ensures.0 ∙ ap hash_of c.letters.ensures) c.hash-hash.ensures.1 }
