-- The hash of the letters so far, and of those that are left.
-- Assumes nothing.
use Rattle.std.proofs.Common.{◌≡◌, ◌<◌, drop}
use Rattle.symbols.specs.Names.{hash_of, hashed_from, hashes}
use Rattle.symbols.proofs.tables.hash.Given as goal

abbrev pub invariant-loop-letter : goal.invariant-loop-letter
invariant-loop-letter l = (hash_of l.letters ≡ hashed_from l.hash (drop l.letter-index l.letters)) × (l.hash < hashes)
