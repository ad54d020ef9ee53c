-- From one name with the hash to the one before it; each that is passed over is another.
-- Assumes nothing.
use Rattle.std.proofs.Common.{◌≡◌, ◌≤◌, min}
use Rattle.symbols.specs.Names.{hash_of, nearest}
use Rattle.symbols.proofs.Search.{HasHash}
use Rattle.symbols.proofs.tables.NameTable.find.Given as goal

abbrev pub invariant-loop-k : goal.invariant-loop-k
invariant-loop-k l = record {
  low : l.link ≤ l.self.count;
  hashed : HasHash l.self.text.now l.self.spans (hash_of l.letters) l.link;
  passed : nearest l.self.text.now l.self.spans l.letters l.limit ≡ nearest l.self.text.now l.self.spans l.letters (min l.limit l.link);
}

abbrev pub decreases-loop-k : goal.decreases-loop-k
decreases-loop-k l = l.link
