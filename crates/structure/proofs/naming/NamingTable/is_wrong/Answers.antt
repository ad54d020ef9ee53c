-- No word is given exactly where none names the record well. Assumes nothing.
use Rattle.structure.proofs.Namers.{misnamed}
use Rattle.structure.proofs.naming.NamingTable.is_wrong.Goals as goal

pub returns : goal.returns
returns c = λ s all. misnamed s c.args.self.now c.args.rec c.requires.0 c.requires.1 all c.namer.result c.namer.ensures _ c.is_none.ensures
