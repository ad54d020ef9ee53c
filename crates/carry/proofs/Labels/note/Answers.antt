-- No label, a label that an entry has, or a new one. Assumes nothing.
use Rattle.carry.proofs.Bearing.{unlabelled-noted, twice-noted, newly-noted}
use Rattle.carry.proofs.Labels.note.Goals as goal

pub returns-then-l-eq0 : goal.returns-then-l-eq0
returns-then-l-eq0 c = unlabelled-noted c.requires c.label_of-l.ensures.0 c.if-l-eq0.true

pub returns : goal.returns
returns c = newly-noted c.requires c.label_of-l.ensures.0 c.label_of-l.ensures.1 c.if-l-eq0.false c.if-self-l-ne0.false

pub returns-then-self-l-ne0 : goal.returns-then-self-l-ne0
returns-then-self-l-ne0 c = twice-noted c.requires c.label_of-l.ensures.0 c.label_of-l.ensures.1 c.if-self-l-ne0.true
