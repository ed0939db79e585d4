use Rattle.bag_tables.proofs.PartsKept.{due_some}
use Rattle.bag_tables.proofs.parts.Parts.has_due.Goals as goal

pub returns : goal.returns
returns c = rw (← c.self.view_is, c.self.invariant.counted) (due_some c.self.inside.held.items)
