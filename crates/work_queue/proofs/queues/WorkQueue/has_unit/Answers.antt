use Rattle.work_queue.proofs.Lookups.{has_unit_is}
use Rattle.work_queue.proofs.queues.WorkQueue.has_unit.Goals as goal

pub returns : goal.returns
returns c = has_unit_is c.args.self.now.units c.args.id c.unit.result c.is_some.result c.unit.ensures.found c.is_some.ensures
