use Rattle.std.proofs.Common.{None}
use Rattle.std.proofs.lemmas.Bool.{false≢true}
use Rattle.work_queue.proofs.Lookups.{pin_missing, unit_free}
use Rattle.work_queue.proofs.queues.WorkQueue.is_free.Goals as goal

pub returns-in-Some : goal.returns-in-Some
returns-in-Some c = unit_free c.args.self.now.units c.args.id c.unit.ensures.distinct c.in-Some.placed.now c.in-Some.ensures.found
    c.is_none.result c.is_none.ensures

pub returns-in-None : goal.returns-in-None
returns-in-None c =
    (λ t. absurd (false≢true t), λ has. absurd (pin_missing c.args.self.now.units c.args.id c.in-None.ensures.found None has))
