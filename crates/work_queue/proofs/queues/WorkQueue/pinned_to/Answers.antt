use Rattle.std.proofs.Common.{Some}
use Rattle.std.proofs.lemmas.Option.{none-some}
use Rattle.work_queue.proofs.Lookups.{pin_is, pin_missing}
use Rattle.work_queue.proofs.queues.WorkQueue.pinned_to.Goals as goal

pub returns-in-Some : goal.returns-in-Some
returns-in-Some c rank =
    pin_is c.args.self.now.units c.args.id c.unit.ensures.distinct c.in-Some.placed.now c.in-Some.ensures.found (Some rank)

pub returns-in-None : goal.returns-in-None
returns-in-None c rank = (
  λ some. absurd (none-some rank some),
  λ has. absurd (pin_missing c.args.self.now.units c.args.id c.in-None.ensures.found (Some rank) has),
)
