use Rattle.std.proofs.Common.{ap, ◌∙◌}
use Rattle.work_queue.proofs.Tallies.{index_counted}
use Rattle.work_queue.specs.Counts.{counts_of}
use Rattle.work_queue.proofs.queues.WorkQueue.counts.Goals as goal

pub returns : goal.returns
returns c =
    c.count_kind.ensures
    ∙ index_counted c.args.kind _ c.self.inside.arrivals c.self.inside.index c.self.invariant.indexed
    ∙ ap (λ q. counts_of c.args.kind q.units) c.self.view_is
