use Rattle.std.proofs.Common.{ap}
use Rattle.bag_ledger.specs.declared.entries.Call.TheVariants.{BeginBatch}
use Rattle.tour_app.proofs.Making.{batch_by, begun_by, same_by, says_by, too_long_by, whole_by}
use Rattle.tour_app.proofs.calls.begin.Goals as goal

pub returns-clause-says : goal.returns-clause-says
returns-clause-says g c =
    says_by _ _ _ (BeginBatch c.args.common.now) c.begin_batch.result (ap BeginBatch c.in-Ok.ensures) c.begin_batch.ensures.made.said

pub returns-clause-same : goal.returns-clause-same
returns-clause-same g c = same_by _ _ _ c.begin_batch.result c.begin_batch.ensures.made.said

pub returns-clause-begun : goal.returns-clause-begun
returns-clause-begun g c =
    begun_by (g.R.Rank.link c.args.link.now) (g.R.Rank.link c.begin_batch.new.self) _ (BeginBatch c.args.common.now) c.begin_batch.result
    (ap BeginBatch c.in-Ok.ensures) c.requires.whole c.begin_batch.ensures.made

pub returns-clause-fine : goal.returns-clause-fine
returns-clause-fine g c = whole_by _ c.begin_batch.result c.begin_batch.ensures.made.failed

pub returns-clause-batch : goal.returns-clause-batch
returns-clause-batch g c = batch_by c.in-Ok.common _ _ c.begin_batch.result c.begin_batch.ensures.made.batch c.requires.closed

pub returns-clause-too_long : goal.returns-clause-too_long
returns-clause-too_long g c = too_long_by _ c.begin_batch.result c.begin_batch.ensures.made.failed
