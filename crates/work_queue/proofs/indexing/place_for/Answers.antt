use Rattle.std.proofs.Common.{rules}
use Rattle.std.proofs.lemmas.List.Sorted.{IsPartitionPoint-from_clause}
use Rattle.work_queue.proofs.Orders.{before_trans}
use Rattle.work_queue.proofs.Sorted.{parted_at}
use Rattle.work_queue.specs.inside.Index.{goes_before}
use Rattle.work_queue.specs.declared.entries.Entry.{Entry}
use Rattle.work_queue.proofs.indexing.place_for.Goals as goal

pub returns-clause-point : goal.returns-clause-point
returns-clause-point c = IsPartitionPoint-from_clause (λ (x : Entry). goes_before x c.args.entry.now) _ _
    c.partition_point.ensures.partitioned (parted_at goes_before before_trans c.args.entries.now.items c.args.entry.now c.requires)
    (λ a r q k. search rules)
