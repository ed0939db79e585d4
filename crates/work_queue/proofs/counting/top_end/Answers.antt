use Rattle.std.proofs.Common.{rules}
use Rattle.std.proofs.lemmas.List.Sorted.{IsPartitionPoint-from_clause}
use Rattle.work_queue.proofs.Tallies.{parted_high}
use Rattle.work_queue.specs.inside.Index.{as_high}
use Rattle.work_queue.specs.declared.entries.Entry.{Entry}
use Rattle.work_queue.proofs.counting.top_end.Goals as goal

pub returns-clause-point : goal.returns-clause-point
returns-clause-point c = IsPartitionPoint-from_clause (λ (x : Entry). as_high c.args.first.now x) _ _ c.partition_point.ensures.partitioned
    (parted_high c.args.entries.now.items c.args.first.now c.requires) (λ a r q k. search rules)
