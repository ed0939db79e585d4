use Rattle.std.proofs.Common.{not, rules}
use Rattle.std.proofs.lemmas.List.Sorted.{IsPartitionPoint-from_clause}
use Rattle.work_queue.proofs.Points.{parted_runs, run_point}
use Rattle.work_queue.specs.inside.Index.{runs_before}
use Rattle.work_queue.specs.declared.entries.Entry.{Entry}
use Rattle.work_queue.proofs.indexing.run_end.Goals as goal

pub returns-clause-point : goal.returns-clause-point
returns-clause-point c =
    run_point c.args.entries.now.items c.args.entry.now c.partition_point.result
    (IsPartitionPoint-from_clause (λ (x : Entry). not (runs_before c.args.entry.now x)) _ _ c.partition_point.ensures.partitioned
    (parted_runs c.args.entries.now.items c.args.entry.now c.requires) (λ a r q k. search rules))
