use Rattle.std.proofs.Common.{nat_lt, rules}
use Rattle.std.proofs.lemmas.List.Sorted.{IsPartitionPoint-from_clause}
use Rattle.work_queue.proofs.Names.{numbers_trans, rising_before, stamp_stands}
use Rattle.work_queue.proofs.Sorted.{parted_at}
use Rattle.work_queue.proofs.parted.Parted+u64.place_of.Goals as goal

pub returns : goal.returns
returns c =
    let stamps = c.args.self.now.items in
    stamp_stands stamps c.args.stamp c.partition_point.result c.requires c.partition_point.ensures.within
    (IsPartitionPoint-from_clause (λ x. nat_lt x c.args.stamp) _ _ c.partition_point.ensures.partitioned
    (parted_at nat_lt numbers_trans stamps c.args.stamp (rising_before stamps c.requires)) (λ a r q k. search rules))
