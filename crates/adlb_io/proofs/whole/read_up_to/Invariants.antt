use Rattle.std.proofs.Common.{length, ◌-◌}
use Rattle.adlb_io.proofs.Reading.{IsGathering}
use Rattle.adlb_io.proofs.whole.read_up_to.Given as goal

abbrev pub invariant-loop-alloc : goal.invariant-loop-alloc
invariant-loop-alloc g l = IsGathering (g.S.Source.left l.fn.source) (g.S.Source.left l.source) l.bytes.items l.most
    (g.S.Source.faults l.fn.source) (g.S.Source.faults l.source)

abbrev pub decreases-loop-alloc : goal.decreases-loop-alloc
decreases-loop-alloc g l = l.most - length l.bytes.items
