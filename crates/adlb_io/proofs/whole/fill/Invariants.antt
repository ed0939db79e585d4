use Rattle.std.proofs.Common.{length, ◌-◌}
use Rattle.adlb_io.proofs.Reading.{IsFilling}
use Rattle.adlb_io.proofs.whole.fill.Given as goal

abbrev pub invariant-loop-at : goal.invariant-loop-at
invariant-loop-at g l = IsFilling (g.S.Source.left l.fn.source) (g.S.Source.left l.source) l.room l.at (g.S.Source.faults l.fn.source)
    (g.S.Source.faults l.source)

abbrev pub decreases-loop-at : goal.decreases-loop-at
decreases-loop-at g l = length l.initial.room - l.at
