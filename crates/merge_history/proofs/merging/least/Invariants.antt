use Rattle.flat_merge.specs.Taking.{IsBest}
use Rattle.merge_history.specs.Merging.{stamp_at}
use Rattle.merge_history.proofs.merging.least.Given as goal

abbrev pub invariant-loop-at : goal.invariant-loop-at
invariant-loop-at l = IsBest stamp_at l.fronts l.at l.best
