use Rattle.std.proofs.Common.{◌≤◌, ◌-◌, length}
use Rattle.lane_bytes.proofs.Lanes.{HaveRead}
use Rattle.lane_bytes.proofs.Parts.{counts}
use Rattle.lane_bytes.proofs.counting.count_run.Given as goal

abbrev pub invariant-loop-at : goal.invariant-loop-at
invariant-loop-at l = (l.at ≤ length l.bytes) × HaveRead (counts l.lo l.hi) 1 l.bytes l.at l.counts

abbrev pub decreases-loop-at : goal.decreases-loop-at
decreases-loop-at l = length l.bytes - l.at
