use Rattle.std.proofs.Common.{◌≤◌, ◌-◌, length}
use Rattle.lane_bytes.proofs.Lanes.{HaveRead}
use Rattle.lane_bytes.proofs.summing.sum_run.Given as goal

abbrev pub invariant-loop-at : goal.invariant-loop-at
invariant-loop-at l = (l.at ≤ length l.bytes) × HaveRead (λ x. x) 255 l.bytes l.at l.sums

abbrev pub decreases-loop-at : goal.decreases-loop-at
decreases-loop-at l = length l.bytes - l.at
