use Rattle.std.proofs.Common.{◌≡◌, ◌≤◌, ◌-◌, length, take, sum_by}
use Rattle.lane_bytes.proofs.Parts.{counts}
use Rattle.lane_bytes.proofs.counting.count_range.Given as goal

abbrev pub invariant-loop-at : goal.invariant-loop-at
invariant-loop-at l = (l.at ≤ length l.bytes) × (l.total ≡ sum_by (counts l.lo l.hi) (take l.at l.bytes)) × (l.total ≤ l.at)

abbrev pub decreases-loop-at : goal.decreases-loop-at
decreases-loop-at l = length l.bytes - l.at
