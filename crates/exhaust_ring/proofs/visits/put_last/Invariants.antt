use Rattle.std.proofs.Common.{◌≡◌, ◌≤◌, ◌++◌, ◌+◌, length, take}
use Rattle.exhaust_ring.proofs.visits.put_last.Given as goal

abbrev pub invariant-loop-rank : goal.invariant-loop-rank
invariant-loop-rank l = (l.list ≡ l.initial.list ++ take l.rank-index l.parked) × (length l.initial.list + length l.parked ≤ 32)
