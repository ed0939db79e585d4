use Rattle.std.proofs.Common.{◌≡◌, ◌≤◌, length, take}
use Rattle.adlb_unit.proofs.tokens.AskedList.twin.Given as goal

abbrev pub invariant-loop-rank : goal.invariant-loop-rank
invariant-loop-rank l = (l.twin ≡ take l.rank-index l.rank-items) × (length l.rank-items ≤ 32)
