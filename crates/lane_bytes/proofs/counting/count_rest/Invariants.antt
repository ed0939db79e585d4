use Rattle.std.proofs.Common.{◌≡◌, ◌≤◌, take}
use Rattle.lane_bytes.specs.Answers.{count_from}
use Rattle.lane_bytes.proofs.counting.count_rest.Given as goal

abbrev pub invariant-loop-byte : goal.invariant-loop-byte
invariant-loop-byte l = (l.count ≡ count_from l.lo l.hi (take l.byte-index l.bytes)) × (l.count ≤ l.byte-index)
