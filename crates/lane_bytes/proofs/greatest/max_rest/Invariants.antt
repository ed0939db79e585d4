use Rattle.std.proofs.Common.{◌≡◌, max, take}
use Rattle.lane_bytes.specs.Answers.{greatest}
use Rattle.lane_bytes.proofs.greatest.max_rest.Given as goal

abbrev pub invariant-loop-byte : goal.invariant-loop-byte
invariant-loop-byte l = l.most ≡ max l.least (greatest (take l.byte-index l.bytes))
