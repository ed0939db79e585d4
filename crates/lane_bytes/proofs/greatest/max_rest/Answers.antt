use Rattle.std.proofs.Common.{arith}
use Rattle.lane_bytes.proofs.Maxima.{one_more}
use Rattle.lane_bytes.proofs.greatest.max_rest.Goals as goal
use Rattle.lane_bytes.proofs.greatest.max_rest.Goals.{then-byte-most, else-byte-most}

pub loop-byte-preserved : goal.loop-byte-preserved
loop-byte-preserved c =
    let more = one_more c.args.least c.args.bytes.now c.loop-byte.byte-index c.loop-byte-test.true in
    elim c.if-byte-most.branch [
      | then-byte-most w ↦ omega (arith, more, c.loop-byte.invariant, w.if-byte-most, w.most-is)
      | else-byte-most w ↦ omega (arith, more, c.loop-byte.invariant, w.if-byte-most, w.most-is)
    ]
