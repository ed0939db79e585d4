use Rattle.lane_bytes.proofs.Lanes.{ones_are_counts}
use Rattle.lane_bytes.proofs.counting.ones_in.Goals as goal

pub returns : goal.returns
returns c = ones_are_counts c.args.lo c.args.hi c.args.lanes c.requires
