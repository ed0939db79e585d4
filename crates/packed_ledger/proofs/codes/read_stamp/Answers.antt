use Rattle.std.proofs.Common.{arith}
use Rattle.packed_ledger.specs.inside.Codes.{entry_before, stamped_before}
use Rattle.packed_ledger.proofs.codes.read_stamp.Goals as goal

pub returns : goal.returns
unfolding stamped_before
returns c = λ s rest kept e. (c.read_groups.ensures s.stamp (entry_before s.entry rest) kept.stamp (omega arith) e).0
