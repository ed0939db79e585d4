use Rattle.std.proofs.Common.{length-set, ◌∙◌, arith}
use Rattle.packed_ledger.proofs.KindBytes.{kind_read}
use Rattle.packed_ledger.proofs.codes.read_types.Goals as goal

pub loop-i-preserved : goal.loop-i-preserved
loop-i-preserved c =
    let was = c.loop-i.invariant in
    let held = c.loop-i.kinds in
    let i = c.loop-i.i in (
      length-set held i (record { 0 = c.read_short-kind.result.0 }) ∙ was.0,
      λ kinds left count fits e. kind_read i held kinds c.loop-i.rest.now left c.read_short-kind.result.1.now c.read_short-kind.result.0
          (omega (arith, was.0)) (omega (arith, count)) fits (was.1 kinds left count fits e) c.read_short-kind.ensures,
    )
