use Rattle.std.proofs.Common.{◌≡◌, length, arith}
use Rattle.flat_merge.proofs.Best.{least_some}
use Rattle.merge_history.specs.Merging.{stamp_at}
use Rattle.merge_history.proofs.merging.least.Goals as goal

pub returns-in-Some : goal.returns-in-Some
returns-in-Some c =
    let fronts = c.args.fronts.now in
    let at_end : c.loop-at.at ≡ length fronts = omega (arith, c.loop-at-test.false, c.loop-at.auto.at-end) in
    least_some stamp_at fronts (c.in-Some.at, c.in-Some.field-0-1) (rw (at_end, c.in-Some.is) at c.loop-at.invariant)
