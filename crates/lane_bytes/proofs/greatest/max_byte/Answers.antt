use Rattle.std.proofs.Common.{arith, ap, ◌∙◌, ◌+◌, ◌≤◌, length, max, slice_range}
use Rattle.std.proofs.Math.Nat.{zero-max}
use Rattle.lane_bytes.specs.Answers.{greatest}
use Rattle.lane_bytes.proofs.Maxima.{lanes_more, greatest_with_rest}
use Rattle.lane_bytes.proofs.greatest.max_byte.Goals as goal

pub loop-at-preserved : goal.loop-at-preserved
loop-at-preserved c =
    let was = c.loop-at.invariant in
    let room : c.loop-at.at + 32 ≤ length c.args.bytes.now = omega (arith, c.loop-at-test.true) in
    let more = lanes_more c.loop-at.most c.args.bytes.now c.loop-at.at was.1 room was.2 in
    (room, more.0, more.1)

pub returns : goal.returns
returns c =
    let was = c.loop-at.invariant in
    let rest = greatest (slice_range c.args.bytes.now c.loop-at.at (length c.args.bytes.now)) in
    c.max_rest-2.ensures ∙ ap (λ m. max m rest) (c.max_rest.ensures ∙ zero-max (greatest c.loop-at.most) ∙ was.2)
    ∙ greatest_with_rest c.args.bytes.now c.loop-at.at
