use Rattle.std.proofs.Common.{arith, ◌∙◌, sym, ◌+◌, ◌≡◌, slice_range, sum, take}
use Rattle.lane_bytes.proofs.Parts.{part_adds, rest_adds, sums_at_most}
use Rattle.lane_bytes.proofs.summing.sum_bytes.Goals as goal

pub loop-at-preserved : goal.loop-at-preserved
loop-at-preserved c =
    let was = c.loop-at.invariant in
    let xs = c.args.bytes.now in
    let from = c.loop-at.at in
    let part : c.from-total.result ≡ sum (slice_range xs from (from + 8192)) = c.from-total.ensures ∙ c.sum_run.ensures in
    let total : c.loop-at.total + c.from-total.result ≡ sum (take (from + 8192) xs) = (λ i. was.1 i + part i)
    ∙ sym (part_adds (λ x. x) xs from 8192) in (
      omega (arith, c.loop-at-test.true),
      total,
      omega (arith, total, sums_at_most xs c.type_inv.bytes (from + 8192)),
    )

pub returns : goal.returns
returns c =
    let xs = c.args.bytes.now in
    let part = c.from.ensures ∙ c.sum_run-2.ensures in
    (λ i. c.loop-at.invariant.1 i + part i) ∙ rest_adds (λ x. x) xs c.loop-at.at
