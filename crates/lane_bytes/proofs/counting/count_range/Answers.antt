use Rattle.std.proofs.Common.{arith, ◌∙◌, sym, ◌+◌, length, length-take, ◌≡◌, slice_range, sum_by, take}
use Rattle.lane_bytes.proofs.Parts.{counts, count_is_sum, count_at_most, part_adds, rest_adds}
use Rattle.lane_bytes.proofs.counting.count_range.Goals as goal

pub loop-at-preserved : goal.loop-at-preserved
loop-at-preserved c =
    let was = c.loop-at.invariant in
    let xs = c.args.bytes.now in
    let from = c.loop-at.at in
    let f = counts c.args.lo c.args.hi in
    let part : c.from-total.result ≡ sum_by f (slice_range xs from (from + 8160)) =
    c.from-total.ensures ∙ c.count_run.ensures ∙ count_is_sum c.args.lo c.args.hi (slice_range xs from (from + 8160)) in
    let total : c.loop-at.total + c.from-total.result ≡ sum_by f (take (from + 8160) xs) = (λ i. was.1 i + part i)
    ∙ sym (part_adds f xs from 8160) in (
      omega (arith, c.loop-at-test.true),
      total,
      omega (arith, total, count_at_most c.args.lo c.args.hi (take (from + 8160) xs), length-take (from + 8160) xs),
    )

pub returns : goal.returns
returns c =
    let xs = c.args.bytes.now in
    let part = c.from.ensures ∙ c.count_run-2.ensures ∙ count_is_sum c.args.lo c.args.hi (slice_range xs c.loop-at.at (length xs)) in
    (λ i. c.loop-at.invariant.1 i + part i) ∙ rest_adds (counts c.args.lo c.args.hi) xs c.loop-at.at
    ∙ sym (count_is_sum c.args.lo c.args.hi xs)
