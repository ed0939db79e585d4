use Rattle.std.proofs.Common.{arith, ◌∙◌, sym, subst, ◌+◌, ◌≤◌, length, slice_range, List, ℕ, lit≤, w8, w32}
use Rattle.std.proofs.lemmas.Simd.{length-chunk, widens}
use Rattle.std.proofs.lemmas.List.Sums.{sum_by-take-le}
use Rattle.std.proofs.Math.Facts.{Fits-below}
use lib.Lanes.{Each1}
use Rattle.lane_bytes.proofs.Lanes.{reads_more, more_fits, fits_8, each_at_most_one, total_fits, whole_is_sum}
use Rattle.lane_bytes.proofs.Parts.{counts, count_is_sum, count_at_most}
use Rattle.lane_bytes.proofs.counting.count_run.Goals as goal

pub ones_in-counts-requires : goal.ones_in-counts-requires
ones_in-counts-requires c = length-chunk c.loop-at.at 32 c.args.bytes.now (omega (arith, c.loop-at-test.true))

pub overflow_add-counts : goal.overflow_add-counts
overflow_add-counts c =
    let f = counts c.args.lo c.args.hi in
    let small = subst (λ (l : List ℕ). Each1 (λ x. x ≤ 1) l) (sym c.ones_in-counts.ensures) (each_at_most_one c.args.lo c.args.hi _) in
    more_fits f 1 c.args.bytes.now c.loop-at.at c.loop-at.counts c.loop-at.invariant.1 w8 256 fits_8
    (omega (arith, c.loop-at-test.true, c.requires)) c.ones_in-counts.result small

pub loop-at-preserved : goal.loop-at-preserved
loop-at-preserved c =
    let f = counts c.args.lo c.args.hi in
    let room : c.loop-at.at + 32 ≤ length c.args.bytes.now = omega (arith, c.loop-at-test.true) in
    let small = subst (λ (l : List ℕ). Each1 (λ x. x ≤ 1) l) (sym c.ones_in-counts.ensures) (each_at_most_one c.args.lo c.args.hi _) in (
      room,
      reads_more f 1 c.args.bytes.now c.loop-at.at c.loop-at.counts c.loop-at.invariant.1 c.ones_in-counts.result room small
          c.ones_in-counts.ensures,
    )

pub overflow_cast-result : goal.overflow_cast-result
overflow_cast-result c = widens w8 w32 (lit≤ tt) c.loop-at.counts c.loop-at.auto.counts.1

pub overflow_add-result : goal.overflow_add-result
overflow_add-result c =
    let f = counts c.args.lo c.args.hi in
    let few = sum_by-take-le f c.args.bytes.now c.loop-at.at in
    total_fits c.loop-at.counts
    (omega (arith, few, count_at_most c.args.lo c.args.hi c.args.bytes.now, c.loop-at.invariant.1.adds, c.requires))

pub overflow_add-result-2 : goal.overflow_add-result-2
overflow_add-result-2 c =
    let xs = c.args.bytes.now in
    let rest = c.count_rest.ensures ∙ count_is_sum c.args.lo c.args.hi (slice_range xs c.loop-at.at (length xs)) in
    let whole =
    whole_is_sum (counts c.args.lo c.args.hi) 1 xs c.loop-at.at c.loop-at.counts c.loop-at.invariant.1 c.count_rest.result rest in
    Fits-below {n = 8160} tt (omega (arith, whole, count_at_most c.args.lo c.args.hi xs, c.requires))

pub returns : goal.returns
returns c =
    let xs = c.args.bytes.now in
    let rest = c.count_rest.ensures ∙ count_is_sum c.args.lo c.args.hi (slice_range xs c.loop-at.at (length xs)) in
    whole_is_sum (counts c.args.lo c.args.hi) 1 xs c.loop-at.at c.loop-at.counts c.loop-at.invariant.1 c.count_rest.result rest
    ∙ sym (count_is_sum c.args.lo c.args.hi xs)
