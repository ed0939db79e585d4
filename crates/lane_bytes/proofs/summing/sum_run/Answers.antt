use Rattle.std.proofs.Common.{arith, sym, ◌+◌, ◌≤◌, length, take, drop, List, ℕ, lit≤, w8, w16, w32, map, refl, subst}
use Rattle.std.proofs.lemmas.Simd.{bytes_below, chunk-fits, widens}
use Rattle.std.proofs.lemmas.List.Sums.{sum_by-take-le}
use Rattle.std.proofs.Math.Facts.{Fits-below}
use lib.Lanes.{Each1}
use Rattle.lane_bytes.proofs.Lanes.{same_map, reads_more, more_fits, fits_16, total_fits, whole_is_sum}
use Rattle.lane_bytes.proofs.Parts.{bytes_at_most}
use Rattle.lane_bytes.proofs.summing.sum_run.Goals as goal

pub overflow_add-sums : goal.overflow_add-sums
overflow_add-sums c =
    let part = take 32 (drop c.loop-at.at c.args.bytes.now) in
    let small = subst (λ (l : List ℕ). Each1 (λ x. x ≤ 255) l) (sym (same_map part))
    (bytes_below part (chunk-fits w8 c.loop-at.at 32 c.args.bytes.now c.type_inv.bytes)) in
    more_fits (λ x. x) 255 c.args.bytes.now c.loop-at.at c.loop-at.sums c.loop-at.invariant.1 w16 65536 fits_16
    (omega (arith, c.loop-at-test.true, c.requires)) (map (λ x. x) part) small

pub loop-at-preserved : goal.loop-at-preserved
loop-at-preserved c =
    let part = take 32 (drop c.loop-at.at c.args.bytes.now) in
    let room : c.loop-at.at + 32 ≤ length c.args.bytes.now = omega (arith, c.loop-at-test.true) in
    let small = subst (λ (l : List ℕ). Each1 (λ x. x ≤ 255) l) (sym (same_map part))
    (bytes_below part (chunk-fits w8 c.loop-at.at 32 c.args.bytes.now c.type_inv.bytes)) in
    (room, reads_more (λ x. x) 255 c.args.bytes.now c.loop-at.at c.loop-at.sums c.loop-at.invariant.1 (map (λ x. x) part) room small refl)

pub overflow_cast-result : goal.overflow_cast-result
overflow_cast-result c = widens w16 w32 (lit≤ tt) c.loop-at.sums c.loop-at.auto.sums.1

pub overflow_add-result : goal.overflow_add-result
overflow_add-result c =
    let few = sum_by-take-le (λ x. x) c.args.bytes.now c.loop-at.at in
    total_fits c.loop-at.sums (omega (arith, few, bytes_at_most c.args.bytes.now c.type_inv.bytes, c.loop-at.invariant.1.adds, c.requires))

pub overflow_add-result-2 : goal.overflow_add-result-2
overflow_add-result-2 c =
    let xs = c.args.bytes.now in
    let whole = whole_is_sum (λ x. x) 255 xs c.loop-at.at c.loop-at.sums c.loop-at.invariant.1 c.sum_rest.result c.sum_rest.ensures in
    Fits-below {n = 2088960} tt (omega (arith, whole, bytes_at_most xs c.type_inv.bytes, c.requires))

pub returns : goal.returns
returns c =
    whole_is_sum (λ x. x) 255 c.args.bytes.now c.loop-at.at c.loop-at.sums c.loop-at.invariant.1 c.sum_rest.result c.sum_rest.ensures
