use Rattle.std.proofs.Common.{◌≤◌, ◌^◌, ℕ, get_or, arith}
use Rattle.std.proofs.lemmas.List.Sums.{sum_by_more}
use Rattle.std.proofs.lemmas.Option.{slice_get-get_or}
use Rattle.adlb.proofs.works.total.Goals as goal

pub loop-counted-preserved : goal.loop-counted-preserved
loop-counted-preserved c =
    let few : get_or c.args.counts.now c.loop-counted.counted-index 0 ≤ 2 ^ 112 =
    c.requires.few c.loop-counted.counted-index _
    (slice_get-get_or c.args.counts.now c.loop-counted.counted-index 0 (omega arith)) in
    let sum = sum_by_more (λ (n : ℕ). n) c.args.counts.now c.loop-counted.counted-index 0 (omega arith) in
    record {
      sum = omega (arith, sum, c.loop-counted.invariant.sum);
      few = omega (arith, few, c.loop-counted.invariant.few);
    }
