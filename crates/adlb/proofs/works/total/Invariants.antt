use Rattle.std.proofs.Common.{◌≡◌, ◌*◌, ◌≤◌, ◌^◌, sum_by, take}
use Rattle.adlb.proofs.works.total.Given as goal

abbrev pub invariant-loop-counted : goal.invariant-loop-counted
invariant-loop-counted l = record {
  sum : l.total ≡ sum_by (λ n. n) (take l.counted-index l.counts);
  few : l.total ≤ 2 ^ 112 * l.counted-index;
}
