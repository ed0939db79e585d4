use Rattle.std.proofs.Common.{arith, ◌≢◌}
use Rattle.tour_search.proofs.Through.{moved_tour}
use Rattle.tour_search.proofs.first.go_nearest.Goals as goal

pub loop-place-preserved : goal.loop-place-preserved
loop-place-preserved c =
    let a : 0 ≢ c.loop-place.place = λ e. omega arith in
    let b : 0 ≢ c.nearest_to-nearest.result = λ e. let h = c.nearest_to-nearest.ensures.behind in omega arith in
    moved_tour c.args.cities.now.count c.loop-place.tour _ c.loop-place.invariant c.swap.ensures.permutation c.swap.ensures.len
    (c.swap.ensures.by_index.2 0 0 a b)
