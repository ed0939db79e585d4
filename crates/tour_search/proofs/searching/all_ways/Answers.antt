use Rattle.std.proofs.Common.{◌≡◌, ◌≤◌, ◌∙◌, ◌+◌, ap, sym, arith, get_or}
use Rattle.std.proofs.lemmas.List.Elements.{All-get_or}
use Rattle.tour_law.specs.Search.{sum_below}
use Rattle.tour_search.specs.Cities.{out_of}
use Rattle.tour_search.proofs.Sums.{below_more, none_below}
use Rattle.tour_search.proofs.searching.all_ways.Goals as goal

pub loop-city-init : goal.loop-city-init
loop-city-init c = record { sum = sym (none_below (out_of c.args.ways.now)); low = omega arith }

pub overflow_add-sum : goal.overflow_add-sum
overflow_add-sum c =
    let low = All-get_or (λ x. x ≤ 1000000) c.args.ways.now c.loop-city.city 0 (omega arith) c.requires.low in
    omega (arith, low, c.loop-city.invariant.low)

pub loop-city-preserved : goal.loop-city-preserved
loop-city-preserved c =
    let low = All-get_or (λ x. x ≤ 1000000) c.args.ways.now c.loop-city.city 0 (omega arith) c.requires.low in
    record {
      sum = ap (λ s. s + get_or c.args.ways.now c.loop-city.city 0) c.loop-city.invariant.sum
          ∙ sym (below_more c.loop-city.city (out_of c.args.ways.now));
      low = omega (arith, low, c.loop-city.invariant.low);
    }

pub returns-clause-sum : goal.returns-clause-sum
returns-clause-sum c =
    let e : c.loop-city.city ≡ c.args.cities.now.count = omega arith in
    c.loop-city.invariant.sum ∙ ap (λ k. sum_below k (out_of c.args.ways.now)) e
