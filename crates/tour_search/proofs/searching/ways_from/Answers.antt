use Rattle.std.proofs.Common.{◌≡◌, ◌≤◌, ◌<◌, ◌∙◌, ◌+◌, ap, sym, arith, get_or, length}
use Rattle.std.specs.Prelude.{sum_by}
use Rattle.std.proofs.lemmas.List.{take_all}
use Rattle.std.proofs.lemmas.List.Elements.{All-get_or}
use Rattle.std.proofs.lemmas.List.Sums.{sum_by_more}
use Rattle.tour_search.specs.Cities.{out_of}
use Rattle.tour_search.proofs.searching.ways_from.Goals as goal

pub bounds-ways-city : goal.bounds-ways-city
bounds-ways-city c =
    All-get_or (λ x. x < length c.args.ways.now) c.args.beginning.now c.loop-city.city-index 0 (omega arith) c.requires.cities

pub overflow_add-sum : goal.overflow_add-sum
overflow_add-sum c =
    let at = All-get_or (λ x. x < length c.args.ways.now) c.args.beginning.now c.loop-city.city-index 0 (omega arith) c.requires.cities in
    let low = All-get_or (λ x. x ≤ 1000000) c.args.ways.now (get_or c.args.beginning.now c.loop-city.city-index 0) 0 at c.requires.low in
    omega (arith, low, c.loop-city.invariant.low)

pub loop-city-preserved : goal.loop-city-preserved
loop-city-preserved c =
    let at = All-get_or (λ x. x < length c.args.ways.now) c.args.beginning.now c.loop-city.city-index 0 (omega arith) c.requires.cities in
    let low = All-get_or (λ x. x ≤ 1000000) c.args.ways.now (get_or c.args.beginning.now c.loop-city.city-index 0) 0 at c.requires.low in
    record {
      sum = ap (λ s. s + get_or c.args.ways.now (get_or c.args.beginning.now c.loop-city.city-index 0) 0) c.loop-city.invariant.sum
          ∙ sym (sum_by_more (out_of c.args.ways.now) c.args.beginning.now c.loop-city.city-index 0 (omega arith));
      low = omega (arith, low, c.loop-city.invariant.low);
    }

pub returns : goal.returns
returns c = c.loop-city.invariant.sum
    ∙ ap (sum_by (out_of c.args.ways.now)) (take_all c.loop-city.city-index c.args.beginning.now (omega arith))
