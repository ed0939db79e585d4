use Rattle.std.proofs.Common.{rules, ◌≡◌, ◌+◌, ◌≤◌, ◌∙◌, ap, sym, arith, length}
use Rattle.std.specs.Prelude.{sum_by}
use Rattle.tour_law.proofs.Beginnings.{short, sum-within}
use Rattle.tour_law.proofs.Orders.{good_itself}
use Rattle.tour_search.specs.Cities.{costs, out_of}
use Rattle.tour_search.proofs.searching.search_from.Goals as goal

pub returns-in_err-ways-clause-good : goal.returns-in_err-ways-clause-good
returns-in_err-ways-clause-good c = good_itself (costs c.args.cities.now) c.args.best.now.cities.items

pub returns-in_err-path-clause-good : goal.returns-in_err-path-clause-good
returns-in_err-path-clause-good c = good_itself (costs c.args.cities.now) c.args.best.now.cities.items

pub returns-in_err-or_no_memory-clause-good : goal.returns-in_err-or_no_memory-clause-good
returns-in_err-or_no_memory-clause-good c = good_itself (costs c.args.cities.now) c.args.best.now.cities.items

pub cost_along-spent-requires-clause-few : goal.cost_along-spent-requires-clause-few
cost_along-spent-requires-clause-few c =
    let few = short c.args.cities.now.count c.args.beginning.now c.requires.begins in
    omega (arith, few, c.count.ensures.is, c.count.ensures.few)

pub ways_from-requires-clause-few : goal.ways_from-requires-clause-few
ways_from-requires-clause-few c =
    let few = short c.args.cities.now.count c.args.beginning.now c.requires.begins in
    omega (arith, few, c.count.ensures.is, c.count.ensures.few)

pub overflow_sub-left : goal.overflow_sub-left
overflow_sub-left c =
    let ways = c.as_slice-ways.result.now in
    let within = sum-within c.args.cities.now.count (out_of ways) c.args.beginning.now c.requires.begins.once c.requires.begins.cities in
    omega (arith, within, c.all_ways.ensures.sum, c.ways_from.ensures)

pub branch-cities-requires-clause-left : goal.branch-cities-requires-clause-left
branch-cities-requires-clause-left c =
    let ways = c.as_slice-ways.result.now in
    let within = sum-within c.args.cities.now.count (out_of ways) c.args.beginning.now c.requires.begins.once c.requires.begins.cities in
    let same : c.extend_from_slice.new.self.items ≡ c.args.beginning.now = search rules in
    omega (arith, within, c.all_ways.ensures.sum, c.ways_from.ensures, ap (sum_by (out_of ways)) same)
