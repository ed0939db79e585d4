use Rattle.std.proofs.Common.{rules, ◌≡◌, true, ap, ◌∙◌, arith, ◌++◌, ◌∷◌, []}
use Rattle.std.specs.Bool.{if◌then◌else◌}
use Rattle.std.specs.Result.{is_ok}
use Rattle.tour_search.proofs.Sums.{AreWays, no_ways, one_way}
use Rattle.tour_search.proofs.ways.ways_out.Goals as goal

pub loop-city-init : goal.loop-city-init
loop-city-init c = no_ways c.args.cities.now _ c.new-ways.ensures.items

pub loop-city-preserved : goal.loop-city-preserved
loop-city-preserved c =
    let ok : is_ok c.push.result ≡ true = search rules in
    one_way c.args.cities.now c.loop-city.ways.items c.push.new.self.items c.loop-city.city c.way_out.result c.loop-city.invariant
    (c.push.ensures.items ∙ ap (λ b. if b then c.loop-city.ways.items ++ c.way_out.result ∷ [] else c.loop-city.ways.items) ok)
    c.way_out.ensures.cheap c.way_out.ensures.low

pub returns-clause-count : goal.returns-clause-count
returns-clause-count c = omega (arith, c.loop-city.invariant.long)

pub returns-clause-ways : goal.returns-clause-ways
returns-clause-ways c = λ from to below within other. c.loop-city.invariant.each from to (omega arith) within other

pub returns-clause-low : goal.returns-clause-low
returns-clause-low c = c.loop-city.invariant.low
