use Rattle.std.proofs.Common.{◌≡◌, ◌<◌, ◌∙◌, ◌+◌, ◌-◌, ap, sym, arith, take, get_or, length}
use Rattle.std.proofs.lemmas.List.{take_all}
use Rattle.std.proofs.lemmas.List.Elements.{All-get_or}
use Rattle.tour_law.specs.Beginnings.{path_cost}
use Rattle.tour_search.specs.Cities.{costs}
use Rattle.tour_search.proofs.Sums.{path_more, path_one}
use Rattle.tour_search.proofs.searching.cost_along.Goals as goal

pub loop-place-init : goal.loop-place-init
loop-place-init c = record {
  cost = sym (path_one (costs c.args.cities.now) c.args.path.now c.requires.some);
  low = omega arith;
}

pub cost-cost-requires-clause-from : goal.cost-cost-requires-clause-from
cost-cost-requires-clause-from c =
    All-get_or (λ x. x < c.args.cities.now.count) c.args.path.now (c.loop-place.place - 1) 0 (omega arith) c.requires.cities

pub cost-cost-requires-clause-to : goal.cost-cost-requires-clause-to
cost-cost-requires-clause-to c =
    All-get_or (λ x. x < c.args.cities.now.count) c.args.path.now c.loop-place.place 0 (omega arith) c.requires.cities

pub loop-place-preserved : goal.loop-place-preserved
loop-place-preserved c = record {
  cost = ap (λ s. s + c.cost-cost.result) c.loop-place.invariant.cost
      ∙ ap (λ s. path_cost (costs c.args.cities.now) (take c.loop-place.place c.args.path.now) + s) c.cost-cost.ensures.is
      ∙ sym (path_more (costs c.args.cities.now) c.args.path.now c.loop-place.place (omega arith) (omega arith));
  low = omega (arith, c.loop-place.invariant.low, c.cost-cost.ensures.low);
}

pub returns-clause-cost : goal.returns-clause-cost
returns-clause-cost c = c.loop-place.invariant.cost
    ∙ ap (path_cost (costs c.args.cities.now)) (take_all c.loop-place.place c.args.path.now (omega arith))
