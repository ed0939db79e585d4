use Rattle.std.proofs.Common.{◌<◌, arith, ◌-◌}
use Rattle.std.proofs.lemmas.List.Elements.{All-get_or}
use Rattle.tour_search.proofs.first.nearest_to.Goals as goal

pub is_nearer-requires-clause-from : goal.is_nearer-requires-clause-from
is_nearer-requires-clause-from c =
    All-get_or (λ x. x < c.args.cities.now.count) c.args.tour.now (c.args.place - 1) 0 (omega arith) c.requires.tour.cities

pub is_nearer-requires-clause-city : goal.is_nearer-requires-clause-city
is_nearer-requires-clause-city c =
    All-get_or (λ x. x < c.args.cities.now.count) c.args.tour.now c.loop-other.other 0 (omega arith) c.requires.tour.cities

pub is_nearer-requires-clause-other : goal.is_nearer-requires-clause-other
is_nearer-requires-clause-other c =
    All-get_or (λ x. x < c.args.cities.now.count) c.args.tour.now c.loop-other.nearest 0 c.loop-other.invariant.within
    c.requires.tour.cities
