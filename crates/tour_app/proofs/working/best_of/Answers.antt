use Rattle.tour_app.proofs.Pairs.{found_at}
use Rattle.tour_app.proofs.working.best_of.Goals as goal

pub returns-clause-best : goal.returns-clause-best
returns-clause-best c =
    found_at c.args.start.now c.cities.result.now c.as_slice.result.now c.args.second c.args.third c.in_ok-best.best c.search_from.new.best
    c.cities.ensures c.as_slice.ensures c.requires c.in_ok-best.ensures.same c.search_from.ensures.known c.search_from.ensures.good
    c.search_from.ensures.from c.in_ok-search_from.ensures.searched
