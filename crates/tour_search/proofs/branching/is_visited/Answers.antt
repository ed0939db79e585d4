use Rattle.tour_search.proofs.UnderWay.{any_times}
use Rattle.tour_search.proofs.branching.is_visited.Goals as goal

pub returns-clause-no : goal.returns-clause-no
returns-clause-no c = any_times c.args.city c.args.beginning.now c.contains.result c.contains.ensures.value
