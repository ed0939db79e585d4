use Rattle.tour_law.proofs.Bound.{bounded, cut-above}
use Rattle.tour_law.proofs.Enumerated.{least_is}
use Rattle.tour_law.proofs.Orders.{least_is_one, least_of_good}
use Rattle.tour_law.proofs.tour_laws.Goals as goal

pub returns-clause-least : goal.returns-clause-least
returns-clause-least c = least_is

pub returns-clause-one : goal.returns-clause-one
returns-clause-one c = least_is_one

pub returns-clause-good : goal.returns-clause-good
returns-clause-good c = least_of_good

pub returns-clause-bounded : goal.returns-clause-bounded
returns-clause-bounded c = bounded

pub returns-clause-cut : goal.returns-clause-cut
returns-clause-cut c = cut-above
