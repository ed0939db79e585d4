use Rattle.tour_search.proofs.Cuts.{some_left}
use Rattle.tour_search.proofs.pieces.Pieces.is_done.Goals as goal

pub returns-in-Some-clause-more : goal.returns-in-Some-clause-more
returns-in-Some-clause-more c = λ e left. some_left c.args.self.now.rest c.args.self.now.at _ c.in-Some.is left
