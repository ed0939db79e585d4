use Rattle.tour_app.proofs.Steps.{starts}
use Rattle.tour_app.proofs.program.TourProgram.desk.Goals as goal

pub returns-clause-going : goal.returns-clause-going
returns-clause-going c = starts c.args.self.now _ c.new.ensures.items c.in_ok-found.ensures
