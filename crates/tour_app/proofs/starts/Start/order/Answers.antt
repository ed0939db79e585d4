use Rattle.std.proofs.Common.{subst}
use Rattle.tour_law.specs.Tours.{IsTour}
use Rattle.tour_app.specs.Starts.{StartModel}
use Rattle.tour_app.proofs.starts.Start.order.Goals as goal

pub returns-clause-tour : goal.returns-clause-tour
returns-clause-tour c = subst (λ (s : StartModel). IsTour s.cities.count s.first) c.self.view_is c.self.invariant.tour
