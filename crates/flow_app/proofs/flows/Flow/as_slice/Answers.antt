use Rattle.std.proofs.Common.{subst}
use Rattle.flow_law.specs.Flows.{AreDistinct}
use Rattle.flow_app.proofs.flows.Flow.as_slice.Goals as goal

pub returns-clause-distinct : goal.returns-clause-distinct
returns-clause-distinct c = subst AreDistinct c.self.view_is c.self.invariant.distinct
