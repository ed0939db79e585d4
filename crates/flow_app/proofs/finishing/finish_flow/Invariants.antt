use Rattle.flow_app.specs.Stored.{IsWhole}
use Rattle.flow_app.proofs.finishing.finish_flow.Given as goal

abbrev pub invariant-loop-outcome : goal.invariant-loop-outcome
invariant-loop-outcome l = IsWhole l.flow l.store
