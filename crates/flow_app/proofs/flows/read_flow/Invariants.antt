use Rattle.flow_app.specs.inside.Left.{room_left}
use Rattle.flow_app.proofs.Steps.{IsReadTo}
use Rattle.flow_app.proofs.flows.read_flow.Given as goal

abbrev pub invariant-each : goal.invariant-each
invariant-each l = IsReadTo l.bytes l.reading l.lines l.number

abbrev pub decreases-each : goal.decreases-each
decreases-each l = room_left l.lines
