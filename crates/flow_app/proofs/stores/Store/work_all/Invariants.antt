use Rattle.flow_app.specs.Stored.{IsWhole, to_take}
use Rattle.flow_app.proofs.stores.Store.work_all.Given as goal

abbrev pub invariant-rules : goal.invariant-rules
invariant-rules l = IsWhole l.flow l.self

abbrev pub decreases-rules : goal.decreases-rules
decreases-rules l = to_take l.self
