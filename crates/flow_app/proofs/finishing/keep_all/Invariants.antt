use Rattle.flow_app.specs.Stored.{IsWhole}
use Rattle.flow_app.proofs.finishing.keep_all.Given as goal

abbrev pub invariant-loop-answer : goal.invariant-loop-answer
invariant-loop-answer l = IsWhole l.flow l.store
