use Rattle.flow_work.specs.Stocks.{AreValuesTo}
use Rattle.flow_work.proofs.stock.own_values.Given as goal

abbrev pub invariant-loop-place : goal.invariant-loop-place
invariant-loop-place l = AreValuesTo l.flow l.store.values.items l.own.items l.place
