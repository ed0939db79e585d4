use Rattle.std.proofs.Common.{◌≡◌, []}
use Rattle.flow_app.specs.Stored.{HasLetsTo, Lays}
use Rattle.flow_app.proofs.stores.Store.new.Given as goal

abbrev pub invariant-loop-place : goal.invariant-loop-place
invariant-loop-place l = record {
  laid : Lays l.flow l.store [];
  lets : HasLetsTo l.flow l.store.values.items l.place;
  first : l.store.next ≡ 0;
}
