use Rattle.std.proofs.Common.{◌≡◌, drop}
use Rattle.flow_app.specs.Stored.{Grows, Lays, to_take}
use Rattle.flow_app.proofs.stores.Store.settle.Given as goal

abbrev pub invariant-loop-rule : goal.invariant-loop-rule
invariant-loop-rule l = record {
  laid : Lays l.flow l.self (drop l.rule-index l.rule-items);
  values : l.self.values.items ≡ l.initial.self.values.items;
  left : to_take l.self ≡ to_take l.initial.self;
  next : l.self.next ≡ l.initial.self.next;
  grows : Grows l.initial.self.ready.items l.self.ready.items;
}
