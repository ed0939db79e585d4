use Rattle.std.proofs.Common.{◌≡◌}
use Rattle.work_queue.proofs.parted.Parted.meet_near.Given as goal

abbrev pub invariant-loop : goal.invariant-loop
invariant-loop g l = record {
  items : l.self.items ≡ l.initial.self.items;
  capacity : l.self.capacity ≡ l.initial.self.capacity;
}
