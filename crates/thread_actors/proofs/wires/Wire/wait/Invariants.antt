use Rattle.thread_actors.proofs.Prelude.{IsRecorded, Knows, None, Waits, [], was_told, ◌≡◌}
use Rattle.thread_actors.proofs.wires.Wire.wait.Given as goal

abbrev pub invariant-loop : goal.invariant-loop
invariant-loop g l = record {
  waits : Waits l.fn.self.core.transcript l.begun.value l.self.core;
  whole : l.self.core.trouble ≡ None;
  knows : Knows l.self.core;
  recorded : IsRecorded l.self.desk [] l.self.core;
  expected : l.self.unexpected ≡ None;
  told : l.self.told ≡ was_told l.self.desk.got;
  config : l.self.config ≡ l.fn.self.config;
  me : l.self.core.me ≡ l.fn.self.core.me;
}
