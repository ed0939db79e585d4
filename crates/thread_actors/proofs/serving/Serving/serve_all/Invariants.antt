use Rattle.std.proofs.Common.{◌≡◌, []}
use Rattle.thread_actors.specs.inside.Serving.{Follows}
use Rattle.thread_actors.proofs.serving.Serving.serve_all.Given as goal

abbrev pub invariant-loop : goal.invariant-loop
invariant-loop g l = record {
  follows : Follows l.self.desk [] l.self.state;
  config : l.self.config ≡ l.fn.self.config;
  me : l.self.me ≡ l.fn.self.me;
}
