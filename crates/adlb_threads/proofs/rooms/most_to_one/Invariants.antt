use Rattle.std.proofs.Common.{◌≡◌, ◌≤◌, ◌<◌}
use Rattle.adlb_unit.specs.declared.names.Server.{Server}
use Rattle.core_progress_law.specs.Room.{most_letters}
use Rattle.adlb_threads.proofs.rooms.most_to_one.Given as goal

abbrev pub invariant-loop-server : goal.invariant-loop-server
invariant-loop-server l = record {
  there : 1 ≤ l.most;
  few : l.most ≤ 491;
  each : (server : Server) → server.0 < l.server → most_letters l.fn.config server ≤ l.most;
  one : (server : Server) × (server.0 < l.fn.config.servers) × (l.most ≡ most_letters l.fn.config server);
}
