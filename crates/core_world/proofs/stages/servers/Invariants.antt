use Rattle.std.proofs.Common.{◌≡◌, ◌≤◌, map, vec_len, vec_capacity}
use Rattle.std.specs.List.{range_with_len}
use Rattle.server_law.specs.State.{start as new_pool}
use Rattle.core_run.specs.World.{server_named}
use Rattle.core_world.proofs.stages.servers.Given as goal

abbrev pub invariant-loop-number : goal.invariant-loop-number
invariant-loop-number l = record {
  made : l.servers.items ≡ map (λ n. new_pool l.config (server_named n)) (range_with_len 0 l.number);
  count : vec_len l.servers ≡ l.number;
  room : l.config.servers ≤ vec_capacity l.servers;
}
