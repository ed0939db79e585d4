use Rattle.std.proofs.Common.{◌≡◌, ◌≤◌, map, vec_len, vec_capacity}
use Rattle.std.specs.List.{range_with_len}
use Rattle.rank_client.specs.State.{start as new_client}
use Rattle.core_run.specs.World.{rank_named}
use Rattle.core_world.proofs.stages.clients.Given as goal

abbrev pub invariant-loop-number : goal.invariant-loop-number
invariant-loop-number l = record {
  made : l.clients.items ≡ map (λ n. new_client l.config (rank_named n)) (range_with_len 0 l.number);
  count : vec_len l.clients ≡ l.number;
  room : l.config.ranks ≤ vec_capacity l.clients;
}
