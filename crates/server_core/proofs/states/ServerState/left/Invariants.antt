use Rattle.server_core.proofs.Prelude.{◌-◌, ◌≡◌, ◌≤◌, left_unit, length, map, take, vec_len}
use Rattle.server_core.proofs.states.ServerState.left.Given as goal

abbrev pub invariant-loop-id : goal.invariant-loop-id
invariant-loop-id l = record {
  items : l.left.items ≡ map (left_unit l.self-inside.me) (take l.place l.self-inside.queue.units);
  within : l.place ≤ length l.self-inside.queue.units;
  count : vec_len l.left ≡ l.place;
}

abbrev pub decreases-loop-id : goal.decreases-loop-id
decreases-loop-id l = length l.self-inside.queue.units - l.place
