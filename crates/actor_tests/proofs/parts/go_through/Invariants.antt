use Rattle.std.proofs.Common.{◌≤◌}
use Rattle.server_components.specs.Store.{part_in, size_of}
use Rattle.actor_tests.proofs.parts.go_through.Given as goal

abbrev pub invariant-loop-row : goal.invariant-loop-row
invariant-loop-row g l = size_of (part_in l.store l.batch) ≤ l.queue.common
