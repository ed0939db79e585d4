use Rattle.std.proofs.Common.{◌≡◌, ◌++◌, List, Some, length}
use Rattle.core_run.specs.declared.events.Event.{Event}
use Rattle.core_run.specs.Runs.{run}
use Rattle.core_world.proofs.worlds.World.run_events.Given as goal

-- the events that were applied, and those that are left
abbrev pub invariant-loop-event : goal.invariant-loop-event
invariant-loop-event l =
    (front : List Event) × (l.fn.events.items ≡ front ++ l.event-iterator.rest.items) × (run l.fn.self.world front ≡ Some l.self.world)
    × (l.applied ≡ length front) × (l.self.trouble ≡ l.fn.self.trouble) × (l.self.world.config ≡ l.fn.self.world.config)
    × (l.event-iterator.rest.len ≡ length l.event-iterator.rest.items)
