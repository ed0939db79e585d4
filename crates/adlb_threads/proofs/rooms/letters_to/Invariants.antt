use Rattle.std.proofs.Common.{◌≡◌, ◌≤◌, ◌*◌, ◌-◌, ◌==◌, if◌then◌else◌}
use Rattle.adlb_unit.specs.Targets.{home_of}
use Rattle.thread_actors.specs.World.{rank_named}
use Rattle.core_progress_law.specs.Room.{sum_to}
use Rattle.adlb_threads.proofs.rooms.letters_to.Given as goal

abbrev pub invariant-loop-rank : goal.invariant-loop-rank
invariant-loop-rank l = record {
  all : l.hints
      ≡ sum_to l.rank (λ n. if home_of l.fn.config.servers (rank_named n) == l.fn.server.0 then 2 * (l.fn.config.servers - 1) else 0);
  few : l.hints ≤ 14 * l.rank;
}
