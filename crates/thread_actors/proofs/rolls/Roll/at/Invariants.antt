use Rattle.std.proofs.Common.{◌≡◌, ◌<◌, ℕ, length, slice_get, Some}
use Rattle.server_law.specs.State.{is_finished}
use Rattle.thread_actors.specs.World.{rank_named}
use Rattle.thread_actors.specs.ServerJobs.{waits_for}
use Rattle.thread_actors.proofs.rolls.Roll.at.Given as goal

abbrev pub invariant-loop-number : goal.invariant-loop-number
invariant-loop-number l = record {
  waits_long : length l.roll.waits ≡ 32;
  over_long : length l.roll.over ≡ 32;
  waits : (k : ℕ) → k < l.number
      → slice_get l.roll.waits k ≡ Some (waits_for l.fn.state (record { from = l.fn.from; letter = l.fn.letter }) (rank_named k));
  over : (k : ℕ) → k < l.number → slice_get l.roll.over k ≡ Some (is_finished l.fn.state.kept (rank_named k));
}
