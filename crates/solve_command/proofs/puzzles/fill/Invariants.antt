use Rattle.std.proofs.Common.{◌≡◌, ◌≤◌, vec_len, vec_capacity}
use Rattle.solve_command.specs.Puzzles.{ArePrograms}
use Rattle.solve_command.proofs.puzzles.fill.Given as goal

abbrev pub invariant-loop-rank : goal.invariant-loop-rank
invariant-loop-rank l = record {
  many : vec_len l.programs ≡ l._rank;
  room : l.ranks ≤ vec_capacity l.programs;
  are : ArePrograms l.settings l.asked l.programs.items;
}
