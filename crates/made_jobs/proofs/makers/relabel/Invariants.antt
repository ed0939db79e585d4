use Rattle.std.proofs.Common.{◌≡◌, length, map, take}
use Rattle.made_jobs.specs.Made.{full_grid, sign_for}
use Rattle.made_jobs.proofs.makers.relabel.Given as goal

abbrev pub invariant-loop-place : goal.invariant-loop-place
invariant-loop-place l = record {
  long : length l.cells ≡ 81;
  read : take l.place l.cells ≡ map (sign_for l.fn.signs) (take l.place full_grid);
}
