use Rattle.std.proofs.Common.{◌≡◌, length, map, take}
use Rattle.sudoku_law.specs.Text.{sign}
use Rattle.sudoku_rules.proofs.text.GridText.of.Given as goal

abbrev pub invariant-loop-place : goal.invariant-loop-place
invariant-loop-place l = record {
  long : length l.bytes ≡ 256;
  written : take l.place l.bytes ≡ map sign (take l.place l.cells);
}
