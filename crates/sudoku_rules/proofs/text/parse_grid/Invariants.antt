use Rattle.std.proofs.Common.{◌≡◌, ◌<◌, ℕ, get_or, length, map, take}
use Rattle.sudoku_rules.specs.Reading.{IsCellSign, digit_of}
use Rattle.sudoku_rules.proofs.text.parse_grid.Given as goal

abbrev pub invariant-loop-place : goal.invariant-loop-place
invariant-loop-place l = record {
  long : length l.cells ≡ 256;
  signs : (k : ℕ) → k < l.place → IsCellSign l.side (get_or l.text k 0);
  read : take l.place l.cells ≡ map digit_of (take l.place l.text);
}
