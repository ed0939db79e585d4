use Rattle.std.proofs.Common.{◌≡◌, ◌+◌, ◌++◌, drop, length, take}
use Rattle.sudoku_rules.specs.inside.Packed.{pairs}
use Rattle.sudoku_rules.proofs.kept.in_pairs.Given as goal

abbrev pub invariant-loop-at : goal.invariant-loop-at
invariant-loop-at g l = record {
  long : length l.bytes ≡ g.row.N;
  written : take l.at l.bytes ++ pairs (drop (l.at + l.at) l.fn.cells) ≡ pairs l.fn.cells;
}
