use Rattle.std.proofs.Common.{◌≡◌, ◌+◌, ◌++◌, drop, length, take}
use Rattle.sudoku_rules.specs.inside.Packed.{halves}
use Rattle.sudoku_rules.proofs.kept.apart.Given as goal

abbrev pub invariant-loop-byte : goal.invariant-loop-byte
invariant-loop-byte l = record {
  long : length l.cells ≡ 256;
  place : l.at ≡ l.byte-index + l.byte-index;
  written : take l.at l.cells ++ halves (drop l.byte-index l.bytes) ≡ halves l.fn.bytes;
}
