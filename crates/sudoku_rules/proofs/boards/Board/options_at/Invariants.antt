use Rattle.std.proofs.Common.{◌≡◌, ◌<◌, ◌^◌, ℕ, cond, get_or}
use Rattle.std.specs.Int.{bit_at}
use Rattle.sudoku_rules.specs.inside.Planes.{has}
use Rattle.sudoku_rules.proofs.boards.Board.options_at.Given as goal

abbrev pub invariant-loop-x : goal.invariant-loop-x
invariant-loop-x g l = record {
  small : l.mask < 2 ^ l.x;
  bits : (x : ℕ) → x < l.x → bit_at l.mask x ≡ cond (has (get_or l.self.options x 0) l.cell) 1 0;
}
