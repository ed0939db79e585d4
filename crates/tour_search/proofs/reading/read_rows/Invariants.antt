use Rattle.std.proofs.Common.{◌≡◌, ◌+◌}
use Rattle.tour_search.specs.inside.Left.{lines_left}
use Rattle.tour_search.proofs.Rows.{RowsSoFar}
use Rattle.tour_search.proofs.reading.read_rows.Given as goal

abbrev pub invariant-loop-row : goal.invariant-loop-row
invariant-loop-row l = record {
  far : RowsSoFar l.count (lines_left l.fn.lines) l._row (lines_left l.lines) l.costs.items;
  numbered : l.number ≡ 2 + l._row;
}
