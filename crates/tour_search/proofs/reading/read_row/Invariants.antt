use Rattle.tour_search.specs.inside.Left.{pieces_left}
use Rattle.tour_search.specs.Reading.{words}
use Rattle.tour_search.proofs.Rows.{RowSoFar}
use Rattle.tour_search.proofs.reading.read_row.Given as goal

abbrev pub invariant-loop-city : goal.invariant-loop-city
invariant-loop-city l = RowSoFar l.count (words l.line) l.fn.costs.items l._city (pieces_left l.words) l.costs.items
