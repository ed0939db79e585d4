use Rattle.std.proofs.Common.{sym}
use Rattle.tour_search.proofs.Written.{number_low}
use Rattle.tour_search.proofs.reading.count_up_to.Goals as goal

pub some_count-requires : goal.some_count-requires
some_count-requires c = number_low 12 c.args.number.now c.in-Some.count (sym c.in-Some.ensures)
