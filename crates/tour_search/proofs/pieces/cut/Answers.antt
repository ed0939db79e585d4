use Rattle.std.proofs.Common.{sym}
use Rattle.tour_search.proofs.Cuts.{no_place}
use Rattle.tour_search.proofs.pieces.cut.Goals as goal

pub returns-in-None : goal.returns-in-None
returns-in-None c = no_place _ c.args.bytes.now (sym c.in-None.ensures)
