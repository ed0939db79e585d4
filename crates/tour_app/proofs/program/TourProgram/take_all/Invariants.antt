use Rattle.std.proofs.Common.{◌≡◌, ◌-◌, ◌^◌, length, None, []}
use Rattle.tour_app.specs.Working.{HasPut}
use Rattle.tour_app.proofs.program.TourProgram.take_all.Given as goal

abbrev pub invariant-rounds : goal.invariant-rounds
invariant-rounds g l = record {
  going : HasPut l.self (g.R.Rank.link l.link).said l.desk [] None;
  whole : (g.R.Rank.link l.link).failed ≡ None;
  seat : (g.R.Rank.link l.link).seat ≡ (g.R.Rank.link l.fn.link).seat;
  batch : (g.R.Rank.link l.link).batch ≡ (g.R.Rank.link l.fn.link).batch;
}

abbrev pub decreases-rounds : goal.decreases-rounds
decreases-rounds g l = 2 ^ 48 - length (g.R.Rank.link l.link).said
