use Rattle.std.proofs.Common.{◌≡◌, ◌-◌, ◌^◌, length, None}
use Rattle.flow_units.specs.Bodies.{forms}
use Rattle.flow_work.specs.Calls.{IsReady}
use Rattle.flow_work.specs.Working.{Fresh, IsGoing}
use Rattle.flow_work.proofs.calls.Worker.work_away.Given as goal

abbrev pub invariant-rounds : goal.invariant-rounds
invariant-rounds g l = record {
  going : IsGoing (forms l.self.ranks) None (g.R.Rank.link l.link).said (Fresh l.kept.items);
  ready : IsReady l.self.ranks (g.R.Rank.link l.link);
  seat : (g.R.Rank.link l.link).seat ≡ (g.R.Rank.link l.fn.link).seat;
  batch : (g.R.Rank.link l.link).batch ≡ (g.R.Rank.link l.fn.link).batch;
}

abbrev pub decreases-rounds : goal.decreases-rounds
decreases-rounds g l = 2 ^ 48 - length (g.R.Rank.link l.link).said
