use Rattle.std.proofs.Common.{◌≡◌, ◌-◌, ◌^◌, length, Some}
use Rattle.flow_units.specs.Bodies.{forms}
use Rattle.flow_work.specs.Calls.{IsReady}
use Rattle.flow_work.specs.Working.{AtHome, IsGoing}
use Rattle.flow_work.proofs.calls.Worker.work_home.Given as goal

abbrev pub invariant-rounds : goal.invariant-rounds
invariant-rounds g l = record {
  going : IsGoing (forms l.self.ranks) (Some l.flow) (g.R.Rank.link l.link).said (AtHome l.flow l.home);
  ready : IsReady l.self.ranks (g.R.Rank.link l.link);
  seat : (g.R.Rank.link l.link).seat ≡ (g.R.Rank.link l.fn.link).seat;
  batch : (g.R.Rank.link l.link).batch ≡ (g.R.Rank.link l.fn.link).batch;
}

abbrev pub decreases-rounds : goal.decreases-rounds
decreases-rounds g l = 2 ^ 48 - length (g.R.Rank.link l.link).said
