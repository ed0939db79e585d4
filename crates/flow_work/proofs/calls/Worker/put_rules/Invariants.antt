use Rattle.std.proofs.Common.{◌≡◌, ◌≤◌, length, Some}
use Rattle.flow_app.specs.Stored.{to_take}
use Rattle.flow_units.specs.Bodies.{forms}
use Rattle.flow_work.specs.Calls.{IsReady}
use Rattle.flow_work.specs.Working.{AtHome, IsGoing}
use Rattle.flow_work.proofs.calls.Worker.put_rules.Given as goal

abbrev pub invariant-rules : goal.invariant-rules
invariant-rules g l = record {
  going : IsGoing (forms l.self.ranks) (Some l.flow) (g.R.Rank.link l.link).said (AtHome l.flow l.home);
  ready : IsReady l.self.ranks (g.R.Rank.link l.link);
  more : length (g.R.Rank.link l.fn.link).said ≤ length (g.R.Rank.link l.link).said;
  seat : (g.R.Rank.link l.link).seat ≡ (g.R.Rank.link l.fn.link).seat;
  batch : (g.R.Rank.link l.link).batch ≡ (g.R.Rank.link l.fn.link).batch;
}

abbrev pub decreases-rules : goal.decreases-rules
decreases-rules g l = to_take l.home.store
