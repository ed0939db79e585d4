use Rattle.std.proofs.Common.{◌≡◌, ◌≤◌, ◌-◌, ◌^◌, None, [], length, sum_by}
use Rattle.adlb.specs.WorkerCalls.{IsFree}
use Rattle.adlb.specs.Worked.{IsGoing, begins}
use Rattle.adlb.proofs.workers.Worker.put_all.Given as goal

abbrev pub invariant-units : goal.invariant-units
invariant-units g l = record {
  going : (eye : _) → IsGoing (g.D.Duty.worth l.self.duty eye) (begins (g.D.Duty.whole l.self.duty eye) l.fn.rank) l.self.ranks
      None (g.R.Rank.link l.link).said (g.D.Duty.sees l.got eye) (sum_by (g.D.Duty.worth l.self.duty eye []) l.out);
  free : IsFree l.self.ranks (g.R.Rank.link l.link);
  seat : (g.R.Rank.link l.link).seat ≡ (g.R.Rank.link l.fn.link).seat;
  batch : (g.R.Rank.link l.link).batch ≡ (g.R.Rank.link l.fn.link).batch;
  longer : length (g.R.Rank.link l.fn.link).said ≤ length (g.R.Rank.link l.link).said;
}

abbrev pub decreases-units : goal.decreases-units
decreases-units g l = 2 ^ 48 - length (g.R.Rank.link l.link).said
