use Rattle.std.proofs.Common.{◌≡◌, ◌≤◌, ◌+◌, ◌-◌, ◌^◌, None, [], false, length, sum_by}
use Rattle.adlb.specs.WorkerCalls.{IsFree}
use Rattle.adlb.specs.Worked.{IsGoing, begins, shared_bytes}
use Rattle.adlb.proofs.workers.Worker.share.Given as goal

abbrev pub invariant-tries : goal.invariant-tries
invariant-tries g l = record {
  going : (eye : _) → IsGoing (g.D.Duty.worth l.self.duty eye) (begins (g.D.Duty.whole l.self.duty eye) l.fn.rank) l.self.ranks
      None (g.R.Rank.link l.link).said (g.D.Duty.sees l.got eye)
      (sum_by (g.D.Duty.worth l.self.duty eye (shared_bytes l.common)) l.units + sum_by (g.D.Duty.worth l.self.duty eye []) l.out);
  free : IsFree l.self.ranks (g.R.Rank.link l.link);
  closed : (g.R.Rank.link l.link).batch ≡ false;
  seat : (g.R.Rank.link l.link).seat ≡ (g.R.Rank.link l.fn.link).seat;
  longer : length (g.R.Rank.link l.fn.link).said ≤ length (g.R.Rank.link l.link).said;
}

abbrev pub decreases-tries : goal.decreases-tries
decreases-tries g l = 2 ^ 48 - length (g.R.Rank.link l.link).said
