use Rattle.std.proofs.Common.{◌≡◌, ◌≤◌, ◌-◌, ◌^◌, None, [], false, length}
use Rattle.adlb.specs.WorkerCalls.{IsFree}
use Rattle.adlb.specs.Worked.{IsGoing, begins}
use Rattle.adlb.proofs.workers.WorkerRankProgram.run.Given as goal

abbrev pub invariant-rounds : goal.invariant-rounds
invariant-rounds g l = record {
  going : (eye : _) → IsGoing (g.D.Duty.worth l.self.duty eye) (begins (g.D.Duty.whole l.self.duty eye) l.fn.rank) l.self.ranks
      None (g.A.Adlb.link l.link).said (g.D.Duty.sees l.got eye) 0;
  none : l.out ≡ [];
  free : IsFree l.self.ranks (g.A.Adlb.link l.link);
  closed : (g.A.Adlb.link l.link).batch ≡ false;
  seat : (g.A.Adlb.link l.link).seat ≡ (g.A.Adlb.link l.fn.link).seat;
  longer : length (g.A.Adlb.link l.fn.link).said ≤ length (g.A.Adlb.link l.link).said;
}

abbrev pub decreases-rounds : goal.decreases-rounds
decreases-rounds g l = 2 ^ 48 - length (g.A.Adlb.link l.link).said
