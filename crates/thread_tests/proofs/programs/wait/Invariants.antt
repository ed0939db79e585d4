use Rattle.std.proofs.Common.{◌≡◌, false}
use Rattle.rank_client.specs.Calls.{has_finished}
use Rattle.thread_tests.proofs.programs.wait.Given as goal

abbrev pub invariant-loop-granted : goal.invariant-loop-granted
invariant-loop-granted g l = record {
  running : has_finished (g.A.Adlb.link l.link).said ≡ false;
  closed : (g.A.Adlb.link l.link).batch ≡ false;
  seat : (g.A.Adlb.link l.link).seat ≡ (g.A.Adlb.link l.fn.link).seat;
}
