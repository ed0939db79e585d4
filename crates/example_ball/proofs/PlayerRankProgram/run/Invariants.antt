use Rattle.std.proofs.Common.{◌-◌, ◌^◌, ◌≤◌, length}
use Rattle.adlb.specs.Calls.{GoesOn}
use Rattle.example_ball.proofs.PlayerRankProgram.run.Given as goal

abbrev pub invariant-turns : goal.invariant-turns
invariant-turns g l = record {
  goes_on : GoesOn (g.A.Adlb.link l.fn.link) (g.A.Adlb.link l.link);
  few : l.throws ≤ length (g.A.Adlb.link l.link).said;
}

abbrev pub decreases-turns : goal.decreases-turns
decreases-turns g l = 2 ^ 48 - length (g.A.Adlb.link l.link).said
