use Rattle.std.proofs.Common.{◌≡◌, ◌-◌, ◌^◌, length, None, []}
use Rattle.puzzle_app.specs.Working.{HasPut}
use Rattle.puzzle_app.proofs.program.PuzzleProgram.take_all.Given as goal

abbrev pub invariant-rounds : goal.invariant-rounds
invariant-rounds g l = record {
  going : HasPut l.self (g.A.Adlb.link l.link).said l.desk [] None;
  whole : (g.A.Adlb.link l.link).failed ≡ None;
  seat : (g.A.Adlb.link l.link).seat ≡ (g.A.Adlb.link l.fn.link).seat;
  batch : (g.A.Adlb.link l.link).batch ≡ (g.A.Adlb.link l.fn.link).batch;
}

abbrev pub decreases-rounds : goal.decreases-rounds
decreases-rounds g l = 2 ^ 48 - length (g.A.Adlb.link l.link).said
