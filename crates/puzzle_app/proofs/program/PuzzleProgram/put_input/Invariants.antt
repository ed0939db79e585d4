use Rattle.std.proofs.Common.{◌≡◌, ◌+◌, ◌≤◌, None, false, [], drop}
use Rattle.puzzle_app.specs.Tasks.{tasks_from}
use Rattle.puzzle_app.specs.Working.{IsGoing}
use Rattle.puzzle_app.proofs.program.PuzzleProgram.put_input.Given as goal

abbrev pub invariant-loop-job : goal.invariant-loop-job
invariant-loop-job g l = record {
  few : l.at.puzzle + l.at.batch ≤ 2 + l.job-index;
  none : l.desk.waiting.items ≡ [];
  going : IsGoing l.self (g.A.Adlb.link l.link).said l.desk
      (tasks_from l.self.settings.budget l.at.puzzle l.at.batch (drop l.job-index l.jobs)) None;
  whole : (g.A.Adlb.link l.link).failed ≡ None;
  seat : (g.A.Adlb.link l.link).seat ≡ (g.A.Adlb.link l.fn.link).seat;
  batch : (g.A.Adlb.link l.link).batch ≡ false;
}
