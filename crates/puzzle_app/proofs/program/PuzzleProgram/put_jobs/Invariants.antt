use Rattle.std.proofs.Common.{◌≡◌, ◌+◌, ◌++◌, None, List, ℕ, Option, [], drop}
use Rattle.puzzle_app.specs.Arrivals.{bytes_on}
use Rattle.puzzle_app.specs.Tasks.{Task, as_units, jobs_from, put_all}
use Rattle.puzzle_app.specs.Working.{IsGoing}
use Rattle.puzzle_app.proofs.program.PuzzleProgram.put_jobs.Given as goal

abbrev pub invariant-loop-item : goal.invariant-loop-item
invariant-loop-item g l = record {
  numbered : l.number ≡ l.item-index + 1;
  none : l.desk.waiting.items ≡ [];
  going : (rest : List Task) (on : Option (List ℕ)) → bytes_on on ≡ l.common →
      IsGoing l.self (g.A.Adlb.link l.fn.link).said l.fn.desk (put_all (as_units (jobs_from l.batch 1 l.items)) ++ rest) on →
      IsGoing l.self (g.A.Adlb.link l.link).said l.desk
      (put_all (as_units (jobs_from l.batch l.number (drop l.item-index l.items))) ++ rest) on;
  whole : (g.A.Adlb.link l.link).failed ≡ None;
  seat : (g.A.Adlb.link l.link).seat ≡ (g.A.Adlb.link l.fn.link).seat;
  batch : (g.A.Adlb.link l.link).batch ≡ (g.A.Adlb.link l.fn.link).batch;
}
