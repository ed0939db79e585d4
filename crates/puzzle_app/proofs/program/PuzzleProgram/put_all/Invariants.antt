use Rattle.std.proofs.Common.{◌≡◌, ◌≤◌, ◌-◌, ◌^◌, length, None, List, ℕ, Option}
use Rattle.puzzle_app.specs.Arrivals.{bytes_on}
use Rattle.puzzle_app.specs.Tasks.{Task}
use Rattle.puzzle_app.specs.Working.{IsGoing}
use Rattle.puzzle_app.proofs.program.PuzzleProgram.put_all.Given as goal

abbrev pub invariant-puts : goal.invariant-puts
invariant-puts g l = record {
  going : (rest : List Task) (on : Option (List ℕ)) → bytes_on on ≡ l.common →
      IsGoing l.self (g.A.Adlb.link l.fn.link).said l.fn.desk rest on → IsGoing l.self (g.A.Adlb.link l.link).said l.desk rest on;
  whole : (g.A.Adlb.link l.link).failed ≡ None;
  more : length (g.A.Adlb.link l.fn.link).said ≤ length (g.A.Adlb.link l.link).said;
  seat : (g.A.Adlb.link l.link).seat ≡ (g.A.Adlb.link l.fn.link).seat;
  batch : (g.A.Adlb.link l.link).batch ≡ (g.A.Adlb.link l.fn.link).batch;
}

abbrev pub decreases-puts : goal.decreases-puts
decreases-puts g l = 2 ^ 48 - length (g.A.Adlb.link l.link).said
