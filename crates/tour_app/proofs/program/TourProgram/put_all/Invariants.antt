use Rattle.std.proofs.Common.{◌≡◌, ◌≤◌, ◌-◌, ◌^◌, length, None, List, ℕ, Option}
use Rattle.work_law.specs.Books.{Task, bytes_on}
use Rattle.tour_app.specs.Working.{IsGoing}
use Rattle.tour_app.specs.declared.units.TourUnit.{TourUnit}
use Rattle.tour_app.proofs.program.TourProgram.put_all.Given as goal

abbrev pub invariant-puts : goal.invariant-puts
invariant-puts g l = record {
  going : (rest : List (Task TourUnit)) (on : Option (List ℕ)) → bytes_on on ≡ l.common →
      IsGoing l.self (g.R.Rank.link l.fn.link).said l.fn.desk rest on → IsGoing l.self (g.R.Rank.link l.link).said l.desk rest on;
  whole : (g.R.Rank.link l.link).failed ≡ None;
  more : length (g.R.Rank.link l.fn.link).said ≤ length (g.R.Rank.link l.link).said;
  seat : (g.R.Rank.link l.link).seat ≡ (g.R.Rank.link l.fn.link).seat;
  batch : (g.R.Rank.link l.link).batch ≡ (g.R.Rank.link l.fn.link).batch;
}

abbrev pub decreases-puts : goal.decreases-puts
decreases-puts g l = 2 ^ 48 - length (g.R.Rank.link l.link).said
