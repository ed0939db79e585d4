-- The calls of a rank, and with what outcome it ends.
use Rattle.std.specs.Prelude.{◌≡◌, List, [], ◌∷◌, ◌++◌, Option, Some, None}
use Rattle.bag_ledger.specs.declared.entries.Answer.{Answer}
use Rattle.bag_ledger.specs.declared.entries.Call.{Call}
use Rattle.bag_ledger.specs.declared.entries.Said.{Said}
use Rattle.work_law.specs.Books.{Books, Goes, Task, going, said_of, shut}
use Rattle.work_law.specs.Work.{Arrival}
use Rattle.tour_app.specs.Works.{found, known, left_over, tasks, tours}
use Rattle.tour_app.specs.declared.outcomes.TourOutcome.{TourOutcome}
use Rattle.tour_app.specs.declared.program.TourProgram.{TourProgram}
use Rattle.tour_app.specs.declared.units.TourUnit.{TourUnit}

-- the books of a program at the start
abbrev pub begins : TourProgram → Books TourUnit
begins p = going (tasks p.start) None []

-- the calls that a rank with this program can have made
pub record IsSoFar (p : TourProgram) (said : List Said) : Type 0 where
  pub last : Books TourUnit
  pub goes : Goes tours (begins p) said last

-- those, and the call that it has begun after them and that is not answered, if there is one: with some answer it is the next
abbrev pub IsUnderWay : TourProgram → List Said → Option Call → Type 0
IsUnderWay p said None = IsSoFar p said
IsUnderWay p said (Some call) = (answer : Answer) × IsSoFar p (said ++ said_of call answer ∷ [])

-- The calls that it has made at its end, which was told, and its outcome. That has the tour that it had at first, those that came to it,
-- and those that it was still to put.
pub record Follows (p : TourProgram) (said : List Said) (outcome : TourOutcome) : Type 0 where
  pub left : List (Task TourUnit)
  pub came : List (Arrival TourUnit)
  pub goes : Goes tours (begins p) said (shut left None came)
  pub found_are : outcome.found.items ≡ known p.start ++ found came ++ left_over left
