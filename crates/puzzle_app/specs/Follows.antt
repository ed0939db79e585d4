-- What the calls of a rank can be, and its outcome.
use Rattle.std.specs.Prelude.{◌≡◌, ◌<◌, ◌≤◌, ◌^◌, ◌==◌, ℕ, List, [], ◌∷◌, ◌++◌, Option, Some, None, count_by, slice_index}
use Rattle.std.specs.List.{flat_map, list_any}
use Rattle.bag_ledger.specs.declared.entries.Answer.{Answer}
use Rattle.bag_ledger.specs.declared.entries.Call.{Call}
use Rattle.bag_ledger.specs.declared.entries.Said.{Said}
use Rattle.job_report.specs.declared.outcomes.Outcome.{Outcome}
use Rattle.job_units.specs.Puts.{counts}
use Rattle.puzzle_app.specs.Arrivals.{Arrival, answers_in, makes, over_in, solutions_in}
use Rattle.puzzle_app.specs.Books.{Books, Goes, going, said_of, shut}
use Rattle.puzzle_app.specs.Tasks.{Task, tasks, units_of}
use Rattle.puzzle_app.specs.declared.program.PuzzleProgram.{PuzzleProgram}

-- the books of a program at the start: it is to do the tasks of its jobs
abbrev pub start_of : PuzzleProgram → Books
start_of p = going (tasks p.settings.budget p.jobs) None []

-- the numbers are those of the puzzles of which a worked board met an over node, each once
pub record AreOvers (grain : ℕ) (came : List Arrival) (overs : List ℕ) : Type 0 where
  pub once : (n : ℕ) → count_by (λ x. x == n) overs ≤ 1
  pub each : (n : ℕ) → list_any (λ x. x == n) overs ≡ list_any (λ a. over_in grain n a.unit) came

-- the calls that a rank with this program can have made
pub record IsSoFar (p : PuzzleProgram) (said : List Said) : Type 0 where
  pub last : Books
  pub goes : Goes p.settings.grain (start_of p) said last

-- those, and the call that it has begun after them and that is not answered, if there is one: with some answer it is the next
abbrev pub IsUnderWay : PuzzleProgram → List Said → Option Call → Type 0
IsUnderWay p said None = IsSoFar p said
IsUnderWay p said (Some call) = (answer : Answer) × IsSoFar p (said ++ said_of call answer ∷ [])

-- The calls that it has made at its end, which was told, and its outcome. The outcome has the solutions and answers that stay with it, the
-- numbers of the puzzles that are over, and how many units it made. What was still to do then was not done.
pub record Follows (p : PuzzleProgram) (said : List Said) (outcome : Outcome) : Type 0 where
  pub left : List Task
  pub came : List Arrival
  pub goes : Goes p.settings.grain (going (tasks p.settings.budget p.jobs) None []) said (shut left None came)
  pub overs : AreOvers p.settings.grain came outcome.overs.items
  pub solutions : outcome.solutions.items ≡ solutions_in came
  pub answers : outcome.answers.items ≡ answers_in came
  pub made : outcome.made ≡ counts (flat_map units_of (tasks p.settings.budget p.jobs) ++ flat_map (makes p.settings.grain) came)
  pub few : (k : ℕ) → slice_index outcome.made k < 2 ^ 113
