-- A rank while it works: its calls so far and its desk agree.
use Rattle.std.specs.Prelude.{◌≡◌, ℕ, ◌+◌, ◌*◌, ◌^◌, ◌≤◌, ◌<◌, Bool, List, [], ◌∷◌, ◌++◌, length, count_by, Option, Some, None, Result, Err}
use Rattle.std.specs.Prelude.{MatchBool, IfOk, OnOk}
use Rattle.std.specs.List.{flat_map}
use Rattle.adlb_unit.specs.declared.notes.Trouble.{Trouble}
use Rattle.adlb_unit.specs.declared.notes.Trouble.TheVariants.{TooLong}
use Rattle.bag_ledger.specs.declared.entries.Said.{Said}
use Rattle.job_text.specs.declared.items.Item.{Item}
use Rattle.job_text.specs.declared.jobs.Job.{Job}
use Rattle.job_text.specs.declared.jobs.Job.TheVariants.{Puzzle, Batch}
use Rattle.job_units.specs.declared.jobs.Job as units
use Rattle.job_units.specs.declared.units.Made.{Made}
use Rattle.job_units.specs.Puts.{is_kind}
use Rattle.job_units.specs.Works.{child_of}
use Rattle.puzzle_app.specs.Arrivals.{Arrival, answers_in, bytes_on, makes, solutions_in}
use Rattle.puzzle_app.specs.Books.{Books, Goes, going, shut}
use Rattle.puzzle_app.specs.Follows.{AreOvers, IsUnderWay, start_of}
use Rattle.puzzle_app.specs.Tasks.{Task, Put, Begin, End, all_units, as_units, jobs_from, put_all, tasks}
use Rattle.puzzle_app.specs.declared.desk.Desk.{Desk}
use Rattle.puzzle_app.specs.declared.places.Place.{Place}
use Rattle.puzzle_app.specs.declared.program.PuzzleProgram.{PuzzleProgram}
use Rattle.rank_client.specs.Calls.{unanswered}
use Rattle.rank_client.specs.Link.{LinkModel}

-- what a program is to do
abbrev pub tasks_of : PuzzleProgram → List Task
tasks_of p = tasks p.settings.budget p.jobs

-- all that a program makes, put or not, if these units come to it
abbrev pub all_made : PuzzleProgram → List Arrival → List Made
all_made p came = all_units (tasks_of p) ++ flat_map (makes p.settings.grain) came

-- a batch is going on: its jobs are put, and it is ended
abbrev pub in_batch : List ℕ → List units.Job → List Task → List Arrival → Books
in_batch common jobs tasks came = going (put_all (as_units jobs) ++ End ∷ tasks) (Some common) came

-- the items of a batch as jobs that are put
abbrev pub job_tasks : ℕ → List Item → List Task
job_tasks batch items = put_all (as_units (jobs_from batch 1 items))

-- the task of a job that is reached here, and where the next job is reached
abbrev pub task_at : ℕ → Place → Job → Task
task_at budget at (Puzzle g) = Put (child_of at.puzzle (budget, g))
task_at budget at (Batch common items) = Begin common (jobs_from at.batch 1 items)

-- the place after a job
abbrev pub behind : Place → Job → Place
behind at (Puzzle g) = record { puzzle = at.puzzle + 1; batch = at.batch }
behind at (Batch common items) = record { puzzle = at.puzzle; batch = at.batch + 1 }

-- a puzzle is one board
abbrev pub board_count : Job → ℕ
board_count (Puzzle g) = 1
board_count (Batch common items) = 0

-- what stays on the desk, and what was counted, when these units came in this number of calls
pub record IsTally (p : PuzzleProgram) (came : List Arrival) (calls : ℕ) (d : Desk) : Type 0 where
  pub kept : d.kept.items ≡ solutions_in came
  pub answers : d.answers.items ≡ answers_in came
  pub overs : AreOvers p.settings.grain came d.overs.items
  pub boards : d.boards ≡ count_by (is_kind 0) (all_made p came)
  pub found : d.found ≡ count_by (is_kind 1) (all_made p came)
  pub jobs : d.jobs ≡ count_by (is_kind 2) (all_made p came)
  pub answered : d.answered ≡ count_by (is_kind 3) (all_made p came)
  pub few_boards : d.boards ≤ 2 ^ 64 * (calls + 1)
  pub few_found : d.found ≤ 2 ^ 64 * (calls + 1)
  pub few_jobs : d.jobs ≤ 2 ^ 64
  pub few_answered : d.answered ≤ 2 ^ 64 * (calls + 1)

-- the calls lead to what waits on the desk and then the rest of the tasks, and nothing is to be fetched
pub record IsGoing (p : PuzzleProgram) (said : List Said) (d : Desk) (rest : List Task) (on : Option (List ℕ)) : Type 0 where
  pub came : List Arrival
  pub goes : Goes p.settings.grain (start_of p) said (going (put_all d.waiting.items ++ rest) on came)
  pub tally : IsTally p came (length said) d

-- as well, and nothing waits
pub record HasPut (p : PuzzleProgram) (said : List Said) (d : Desk) (rest : List Task) (on : Option (List ℕ)) : Type 0 where
  pub going : IsGoing p said d rest on
  pub none : d.waiting.items ≡ []

-- an end was told
pub record IsStopped (p : PuzzleProgram) (said : List Said) (d : Desk) (on : Option (List ℕ)) : Type 0 where
  pub left : List Task
  pub came : List Arrival
  pub goes : Goes p.settings.grain (start_of p) said (shut left on came)
  pub tally : IsTally p came (length said) d

-- all before the rest was done, or an end was told
abbrev pub Passes : PuzzleProgram → List Said → Desk → List Task → Option (List ℕ) → Bool → Type 0
Passes p said d rest on all = MatchBool all (HasPut p said d rest on) (IsStopped p said d on)

-- these tasks are the next, in a batch with these common bytes, if in one
abbrev pub CanDo : PuzzleProgram → List Said → Desk → List ℕ → List Task → Type 0
CanDo p said d common first =
    (rest : List Task) × (on : Option (List ℕ)) × (bytes_on on ≡ common) × IsGoing p said d (first ++ rest) on

-- this task is the next, and no batch goes on
abbrev pub CanDoNext : PuzzleProgram → List Said → Desk → Task → Type 0
CanDoNext p said d task = (rest : List Task) × IsGoing p said d (task ∷ rest) None

-- What work makes of a link and a desk.

-- a rank can work over this link: it has not failed, and there is a rank to which answers go
pub record IsReady (m : LinkModel) : Type 0 where
  pub whole : m.failed ≡ None
  pub ranks : 0 < m.seat.ranks

-- the calls are those of the program, with what is begun after them
abbrev pub IsOnWay : PuzzleProgram → LinkModel → Type 0
IsOnWay p m = IsUnderWay p m.said (unanswered m.failed m.begun)

-- whom the link serves stays; at `Ok` it has not failed, and a batch goes on or not, as `on` says; it failed with the stamp that is told
pub record Keeps {X : Type 0} (old new : LinkModel) (on : Bool) (r : Result X Trouble) : Type 0 where
  pub seat : new.seat ≡ old.seat
  pub whole : OnOk r (new.failed ≡ None)
  pub batch : OnOk r (new.batch ≡ on)
  pub too_long : (stamp : ℕ) → r ≡ Err (TooLong stamp) → new.failed ≡ Some (TooLong stamp)

-- where these tasks, and then the rest, were to be done, the rest is left, or an end was told
abbrev pub Does : PuzzleProgram → (List Task → List Task) → LinkModel → Desk → Option (List ℕ) → LinkModel → Desk → Option (List ℕ) →
    Result Bool Trouble → Type 0
Does p tasks old before on new after on' r =
    (rest : List Task) → IsGoing p old.said before (tasks rest) on → IfOk r (λ all. Passes p new.said after rest on' all)
