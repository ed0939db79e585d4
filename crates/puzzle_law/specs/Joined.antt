-- A run of puzzle programs.
use Rattle.std.specs.Prelude.{◌≡◌, ◌==◌, ◌<◌, List, [], ◌∷◌, ◌++◌, length, Option, Some, None, if◌then◌else◌, slice_get}
use Rattle.adlb_unit.specs.declared.configs.Config.{Config}
use Rattle.adlb_unit.specs.declared.names.Rank.{Rank}
use Rattle.bag_ledger.specs.declared.entries.Entry.{Entry}
use Rattle.bag_ledger.specs.declared.entries.Said.{Said}
use Rattle.bag_ledger.specs.Runs.{calls}
use Rattle.balance_law.specs.Orderly.{finish}
use Rattle.job_text.specs.declared.jobs.Job.{Job}
use Rattle.job_report.specs.declared.outcomes.Outcome.{Outcome}
use Rattle.puzzle_app.specs.declared.outcomes.Settings.{Settings}
use Rattle.puzzle_app.specs.declared.program.PuzzleProgram.{PuzzleProgram}
use Rattle.puzzle_app.specs.Follows.{Follows}

-- rank 0 has the jobs, and no other rank has any
abbrev pub jobs_of : List Job → Rank → Option (List Job)
jobs_of jobs rank = if rank.0 == 0 then Some jobs else None

-- the rank ran its program with these settings, and then finished: its calls in the ledger are those of the program, which follow its
-- relation at the outcome, and Finish
pub record IsRankRun (config : Config) (ledger : List Entry) (settings : Settings) (jobs : List Job) (outcomes : List Outcome)
    (rank : Rank) : Type 0 where
  pub program : PuzzleProgram
  pub said : List Said
  pub outcome : Outcome
  pub settings_are : program.settings ≡ settings
  pub jobs_are : program.jobs ≡ jobs_of jobs rank
  pub calls_are : calls config ledger rank ≡ said ++ finish ∷ []
  pub follows : Follows program said outcome
  pub there : slice_get outcomes rank.0 ≡ Some outcome

-- each rank of the run did, and these are their outcomes
pub record IsPuzzleRun (config : Config) (ledger : List Entry) (settings : Settings) (jobs : List Job)
    (outcomes : List Outcome) : Type 0 where
  pub each : (rank : Rank) → rank.0 < config.ranks → IsRankRun config ledger settings jobs outcomes rank
  pub all : length outcomes ≡ config.ranks
