-- What a run over puzzles and batches asks, and by which programs it is run.
use Rattle.std.specs.Prelude.{◌≡◌, ◌==◌, ℕ, List, Some, None, if◌then◌else◌, slice_get}
use Rattle.adlb_unit.specs.declared.names.Rank.{Rank}
use Rattle.bag_ledger.specs.declared.entries.Said.{Said}
use Rattle.job_report.specs.declared.outcomes.Outcome.{Outcome}
use Rattle.job_text.specs.declared.faults.LineWhy.{LineWhy}
use Rattle.job_text.specs.declared.jobs.Job.{Job}
use Rattle.job_text.specs.Jobs.{input_jobs, input_refused}
use Rattle.puzzle_app.specs.declared.outcomes.Settings.{Settings}
use Rattle.puzzle_app.specs.declared.program.PuzzleProgram.{PuzzleProgram}
use Rattle.puzzle_app.specs.Follows.{Follows}

-- no line of the bytes is refused, and these are their jobs
abbrev pub AreJobs : List ℕ → List Job → Type 0
AreJobs bytes jobs = (input_refused bytes ≡ None) × (jobs ≡ input_jobs bytes)

-- this is their first line that is refused, and why
abbrev pub RefusesLine : List ℕ → ℕ → LineWhy → Type 0
RefusesLine bytes line why = input_refused bytes ≡ Some (line, why)

-- the programs of the ranks: each has the settings, and the first has the jobs
abbrev pub ArePrograms : Settings → List Job → List PuzzleProgram → Type 0
ArePrograms settings jobs programs = (number : ℕ) (p : PuzzleProgram) → slice_get programs number ≡ Some p →
    (p.settings ≡ settings) × (p.jobs ≡ (if number == 0 then Some jobs else None))

-- what a rank said follows its program at this outcome
abbrev pub FollowsPuzzles : PuzzleProgram → Rank → List Said → Outcome → Type 0
FollowsPuzzles program rank said outcome = Follows program said outcome
