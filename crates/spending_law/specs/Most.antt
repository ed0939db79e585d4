-- How many calls the ranks of a run of puzzle programs can begin.
use Rattle.std.specs.Prelude.{ℕ, ◌+◌, ◌*◌, Bool, true, false, List, count_by}
use Rattle.job_report.specs.Jobs.{all_boards, all_items, all_solutions}
use Rattle.job_text.specs.declared.jobs.Job.{Job}
use Rattle.job_text.specs.declared.jobs.Job.TheVariants.{Puzzle, Batch}

-- how many units are made of the jobs: the boards, the solutions, and of each item a job and an answer
abbrev pub units_made : ℕ → ℕ → List Job → ℕ
units_made budget grain jobs = all_boards budget grain jobs + all_solutions budget jobs + 2 * all_items jobs

-- how many batches there are
abbrev pub is_batch : Job → Bool
is_batch (Puzzle g) = false
is_batch (Batch common items) = true

-- how many batches the jobs have
abbrev pub batches : List Job → ℕ
batches jobs = count_by is_batch jobs

-- each unit is put, reserved and fetched, and each batch is begun and ended; each rank is told an end, and finishes
abbrev pub most_calls : ℕ → ℕ → ℕ → List Job → ℕ
most_calls budget grain ranks jobs = 3 * units_made budget grain jobs + 2 * batches jobs + 2 * ranks
