-- What a rank is to do with the jobs of an input.
use Rattle.std.specs.Prelude.{ℕ, ◌+◌, List, [], ◌∷◌, map, Option, Some, None}
use Rattle.std.specs.List.{flat_map}
use Rattle.job_text.specs.declared.items.Item.{Item}
use Rattle.job_text.specs.declared.jobs.Job.{Job}
use Rattle.job_text.specs.declared.jobs.Job.TheVariants.{Puzzle, Batch}
use Rattle.job_units.specs.declared.jobs.Job as units
use Rattle.job_units.specs.declared.units.Made.{Made}
use Rattle.job_units.specs.declared.units.Made.TheVariants as made
use Rattle.job_units.specs.Works.{child_of}

-- it puts a unit; it begins a batch of these common bytes, in which it puts these jobs; or it ends the batch that is going on
pub data Task : Type 0 where
  Put : Made → Task
  Begin : List ℕ → List units.Job → Task
  End : Task

-- the items as jobs of batch b, the first with the number n
unfoldable pub jobs_from : ℕ → ℕ → List Item → List units.Job
jobs_from b n [] = []
jobs_from b n (item ∷ items) = record { batch = b; number = n; item = item } ∷ jobs_from b (n + 1) items

-- the tasks of jobs in input order: a board of each puzzle is put, and each batch is begun. The next puzzle has the number p, the
-- next batch the number b
unfoldable pub tasks_from : ℕ → ℕ → ℕ → List Job → List Task
tasks_from budget p b [] = []
tasks_from budget p b (Puzzle g ∷ jobs) = Put (child_of p (budget, g)) ∷ tasks_from budget (p + 1) b jobs
tasks_from budget p b (Batch common items ∷ jobs) = Begin common (jobs_from b 1 items) ∷ tasks_from budget p (b + 1) jobs

-- the tasks of a rank: those of the jobs, if it has them
abbrev pub tasks : ℕ → Option (List Job) → List Task
tasks budget None = []
tasks budget (Some jobs) = tasks_from budget 1 1 jobs

-- the jobs of batches as units, and units that are put one after the other
abbrev pub as_units : List units.Job → List Made
as_units jobs = map made.Job jobs

-- a put for each unit
abbrev pub put_all : List Made → List Task
put_all units = map Put units

-- the units that tasks make
abbrev pub units_of : Task → List Made
units_of (Put unit) = unit ∷ []
units_of (Begin common jobs) = as_units jobs
units_of End = []

-- the units of the tasks
abbrev pub all_units : List Task → List Made
all_units tasks = flat_map units_of tasks
