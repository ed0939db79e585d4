-- What was read of an input.
use Rattle.std.specs.Prelude.{◌≡◌, ◌≤◌, ℕ, ◌+◌, Bool, true, false, List, ◌∷◌, ◌++◌, Option, Some, None, length}
use Rattle.job_text.specs.declared.jobs.Job.{Job}
use Rattle.job_text.specs.declared.jobs.Job.TheVariants.{Batch}
use Rattle.job_text.specs.declared.reading.OpenBatch.{OpenBatch}
use Rattle.job_text.specs.declared.reading.Reading.{Reading}
use Rattle.job_text.specs.Kinds.{Kind, skipped, puzzle, batch, item, bad}
use Rattle.job_text.specs.Jobs.{items_of, jobs_of, fault_of, goes_on}

-- the jobs of lines of these kinds, after a batch that is going on, if there is one
abbrev pub jobs_behind : Option OpenBatch → List Kind → List Job
jobs_behind None kinds = jobs_of kinds
jobs_behind (Some b) kinds = Batch b.common (b.items.items ++ items_of kinds) ∷ jobs_of kinds

-- all the jobs, if lines of these kinds follow what was read
abbrev pub jobs_with : Reading → List Kind → List Job
jobs_with r kinds = r.jobs.items ++ jobs_behind r.current kinds

-- a batch is going on
abbrev pub is_some_batch : Option OpenBatch → Bool
is_some_batch None = false
is_some_batch (Some b) = true

-- a batch is open
abbrev pub is_open : Reading → Bool
is_open r = is_some_batch r.current

-- the jobs, and the items of the batch that is going on
abbrev pub count_current : Option OpenBatch → ℕ
count_current None = 0
count_current (Some b) = length b.items.items + 1

-- how many jobs were read
abbrev pub count : Reading → ℕ
count r = length r.jobs.items + count_current r.current

-- whether a line adds one to them
abbrev pub adds : Kind → ℕ
adds skipped = 0
adds (puzzle grid) = 1
adds (batch bytes) = 1
adds (item i) = 1
adds (bad reason) = 1

-- what was read, and one line of this kind more
pub record Extends (old : Reading) (kind : Kind) (new : Reading) : Type 0 where
  pub jobs : (kinds : List Kind) → jobs_with old (kind ∷ kinds) ≡ jobs_with new kinds
  pub fine : fault_of (is_open old) kind ≡ None
  pub open_behind : is_open new ≡ goes_on (is_open old) kind
  pub few : count new ≤ count old + adds kind
