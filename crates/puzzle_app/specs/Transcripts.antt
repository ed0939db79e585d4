-- What is read off the calls of a rank.
use Rattle.std.specs.Prelude.{◌==◌, ◌||◌, Bool, true, false, List, [], ◌∷◌, ◌++◌, map, Option, Some, None}
use Rattle.adlb_unit.specs.declared.notes.UnitNote.{UnitNote}
use Rattle.bag_ledger.specs.declared.entries.Answer.{Answer}
use Rattle.bag_ledger.specs.declared.entries.Answer.TheVariants as answers
use Rattle.bag_ledger.specs.declared.entries.Call.{Call}
use Rattle.bag_ledger.specs.declared.entries.Call.TheVariants as calls_to
use Rattle.bag_ledger.specs.declared.entries.Said.{Said}
use Rattle.job_units.specs.declared.jobs.Job.{Job}
use Rattle.job_units.specs.declared.units.Made.{Made}
use Rattle.job_units.specs.Puts.{put_of}
use Rattle.job_units.specs.Reading.{fetched}
use Rattle.puzzle_app.specs.Arrivals.{Arrival}
use Rattle.puzzle_app.specs.Tasks.{Task, Put, Begin, End, as_units}

-- the call, if it is a put
abbrev pub put_call : Call → List Call
put_call (calls_to.Put kind prio target answer body) = calls_to.Put kind prio target answer body ∷ []
put_call _ = []

-- the puts, in order
unfoldable pub puts : List Said → List Call
puts [] = []
puts (s ∷ said) = put_call s.call ++ puts said

-- the note of the unit that was granted
abbrev pub note_of : Answer → Option UnitNote
note_of (answers.Granted note) = Some note
note_of _ = None

-- units as the calls that put them
abbrev pub calls_of : List Made → List Call
calls_of units = map put_of units

-- the puts of what came
abbrev pub came_calls : List Arrival → List Call
came_calls came = map (λ (a : Arrival). put_of a.unit) came

-- the jobs of the batches among tasks, batch by batch
unfoldable pub batches_in : List Task → List (List Job)
batches_in [] = []
batches_in (Put unit ∷ tasks) = batches_in tasks
batches_in (Begin common jobs ∷ tasks) = jobs ∷ batches_in tasks
batches_in (End ∷ tasks) = batches_in tasks

-- the batches that are still to be begun after a call
abbrev pub batches_after : Call → List (List Job) → List (List Job)
batches_after (calls_to.BeginBatch common) (jobs ∷ batches) = batches
batches_after call batches = batches

-- the jobs of a batch that no server took, where `batches` were still to be begun
abbrev pub refused : List (List Job) → Call → Answer → List Made
refused (jobs ∷ batches) (calls_to.BeginBatch common) answers.Rejected = as_units jobs
refused batches call answer = []

-- the units of batches that were refused
unfoldable pub all_refused : List (List Job) → List Said → List Made
all_refused batches [] = []
all_refused batches (s ∷ said) = refused batches s.call s.answer ++ all_refused (batches_after s.call batches) said

-- the unit of a fetch, if it has the form of one
abbrev pub units_in : Option Made → List Made
units_in None = []
units_in (Some unit) = unit ∷ []

-- What comes to the rank with a call, as the calls that put it. It is a unit that no server takes; one that is fetched, whose note the call
-- before has; or the jobs of a batch that no server takes.
abbrev pub comes : Option UnitNote → List (List Job) → Call → Answer → List Call
comes held batches (calls_to.Put kind prio target answer body) answers.Rejected = calls_to.Put kind prio target answer body ∷ []
comes (Some note) batches (calls_to.Fetch id) (answers.Body bytes) = calls_of (units_in (fetched note bytes))
comes held batches call answer = calls_of (refused batches call answer)

-- all that comes to the rank, in order
unfoldable pub all_come : Option UnitNote → List (List Job) → List Said → List Call
all_come held batches [] = []
all_come held batches (s ∷ said) = comes held batches s.call s.answer ++ all_come (note_of s.answer) (batches_after s.call batches) said

-- a rank puts, reserves and fetches, begins and ends batches, and makes no other call
abbrev pub is_own : Call → Bool
is_own (calls_to.Put kind prio target answer body) = true
is_own (calls_to.Reserve types) = true
is_own (calls_to.Fetch id) = true
is_own (calls_to.BeginBatch common) = true
is_own calls_to.EndBatch = true
is_own _ = false

-- while a batch goes on, a rank puts jobs and answers, and ends the batch
abbrev pub is_within : Call → Bool
is_within (calls_to.Put kind prio target answer body) = (kind.0 == 2) || (kind.0 == 3)
is_within calls_to.EndBatch = true
is_within _ = false
