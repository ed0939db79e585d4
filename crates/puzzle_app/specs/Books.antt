-- The books of a rank that works: which call it makes next, and what the answer leaves.
use Rattle.std.specs.Prelude.{◌≡◌, ◌↔◌, ℕ, ℤ, Bool, true, false, List, [], ◌∷◌, ◌++◌, map, Option, Some, None}
use Rattle.std.specs.List.{flat_map}
use Rattle.std.specs.Option.{unwrap_or}
use Rattle.adlb_unit.specs.declared.names.Target.{Target}
use Rattle.adlb_unit.specs.declared.notes.End as told_end
use Rattle.adlb_unit.specs.declared.notes.UnitNote.{UnitNote}
use Rattle.bag_ledger.specs.declared.entries.Answer.{Answer}
use Rattle.bag_ledger.specs.declared.entries.Answer.TheVariants.{Fine, Rejected, Ended, Granted, Body}
use Rattle.bag_ledger.specs.declared.entries.Call.{Call}
use Rattle.bag_ledger.specs.declared.entries.Call.TheVariants as calls_to
use Rattle.bag_ledger.specs.declared.entries.Call.TheVariants.{Reserve, Fetch, BeginBatch, EndBatch}
use Rattle.bag_ledger.specs.declared.entries.Said.{Said}
use Rattle.job_units.specs.declared.jobs.Job.{Job}
use Rattle.job_units.specs.declared.units.Made.{Made}
use Rattle.job_units.specs.Forms.{IsUnit}
use Rattle.job_units.specs.Puts.{put_of}
use Rattle.job_units.specs.Reading.{common_bytes, own_bytes}
use Rattle.puzzle_app.specs.Arrivals.{Arrival, arrival, makes}
use Rattle.puzzle_app.specs.Tasks.{Task, Put, Begin, End, as_units, put_all}

-- What the rank is still to do, in order. The common bytes of the batch that is going on, and the unit that was granted and is to be
-- fetched. The units that came to the rank, in order, and whether an end was told.
pub record Books : Type 0 where
  pub tasks : List Task
  pub on : Option (List ℕ)
  pub held : Option UnitNote
  pub came : List Arrival
  pub ended : Bool

-- books between calls
abbrev pub going : List Task → Option (List ℕ) → List Arrival → Books
going tasks on came = record { tasks = tasks; on = on; held = None; came = came; ended = false }

-- books with a unit that is granted
abbrev pub holding : UnitNote → List Arrival → Books
holding note came = record { tasks = []; on = None; held = Some note; came = came; ended = false }

-- books after an end was told
abbrev pub shut : List Task → Option (List ℕ) → List Arrival → Books
shut tasks on came = record { tasks = tasks; on = on; held = None; came = came; ended = true }

-- a unit comes to the rank: what its work makes is put before all else
abbrev pub received : ℕ → Arrival → List Task → Option (List ℕ) → List Arrival → Books
received grain a tasks on came = going (put_all (makes grain a) ++ tasks) on (came ++ a ∷ [])

-- These are the bytes of a fetch of this unit. The note has the work type and the answer rank of a put of it, whose body is what the fetch
-- gave after the common bytes.
pub record IsFetchOf (note : UnitNote) (bytes : List ℕ) (unit : Made) : Type 0 where
  pub form : IsUnit unit
  pub prio : ℤ
  pub target : Target
  pub put_is : put_of unit ≡ calls_to.Put note.kind prio target note.answer (own_bytes note.length bytes)

-- what a fetch brings, if it is of a unit
abbrev pub brought : ℕ → List ℕ → Option Made → List Arrival → Books
brought grain common None came = going [] None came
brought grain common (Some unit) came = received grain (arrival common unit) [] None came

-- no server takes the batch: its jobs come to the rank
abbrev pub over_bytes : List ℕ → List Job → List Arrival
over_bytes common jobs = map (arrival common) (as_units jobs)

-- books after a batch was refused: its jobs are worked by the rank
abbrev pub without_batch : ℕ → List ℕ → List Job → List Task → List Arrival → Books
without_batch grain common jobs tasks came =
    going (put_all (flat_map (makes grain) (over_bytes common jobs)) ++ tasks) None (came ++ over_bytes common jobs)

-- a call with its answer
abbrev pub said_of : Call → Answer → Said
said_of call answer = record { call = call; answer = answer }

-- the next call of a rank, with its answer
pub data Moves (grain : ℕ) (b : Books) (s : Said) (next : Books) : Type 0 where
  -- it puts the first unit that waits, and a server takes it
  accepted : (unit : Made) (rest : List Task) (on : Option (List ℕ)) (came : List Arrival) → IsUnit unit →
      b ≡ going (Put unit ∷ rest) on came → s ≡ said_of (put_of unit) Fine → next ≡ going rest on came → Moves grain b s next
  -- no server takes it: the unit comes to this rank
  rejected : (unit : Made) (rest : List Task) (on : Option (List ℕ)) (came : List Arrival) → IsUnit unit →
      b ≡ going (Put unit ∷ rest) on came → s ≡ said_of (put_of unit) Rejected →
      next ≡ received grain (arrival (unwrap_or on []) unit) rest on came → Moves grain b s next
  -- it is told an end at the put
  stopped : (unit : Made) (rest : List Task) (on : Option (List ℕ)) (came : List Arrival) (end : told_end.End) → IsUnit unit →
      b ≡ going (Put unit ∷ rest) on came → s ≡ said_of (put_of unit) (Ended end) → next ≡ shut rest on came → Moves grain b s next
  -- it begins a batch, and a server keeps the common bytes: its jobs are put, and it is ended
  begun : (common : List ℕ) (jobs : List Job) (rest : List Task) (came : List Arrival) →
      b ≡ going (Begin common jobs ∷ rest) None came → s ≡ said_of (BeginBatch common) Fine →
      next ≡ going (put_all (as_units jobs) ++ End ∷ rest) (Some common) came → Moves grain b s next
  -- no server keeps them
  refused : (common : List ℕ) (jobs : List Job) (rest : List Task) (came : List Arrival) →
      b ≡ going (Begin common jobs ∷ rest) None came → s ≡ said_of (BeginBatch common) Rejected →
      next ≡ without_batch grain common jobs rest came → Moves grain b s next
  -- it is told an end there: its jobs are left
  stopped_before : (common : List ℕ) (jobs : List Job) (rest : List Task) (came : List Arrival) (end : told_end.End) →
      b ≡ going (Begin common jobs ∷ rest) None came → s ≡ said_of (BeginBatch common) (Ended end) →
      next ≡ shut (put_all (as_units jobs) ++ rest) None came → Moves grain b s next
  -- it ends the batch, each job of which was put; or after an end
  closed : (common : List ℕ) (rest : List Task) (came : List Arrival) →
      b ≡ going (End ∷ rest) (Some common) came → s ≡ said_of EndBatch Fine → next ≡ going rest None came → Moves grain b s next
  closed_behind : (common : List ℕ) (rest : List Task) (came : List Arrival) →
      b ≡ shut rest (Some common) came → s ≡ said_of EndBatch Fine → next ≡ shut rest None came → Moves grain b s next
  -- nothing waits: it reserves a unit of any type, and one is granted
  granted : (came : List Arrival) (note : UnitNote) →
      b ≡ going [] None came → s ≡ said_of (Reserve None) (Granted note) → next ≡ holding note came → Moves grain b s next
  -- or an end is told
  told : (came : List Arrival) (end : told_end.End) →
      b ≡ going [] None came → s ≡ said_of (Reserve None) (Ended end) → next ≡ shut [] None came → Moves grain b s next
  -- it fetches the unit that was granted: this one, or none if the bytes are of none
  fetched : (came : List Arrival) (note : UnitNote) (bytes : List ℕ) (unit : Option Made) →
      ((x : Made) → (unit ≡ Some x) ↔ IsFetchOf note bytes x) → b ≡ holding note came → s ≡ said_of (Fetch note.id) (Body bytes) →
      next ≡ brought grain (common_bytes note.length bytes) unit came → Moves grain b s next

-- the calls lead from these books to those
abbrev pub Goes : ℕ → Books → List Said → Books → Type 0
Goes grain b [] last = b ≡ last
Goes grain b (s ∷ said) last = (next : Books) × Moves grain b s next × Goes grain next said last
