-- Units with the common bytes over which they are worked: those that came to ranks, those that their work makes, and those that are still
-- to be put; by counts.
use Rattle.std.proofs.Common.{ℕ, Bool, List, [], ◌∷◌, ◌++◌, map, Option, None}
use Rattle.std.specs.List.{flat_map}
use Rattle.job_units.specs.declared.units.Made.{Made}
use Rattle.puzzle_app.specs.Arrivals.{Arrival, arrival, bytes_on, makes}
use Rattle.puzzle_app.specs.Tasks.{Task, Put, Begin, End, as_units}

-- a test of units with their common bytes
abbrev pub Test : Type 0
Test = Arrival → Bool

-- the unit over these common bytes
abbrev pub over : List ℕ → Made → Arrival
over common unit = record { unit = unit; common = common }

-- units that are no jobs, for which no common bytes are of use
abbrev pub pieces : List Made → List Arrival
pieces units = map (arrival []) units

-- what the work on these units makes
abbrev pub all_by : ℕ → List Arrival → List Arrival
all_by grain came = pieces (flat_map (makes grain) came)

-- what is still to be put in these tasks, in the batch of these common bytes or in none
unfoldable pub waits : Option (List ℕ) → List Task → List Arrival
waits on [] = []
waits on (Put unit ∷ tasks) = arrival (bytes_on on) unit ∷ waits on tasks
waits on (Begin common jobs ∷ tasks) = map (arrival common) (as_units jobs) ++ waits on tasks
waits on (End ∷ tasks) = waits None tasks
