-- The books of a rank that works: which call it makes next, and what the answer leaves.
use Rattle.std.specs.Prelude.{◌≡◌, ℕ, Bool, true, false, List, [], ◌∷◌, ◌++◌, map, flat_map, Option, Some, None}
use Rattle.adlb_unit.specs.declared.notes.End as told_end
use Rattle.adlb_unit.specs.declared.notes.UnitNote.{UnitNote}
use Rattle.bag_ledger.specs.declared.entries.Answer.{Answer}
use Rattle.bag_ledger.specs.declared.entries.Answer.TheVariants.{Fine, Rejected, Ended, Granted, Body}
use Rattle.bag_ledger.specs.declared.entries.Call.{Call}
use Rattle.bag_ledger.specs.declared.entries.Call.TheVariants.{Reserve, Fetch, BeginBatch, EndBatch}
use Rattle.bag_ledger.specs.declared.entries.Said.{Said}
use Rattle.work_law.specs.Work.{Arrival, Work, arrival, common_bytes, fetched_unit, made_by, put_of}

-- what a rank is to do: it puts a unit; it begins a batch of these common bytes, in which it puts these units; or it ends the batch
pub data Task (Made : Type 0) : Type 0 where
  Put : Made → Task Made
  Begin : List ℕ → List Made → Task Made
  End : Task Made

-- a put for each unit
abbrev pub put_all : {Made : Type 0} → List Made → List (Task Made)
put_all units = map Put units

-- What the rank is still to do, in order. The common bytes of the batch that is going on, and the unit that was granted and is to be
-- fetched. The units that came to the rank, in order, and whether an end was told.
pub record Books (Made : Type 0) : Type 0 where
  pub tasks : List (Task Made)
  pub on : Option (List ℕ)
  pub held : Option UnitNote
  pub came : List (Arrival Made)
  pub ended : Bool

-- the common bytes of the batch that is going on, if one is
abbrev pub bytes_on : Option (List ℕ) → List ℕ
bytes_on None = []
bytes_on (Some common) = common

-- books between calls
abbrev pub going : {Made : Type 0} → List (Task Made) → Option (List ℕ) → List (Arrival Made) → Books Made
going tasks on came = record { tasks = tasks; on = on; held = None; came = came; ended = false }

-- books with a unit that is granted
abbrev pub holding : {Made : Type 0} → UnitNote → List (Arrival Made) → Books Made
holding note came = record { tasks = []; on = None; held = Some note; came = came; ended = false }

-- books after an end was told
abbrev pub shut : {Made : Type 0} → List (Task Made) → Option (List ℕ) → List (Arrival Made) → Books Made
shut tasks on came = record { tasks = tasks; on = on; held = None; came = came; ended = true }

-- a unit comes to the rank: what its work makes is put before all else
abbrev pub received : {Made : Type 0} → Work Made → Arrival Made → List (Task Made) → Option (List ℕ) → List (Arrival Made) → Books Made
received W a tasks on came = going (put_all (made_by W a) ++ tasks) on (came ++ a ∷ [])

-- what a fetch brings, if it has the form of a unit
abbrev pub brought : {Made : Type 0} → Work Made → List ℕ → Option Made → List (Arrival Made) → Books Made
brought W common None came = going [] None came
brought W common (Some unit) came = received W (arrival W common unit) [] None came

-- a batch is going on: its units are put, and it is ended
abbrev pub in_batch : {Made : Type 0} → List ℕ → List Made → List (Task Made) → List (Arrival Made) → Books Made
in_batch common units tasks came = going (put_all units ++ End ∷ tasks) (Some common) came

-- no server takes the batch: its units come to the rank
abbrev pub over_bytes : {Made : Type 0} → Work Made → List ℕ → List Made → List (Arrival Made)
over_bytes W common units = map (arrival W common) units

-- books after a batch was refused: its units are worked by the rank
abbrev pub without_batch : {Made : Type 0} → Work Made → List ℕ → List Made → List (Task Made) → List (Arrival Made) → Books Made
without_batch W common units tasks came =
    going (put_all (flat_map (made_by W) (over_bytes W common units)) ++ tasks) None (came ++ over_bytes W common units)

-- a call with its answer
abbrev pub said_of : Call → Answer → Said
said_of call answer = record { call = call; answer = answer }

-- the next call of a rank, with its answer
pub data Moves {Made : Type 0} (W : Work Made) (b : Books Made) (s : Said) (next : Books Made) : Type 0 where
  -- it puts the first unit that waits, and a server takes it
  accepted : (unit : Made) (rest : List (Task Made)) (on : Option (List ℕ)) (came : List (Arrival Made)) → W.fits unit ≡ true →
      b ≡ going (Put unit ∷ rest) on came → s ≡ said_of (put_of W unit) Fine → next ≡ going rest on came → Moves W b s next
  -- no server takes it: the unit comes to this rank
  rejected : (unit : Made) (rest : List (Task Made)) (on : Option (List ℕ)) (came : List (Arrival Made)) →
      b ≡ going (Put unit ∷ rest) on came → s ≡ said_of (put_of W unit) Rejected →
      next ≡ received W (arrival W (bytes_on on) unit) rest on came → Moves W b s next
  -- it is told an end at the put: the unit is left
  stopped : (unit : Made) (rest : List (Task Made)) (on : Option (List ℕ)) (came : List (Arrival Made)) (end : told_end.End) →
      b ≡ going (Put unit ∷ rest) on came → s ≡ said_of (put_of W unit) (Ended end) → next ≡ shut (Put unit ∷ rest) on came
      → Moves W b s next
  -- it begins a batch, and a server keeps the common bytes
  begun : (common : List ℕ) (units : List Made) (rest : List (Task Made)) (came : List (Arrival Made)) →
      b ≡ going (Begin common units ∷ rest) None came → s ≡ said_of (BeginBatch common) Fine → next ≡ in_batch common units rest came →
      Moves W b s next
  -- no server keeps them
  refused : (common : List ℕ) (units : List Made) (rest : List (Task Made)) (came : List (Arrival Made)) →
      b ≡ going (Begin common units ∷ rest) None came → s ≡ said_of (BeginBatch common) Rejected →
      next ≡ without_batch W common units rest came → Moves W b s next
  -- it is told an end there: its units are left
  stopped_before : (common : List ℕ) (units : List Made) (rest : List (Task Made)) (came : List (Arrival Made)) (end : told_end.End) →
      b ≡ going (Begin common units ∷ rest) None came → s ≡ said_of (BeginBatch common) (Ended end) →
      next ≡ shut (put_all units ++ rest) None came → Moves W b s next
  -- it ends the batch, each unit of which was put; or after an end
  closed : (common : List ℕ) (rest : List (Task Made)) (came : List (Arrival Made)) →
      b ≡ going (End ∷ rest) (Some common) came → s ≡ said_of EndBatch Fine → next ≡ going rest None came → Moves W b s next
  closed_behind : (common : List ℕ) (rest : List (Task Made)) (came : List (Arrival Made)) →
      b ≡ shut rest (Some common) came → s ≡ said_of EndBatch Fine → next ≡ shut rest None came → Moves W b s next
  -- nothing waits: it reserves a unit of any type, and one is granted
  granted : (came : List (Arrival Made)) (note : UnitNote) →
      b ≡ going [] None came → s ≡ said_of (Reserve None) (Granted note) → next ≡ holding note came → Moves W b s next
  -- or an end is told
  told : (came : List (Arrival Made)) (end : told_end.End) →
      b ≡ going [] None came → s ≡ said_of (Reserve None) (Ended end) → next ≡ shut [] None came → Moves W b s next
  -- it fetches the unit that was granted
  fetched : (came : List (Arrival Made)) (note : UnitNote) (bytes : List ℕ) →
      b ≡ holding note came → s ≡ said_of (Fetch note.id) (Body bytes) →
      next ≡ brought W (common_bytes note.length bytes) (fetched_unit W note bytes) came → Moves W b s next

-- the calls lead from these books to those
abbrev pub Goes : {Made : Type 0} → Work Made → Books Made → List Said → Books Made → Type 0
Goes W b [] last = b ≡ last
Goes {Made} W b (s ∷ said) last = (next : Books Made) × Moves W b s next × Goes W next said last
