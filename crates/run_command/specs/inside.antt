-- For the crate itself. Why an input has no answer, what the world of a run in line was, and how the writing ended.
use Rattle.std.specs.Prelude.{◌≡◌, ◌≤◌, ◌+◌, ◌^◌, ◌⊎◌, ◌==◌, ℕ, Bool, true, List, [], ◌∷◌, ◌++◌, length, take}
use Rattle.std.specs.Prelude.{Option, Some, None, Result, Ok, if◌then◌else◌}
use Rattle.adlb_io.specs.Inputs.{HasMore, IsAtEnd}
use Rattle.adlb_io.specs.Outside.{Rises, Takes}
use Rattle.adlb_io.specs.Whole.{Reads}
use Rattle.adlb_io.specs.declared.sinks.SinkFault.{SinkFault}
use Rattle.adlb_io.specs.declared.sinks.SinkFault.TheVariants as sinks
use Rattle.adlb_io.specs.declared.whole.Unwritten.{Unwritten}
use Rattle.adlb_threads.specs.Reports.{Reported}
use Rattle.adlb_threads.specs.Runs.{RisesBy}
use Rattle.adlb_threads.specs.declared.faults.RanFault.{RanFault}
use Rattle.adlb_threads.specs.declared.faults.RanFault.TheVariants as runs
use Rattle.adlb_unit.specs.declared.configs.Config.{Config}
use Rattle.adlb_unit.specs.declared.notes.Trouble.{Trouble}
use Rattle.adlb_unit.specs.declared.notes.Trouble.TheVariants as troubles
use Rattle.bag_ledger.specs.declared.entries.Call.{Call}
use Rattle.bag_ledger.specs.declared.entries.Entry.{Entry}
use Rattle.bag_ledger.specs.declared.entries.Said.{Said}
use Rattle.core_inline.specs.Inline.{Run}
use Rattle.server_core.specs.declared.states.LeftUnit.{LeftUnit}
use Rattle.run_command.specs.Ends.{HasAsked, IsRefusedAt, input_limit}
use Rattle.run_command.specs.declared.faults.Fault.{Fault}
use Rattle.run_command.specs.declared.faults.Fault.TheVariants.{Input, Read, Write, NoThread, Memory, TooLong, TooLarge}

-- a thread for each rank and for each server was started, or the count is at its last value
abbrev pub HasStarted : Config → ℕ → ℕ → Type 0
HasStarted config before now = RisesBy (config.ranks + config.servers) before now

-- Why there was no answer.

-- why bytes ask nothing: a line is refused; or an allocation failed
abbrev pub IsRefusal : {W : Type 0} → (ℕ → W → Type 0) → Fault W → Type 0
IsRefusal refuses (Input line why) = refuses line why
IsRefusal refuses Memory = Unit {0}
IsRefusal refuses fault = ⊥

-- Why an input has no answer, with what its source has left, the counts of its faults and those of refused starts, before and after. If the
-- stamps ran out, what it asks may be that long.
abbrev pub Stops : {A W : Type 0} → (List ℕ → A → Type 0) → (List ℕ → ℕ → W → Type 0) → (A → Type 0) → Option (List ℕ) → Option (List ℕ)
    → ℕ → ℕ → ℕ → ℕ → Fault W → Type 0
Stops asks refuses long left left' reads reads' refused refused' (Input line why) =
    IsRefusedAt refuses left line why × IsAtEnd left' × (reads' ≡ reads)
Stops asks refuses long left left' reads reads' refused refused' Read = Rises reads reads'
Stops asks refuses long left left' reads reads' refused refused' Write = ⊥
Stops asks refuses long left left' reads reads' refused refused' NoThread = Rises refused refused' × HasAsked asks left
Stops asks refuses long left left' reads reads' refused refused' Memory = Unit {0}
Stops asks refuses long left left' reads reads' refused refused' (TooLong stamp) =
    (2 ^ 48 ≤ stamp) × HasAsked (λ bytes asked. asks bytes asked × long asked) left
Stops asks refuses long left left' reads reads' refused refused' (TooLarge taken) =
    (taken ≡ input_limit + 1) × HasMore input_limit left × ((read : List ℕ) × Reads left left' taken read) × (reads' ≡ reads)

-- why a run in line had no report: this is so if the stamps ran out
abbrev pub IsTroubleOf : Type 0 → Trouble → Type 0
IsTroubleOf long troubles.Memory = Unit {0}
IsTroubleOf long (troubles.TooLong stamp) = (2 ^ 48 ≤ stamp) × long

-- and why one with threads had none
abbrev pub IsStopOf : Type 0 → RanFault → Type 0
IsStopOf long runs.NoThread = Unit {0}
IsStopOf long runs.Memory = Unit {0}
IsStopOf long (runs.TooLong stamp) = (2 ^ 48 ≤ stamp) × long

-- Which fault one of a run is.

-- the fault of a trouble
abbrev pub fault_by : {W : Type 0} → Trouble → Fault W
fault_by troubles.Memory = Memory
fault_by (troubles.TooLong stamp) = TooLong stamp

-- the fault of a run
abbrev pub fault_ran : {W : Type 0} → RanFault → Fault W
fault_ran runs.NoThread = NoThread
fault_ran runs.Memory = Memory
fault_ran (runs.TooLong stamp) = TooLong stamp

-- and one of the sink
abbrev pub fault_of : {W : Type 0} → SinkFault → Fault W
fault_of sinks.Failed = Write
fault_of sinks.Memory = Memory

-- What the world of a run in line was.

-- the run has these numbers
pub record HasNumbers (config : Config) (run : Run) : Type 0 where
  pub ranks : run.config.ranks ≡ config.ranks
  pub servers : run.config.servers ≡ config.servers
  pub limit : run.config.limit ≡ config.limit

-- this transcript is the other with one call more at most
abbrev pub IsOneMore : List Said → List Said → Type 0
IsOneMore said now = (more : List Said) × (now ≡ said ++ more) × (length more ≤ 1)

-- what the rank said is what its program can have said so far, with one call more at most
pub record HasWorked (so_far : List Said → Option Call → Type 0) (transcript : List Said) : Type 0 where
  pub said : List Said
  pub begun : Option Call
  pub so : so_far said begun
  pub now : IsOneMore said transcript

-- the report of a run with one rank
abbrev pub one_report : {O : Type 0} → Config → List Entry → List Said → List LeftUnit → O → Reported O
one_report config ledger transcript left outcome = record {
  config = config;
  ledger = ledger;
  transcripts = transcript ∷ [];
  outcomes = outcome ∷ [];
  left = left;
}

-- the report of such a run, whose rank had an outcome
pub record IsReportOf {O : Type 0} (config : Config) (ledger : List Entry) (transcript : List Said) (left : List LeftUnit)
    (outcome : Result O Trouble) (r : Reported O) : Type 0 where
  pub found : O
  pub is : outcome ≡ Ok found
  pub report : r ≡ one_report config ledger transcript left found

-- How the writing ended.

-- the report is kept if a write failed, and if an allocation failed after the sink took a byte
abbrev pub kept_of : {K : Type 0} → SinkFault → ℕ → K → Option K
kept_of sinks.Failed taken kept = Some kept
kept_of sinks.Memory taken kept = if taken == 0 then None else Some kept

-- the whole text was written and flushed, and the report is kept
pub record WritesAll {W K : Type 0} (kept : K) (text : List ℕ) (before after : Option (List ℕ)) (flushed : Bool)
    (fault : Option (Fault W)) (keeps : Option K) : Type 0 where
  pub fine : fault ≡ None
  pub keeps_it : keeps ≡ Some kept
  pub taken : Takes before after text
  pub flush : flushed ≡ true

-- `taken` bytes of its front were
pub record WritesPart {W K : Type 0} (kept : K) (text : List ℕ) (before after : Option (List ℕ)) (faults faults' : ℕ)
    (fault : Option (Fault W)) (keeps : Option K) : Type 0 where
  pub unwritten : Unwritten
  pub fails : fault ≡ Some (fault_of unwritten.fault)
  pub keeps_it : keeps ≡ kept_of unwritten.fault unwritten.taken kept
  pub part : unwritten.taken ≤ length text
  pub taken : Takes before after (take unwritten.taken text)
  pub cause : unwritten.fault ≡ sinks.Failed → Rises faults faults'

-- how the writing of a text ended: whole, or in part
abbrev pub Writes : {W K : Type 0} → K → List ℕ → Option (List ℕ) → Option (List ℕ) → ℕ → ℕ → Bool → Option (Fault W) → Option K → Type 0
Writes kept text before after faults faults' flushed fault keeps =
    WritesAll kept text before after flushed fault keeps ⊎ WritesPart kept text before after faults faults' fault keeps
