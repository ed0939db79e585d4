-- The faults of a command, and its exit status.
use Rattle.std.specs.Prelude.{ℕ, List, Option, Some, None, Result, Ok, Err}
use Rattle.adlb_unit.specs.declared.configs.Config.{Config}
use Rattle.bag_ledger.specs.declared.entries.Entry.{Entry as LedgerEntry}
use Rattle.command_words.specs.declared.commands.WordsFault.{WordsFault}
use Rattle.command_words.specs.declared.commands.WordsFault.TheVariants as words
use Rattle.flow_app.specs.declared.faults.FlowWhy.{FlowWhy}
use Rattle.flow_app.specs.declared.faults.FlowWhy.TheVariants as flows
use Rattle.job_text.specs.declared.faults.LineWhy as of_jobs
use Rattle.job_text.specs.declared.faults.LineWhy.TheVariants as jobs
use Rattle.ledger_command.specs.declared.faults.CheckFault.{CheckFault}
use Rattle.ledger_command.specs.declared.faults.CheckFault.TheVariants as checks
use Rattle.made_jobs.specs.declared.faults.MadeFault.{MadeFault}
use Rattle.made_jobs.specs.declared.faults.MadeFault.TheVariants as makes
use Rattle.run_command.specs.declared.faults.Fault.{Fault}
use Rattle.run_command.specs.declared.faults.Fault.TheVariants as runs
use Rattle.tour_search.specs.declared.faults.CitiesWhy.{CitiesWhy}
use Rattle.tour_search.specs.declared.faults.CitiesWhy.TheVariants as cities
use Rattle.command_ends.specs.declared.ends.AnyKept.{AnyKept}
use Rattle.command_ends.specs.declared.ends.AnyKept.TheVariants.{Puzzles, Tours, Flows}
use Rattle.command_ends.specs.declared.reasons.LineWhy.{LineWhy}
use Rattle.command_ends.specs.declared.reasons.LineWhy.TheVariants.{Long, Length, Character, Item, Number, Word, Entry, Cities, Cost, Extra}
use Rattle.command_ends.specs.declared.reasons.LineWhy.TheVariants.{Form, Twice, Many}
use Rattle.command_ends.specs.declared.faults.RunFault.{RunFault}
use Rattle.command_ends.specs.declared.faults.RunFault.TheVariants.{Input, Usage, Read, Write, NoThread, Memory, TooLong, TooLarge}

-- the exit status of each fault, and 0 without one
abbrev pub status_of : Option RunFault → ℕ
status_of None = 0
status_of (Some (Input line why)) = 1
status_of (Some Usage) = 2
status_of (Some Read) = 3
status_of (Some Write) = 4
status_of (Some NoThread) = 5
status_of (Some Memory) = 6
status_of (Some (TooLong stamp)) = 7
status_of (Some (TooLarge taken)) = 8

-- there is no fault, or one that neither the outside nor the input brings about
abbrev pub IsFine : Option RunFault → Type 0
IsFine None = Unit {0}
IsFine (Some Memory) = Unit {0}
IsFine (Some (TooLong stamp)) = Unit {0}
IsFine fault = ⊥

-- Which fault of a command one of its parts is. The part is the words, a run with the reasons of its input, a check, a drawing or a making.

-- the fault of a command for one of its words
abbrev pub fault_said : WordsFault → RunFault
fault_said words.Usage = Usage
fault_said words.Memory = Memory

-- the reason of a command for one of an input of jobs
abbrev pub why_of : of_jobs.LineWhy → LineWhy
why_of jobs.Long = Long
why_of (jobs.Length got) = Length got
why_of jobs.Character = Character
why_of jobs.Item = Item
why_of jobs.Number = Number
why_of jobs.Word = Word

-- and for one of an input of cities
abbrev pub why_of_cities : CitiesWhy → LineWhy
why_of_cities cities.Long = Long
why_of_cities cities.Cities = Cities
why_of_cities cities.Cost = Cost
why_of_cities cities.Extra = Extra

-- the reason of a command for one of a flow's line
abbrev pub why_of_flow : FlowWhy → LineWhy
why_of_flow flows.Long = Long
why_of_flow flows.Form = Form
why_of_flow flows.Twice = Twice
why_of_flow flows.Many = Many

-- the fault of a command for one of a run
abbrev pub fault_run : {W : Type 0} → (W → LineWhy) → Fault W → RunFault
fault_run means (runs.Input line why) = Input line (means why)
fault_run means runs.Read = Read
fault_run means runs.Write = Write
fault_run means runs.NoThread = NoThread
fault_run means runs.Memory = Memory
fault_run means (runs.TooLong stamp) = TooLong stamp
fault_run means (runs.TooLarge taken) = TooLarge taken

-- for one of a check or a drawing
abbrev pub fault_at_check : CheckFault → RunFault
fault_at_check checks.Read = Read
fault_at_check checks.Write = Write
fault_at_check checks.Memory = Memory
fault_at_check (checks.TooLarge taken) = TooLarge taken
fault_at_check (checks.Entry line) = Input line Entry

-- for one of a making
abbrev pub fault_at_making : MadeFault → RunFault
fault_at_making makes.Write = Write
fault_at_making makes.Memory = Memory

-- and that of its end, if there is one

-- the fault of a check, if it has one
abbrev pub fault_told : {X : Type 0} → Result X CheckFault → Option RunFault
fault_told (Ok told) = None
fault_told (Err fault) = Some (fault_at_check fault)

-- the fault of a making, if it has one
abbrev pub fault_made : Result (Unit {0}) MadeFault → Option RunFault
fault_made (Ok done) = None
fault_made (Err fault) = Some (fault_at_making fault)

-- Of what is kept its configuration and its ledger.

-- the configuration of what is kept
abbrev pub config_kept : AnyKept → Config
config_kept (Puzzles kept) = kept.report.config
config_kept (Tours kept) = kept.report.config
config_kept (Flows kept) = kept.report.config

-- the ledger of what is kept
abbrev pub ledger_kept : AnyKept → List LedgerEntry
ledger_kept (Puzzles kept) = kept.report.ledger
ledger_kept (Tours kept) = kept.report.ledger
ledger_kept (Flows kept) = kept.report.ledger
