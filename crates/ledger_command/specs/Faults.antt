-- Which fault of a check is a fault of the source, a refusal of the text and a fault of the sink.
use Rattle.adlb_io.specs.declared.sinks.SinkFault.{SinkFault}
use Rattle.adlb_io.specs.declared.sinks.SinkFault.TheVariants as sinks
use Rattle.adlb_io.specs.declared.sources.SourceFault.{SourceFault}
use Rattle.adlb_io.specs.declared.sources.SourceFault.TheVariants as sources
use Rattle.ledger_file.specs.declared.faults.LedgerFault.{LedgerFault}
use Rattle.ledger_file.specs.declared.faults.LedgerFault.TheVariants as refusals
use Rattle.ledger_command.specs.declared.faults.CheckFault.{CheckFault}
use Rattle.ledger_command.specs.declared.faults.CheckFault.TheVariants.{Entry, Memory, Read, Write}

-- the fault of a check for one of its source
abbrev pub fault_at : SourceFault → CheckFault
fault_at sources.Failed = Read
fault_at sources.Memory = Memory

-- for one of its text
abbrev pub fault_in : LedgerFault → CheckFault
fault_in (refusals.Refused line) = Entry line
fault_in refusals.Memory = Memory

-- for one of its sink
abbrev pub fault_of : SinkFault → CheckFault
fault_of sinks.Failed = Write
fault_of sinks.Memory = Memory
