-- Which fault of the writing is which fault of the sink.
use Rattle.adlb_io.specs.declared.sinks.SinkFault.{SinkFault}
use Rattle.adlb_io.specs.declared.sinks.SinkFault.TheVariants as sinks
use Rattle.made_jobs.specs.declared.faults.MadeFault.{MadeFault}
use Rattle.made_jobs.specs.declared.faults.MadeFault.TheVariants.{Memory, Write}

-- the fault of the writing for one of the sink
abbrev pub fault_of : SinkFault → MadeFault
fault_of sinks.Failed = Write
fault_of sinks.Memory = Memory
