-- Why an actor of a run in threads failed.
use Rattle.std.specs.Prelude.{ℕ, ◌≡◌, ◌≤◌}
use Rattle.adlb_unit.specs.Limits.{stamp_limit}
use Rattle.adlb_unit.specs.declared.notes.Trouble.{Trouble}
use Rattle.adlb_unit.specs.declared.notes.Trouble.TheVariants as troubles
use Rattle.thread_actors.specs.declared.faults.ActorFault.{ActorFault}
use Rattle.thread_actors.specs.declared.faults.ActorFault.TheVariants as faults

-- the trouble that others are told for it
abbrev pub told : ActorFault → Trouble
told faults.Memory = troubles.Memory
told (faults.TooLong stamp) = troubles.TooLong stamp
told (faults.Unexpected from) = troubles.Memory

-- a stamp that was too long is past the last one that is given
abbrev pub IsLate : Trouble → Type 0
IsLate trouble = (stamp : ℕ) → trouble ≡ troubles.TooLong stamp → stamp_limit ≤ stamp

-- and of what others are told for a fault
abbrev pub IsLateFault : ActorFault → Type 0
IsLateFault fault = IsLate (told fault)
