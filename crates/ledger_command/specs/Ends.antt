-- How a check ends: what it read and wrote, and why.
use Rattle.std.specs.Prelude.{◌≡◌, ◌⊎◌, ◌+◌, ℕ, Bool, true, List, Option, Result, Ok, Err}
use Rattle.adlb_io.specs.Inputs.{IsAtEnd, Seen}
use Rattle.adlb_io.specs.Outside.{Rises, Takes}
use Rattle.adlb_io.specs.Whole.{Reads, TakesPrefix}
use Rattle.ledger_command.specs.declared.faults.CheckFault.{CheckFault}
use Rattle.ledger_command.specs.declared.faults.CheckFault.TheVariants.{Entry, Memory, Read, TooLarge, Write}
use Rattle.ledger_command.specs.declared.verdicts.Verdict.{Verdict}
use Rattle.ledger_command.specs.Input.{IsRefusedAt, IsTooLong, IsVerdictOn, input_limit}
use Rattle.ledger_command.specs.Verdicts.{line_of}

-- a part of the front of the line was taken that tells the verdict on the input
pub record IsBegun (before after : Seen) : Type 0 where
  pub verdict : Verdict
  pub told : IsVerdictOn before.left verdict
  pub front : TakesPrefix before.taken after.taken (line_of verdict)

-- the ends of a check
abbrev pub ChecksTo : Seen → Seen → Result Verdict CheckFault → Type 0
ChecksTo before after (Ok verdict) =
    IsVerdictOn before.left verdict × IsAtEnd after.left × (after.reads ≡ before.reads)
    × Takes before.taken after.taken (line_of verdict) × (after.flushed ≡ true)
ChecksTo before after (Err (Entry line)) =
    IsRefusedAt before.left line × IsAtEnd after.left × (after.reads ≡ before.reads) × (after.taken ≡ before.taken)
ChecksTo before after (Err (TooLarge taken)) =
    (taken ≡ input_limit + 1) × IsTooLong before.left × ((read : List ℕ) × Reads before.left after.left taken read)
    × (after.reads ≡ before.reads) × (after.taken ≡ before.taken)
ChecksTo before after (Err Read) = Rises before.reads after.reads × (after.taken ≡ before.taken)
ChecksTo before after (Err Write) = Rises before.writes after.writes × (after.reads ≡ before.reads) × IsBegun before after
ChecksTo before after (Err Memory) = (after.reads ≡ before.reads) × ((after.taken ≡ before.taken) ⊎ IsBegun before after)
