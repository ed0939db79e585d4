-- For the crate itself. Why an input has no verdict, and how the writing of one ended.
use Rattle.std.specs.Prelude.{◌≡◌, ◌+◌, ℕ, Bool, true, List, Option, Result, Ok, Err}
use Rattle.adlb_io.specs.Inputs.{IsAtEnd}
use Rattle.adlb_io.specs.Outside.{Rises, Takes}
use Rattle.adlb_io.specs.Whole.{Reads, TakesPrefix}
use Rattle.ledger_file.specs.Lines.{IsFirstBad}
use Rattle.ledger_command.specs.declared.faults.CheckFault.{CheckFault}
use Rattle.ledger_command.specs.declared.faults.CheckFault.TheVariants as faults
use Rattle.ledger_command.specs.declared.verdicts.Verdict.{Verdict}
use Rattle.ledger_command.specs.Input.{IsRefusedAt, IsTooLong, input_limit}
use Rattle.ledger_command.specs.Verdicts.{line_of}

-- why nothing is written of these bytes
abbrev pub RefusesText : List ℕ → CheckFault → Type 0
RefusesText bytes (faults.Entry line) = IsFirstBad bytes line
RefusesText bytes faults.Memory = Unit {0}
RefusesText bytes fault = ⊥

-- why nothing is written of an input, with what its source has left and the counts of its faults, before and after
abbrev pub Refuses : Option (List ℕ) → Option (List ℕ) → ℕ → ℕ → CheckFault → Type 0
Refuses left left' reads reads' (faults.Entry line) = IsRefusedAt left line × IsAtEnd left' × (reads' ≡ reads)
Refuses left left' reads reads' (faults.TooLarge taken) =
    (taken ≡ input_limit + 1) × IsTooLong left × ((read : List ℕ) × Reads left left' taken read) × (reads' ≡ reads)
Refuses left left' reads reads' faults.Read = Rises reads reads'
Refuses left left' reads reads' faults.Memory = reads' ≡ reads
Refuses left left' reads reads' faults.Write = ⊥

-- how the writing of a verdict's line ended, with the sink's counts of faults before and after
abbrev pub Writes : Verdict → Option (List ℕ) → Option (List ℕ) → ℕ → ℕ → Bool → Result Verdict CheckFault → Type 0
Writes verdict before after writes writes' flushed (Ok told) =
    (told ≡ verdict) × Takes before after (line_of verdict) × (flushed ≡ true)
Writes verdict before after writes writes' flushed (Err faults.Write) = Rises writes writes' × TakesPrefix before after (line_of verdict)
Writes verdict before after writes writes' flushed (Err faults.Memory) = TakesPrefix before after (line_of verdict)
Writes verdict before after writes writes' flushed (Err fault) = ⊥
