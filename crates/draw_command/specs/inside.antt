-- For the crate itself. How the writing of a picture ended.
use Rattle.std.specs.Prelude.{◌≡◌, ℕ, Bool, true, List, Option, Result, Ok, Err}
use Rattle.adlb_io.specs.Outside.{Rises, Takes}
use Rattle.adlb_io.specs.Whole.{TakesPrefix}
use Rattle.ledger_command.specs.declared.faults.CheckFault.{CheckFault}
use Rattle.ledger_command.specs.declared.faults.CheckFault.TheVariants.{Memory, Write}
use Rattle.ledger_picture.specs.declared.numbers.Numbers.{Numbers}

-- how the writing of a picture with these numbers and this text ended, with the sink's counts of faults before and after
abbrev pub Writes : Numbers → List ℕ → Option (List ℕ) → Option (List ℕ) → ℕ → ℕ → Bool → Result Numbers CheckFault → Type 0
Writes numbers text before after writes writes' flushed (Ok told) =
    (told ≡ numbers) × Takes before after text × (flushed ≡ true)
Writes numbers text before after writes writes' flushed (Err Write) = Rises writes writes' × TakesPrefix before after text
Writes numbers text before after writes writes' flushed (Err Memory) = TakesPrefix before after text
Writes numbers text before after writes writes' flushed (Err fault) = ⊥
