-- What is written of an input, and why it is refused.
use Rattle.std.specs.Prelude.{◌≡◌, ◌≤◌, ◌^◌, ℕ, List, length, Option, Some}
use Rattle.adlb_io.specs.Inputs.{HasMore}
use Rattle.adlb_unit.specs.declared.configs.Config.{Config}
use Rattle.bag_ledger.specs.declared.entries.Entry.{Entry}
use Rattle.ledger_file.specs.Lines.{IsFirstBad, IsText}
use Rattle.ledger_command.specs.declared.verdicts.Verdict.{Verdict}
use Rattle.ledger_command.specs.Verdicts.{IsVerdict}

-- the most bytes of an input
abbrev pub input_limit : ℕ
input_limit = 2 ^ 26

-- a source that tells what is left has the text of this configuration and ledger, which is not too long
abbrev pub IsTextOn : Option (List ℕ) → Config → List Entry → Type 0
IsTextOn left config ledger = (bytes : List ℕ) → left ≡ Some bytes → (length bytes ≤ input_limit) × IsText config ledger bytes

-- of a configuration and a ledger this is told, and a source that tells what is left has their text, which is not too long
pub record IsVerdictOn (left : Option (List ℕ)) (verdict : Verdict) : Type 0 where
  pub config : Config
  pub ledger : List Entry
  pub text : IsTextOn left config ledger
  pub told : IsVerdict config ledger verdict

-- a source that tells what is left has an input of which this is the first line that is not what is due in the text of a ledger
abbrev pub IsRefusedAt : Option (List ℕ) → ℕ → Type 0
IsRefusedAt left line = (bytes : List ℕ) → left ≡ Some bytes → (length bytes ≤ input_limit) × IsFirstBad bytes line

-- it has more bytes than an input may have
abbrev pub IsTooLong : Option (List ℕ) → Type 0
IsTooLong left = HasMore input_limit left
