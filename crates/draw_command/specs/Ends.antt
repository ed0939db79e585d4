-- How a drawing ends: what it read and wrote, and why.
use Rattle.std.specs.Prelude.{◌≡◌, ◌⊎◌, ◌+◌, ℕ, true, List, Option, Result, Ok, Err}
use Rattle.adlb_io.specs.Inputs.{IsAtEnd, Seen}
use Rattle.adlb_io.specs.Outside.{Rises, Takes}
use Rattle.adlb_io.specs.Whole.{Reads, TakesPrefix}
use Rattle.adlb_unit.specs.declared.configs.Config.{Config}
use Rattle.bag_ledger.specs.declared.entries.Entry as of
use Rattle.ledger_command.specs.declared.faults.CheckFault.{CheckFault}
use Rattle.ledger_command.specs.declared.faults.CheckFault.TheVariants.{Entry, Memory, Read, TooLarge, Write}
use Rattle.ledger_command.specs.Input.{IsRefusedAt, IsTextOn, IsTooLong, input_limit}
use Rattle.ledger_picture.specs.declared.numbers.Numbers.{Numbers}
use Rattle.ledger_picture.specs.Front.{IsPicture}
use Rattle.ledger_picture.specs.Numbers.{IsNumbersOf}

-- a picture with these numbers and this text is of the ledger whose text the input is
pub record IsPictureOn (left : Option (List ℕ)) (numbers : Numbers) (text : List ℕ) : Type 0 where
  pub config : Config
  pub ledger : List of.Entry
  pub text_is : IsTextOn left config ledger
  pub numbers_are : IsNumbersOf config ledger numbers
  pub picture : IsPicture numbers text

-- the whole picture was taken
pub record IsDrawn (before after : Seen) (numbers : Numbers) : Type 0 where
  pub text : List ℕ
  pub picture : IsPictureOn before.left numbers text
  pub whole : Takes before.taken after.taken text

-- a part of its front was taken
pub record IsBegun (before after : Seen) : Type 0 where
  pub numbers : Numbers
  pub text : List ℕ
  pub picture : IsPictureOn before.left numbers text
  pub front : TakesPrefix before.taken after.taken text

-- the ends of a drawing
abbrev pub DrawsTo : Seen → Seen → Result Numbers CheckFault → Type 0
DrawsTo before after (Ok numbers) =
    IsDrawn before after numbers × IsAtEnd after.left × (after.reads ≡ before.reads) × (after.flushed ≡ true)
DrawsTo before after (Err (Entry line)) =
    IsRefusedAt before.left line × IsAtEnd after.left × (after.reads ≡ before.reads) × (after.taken ≡ before.taken)
DrawsTo before after (Err (TooLarge taken)) =
    (taken ≡ input_limit + 1) × IsTooLong before.left × ((read : List ℕ) × Reads before.left after.left taken read)
    × (after.reads ≡ before.reads) × (after.taken ≡ before.taken)
DrawsTo before after (Err Read) = Rises before.reads after.reads × (after.taken ≡ before.taken)
DrawsTo before after (Err Write) = Rises before.writes after.writes × (after.reads ≡ before.reads) × IsBegun before after
DrawsTo before after (Err Memory) = (after.reads ≡ before.reads) × ((after.taken ≡ before.taken) ⊎ IsBegun before after)
