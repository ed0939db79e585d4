-- What is written of a ledger, and its line.
use Rattle.std.specs.Prelude.{◌≡◌, ℕ, List, [], ◌∷◌, ◌++◌, length, Option, Some, None, codes, decimal}
use Rattle.adlb_unit.specs.declared.configs.Config.{Config}
use Rattle.bag_ledger.specs.declared.entries.Entry.{Entry}
use Rattle.bag_ledger.specs.Bag.{start}
use Rattle.bag_ledger.specs.Runs.{IsFirstIllegal, IsLegal}
use Rattle.ledger_command.specs.declared.verdicts.Verdict.{Verdict}
use Rattle.ledger_rules.specs.declared.complaints.Complaint.{Complaint}
use Rattle.ledger_command.specs.declared.verdicts.Verdict.TheVariants.{Legal, Illegal}

-- the ledger is a legal run of this many entries; or the entries before this place are steps, and the one at it is not
abbrev pub IsVerdict : Config → List Entry → Verdict → Type 0
IsVerdict config ledger (Legal entries) = IsLegal config ledger × (entries ≡ length ledger)
IsVerdict config ledger (Illegal place) = IsFirstIllegal (start config) ledger place

-- what is wrong is at this place, and nothing is with a legal run
abbrev pub Suits : Verdict → Option Complaint → Type 0
Suits (Legal entries) complaint = complaint ≡ None
Suits (Illegal place) complaint = (c : Complaint) × (complaint ≡ Some c) × (c.place ≡ place)

-- a word, a blank, a number and a line feed
abbrev pub numbered : List ℕ → ℕ → List ℕ
numbered word n = word ++ codes " " ++ decimal n ++ 10 ∷ []

-- the line of a verdict
abbrev pub line_of : Verdict → List ℕ
line_of (Legal entries) = numbered (codes "legal") entries
line_of (Illegal place) = numbered (codes "illegal") place
