-- What is wrong with a ledger: its first entry that is no step, and the rule that it breaks.
use Rattle.std.specs.Prelude.{◌≡◌, List, Some, take, slice_get}
use Rattle.adlb_unit.specs.declared.configs.Config.{Config}
use Rattle.bag_ledger.specs.declared.entries.Entry.{Entry}
use Rattle.bag_ledger.specs.Bag.{Bag, start}
use Rattle.bag_ledger.specs.Runs.{IsRun}
use Rattle.ledger_rules.specs.declared.complaints.Complaint.{Complaint}
use Rattle.ledger_rules.specs.Table.{broken, rules_of}

-- the entries before the place are steps from the start, this entry is there, and of its rules this is the first that the bag
-- before it does not meet
pub record IsComplaint (config : Config) (ledger : List Entry) (c : Complaint) : Type 0 where
  pub before : Bag
  pub steps : IsRun (start config) (take c.place ledger) before
  pub here : slice_get ledger c.place ≡ Some c.entry
  pub breaks : broken before (rules_of c.entry) ≡ Some c.rule
