-- What a picture says of its ledger.
use Rattle.std.specs.Prelude.{◌≡◌, List, length, MatchOption}
use Rattle.adlb_unit.specs.declared.configs.Config.{Config}
use Rattle.bag_ledger.specs.declared.entries.Entry.{Entry}
use Rattle.bag_ledger.specs.Bag.{start}
use Rattle.bag_ledger.specs.Runs.{IsFirstIllegal, IsLegal}
use Rattle.ledger_picture.specs.declared.numbers.Numbers.{Numbers}

-- the numbers of the run, how many entries there are, and where the first stands that is no step, if the ledger is no legal run
pub record IsNumbersOf (config : Config) (ledger : List Entry) (numbers : Numbers) : Type 0 where
  pub ranks : numbers.ranks ≡ config.ranks
  pub servers : numbers.servers ≡ config.servers
  pub entries : numbers.entries ≡ length ledger
  pub illegal : MatchOption numbers.illegal (IsLegal config ledger) (IsFirstIllegal (start config) ledger)
