-- What is asked of the bag where exhaustion is found: with one server that all is settled; with several nothing, which is set aside here.
use Rattle.std.specs.Prelude.{◌==◌, Bool, true, if◌then◌else◌}
use Rattle.adlb_unit.specs.declared.configs.Config.{Config}
use Rattle.bag_ledger.specs.Bag.{Bag, settled}

-- with one server the bag has to be settled; with several nothing is asked
abbrev pub found_in : Config → Bag → Bool
found_in config b = if config.servers == 1 then settled b else true
