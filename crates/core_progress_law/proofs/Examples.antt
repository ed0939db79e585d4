-- Next to the law on the order of ends, and not so: in the bag alone all work may be found used up after the problem was called done.
use Rattle.std.proofs.Common.{◌≡◌, ℕ, List, ◌∷◌, [], Option, None, refl}
use Rattle.adlb_unit.specs.declared.names.Rank.{Rank}
use Rattle.bag_ledger.specs.Bag.{empty}
use Rattle.bag_ledger.specs.Runs.{first_illegal}
use Rattle.bag_ledger.specs.declared.entries.Entry.{Entry}
use Rattle.bag_ledger.specs.declared.entries.Entry.TheVariants.{Asked, Done, Exhausted}

abbrev only : Rank
only = record { 0 = 0 }

abbrev called_first : List Entry
called_first = Done only 0 ∷ Asked only 1 None ∷ Exhausted ∷ []

found_after_the_call : first_illegal (empty 1 1 64) 0 called_first ≡ None
found_after_the_call = refl
