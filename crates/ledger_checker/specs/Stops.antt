-- Where a ledger that is followed stops.
use Rattle.std.specs.Prelude.{ℕ, ◌+◌, List, [], ◌∷◌, Option, Some, None}
use Rattle.bag_ledger.specs.declared.entries.Entry.{Entry}
use Rattle.bag_ledger.specs.Bag.{Bag}
use Rattle.bag_ledger.specs.Step.{step}

-- the place of this entry, the entry, and the bag before it, if it is no step from there; what comes later if it is one
abbrev pub stop_or : (Bag → Option (ℕ × Entry × Bag)) → ℕ → Entry → Bag → Option Bag → Option (ℕ × Entry × Bag)
stop_or later place e b None = Some (place, e, b)
stop_or later place e b (Some next) = later next

-- the same of the first entry that is no step, with places counted from this number
abbrev pub first_stop : Bag → ℕ → List Entry → Option (ℕ × Entry × Bag)
first_stop b place [] = None
first_stop b place (e ∷ es) = stop_or (λ next. first_stop next (place + 1) es) place e b (step b e)
