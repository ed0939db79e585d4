-- The call that a ledger has begun beyond those of a transcript.
use Rattle.std.specs.Prelude.{List, [], ◌∷◌, length, drop, Option, Some, option_and_then}
use Rattle.adlb_unit.specs.declared.configs.Config.{Config}
use Rattle.bag_ledger.specs.declared.entries.Call.{Call}
use Rattle.bag_ledger.specs.declared.entries.Entry.{Entry}
use Rattle.bag_ledger.specs.declared.entries.Said.{Said}
use Rattle.bag_ledger.specs.Bag.{Bag, rank_at, start}
use Rattle.bag_ledger.specs.Runs.{call_of, calls}
use Rattle.bag_ledger.specs.Steps.{after}
use Rattle.core_inline.specs.Inline.{zeroth}

-- the bag after these entries
abbrev pub after_all : Bag → List Entry → Bag
after_all b [] = b
after_all b (e ∷ es) = after_all (after b e) es

-- the call of the rank that is pending in the bag
abbrev pub pending_in : Bag → Option Call
pending_in b = option_and_then (λ r. call_of r.status) (rank_at b zeroth)

-- the first call that the ledger tells beyond the transcript: one that is answered there, else the one that is pending
abbrev pub first_open : Option Call → List Said → Option Call
first_open pending [] = pending
first_open pending (s ∷ more) = Some s.call

-- the call that a ledger has begun after a transcript
abbrev pub begun_in : Config → List Entry → List Said → Option Call
begun_in config ledger said = first_open (pending_in (after_all (start config) ledger)) (drop (length said) (calls config ledger zeroth))
