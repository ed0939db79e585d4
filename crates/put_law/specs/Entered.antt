-- The puts of a rank, as entries of a ledger and as calls.
use Rattle.std.specs.Prelude.{◌==◌, List, [], ◌∷◌, Option, Some, None, flat_map, if◌then◌else◌}
use Rattle.adlb_unit.specs.declared.names.Rank.{Rank}
use Rattle.bag_ledger.specs.declared.entries.Call.{Call}
use Rattle.bag_ledger.specs.declared.entries.Call.TheVariants as calls_to
use Rattle.bag_ledger.specs.declared.entries.Entry.{Entry}
use Rattle.bag_ledger.specs.declared.entries.Entry.TheVariants.{Putting}
use Rattle.bag_ledger.specs.declared.entries.Said.{Said}

-- the put that an entry begins, with its rank
abbrev pub put_in : Entry → Option (Rank × Call)
put_in (Putting rank call kind prio target answer body) = Some (rank, calls_to.Put kind prio target answer body)
put_in e = None

-- the put, if it is by the rank
abbrev pub by_rank : Rank → Option (Rank × Call) → List Call
by_rank rank None = []
by_rank rank (Some (by, call)) = if by.0 == rank.0 then call ∷ [] else []

-- the puts that this rank begins, in the order of the ledger
abbrev pub entered : List Entry → Rank → List Call
entered ledger rank = flat_map (λ e. by_rank rank (put_in e)) ledger

-- the puts among the calls of a rank, in order
abbrev pub put_of : Call → List Call
put_of (calls_to.Put kind prio target answer body) = calls_to.Put kind prio target answer body ∷ []
put_of call = []

-- the puts of a transcript
abbrev pub called : List Said → List Call
called said = flat_map (λ s. put_of s.call) said
