-- Room for the entries of a rank's event.
use Rattle.std.specs.Prelude.{ℕ, ◌+◌, ◌*◌, length}
use Rattle.bag_ledger.specs.declared.entries.Call.{Call}
use Rattle.bag_ledger.specs.declared.entries.Call.TheVariants as calls_to
use Rattle.packed_ledger.specs.Sizes.{entry_size}

-- how many bytes the call brings
abbrev pub brings : Call → ℕ
brings (calls_to.Put kind prio target answer body) = length body
brings (calls_to.BeginBatch common) = length common
brings _ = 0

-- room for two entries, and for these bytes
abbrev pub room_of : Call → ℕ
room_of call = 2 * entry_size + brings call
