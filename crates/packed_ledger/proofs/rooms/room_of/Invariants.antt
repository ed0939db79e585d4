use Rattle.std.proofs.Common.{◌≡◌, take, sum_by}
use Rattle.packed_ledger.specs.Sizes.{size_of}
use Rattle.packed_ledger.proofs.rooms.room_of.Given as goal

abbrev pub invariant-loop-entry : goal.invariant-loop-entry
invariant-loop-entry l = l.bytes ≡ sum_by size_of (take l.entry-index l.fn.entries)
