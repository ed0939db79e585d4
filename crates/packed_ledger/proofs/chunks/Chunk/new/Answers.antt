use Rattle.packed_ledger.specs.inside.Codes.{IsKeptStamped, stamped_before}
use Rattle.packed_ledger.proofs.EntryBytes.{holds_none, stamped_long, stamped_with_more}
use Rattle.packed_ledger.proofs.chunks.Chunk.new.Goals as goal

pub invariant_of-result : goal.invariant_of-result
invariant_of-result c = holds_none stamped_before IsKeptStamped stamped_with_more stamped_long _ _ c.new.ensures.items c.new-2.ensures
