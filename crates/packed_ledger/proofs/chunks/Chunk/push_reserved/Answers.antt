use Rattle.packed_ledger.specs.inside.Codes.{IsKeptStamped, stamped_before}
use Rattle.packed_ledger.proofs.EntryBytes.{holds_push, stamped_long, stamped_with_more}
use Rattle.packed_ledger.proofs.chunks.Chunk.push_reserved.Goals as goal

pub invariant_of-self : goal.invariant_of-self
invariant_of-self c = holds_push stamped_before IsKeptStamped stamped_with_more stamped_long _ _ _ _ _ c.self.invariant
    c.push_stamped.ensures.kept c.push_stamped.ensures.items c.and-self-inside.ensures
