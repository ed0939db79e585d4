use Rattle.packed_ledger.proofs.EntryBytes.{stamped_pushed}
use Rattle.packed_ledger.proofs.codes.push_stamped.Goals as goal

pub returns-clause-items : goal.returns-clause-items
returns-clause-items c = stamped_pushed c.args.last.now c.args.bytes.now.items _ _ c.push_groups.ensures.items c.push_entry.ensures.items
