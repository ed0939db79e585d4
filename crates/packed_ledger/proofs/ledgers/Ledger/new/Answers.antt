use Rattle.std.proofs.Common.{length, sym, ap}
use Rattle.packed_ledger.specs.inside.Codes.{IsKept, entry_before}
use Rattle.packed_ledger.proofs.EntryBytes.{entry_long, entry_with_more, holds_none}
use Rattle.packed_ledger.proofs.ledgers.Ledger.new.Goals as goal

pub invariant_of-result : goal.invariant_of-result
invariant_of-result c =
    (holds_none entry_before IsKept entry_with_more entry_long _ _ c.new.ensures.items c.new-2.ensures, sym (ap length c.new-2.ensures))
