use Rattle.std.proofs.Common.{length, ap, arith}
use Rattle.packed_ledger.specs.inside.Codes.{IsKept, entry_before}
use Rattle.packed_ledger.proofs.EntryBytes.{codes_long, entry_long, entry_with_more}
use Rattle.packed_ledger.proofs.ledgers.Ledger.entries.Goals as goal

pub invariant_of-result : goal.invariant_of-result
invariant_of-result c =
    let inside = c.self.inside in
    let holds = c.self.invariant.0 in
    let long = codes_long entry_before IsKept entry_with_more entry_long inside.of.items in (
      rw c.as_slice.ensures.value holds,
      omega arith,
      omega (arith, long, ap length holds.coded, inside.bytes.ok.0, inside.bytes.ok.1, inside.bytes.small),
    )
