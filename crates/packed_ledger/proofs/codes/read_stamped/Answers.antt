use Rattle.std.proofs.Common.{length, ap, arith}
use Rattle.packed_ledger.specs.inside.Codes.{entry_before, stamped_before}
use Rattle.packed_ledger.proofs.EntryBytes.{stamped_long}
use Rattle.packed_ledger.proofs.codes.read_stamped.Goals as goal

pub returns-clause-read : goal.returns-clause-read
unfolding stamped_before
returns-clause-read c = λ s rest kept code.
    let stamp = c.read_groups-stamp.ensures s.stamp (entry_before s.entry rest) kept.stamp (omega arith) code in
    let entry = c.in_ok-entry.ensures s.entry rest kept.entry stamp.1 in
    let long = stamped_long s rest in (
      λ i. record { stamp = stamp.0 i; entry = entry.0 i },
      omega (arith, c.saturating_sub.ensures, ap length entry.1, ap length code, long),
    )
