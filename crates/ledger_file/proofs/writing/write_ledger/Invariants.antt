use Rattle.std.proofs.Common.{◌≡◌, ◌++◌, length}
use Rattle.ledger_file.specs.Lines.{AreEntries, lines}
use Rattle.ledger_file.proofs.writing.write_ledger.Given as goal

abbrev pub invariant-loop-bytes : goal.invariant-loop-bytes
invariant-loop-bytes l =
    (l.bytes.items ++ lines l.entries ≡ l.initial.bytes.items ++ lines l.fn.ledger) × (AreEntries l.entries → AreEntries l.fn.ledger)

abbrev pub decreases-loop-bytes : goal.decreases-loop-bytes
decreases-loop-bytes l = length l.entries
