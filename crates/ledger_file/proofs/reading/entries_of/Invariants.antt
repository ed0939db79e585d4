use Rattle.std.proofs.Common.{length}
use Rattle.ledger_file.specs.inside.Next.{HasRead}
use Rattle.ledger_file.proofs.reading.entries_of.Given as goal

abbrev pub invariant-lines : goal.invariant-lines
invariant-lines l = HasRead l.fn.bytes l.ledger l.rest

abbrev pub decreases-lines : goal.decreases-lines
decreases-lines l = length l.rest
