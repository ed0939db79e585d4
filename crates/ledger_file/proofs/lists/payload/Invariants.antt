use Rattle.std.proofs.Common.{length}
use Rattle.ledger_file.proofs.Digits.{IsReadOf}
use Rattle.ledger_file.proofs.lists.payload.Given as goal

abbrev pub invariant-loop-rest : goal.invariant-loop-rest
invariant-loop-rest l = IsReadOf l.fn.word l.bytes.items l.rest

abbrev pub decreases-loop-rest : goal.decreases-loop-rest
decreases-loop-rest l = length l.rest
