use Rattle.std.proofs.Common.{length}
use Rattle.ledger_file.specs.inside.Reading.{parts_left}
use Rattle.ledger_file.proofs.TypeLists.{IsReadUpTo}
use Rattle.ledger_file.proofs.lists.types.Given as goal

abbrev pub invariant-loop-part : goal.invariant-loop-part
invariant-loop-part l = IsReadUpTo l.fn.word l.kinds l.count (parts_left l.parts)

abbrev pub decreases-loop-part : goal.decreases-loop-part
decreases-loop-part l = length (parts_left l.parts)
