use Rattle.std.proofs.Common.{◌≡◌, ◌++◌}
use Rattle.ledger_picture.specs.Front.{lanes}
use Rattle.ledger_picture.proofs.front.put_names.Given as goal

abbrev pub invariant-loop-k : goal.invariant-loop-k
invariant-loop-k l = l.text.items ≡ l.fn.text.items ++ lanes l.word l.top l.height l.k
