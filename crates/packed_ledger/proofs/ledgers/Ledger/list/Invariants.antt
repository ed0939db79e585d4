use Rattle.std.proofs.Common.{◌≡◌, ◌++◌, length}
use Rattle.packed_ledger.proofs.ledgers.Ledger.list.Given as goal

abbrev pub invariant-loop-all : goal.invariant-loop-all
invariant-loop-all l = l.all.items ++ l.entries ≡ l.fn.self

abbrev pub decreases-loop-all : goal.decreases-loop-all
decreases-loop-all l = length l.entries
