use Rattle.std.proofs.Common.{◌≡◌, ◌++◌, length}
use Rattle.flow_work.proofs.stock.list_of.Given as goal

abbrev pub invariant-answers : goal.invariant-answers
invariant-answers l = l.list.items ++ l.answers.items ≡ l.fn.answers.items

abbrev pub decreases-answers : goal.decreases-answers
decreases-answers l = length l.answers.items
