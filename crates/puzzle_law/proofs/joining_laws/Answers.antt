use Rattle.puzzle_law.proofs.Joining.{joined_freed, joined_spent, joined_whole}
use Rattle.puzzle_law.proofs.joining_laws.Goals as goal

pub returns-clause-whole : goal.returns-clause-whole
returns-clause-whole c = joined_whole c.balance_laws.ensures.balanced

pub returns-clause-spent : goal.returns-clause-spent
returns-clause-spent c = joined_spent c.balance_laws.ensures.balanced

pub returns-clause-freed : goal.returns-clause-freed
returns-clause-freed c = joined_freed c.balance_laws.ensures.balanced
