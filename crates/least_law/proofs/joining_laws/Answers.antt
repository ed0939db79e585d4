use Rattle.least_law.proofs.Joining.{joined_freed, joined_least, joined_spent}
use Rattle.least_law.proofs.joining_laws.Goals as goal

pub returns-clause-least : goal.returns-clause-least
returns-clause-least c = joined_least c.balance_laws.ensures.balanced

pub returns-clause-spent : goal.returns-clause-spent
returns-clause-spent c = joined_spent c.balance_laws.ensures.balanced

pub returns-clause-freed : goal.returns-clause-freed
returns-clause-freed c = joined_freed c.balance_laws.ensures.balanced
