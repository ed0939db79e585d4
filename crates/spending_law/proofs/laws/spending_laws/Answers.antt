use Rattle.spending_law.proofs.Heard.{heard_few}
use Rattle.spending_law.proofs.Together.{few_calls}
use Rattle.spending_law.proofs.laws.spending_laws.Goals as goal

pub returns-clause-begun : goal.returns-clause-begun
returns-clause-begun c = few_calls

pub returns-clause-heard : goal.returns-clause-heard
returns-clause-heard c = heard_few
