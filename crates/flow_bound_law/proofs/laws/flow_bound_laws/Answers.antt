use Rattle.flow_bound_law.proofs.Heard.{heard_few}
use Rattle.flow_bound_law.proofs.Together.{few_calls}
use Rattle.flow_bound_law.proofs.laws.flow_bound_laws.Goals as goal

pub returns-clause-begun : goal.returns-clause-begun
returns-clause-begun c = few_calls

pub returns-clause-heard : goal.returns-clause-heard
returns-clause-heard c = heard_few
