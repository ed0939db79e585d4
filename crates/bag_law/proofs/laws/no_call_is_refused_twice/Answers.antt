use Rattle.bag_law.proofs.Refusals.{refused_once}
use Rattle.bag_law.proofs.laws.no_call_is_refused_twice.Goals as goal

pub returns : goal.returns
returns c = refused_once
