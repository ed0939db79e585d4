-- The law of the puts of a run.
use Rattle.put_law.proofs.Entering.{entered_is}
use Rattle.put_law.proofs.put_laws.Goals as goal

pub returns : goal.returns
returns c = record { entered = entered_is }
