use Rattle.rank_client.proofs.StepsTell.{steps_tell}
use Rattle.rank_client.proofs.laws.says_laws.Goals as goal

pub returns : goal.returns
returns c = steps_tell
