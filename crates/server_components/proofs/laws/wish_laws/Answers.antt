use Rattle.server_components.proofs.Resting.{ask_wished, grant_wished, hint_wished}
use Rattle.server_components.proofs.laws.wish_laws.Goals as goal

pub returns-clause-ask : goal.returns-clause-ask
returns-clause-ask c = ask_wished

pub returns-clause-grant : goal.returns-clause-grant
returns-clause-grant c = grant_wished

pub returns-clause-hint : goal.returns-clause-hint
returns-clause-hint c = hint_wished
