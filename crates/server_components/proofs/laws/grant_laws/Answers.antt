use Rattle.server_components.proofs.Others.{alone, none_others}
use Rattle.server_components.proofs.Resting.{granted_is_best, none_granted_is, none_is_granted}
use Rattle.server_components.proofs.laws.grant_laws.Goals as goal

pub returns-clause-best : goal.returns-clause-best
returns-clause-best c = granted_is_best

pub returns-clause-none : goal.returns-clause-none
returns-clause-none c = λ q rank types. (none_granted_is q rank types, none_is_granted q rank types)

pub returns-clause-alone : goal.returns-clause-alone
returns-clause-alone c = λ config me. (none_others config me, alone config me)
