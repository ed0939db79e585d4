use Rattle.rank_client.proofs.Begins.{begins}
use Rattle.rank_client.proofs.Expected.{expected_are_heard}
use Rattle.rank_client.proofs.Granted.{grants_come_first}
use Rattle.rank_client.proofs.Hears.{hears}
use Rattle.rank_client.proofs.laws.client_laws.Goals as goal

pub returns-clause-begun : goal.returns-clause-begun
returns-clause-begun c = begins

pub returns-clause-heard : goal.returns-clause-heard
returns-clause-heard c = hears

pub returns-clause-expected_are_heard : goal.returns-clause-expected_are_heard
returns-clause-expected_are_heard c = expected_are_heard

pub returns-clause-grants_come_first : goal.returns-clause-grants_come_first
returns-clause-grants_come_first c = grants_come_first
