use Rattle.tour_app.proofs.Common.{read_back}
use Rattle.tour_app.proofs.Read.{is_work}
use Rattle.tour_app.proofs.laws.unit_laws.Goals as goal

pub returns-clause-work : goal.returns-clause-work
returns-clause-work c = is_work

pub returns-clause-shared : goal.returns-clause-shared
returns-clause-shared c = read_back
