use Rattle.core_law.proofs.CalmServers.{every_run_calm}
use Rattle.core_law.proofs.Expected.{none_is_stuck}
use Rattle.core_law.proofs.Lawful.{actors_seated, alone_is_legal, is_run, ledger_is_legal, ledger_tells, run_is, servers_agree}
use Rattle.core_law.proofs.Lawful.{units_are_brought}
use Rattle.core_law.proofs.laws.core_run_laws.Goals as goal

pub returns : goal.returns
returns c = record {
  same_run = λ w last events. (run_is w last events, is_run w last events);
  legal = ledger_is_legal;
  legal_alone = alone_is_legal;
  agrees = servers_agree;
  calls = ledger_tells;
  seated = actors_seated;
  moving = units_are_brought;
  calm = every_run_calm;
  expected = none_is_stuck;
}
