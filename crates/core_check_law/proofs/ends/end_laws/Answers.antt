use Rattle.core_check_law.proofs.AfterEnds.{all_over, all_shut, none_works}
use Rattle.core_check_law.proofs.EndsAlong.{exhaust_told, shutdown_told}
use Rattle.core_check_law.proofs.ShutServers.{shut_is_right}
use Rattle.core_check_law.proofs.ends.end_laws.Goals as goal

pub returns : goal.returns
returns c = record {
  exhaust_told = exhaust_told;
  shutdown_told = shutdown_told;
  over = all_over;
  idle = none_works;
  finished = shut_is_right;
  shut = all_shut;
}
