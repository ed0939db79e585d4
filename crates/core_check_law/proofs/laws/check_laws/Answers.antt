use Rattle.std.proofs.Common.{◌<◌, arith}
use Rattle.core_law.proofs.EveryRun.{every_run_well}
use Rattle.core_check_law.proofs.EveryTurn.{every_run_turned}
use Rattle.core_check_law.proofs.Expected.{none_is_ever_stuck}
use Rattle.core_check_law.proofs.Rings.{every_run_ringed}
use Rattle.core_check_law.proofs.Tokens.{token_count}
use Rattle.core_check_law.proofs.laws.check_laws.Goals as goal

pub returns : goal.returns
returns c = record {
  tokens = λ config events w run.
      let some : 0 < w.config.servers = let n = w.config.servers_within.0 in omega arith in
      token_count w (every_run_well config events w run).shape some (every_run_ringed config events w run).tokens;
  ringed = every_run_ringed;
  on_turn = λ config events w run. (every_run_turned config events w run).1;
  expected = none_is_ever_stuck;
}
