use Rattle.core_check_law.proofs.Legal.{every_run_legal, every_run_settles, every_run_told}
use Rattle.core_check_law.proofs.verdicts.verdict_laws.Goals as goal

pub returns : goal.returns
returns c = record { legal = every_run_legal; settles = every_run_settles; told = every_run_told }
