use Rattle.core_progress_law.proofs.Always.{ends_within}
use Rattle.core_progress_law.proofs.endings.every_run_ends.Goals as goal

pub returns : goal.returns
returns c = ends_within
