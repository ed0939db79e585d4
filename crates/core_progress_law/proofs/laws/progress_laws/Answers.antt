use Rattle.core_progress_law.proofs.Always.{always_ends, always_goes, dead_ends}
use Rattle.core_progress_law.proofs.laws.progress_laws.Goals as goal

pub returns : goal.returns
returns c = record { ends = always_ends; dead = dead_ends; goes = always_goes }
