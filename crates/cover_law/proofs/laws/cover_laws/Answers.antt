use Rattle.cover_law.proofs.Covered.{covered}
use Rattle.cover_law.proofs.laws.cover_laws.Goals as goal

pub returns : goal.returns
returns c = covered
