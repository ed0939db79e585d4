-- The laws of what is conserved.
use Rattle.balance_law.proofs.Aims.{aimed}
use Rattle.balance_law.proofs.Causes.{caused}
use Rattle.balance_law.proofs.Whole.{balanced}
use Rattle.balance_law.proofs.balance_laws.Goals as goal

pub returns : goal.returns
returns c = record { balanced = balanced; caused = caused; aimed = aimed }
