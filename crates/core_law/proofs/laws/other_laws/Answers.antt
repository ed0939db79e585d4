use Rattle.core_law.proofs.OtherCalls.{calls_stay}
use Rattle.core_law.proofs.OtherRanks.{clients_stay}
use Rattle.core_law.proofs.laws.other_laws.Goals as goal

pub returns : goal.returns
returns c = record { clients_stay = clients_stay; calls_stay = calls_stay }
