use Rattle.adlb.proofs.Whole.{joined}
use Rattle.adlb.proofs.laws.worth_laws.Goals as goal

pub returns : goal.returns
returns c = record { whole = joined c.balance_laws.ensures.balanced }
