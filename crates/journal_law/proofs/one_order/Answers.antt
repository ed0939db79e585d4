use Rattle.journal_law.proofs.Once as Once
use Rattle.journal_law.proofs.one_order.Goals as goal

pub returns : goal.returns
returns g c = Once.merged_once g.P.Protocol.stamp g.P.Protocol.actors
