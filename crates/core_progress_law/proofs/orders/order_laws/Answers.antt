use Rattle.core_progress_law.proofs.OrderedAlone.{none_before}
use Rattle.core_progress_law.proofs.orders.order_laws.Goals as goal

pub returns : goal.returns
returns c = record { undone = none_before }
