use Rattle.core_world.proofs.Refused.{receiver_decides}
use Rattle.core_world.proofs.stages.Stage.can_deliver.Goals as goal

pub returns-then-waiting-gt0 : goal.returns-then-waiting-gt0
returns-then-waiting-gt0 c =
    receiver_decides c.args.self.now c.args.from c.args.to c.waiting.result c.is_over.result c.requires c.waiting.ensures
    c.if-waiting-gt0.true c.is_over.ensures
