use Rattle.std.proofs.Common.{◌≡◌, ◌↔◌, ℕ, Some, subst}
use Rattle.work_queue.specs.Queue.{HasRoom, Queue}
use Rattle.work_queue.proofs.queues.WorkQueue.promised.Goals as goal

pub returns : goal.returns
returns c =
    let Told : Queue → Type 0 = λ q. (n : ℕ) → (c.length_of.result ≡ Some n) ↔ HasRoom c.args.id n q.promises in
    subst Told c.self.view_is c.length_of.ensures
