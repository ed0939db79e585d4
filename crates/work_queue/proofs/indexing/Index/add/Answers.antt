use Rattle.std.proofs.lemmas.List.Sorted.{IsPermutation-insert}
use Rattle.work_queue.proofs.Points.{order_added}
use Rattle.work_queue.proofs.indexing.Index.add.Goals as goal

pub returns-clause-entries : goal.returns-clause-entries
returns-clause-entries c =
    rw c.insert.ensures.items (IsPermutation-insert c.args.self.now.entries.items c.place_for-place.result c.args.entry)

pub returns-clause-order : goal.returns-clause-order
returns-clause-order c =
    rw c.insert.ensures.items
    (order_added c.args.self.now.entries.items c.args.entry c.place_for-place.result c.requires.order
    c.place_for-place.ensures.within c.place_for-place.ensures.point c.requires.last)
