use Rattle.std.proofs.Common.{◌<◌, ap, arith, length, refl, subst, sym, ◌∙◌}
use Rattle.std.specs.List.Sorted.{IsPartitionedBy}
use Rattle.std.specs.VecDeque.{deque_len}
use Rattle.std.proofs.lemmas.Bool.{false≢true}
use Rattle.work_queue.proofs.Parting.{back_parted, front_parted, last_read, one_call, point_ahead, point_behind}
use Rattle.work_queue.specs.inside.Parted.{Row}
use Rattle.work_queue.proofs.parted.Parted.partition_point.Goals as goal

pub returns-in-None-clause-partitioned : goal.returns-in-None-clause-partitioned
returns-in-None-clause-partitioned g c p computes parted =
    let front = c.self.inside.front.items in
    let back = c.self.inside.back.items in
    let parts = subst (λ (r : Row g.row.T.Denot). IsPartitionedBy p r.items) (sym c.self.view_is) parted in
    rw (sym c.self.view_is)
    (point_behind p front back parts c.partition_point.result c.len-ahead.result (omega arith)
    (λ d some. absurd (false≢true (c.in-None.ensures.variant.1 (omega (arith, some)))))
    (c.partition_point.ensures.partitioned p computes (back_parted p front back parts)))

pub returns-then-passes-clause-partitioned : goal.returns-then-passes-clause-partitioned
returns-then-passes-clause-partitioned g c p computes parted =
    let front = c.self.inside.front.items in
    let back = c.self.inside.back.items in
    let parts = subst (λ (r : Row g.row.T.Denot). IsPartitionedBy p r.items) (sym c.self.view_is) parted in
    let call = one_call g.P.FnMut p computes c.passes.ensures in
    let last = last_read front c.in-Some.last.now (deque_len c.self.inside.front) (omega arith) in
    rw (sym c.self.view_is)
    (point_behind p front back parts c.partition_point-then-passes.result c.len-ahead.result (omega arith)
    (λ d some. ap p (last some c.in-Some.ensures.lookup d) ∙ sym call.0 ∙ c.if-passes.true)
    (c.partition_point-then-passes.ensures.partitioned p call.1 (back_parted p front back parts)))

pub returns-else-passes-clause-partitioned : goal.returns-else-passes-clause-partitioned
returns-else-passes-clause-partitioned g c p computes parted =
    let front = c.self.inside.front.items in
    let back = c.self.inside.back.items in
    let parts = subst (λ (r : Row g.row.T.Denot). IsPartitionedBy p r.items) (sym c.self.view_is) parted in
    let call = one_call g.P.FnMut p computes c.passes.ensures in
    let some : 0 < length front = omega (arith, c.in-Some.ensures.variant.0 refl) in
    rw (sym c.self.view_is)
    (point_ahead p front back parts c.in-Some.last.now c.partition_point-else-passes.result some
    (last_read front c.in-Some.last.now (deque_len c.self.inside.front) (omega arith) some c.in-Some.ensures.lookup)
    (sym call.0 ∙ c.if-passes.false)
    (c.partition_point-else-passes.ensures.partitioned p call.1 (front_parted p front back parts)))
