use Rattle.std.proofs.Common.{arith, None, Any, length, refl, subst, sym}
use Rattle.std.proofs.lemmas.Bool.{false≢true}
use Rattle.work_queue.proofs.Bridges.{none_moves, push_leads, leads_in, stamp_known, unit_of_entry}
use Rattle.work_queue.proofs.Found.{as_long_as_order, leading_unit, small_at}
use Rattle.work_queue.proofs.Pushes.{free_from_push}
use Rattle.work_queue.proofs.Walks.{no_push, push_movable, push_walk}
use Rattle.work_queue.specs.inside.Index.{IsLeading, may_move, moves_first}
use Rattle.work_queue.specs.Push.{IsFirstToPush, IsMovable, told}
use Rattle.work_queue.specs.Queue.{IsSmall, Queue}
use Rattle.work_queue.proofs.queues.WorkQueue.first_to_push.Goals as goal

pub stamped-placed-requires-clause-long : goal.stamped-placed-requires-clause-long
stamped-placed-requires-clause-long c = (as_long_as_order c.self.inside c.self.invariant)

pub stamped-placed-requires-clause-known : goal.stamped-placed-requires-clause-known
stamped-placed-requires-clause-known c =
    (stamp_known _ c.self.inside.arrivals c.self.inside.index c.self.invariant.indexed c.in-Some.entry
    (leads_in may_move moves_first c.self.inside.index.entries.items _ c.in-Some.entry c.in-Some.is c.first_to_move.ensures).0)

pub overflow_cast-result : goal.overflow_cast-result
overflow_cast-result c =
    let at = unit_of_entry _ c.self.inside.arrivals c.self.inside.index c.self.invariant.indexed c.in-Some.entry
    (leads_in may_move moves_first c.self.inside.index.entries.items _ c.in-Some.entry c.in-Some.is c.first_to_move.ensures).0 in
    let found = leading_unit c.self.inside c.in-Some.entry c.stamped-placed.result.now at c.stamped-placed.ensures in
    let small : IsSmall c.stamped-placed.result.now = rw found (small_at c.self.inside at.place at.unit c.self.invariant at.here) in
    omega (arith, small, c.len.ensures)

pub returns-in-Some-clause-first : goal.returns-in-Some-clause-first
returns-in-Some-clause-first c =
    let at = unit_of_entry _ c.self.inside.arrivals c.self.inside.index c.self.invariant.indexed c.in-Some.entry
    (leads_in may_move moves_first c.self.inside.index.entries.items _ c.in-Some.entry c.in-Some.is c.first_to_move.ensures).0 in
    let found = leading_unit c.self.inside c.in-Some.entry c.stamped-placed.result.now at c.stamped-placed.ensures in
    let First : Queue → Type 0 = λ q. IsFirstToPush q.units (told c.stamped-placed.result.now) in
    rw c.len.ensures
    (subst First c.self.view_is
    (rw found
    (push_leads _ c.self.inside.arrivals c.self.inside.index c.self.invariant.indexed c.in-Some.entry
    (leads_in may_move moves_first c.self.inside.index.entries.items _ c.in-Some.entry c.in-Some.is c.first_to_move.ensures) at)))

pub returns-in-Some-clause-some : goal.returns-in-Some-clause-some
returns-in-Some-clause-some c = (
  λ _. push_movable c.args.self.now.units (c.stamped-placed.result.now.unit.id, c.len.result) (returns-in-Some-clause-first c),
  λ _. refl,
)

pub returns-in-Some-clause-free : goal.returns-in-Some-clause-free
returns-in-Some-clause-free c =
    free_from_push c.args.self.now.units (c.stamped-placed.result.now.unit.id, c.len.result) (returns-in-Some-clause-first c)

pub returns-in-Some-clause-fold : goal.returns-in-Some-clause-fold
returns-in-Some-clause-fold c =
    sym ((push_walk c.args.self.now.units (c.stamped-placed.result.now.unit.id, c.len.result)).1 (returns-in-Some-clause-first c))

none_left : (c : goal.In-None) → Any IsMovable c.args.self.now.units → ⊥
none_left c some =
    let entries = c.self.inside.index.entries.items in
    let leads : IsLeading may_move moves_first entries (length entries) None = rw c.in-None.is at c.first_to_move.ensures in
    let Some_of : Queue → Type 0 = λ q. Any IsMovable q.units in
    none_moves _ c.self.inside.arrivals c.self.inside.index c.self.invariant.indexed leads (subst Some_of (sym c.self.view_is) some)

pub returns-in-None-clause-some : goal.returns-in-None-clause-some
returns-in-None-clause-some c = (λ no_such. absurd (false≢true no_such), λ some. absurd (none_left c some))

pub returns-in-None-clause-fold : goal.returns-in-None-clause-fold
returns-in-None-clause-fold c = sym ((no_push c.args.self.now.units).1 (none_left c))
