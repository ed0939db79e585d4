use Rattle.std.proofs.Common.{None, Any, length, refl, subst, sym}
use Rattle.std.proofs.lemmas.Bool.{false≢true}
use Rattle.work_queue.proofs.Bridges.{best_leads, none_leads, leads_in, stamp_known, unit_of_entry}
use Rattle.work_queue.proofs.Found.{as_long_as_order, leading_unit}
use Rattle.work_queue.proofs.Lists.{free_from_best}
use Rattle.work_queue.proofs.Walks.{best_offered, best_walk, no_best}
use Rattle.work_queue.specs.Best.{IsBest, IsOffered}
use Rattle.work_queue.specs.inside.Index.{IsLeading, may_have, suits_better}
use Rattle.work_queue.specs.Queue.{Queue}
use Rattle.work_queue.proofs.queues.WorkQueue.best.Goals as goal

pub stamped-requires-clause-long : goal.stamped-requires-clause-long
stamped-requires-clause-long c = (as_long_as_order c.self.inside c.self.invariant)

pub stamped-requires-clause-known : goal.stamped-requires-clause-known
stamped-requires-clause-known c =
    (stamp_known _ c.self.inside.arrivals c.self.inside.index c.self.invariant.indexed c.in-Some.entry
    (leads_in (may_have c.args.rank c.args.types.now) (suits_better c.args.rank) c.self.inside.index.entries.items _ c.in-Some.entry
    c.in-Some.is c.best_entry.ensures).0)

pub returns-in-Some-clause-best : goal.returns-in-Some-clause-best
returns-in-Some-clause-best c =
    let at = unit_of_entry _ c.self.inside.arrivals c.self.inside.index c.self.invariant.indexed c.in-Some.entry
    (leads_in (may_have c.args.rank c.args.types.now) (suits_better c.args.rank) c.self.inside.index.entries.items _ c.in-Some.entry
    c.in-Some.is c.best_entry.ensures).0 in
    let found = leading_unit c.self.inside c.in-Some.entry c.stamped.result.now at c.stamped.ensures in
    let Best : Queue → Type 0 = λ q. IsBest c.args.rank c.args.types.now q.units c.stamped.result.now.unit.id in
    subst Best c.self.view_is
    (rw found (best_leads _ c.self.inside.arrivals c.self.inside.index c.self.invariant.indexed c.args.rank c.args.types.now c.in-Some.entry
    (leads_in (may_have c.args.rank c.args.types.now) (suits_better c.args.rank) c.self.inside.index.entries.items _ c.in-Some.entry
    c.in-Some.is c.best_entry.ensures) at))

pub returns-in-Some-clause-some : goal.returns-in-Some-clause-some
returns-in-Some-clause-some c = (
  λ _. best_offered c.args.rank c.args.types.now c.args.self.now.units c.stamped.result.now.unit.id (returns-in-Some-clause-best c),
  λ _. refl,
)

pub returns-in-Some-clause-free : goal.returns-in-Some-clause-free
returns-in-Some-clause-free c =
    free_from_best c.args.rank c.args.types.now c.args.self.now.units c.stamped.result.now.unit.id (returns-in-Some-clause-best c)

pub returns-in-Some-clause-fold : goal.returns-in-Some-clause-fold
returns-in-Some-clause-fold c =
    sym ((best_walk c.args.rank c.args.types.now c.args.self.now.units c.stamped.result.now.unit.id).1 (returns-in-Some-clause-best c))

none_left : (c : goal.In-None) → Any (IsOffered c.args.rank c.args.types.now) c.args.self.now.units → ⊥
none_left c some =
    let entries = c.self.inside.index.entries.items in
    let leads : IsLeading (may_have c.args.rank c.args.types.now) (suits_better c.args.rank) entries (length entries) None =
    rw c.in-None.is at c.best_entry.ensures in
    let Some_of : Queue → Type 0 = λ q. Any (IsOffered c.args.rank c.args.types.now) q.units in
    none_leads _ c.self.inside.arrivals c.self.inside.index c.self.invariant.indexed c.args.rank c.args.types.now leads
    (subst Some_of (sym c.self.view_is) some)

pub returns-in-None-clause-some : goal.returns-in-None-clause-some
returns-in-None-clause-some c = (λ no_such. absurd (false≢true no_such), λ some. absurd (none_left c some))

pub returns-in-None-clause-fold : goal.returns-in-None-clause-fold
returns-in-None-clause-fold c = sym ((no_best c.args.rank c.args.types.now c.args.self.now.units).1 (none_left c))
