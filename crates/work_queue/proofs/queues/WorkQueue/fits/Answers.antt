use Rattle.std.proofs.Common.{None, Some, ap, length, refl, ◌∙◌}
use Rattle.std.proofs.lemmas.Bool.{false≢true}
use Rattle.work_queue.proofs.Bridges.{fit_leads, leads_in, none_fits, stamp_known, unit_of_entry}
use Rattle.work_queue.proofs.FirstFits.{fit_is, fit_is_free, none_asked, some_asked}
use Rattle.work_queue.proofs.Found.{as_long_as_order, leading_unit}
use Rattle.work_queue.specs.Fits.{first_fit}
use Rattle.work_queue.specs.inside.Index.{IsLeading, came_first, may_serve}
use Rattle.work_queue.specs.Queue.{id_of}
use Rattle.work_queue.specs.declared.placing.Placed.{Placed}
use Rattle.work_queue.proofs.queues.WorkQueue.fits.Goals as goal

pub stamped-placed-requires-clause-long : goal.stamped-placed-requires-clause-long
stamped-placed-requires-clause-long c = (as_long_as_order c.self.inside c.self.invariant)

pub stamped-placed-requires-clause-known : goal.stamped-placed-requires-clause-known
stamped-placed-requires-clause-known c =
    (stamp_known _ c.self.inside.arrivals c.self.inside.index c.self.invariant.indexed c.in-Some.entry
    (leads_in (may_serve c.args.asked.now) came_first c.self.inside.index.entries.items _ c.in-Some.entry c.in-Some.is
    c.first_asked.ensures).0)

pub returns-in-Some-clause-found : goal.returns-in-Some-clause-found
returns-in-Some-clause-found c =
    let leads = leads_in (may_serve c.args.asked.now) came_first c.self.inside.index.entries.items _ c.in-Some.entry c.in-Some.is
    c.first_asked.ensures in
    let at = unit_of_entry _ c.self.inside.arrivals c.self.inside.index c.self.invariant.indexed c.in-Some.entry leads.0 in
    let found = leading_unit c.self.inside c.in-Some.entry c.stamped-placed.result.now at c.stamped-placed.ensures in
    ap (λ (p : Placed). Some (id_of p)) found
    ∙ fit_leads _ c.self.inside.arrivals c.self.inside.index c.self.invariant.indexed c.args.asked.now c.in-Some.entry leads at
    ∙ ap (λ q. first_fit c.args.asked.now q.units) c.self.view_is

pub returns-in-Some-clause-first : goal.returns-in-Some-clause-first
returns-in-Some-clause-first c =
    fit_is c.args.asked.now c.args.self.now.units c.stamped-placed.result.now.unit.id (returns-in-Some-clause-found c)

pub returns-in-Some-clause-some : goal.returns-in-Some-clause-some
returns-in-Some-clause-some c =
    (λ _. some_asked c.args.asked.now c.args.self.now.units c.stamped-placed.result.now.unit.id (returns-in-Some-clause-found c), λ _. refl)

pub returns-in-Some-clause-free : goal.returns-in-Some-clause-free
returns-in-Some-clause-free c =
    fit_is_free c.args.asked.now c.args.self.now.units c.stamped-placed.result.now.unit.id (returns-in-Some-clause-found c)

pub returns-in-None-clause-found : goal.returns-in-None-clause-found
returns-in-None-clause-found c =
    let entries = c.self.inside.index.entries.items in
    let leads : IsLeading (may_serve c.args.asked.now) came_first entries (length entries) None =
    rw c.in-None.is at c.first_asked.ensures in
    none_fits _ c.self.inside.arrivals c.self.inside.index c.self.invariant.indexed c.args.asked.now leads
    ∙ ap (λ q. first_fit c.args.asked.now q.units) c.self.view_is

pub returns-in-None-clause-some : goal.returns-in-None-clause-some
returns-in-None-clause-some c = (
  λ no_such. absurd (false≢true no_such),
  λ some. absurd (none_asked c.args.asked.now c.args.self.now.units (returns-in-None-clause-found c) some),
)
