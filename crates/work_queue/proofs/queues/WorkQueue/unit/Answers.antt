use Rattle.std.proofs.Common.{ap, arith, ◌∙◌, find, refl}
use Rattle.std.proofs.lemmas.Bool.{false≢true}
use Rattle.work_queue.proofs.Found.{found_past, found_under, placed}
use Rattle.work_queue.specs.Queue.{is_unit}
use Rattle.work_queue.proofs.queues.WorkQueue.unit.Goals as goal

pub returns-in-None-clause-found : goal.returns-in-None-clause-found
returns-in-None-clause-found c =
    found_past c.self.inside c.args.id c.place_of-place.result c.self.invariant
    (placed c.self.inside c.args.id c.place_of-place.result c.self.invariant c.place_of-place.ensures)
    (λ within. false≢true (c.in-None.ensures.variant.1 (omega (arith, within))))
    ∙ ap (λ q. find (is_unit c.args.id) q.units) c.self.view_is

pub returns-in-Some-clause-found : goal.returns-in-Some-clause-found
returns-in-Some-clause-found c =
    c.get-in-Some.ensures
    ∙ found_under c.self.inside c.args.id c.place_of-place.result _ c.self.invariant
    (placed c.self.inside c.args.id c.place_of-place.result c.self.invariant c.place_of-place.ensures)
    (omega (arith, c.in-Some.ensures.variant.0 refl)) c.in-Some.ensures.lookup
    ∙ ap (λ q. find (is_unit c.args.id) q.units) c.self.view_is
