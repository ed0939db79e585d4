use Rattle.std.proofs.Common.{ap, arith, ◌∙◌, refl, sym}
use Rattle.std.proofs.lemmas.Bool.{false≢true}
use Rattle.std.specs.List.{slice_get}
use Rattle.std.specs.Option.{option_map}
use Rattle.work_queue.proofs.Places.{none_past, seen_past, seen_there}
use Rattle.work_queue.specs.Queue.{seen}
use Rattle.work_queue.proofs.queues.WorkQueue.unit_at.Goals as goal

pub returns-in-Some-clause-at : goal.returns-in-Some-clause-at
returns-in-Some-clause-at c =
    c.seen_at.ensures
    ∙ seen_there c.self.inside c.args.place _ c.self.invariant (omega (arith, c.in-Some.ensures.variant.0 refl)) c.in-Some.ensures.lookup
    ∙ ap (λ q. option_map seen (slice_get q.units c.args.place)) c.self.view_is

pub returns-in-Some-clause-none : goal.returns-in-Some-clause-none
returns-in-Some-clause-none c = rw (returns-in-Some-clause-at c) (none_past c.args.self.now.units c.args.place)

pub returns-in-None-clause-at : goal.returns-in-None-clause-at
returns-in-None-clause-at c =
    seen_past c.self.inside c.args.place c.self.invariant (λ within. false≢true (c.in-None.ensures.variant.1 (omega (arith, within))))
    ∙ ap (λ q. option_map seen (slice_get q.units c.args.place)) c.self.view_is

pub returns-in-None-clause-none : goal.returns-in-None-clause-none
returns-in-None-clause-none c = rw (sym (returns-in-None-clause-at c)) at (none_past c.args.self.now.units c.args.place)
