use Rattle.std.proofs.Common.{ap, ◌∙◌, sym}
use Rattle.work_queue.specs.Facts.{facts_of}
use Rattle.work_queue.specs.declared.placing.Placed.{Placed}
use Rattle.work_queue.proofs.Lookups.{the_unit, unit_missing, unit_small}
use Rattle.work_queue.proofs.queues.WorkQueue.facts.Goals as goal

pub unreachable-requires : goal.unreachable-requires
unreachable-requires c = unit_missing c.args.self.now.units c.args.id c.in_default.ensures.found c.requires

pub facts-requires : goal.facts-requires
facts-requires c = unit_small c.args.self.now.units c.args.id c.unit.ensures.small c.in-Some.placed.now c.in-Some.ensures.found

pub returns-clause-facts : goal.returns-clause-facts
returns-clause-facts c =
    λ k d within same. c.facts.ensures
    ∙ sym (ap facts_of
    (the_unit c.args.self.now.units c.args.id c.unit.ensures.distinct c.in-Some.placed.now c.in-Some.ensures.found k d within same))

pub returns-clause-target : goal.returns-clause-target
returns-clause-target c =
    λ k d within same.
    sym (ap (λ (p : Placed). p.unit.target)
    (the_unit c.args.self.now.units c.args.id c.unit.ensures.distinct c.in-Some.placed.now c.in-Some.ensures.found k d within same))
