use Rattle.std.proofs.Common.{rules, arith, sum_by}
use Rattle.adlb.specs.Worked.{shared_bytes}
use Rattle.adlb.proofs.Steps.{goes, last_worth, stops, waits}
use Rattle.adlb.proofs.workers.Worker.fill.Goals as goal

pub returns-in-Ok-Ended-clause-passes : goal.returns-in-Ok-Ended-clause-passes
returns-in-Ok-Ended-clause-passes g c = λ eye.
    let f = g.D.Duty.worth c.args.self.now.duty eye (shared_bytes c.args.common.now) in
    let sum = last_worth f c.units.units c.pop.new.self c.in-Some.unit c.in-Some.ensures.last in
    stops _ _ _ _ _ _ _ _
    (c.in-Ok-Ended.ensures.passes eye _ (sum_by f c.pop.new.self)
    (waits _ _ _ _ _ _ _ _ (c.units.invariant.going eye) (omega (arith, sum))))
    c.in-Ok-Ended.field-0-is

pub units-preserved : goal.units-preserved
units-preserved g c = record {
  going = λ eye.
      let f = g.D.Duty.worth c.args.self.now.duty eye (shared_bytes c.args.common.now) in
      let sum = last_worth f c.units.units c.pop.new.self c.in-Some.unit c.in-Some.ensures.last in
      goes _ _ _ _ _ _ _ _
      (c.in-Ok-More.ensures.passes eye _ (sum_by f c.pop.new.self)
      (waits _ _ _ _ _ _ _ _ (c.units.invariant.going eye) (omega (arith, sum))))
      c.in-Ok-More.field-0-is;
  free = search rules;
  seat = search rules;
  batch = search rules;
  longer = search rules;
}
