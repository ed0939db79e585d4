use Rattle.std.proofs.Common.{rules, arith, []}
use Rattle.adlb.proofs.Steps.{goes, last_worth, stops, waits}
use Rattle.adlb.proofs.workers.Worker.put_all.Goals as goal

pub returns-in-Ok-Ended-clause-passes : goal.returns-in-Ok-Ended-clause-passes
returns-in-Ok-Ended-clause-passes g c = λ eye.
    let f = g.D.Duty.worth c.args.self.now.duty eye [] in
    let sum = last_worth f c.units.out c.pop.new.self c.in-Some.unit c.in-Some.ensures.last in
    stops _ _ _ _ _ _ _ _ (c.in-Ok-Ended.ensures.passes eye _ 0 (waits _ _ _ _ _ _ _ _ (c.units.invariant.going eye) (omega (arith, sum))))
    c.in-Ok-Ended.field-0-is

pub units-preserved : goal.units-preserved
units-preserved g c = record {
  going = λ eye.
      let f = g.D.Duty.worth c.args.self.now.duty eye [] in
      let sum = last_worth f c.units.out c.pop.new.self c.in-Some.unit c.in-Some.ensures.last in
      waits _ _ _ _ _ _ _ _
      (goes _ _ _ _ _ _ _ _ (c.in-Ok-More.ensures.passes eye _ 0 (waits _ _ _ _ _ _ _ _ (c.units.invariant.going eye) (omega (arith, sum))))
      c.in-Ok-More.field-0-is) (omega arith);
  free = search rules;
  seat = search rules;
  batch = search rules;
  longer = search rules;
}
