use Rattle.std.proofs.Common.{rules, ◌≡◌, [], refl}
use Rattle.tour_app.proofs.Desks.{over_end, over_more}
use Rattle.tour_app.proofs.desk.Desk.take_over.Goals as goal

pub units-init : goal.units-init
units-init c = record { waiting = refl; found_are = refl }

pub units-preserved : goal.units-preserved
units-preserved c =
    over_more c.args.common.now c.args.units.items c.args.self.now c.units.self c.receive_last.new.self c.units.units.items
    c.pop_front.new.self.items c.in-Some.unit c.units.invariant c.in-Some.ensures.items c.in_ok-receive_last.ensures.waiting
    c.in_ok-receive_last.ensures.found

pub returns : goal.returns
returns c =
    let none : c.units.units.items ≡ [] = search rules in
    over_end c.args.common.now c.args.units.items c.args.self.now c.units.self c.units.units.items c.units.invariant none
