use Rattle.std.proofs.Common.{ap}
use Rattle.tour_app.proofs.Desks.{front_is}
use Rattle.tour_app.proofs.desk.Desk.receive.Goals as goal

pub returns : goal.returns
returns c = record {
  waiting = front_is c.args.common.now c.args.unit c.in_ok-made.made c.args.self.now.waiting.items c.take_in.new.self.waiting.items _
      c.in_ok-made.ensures.made (ap (λ w. w.items) c.take_in.ensures.waiting) c.in_ok-put_front.ensures;
  found_are = c.in_ok-made.ensures.found;
}
