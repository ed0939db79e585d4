use Rattle.std.proofs.Common.{arith}
use Rattle.core_world.proofs.Starting.{one_more_client}
use Rattle.core_world.proofs.stages.clients.Goals as goal

pub loop-number-preserved : goal.loop-number-preserved
loop-number-preserved c =
    let was = c.loop-number.invariant in let pushed = c.push_reserved.ensures in record {
      made = one_more_client c.args.config c.loop-number.clients.items c.push_reserved.new.self.items c.in_ok-client.client
          c.loop-number.number was.made c.in_ok-client.ensures pushed.items;
      count = omega (arith, was.count, pushed.len);
      room = omega (arith, was.room, pushed.capacity);
    }
