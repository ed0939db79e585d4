use Rattle.std.proofs.Common.{arith}
use Rattle.core_world.proofs.Starting.{one_more_server}
use Rattle.core_world.proofs.stages.servers.Goals as goal

pub loop-number-preserved : goal.loop-number-preserved
loop-number-preserved c =
    let was = c.loop-number.invariant in let pushed = c.push_reserved.ensures in record {
      made = one_more_server c.args.config c.loop-number.servers.items c.push_reserved.new.self.items c.in_ok-server.server
          c.loop-number.number was.made c.in_ok-server.ensures pushed.items;
      count = omega (arith, was.count, pushed.len);
      room = omega (arith, was.room, pushed.capacity);
    }
