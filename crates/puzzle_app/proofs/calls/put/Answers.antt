use Rattle.std.proofs.Common.{arith}
use Rattle.puzzle_app.proofs.calls.put.Goals as goal

pub put-requires : goal.put-requires
put-requires g c = record {
  can = record {
    running = c.requires.running;
    suits = (
      omega (arith, c.in-Ok.ensures.few),
      c.in-Ok.ensures.target (g.A.Adlb.link c.args.link.now).seat.ranks c.requires.ready.ranks,
    );
  };
}
