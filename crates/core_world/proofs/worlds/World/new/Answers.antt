use Rattle.std.proofs.Common.{sym, subst}
use Rattle.core_world.specs.Stage.{IsReached}
use Rattle.core_world.proofs.Reached.{start_reached}
use Rattle.core_world.proofs.worlds.World.new.Goals as goal

pub invariant_of-result : goal.invariant_of-result
invariant_of-result c = λ none.
    let e = c.in_ok-new.ensures in (e.whole, subst IsReached (sym e.start) (start_reached c.args.config))
