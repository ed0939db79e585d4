-- A world to which a run leads has ended where nothing can happen in it.
use Rattle.adlb_unit.specs.declared.names.Server.{Server}
use Rattle.core_progress_law.specs.Bounds.{calls_begun}
use Rattle.core_progress_law.proofs.Always.{dead_ends}
use Rattle.core_run.specs.World.{World, happens, has_ended, pool_of}
use Rattle.core_run.specs.declared.events.Event.{Event}
use Rattle.core_world.specs.Stage.{IsReached}
use Rattle.std.proofs.Common.{Bool, IsTrue, None, ◌<◌, ◌^◌, ◌∙◌, ◌≡◌}

-- where nothing can happen, each server has ended, unless 2^34 calls were begun
pub rested : (w : World) (b : Bool) (server : Server) → IsReached w → server.0 < w.config.servers → b ≡ has_ended (pool_of w server)
    → calls_begun w < 2 ^ 34 → ((event : Event) → happens w event ≡ None) → IsTrue b
rested w b server reached there is few nothing =
    is ∙ (dead_ends w.config reached.events w reached.run few nothing).servers server there
