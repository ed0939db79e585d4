-- In every run each server is calm: no rank waits there twice, and no free unit lies for a rank that waits there and is idle.
use Rattle.std.proofs.Common.{◌<◌, List, [], ◌∷◌, sym, subst}
use Rattle.adlb_unit.specs.declared.actors.Actor.{Actor}
use Rattle.adlb_unit.specs.declared.actors.Actor.TheVariants as by
use Rattle.adlb_unit.specs.declared.configs.Config.{Config}
use Rattle.adlb_unit.specs.declared.letters.Letter.{Letter}
use Rattle.adlb_unit.specs.declared.names.Server.{Server}
use Rattle.server_law.specs.Calm.{IsCalm, WaitOnce}
use Rattle.server_law.specs.Carried.{Served}
use Rattle.server_law.specs.State.{ServerModel}
use Rattle.server_law.proofs.Calm.{events_keep_calm, start_is_calm}
use Rattle.server_law.proofs.Once.{events_keep_once}
use Rattle.core_run.specs.declared.events.Event.{Event}
use Rattle.core_run.specs.Runs.{Runs}
use Rattle.core_run.specs.World.{World, after_server, pool_of, start, taken}
use Rattle.core_law.specs.Well.{IsWell}
use Rattle.core_law.proofs.Actors.{every_pool}
use Rattle.core_law.proofs.EveryRun.{begins_well, pool_at, run_config, well_kept}
use Rattle.core_law.proofs.Steps.{A_call, A_request, An_answer, Does, Serves, happens_does}
use Rattle.core_law.proofs.LettersAndActors.{inside_servers}

abbrev IsOnceCalm : ServerModel → Type 0
IsOnceCalm s = WaitOnce s × IsCalm s

abbrev AreCalm : World → Type 0
AreCalm w = (server : Server) → server.0 < w.config.servers → IsOnceCalm (pool_of w server)

event_calm : (w next : World) (from : Actor) (me : Server) (letter : Letter) (rest : List Letter) (x : Served) → IsWell w → AreCalm w
    → Serves w from me letter rest x next → AreCalm (after_server w me (taken w from (by.Server me) rest) x)
event_calm w next from me letter rest x well calm does =
    let was = calm me does.here in
    let now : IsOnceCalm x.state = (
      events_keep_once (pool_of w me) from letter x was.0 does.does,
      events_keep_calm (pool_of w me) from letter x was.0 was.1 does.does,
    ) in
    every_pool (λ t s. IsOnceCalm s) w me x.state (inside_servers w me well does.here) now (λ other there differs. calm other there)

calm_kept : (w next : World) → IsWell w → AreCalm w → Does w next → AreCalm next
calm_kept w next well calm (A_call does) = subst AreCalm (sym does.is) calm
calm_kept w next well calm (An_answer does) = subst AreCalm (sym does.is) calm
calm_kept w next well calm (A_request {from = from} {me = me} {letter = letter} {rest = rest} {x = x} does) =
    subst AreCalm (sym does.is) (event_calm w next from me letter rest x well calm does)

run_calm : (w last : World) (events : List Event) → IsWell w → AreCalm w → Runs w events last → AreCalm last
run_calm w last [] well calm run = subst AreCalm run calm
run_calm w last (e ∷ events) well calm run =
    let d = happens_does w run.0 e run.1 in
    run_calm run.0 last events (well_kept w run.0 well d) (calm_kept w run.0 well calm d) run.2

begins_calm : (config : Config) → AreCalm (start config)
begins_calm config server within = subst IsOnceCalm (sym (pool_at config server within)) (start_is_calm config server)

-- in every run no rank waits twice, and no free unit lies for an idle one
pub every_run_calm : (config : Config) (events : List Event) (w : World) (server : Server) → server.0 < config.servers
    → Runs (start config) events w → WaitOnce (pool_of w server) × IsCalm (pool_of w server)
every_run_calm config events w server there run =
    let here = subst (λ (k : Config). server.0 < k.servers) (sym (run_config (start config) w events run)) there in
    run_calm (start config) w events (begins_well config) (begins_calm config) run server here
