-- What each event of a server keeps of it holds of each server along every run.
use Rattle.adlb_unit.specs.declared.actors.Actor.{Actor}
use Rattle.adlb_unit.specs.declared.configs.Config.{Config}
use Rattle.adlb_unit.specs.declared.letters.Letter.{Letter}
use Rattle.adlb_unit.specs.declared.names.Server.{Server}
use Rattle.core_law.proofs.Actors.{every_pool}
use Rattle.core_law.proofs.EveryRun.{begins_well, pool_at, well_kept}
use Rattle.core_law.proofs.Steps.{A_call, A_request, An_answer, Does, happens_does}
use Rattle.core_law.proofs.LettersAndActors.{inside_servers}
use Rattle.core_law.specs.Well.{IsWell}
use Rattle.core_run.specs.Runs.{Runs}
use Rattle.core_run.specs.World.{World, happens, pool_of, start}
use Rattle.core_run.specs.declared.events.Event.{Event}
use Rattle.server_law.specs.Carried.{Served}
use Rattle.server_law.specs.State.{ServerModel, start as new_pool}
use Rattle.server_law.specs.Step.{serve}
use Rattle.std.proofs.Common.{List, Some, [], ap, refl, subst, sym, ◌++◌, ◌<◌, ◌∙◌, ◌∷◌, ◌≡◌}

-- What each event of a server keeps, along a run.

-- what each event of a server keeps of it
pub record IsKept (P : ServerModel → Type 0) : Type 0 where
  pub begins : (config : Config) (me : Server) → P (new_pool config me)
  pub serves : (s : ServerModel) (from : Actor) (letter : Letter) (x : Served) → serve s from letter ≡ Some x → P s → P x.state

module _ (P : ServerModel → Type 0) (kept : IsKept P) where
  AllPools : World → Type 0
  AllPools w = (t : Server) → t.0 < w.config.servers → P (pool_of w t)

  pools_next : (w next : World) → IsWell w → AllPools w → Does w next → AllPools next
  unfolding AllPools
  pools_next w next well all (A_call does) = subst AllPools (sym does.is) all
  pools_next w next well all (An_answer does) = subst AllPools (sym does.is) all
  pools_next w next well all (A_request {from = from} {me = me} {letter = letter} {rest = rest} {x = x} does) =
      subst AllPools (sym does.is)
      (every_pool (λ t s. P s) w me x.state (inside_servers w me well does.here)
      (kept.serves (pool_of w me) from letter x does.does (all me does.here)) (λ t there differs. all t there))

  run_pools : (w last : World) (events : List Event) → IsWell w → AllPools w → Runs w events last → AllPools last
  unfolding AllPools
  run_pools w last [] well all run = subst AllPools run all
  run_pools w last (e ∷ events) well all run =
      let does = happens_does w run.0 e run.1 in
      run_pools run.0 last events (well_kept w run.0 well does) (pools_next w run.0 well all does) run.2

  -- each server has it in every run
  pub every_pool_keeps : (config : Config) (events : List Event) (w : World) → Runs (start config) events w → (t : Server)
      → t.0 < w.config.servers → P (pool_of w t)
  unfolding AllPools
  every_pool_keeps config events w run =
      run_pools (start config) w events (begins_well config)
      (λ t here. subst P (sym (pool_at config t here)) (kept.begins config t)) run

-- A run that goes on by one event.

-- a run with one event more
pub snoc : (w mid next : World) (es : List Event) (e : Event) → Runs w es mid → happens mid e ≡ Some next → Runs w (es ++ e ∷ []) next
snoc w mid next [] e run is = (next, ap (λ (v : World). happens v e) run ∙ is, refl)
snoc w mid next (x ∷ es) e run is = (run.0, run.1, snoc run.0 mid next es e run.2 is)
