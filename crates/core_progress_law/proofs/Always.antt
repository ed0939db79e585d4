-- No run gets stuck, and every run ends.
use Rattle.adlb_unit.specs.declared.actors.Actor.{Actor}
use Rattle.adlb_unit.specs.declared.configs.Config.{Config}
use Rattle.adlb_unit.specs.declared.names.Rank.{Rank}
use Rattle.core_wish_law.proofs.Bound.{begun_count, few_events}
use Rattle.core_wish_law.specs.Bounds.{begun, calls_begun}
use Rattle.core_progress_law.proofs.Along.{every_run_goes, every_run_goes_alone}
use Rattle.core_progress_law.proofs.Enabled.{delivery, free_begins, free_rank, none_under_way}
use Rattle.core_progress_law.proofs.Ended.{still_ends, still_ends_alone}
use Rattle.core_progress_law.specs.Ended.{CanGoOn, EndsWithin, IsEnded, IsStill, NoneIsDelivered, NoneIsFree}
use Rattle.core_progress_law.specs.Going.{Goes}
use Rattle.core_run.specs.Runs.{Runs}
use Rattle.core_run.specs.World.{World, client_of, happens, start}
use Rattle.core_run.specs.declared.events.Event.{Event}
use Rattle.core_wish_law.proofs.Foreseen.{always_foreseen}
use Rattle.rank_client.specs.Rules.{is_free}
use Rattle.std.proofs.Common.{List, None, Some, arith, inl, inr, true, ℕ, ◌<◌, ◌^◌, ◌≡◌, ◌≢◌, ◌≤◌, ◌⊎◌}
use Rattle.std.proofs.lemmas.Bool.{cases_eq}
use Rattle.bag_ledger.specs.declared.entries.Call.TheVariants as calls_to
use Rattle.core_run.specs.declared.events.Event.TheVariants as occurs

-- every run of several servers goes on
pub always_goes : (config : Config) (events : List Event) (w : World) → 1 < config.servers → Runs (start config) events w → Goes w
always_goes config events w several run = every_run_goes config several (λ es v go. always_foreseen config es v several go) events w run

-- a run that can go no further has ended
pub always_ends : (config : Config) (events : List Event) (w : World) → Runs (start config) events w → IsStill w → IsEnded w
always_ends config events w run still = by_number (cases_eq config.servers 1)
  where
    by_number : (config.servers ≡ 1) ⊎ (config.servers ≢ 1) → IsEnded w
    by_number (inl alone) = still_ends_alone config events w run still (every_run_goes_alone config alone events w run)
    by_number (inr other) =
        let some = config.servers_within.0 in
        let several : 1 < config.servers = omega (arith, other) in
        still_ends config events w run still several (always_goes config events w several run)

-- a run that has not ended goes on
pub goes_on : (config : Config) (n : ℕ) (events : List Event) (w : World) → Runs (start config) events w → begun events ≤ n → n < 2 ^ 34
    → IsEnded w ⊎ CanGoOn w
goes_on config n events w run few small = by_both (delivery w) (free_rank w)
  where
    by_both : ((from : Actor) × (to : Actor) × (next : World) × (happens w (occurs.Deliver from to) ≡ Some next)) ⊎ NoneIsDelivered w
        → ((r : Rank) × (r.0 < w.config.ranks) × (is_free (client_of w r) ≡ true)) ⊎ NoneIsFree w → IsEnded w ⊎ CanGoOn w
    by_both (inl found) free = inr (inl found)
    by_both (inr nothing) (inl free) = inr (inr free)
    by_both (inr nothing) (inr busy) =
        inl (always_ends config events w run (record { letters = none_under_way config n events w run few small nothing; ranks = busy }))

-- a run, with what was begun in it
pub ends_within : (config : Config) (n : ℕ) (events : List Event) (w : World) → Runs (start config) events w → begun events ≤ n
    → EndsWithin n events w
ends_within config n events w run few = record {
  few = let all = few_events config events w run in omega (arith, few);
  ends = always_ends config events w run;
  goes = goes_on config n events w run few;
  rests = λ small nothing busy.
      always_ends config events w run (record { letters = none_under_way config n events w run few small nothing; ranks = busy });
}

-- a world in which nothing can happen
pub dead_ends : (config : Config) (events : List Event) (w : World) → Runs (start config) events w → calls_begun w < 2 ^ 34
    → ((e : Event) → happens w e ≡ None) → IsEnded w
dead_ends config events w run small nothing =
    let count = begun_count config events w run in
    (ends_within config (begun events) events w run (omega arith)).rests (omega arith) (λ from to. nothing (occurs.Deliver from to))
    (λ r low free. free_begins w r low free (nothing (occurs.Call r (calls_to.Reserve None))))
