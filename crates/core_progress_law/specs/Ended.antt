-- When a run can go no further, and when it has ended.
use Rattle.std.specs.Prelude.{◌≡◌, ◌≢◌, ◌<◌, ◌≤◌, ◌⊎◌, ℕ, ◌+◌, ◌*◌, ◌^◌, true, List, [], None, Some, length}
use Rattle.adlb_unit.specs.Links.{is_within, place_of}
use Rattle.adlb_unit.specs.declared.actors.Actor.{Actor}
use Rattle.adlb_unit.specs.declared.names.Rank.{Rank}
use Rattle.adlb_unit.specs.declared.names.Server.{Server}
use Rattle.rank_client.specs.Rules.{is_free}
use Rattle.core_run.specs.declared.events.Event.{Event}
use Rattle.core_run.specs.declared.events.Event.TheVariants as occurs
use Rattle.core_run.specs.Runs.{is_over}
use Rattle.core_run.specs.World.{World, client_of, happens, has_ended, link, pool_of}

-- no rank can begin a call: each waits for the answer of one, or has finished
abbrev pub NoneIsFree : World → Type 0
NoneIsFree w = (r : Rank) → r.0 < w.config.ranks → is_free (client_of w r) ≢ true

-- no letter is under way, but to servers that have ended; and no rank can begin a call
pub record IsStill (w : World) : Type 0 where
  pub letters : (from to : Actor) → is_within w.config from ≡ true → is_within w.config to ≡ true
      → (link w.links (place_of w.config from) (place_of w.config to) ≡ []) ⊎ (is_over w to ≡ true)
  pub ranks : NoneIsFree w

-- each rank has finished, and each server has ended
pub record IsEnded (w : World) : Type 0 where
  pub ranks : (r : Rank) → r.0 < w.config.ranks → (client_of w r).finished ≡ true
  pub servers : (t : Server) → t.0 < w.config.servers → has_ended (pool_of w t) ≡ true

-- no letter can be delivered
abbrev pub NoneIsDelivered : World → Type 0
NoneIsDelivered w = (from to : Actor) → happens w (occurs.Deliver from to) ≡ None

-- a letter can be delivered, or a rank can begin a call
abbrev pub CanGoOn : World → Type 0
CanGoOn w =
    ((from : Actor) × (to : Actor) × (next : World) × (happens w (occurs.Deliver from to) ≡ Some next))
    ⊎ ((r : Rank) × (r.0 < w.config.ranks) × (is_free (client_of w r) ≡ true))

-- Of a run so far that begins `n` calls at most: it has no more events than the bound, whatever the order in which letters are delivered.
-- It has ended where no letter is under way but to servers that have ended, and no rank can begin a call. Up to 2^34 calls no stamp
-- reaches its limit: so the run has ended, or goes on. Where no letter can be delivered, and no rank can begin a call, it has ended.
pub record EndsWithin (n : ℕ) (events : List Event) (w : World) : Type 0 where
  pub few : length events ≤ 8192 * (n + 1)
  pub ends : IsStill w → IsEnded w
  pub goes : n < 2 ^ 34 → IsEnded w ⊎ CanGoOn w
  pub rests : n < 2 ^ 34 → NoneIsDelivered w → NoneIsFree w → IsEnded w
