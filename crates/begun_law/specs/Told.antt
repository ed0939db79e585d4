-- What a ledger tells of the calls that were begun, at a moment of a run of all actors.
use Rattle.std.specs.Prelude.{◌≡◌, ◌<◌, ◌≤◌, List, [], ◌∷◌, ◌++◌, Option, Some, None}
use Rattle.adlb_unit.specs.declared.configs.Config.{Config}
use Rattle.adlb_unit.specs.declared.names.Rank.{Rank}
use Rattle.bag_ledger.specs.declared.entries.Call.{Call}
use Rattle.bag_ledger.specs.declared.entries.Said.{Said}
use Rattle.bag_ledger.specs.Bag.{Bag, start}
use Rattle.bag_ledger.specs.Runs.{IsRun, calls}
use Rattle.core_bound_law.specs.Bounds.{begun}
use Rattle.core_run.specs.declared.events.Event.{Event}
use Rattle.core_run.specs.World.{World, client_of}
use Rattle.cover_law.specs.Begun.{all_begun, pending_of}
use Rattle.rank_client.specs.Remembered.{pending_call}

-- The calls of a rank that a ledger tells, with the one that is pending in the bag. The rank has heard of the answers of these calls, and
-- waits for that of the one that it began last, if it waits.
pub data IsTold (heard : List Said) (begun : Option Call) (told : List Said) (pending : Option Call) : Type 0 where
  -- the ledger tells what the rank has heard
  alike : told ≡ heard → IsTold heard begun told pending
  -- it has the answer for which the rank waits
  ahead : (s : Said) → begun ≡ Some s.call → told ≡ heard ++ s ∷ [] → pending ≡ None → IsTold heard begun told pending

-- the ledger is a legal run, in which all ranks have begun the calls of these events, and which tells those of each rank
pub record IsMoment (config : Config) (events : List Event) (w : World) : Type 0 where
  pub last : Bag
  pub legal : IsRun (start config) w.ledger last
  pub many : begun events ≤ all_begun config w.ledger last
  pub told : (rank : Rank) → rank.0 < config.ranks →
      IsTold (client_of w rank).transcript (pending_call (client_of w rank).pending) (calls config w.ledger rank) (pending_of last rank)
