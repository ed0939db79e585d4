-- The fields of a world.
use Rattle.std.specs.Prelude.{◌≡◌, ◌<◌, List, length, slice_set, None, All}
use Rattle.adlb_unit.specs.Limits.{stamp_limit}
use Rattle.adlb_unit.specs.declared.actors.Actor.{Actor}
use Rattle.adlb_unit.specs.declared.names.Rank.{Rank}
use Rattle.adlb_unit.specs.declared.names.Server.{Server}
use Rattle.rank_client.specs.State.{ClientModel}
use Rattle.server_law.specs.State.{ServerModel}
use Rattle.core_run.specs.declared.events.Event.{Event}
use Rattle.core_run.specs.Runs.{Runs}
use Rattle.core_run.specs.World.{World, start}
use Rattle.core_progress_law.specs.Lines.{clock_of}
use Rattle.core_world.specs.declared.stages.Stage.TheInside.{Inside}

-- the world of its fields
abbrev pub world_of : Inside → World
world_of i = record {
  config = i.config;
  ranks = i.ranks.items;
  servers = i.servers.items;
  links = i.links;
  ledger = i.ledger;
}

-- the rank has this client now, and the server this state
abbrev pub with_client : World → Rank → ClientModel → World
with_client w rank s = record w { ranks = slice_set w.ranks rank.0 s }

-- the world with the state of a server replaced
abbrev pub with_server : World → Server → ServerModel → World
with_server w server s = record w { servers = slice_set w.servers server.0 s }

-- each rank has its client, and each server is there
pub record IsFull (w : World) : Type 0 where
  pub ranks : length w.ranks ≡ w.config.ranks
  pub servers : length w.servers ≡ w.config.servers

-- each rank, server and link is there
abbrev pub IsInside : Inside → Type 0
IsInside i = IsFull (world_of i)

-- no client has failed, and no server is broken
pub record IsWhole (w : World) : Type 0 where
  pub ranks : All (λ (c : ClientModel). c.trouble ≡ None) w.ranks
  pub servers : All (λ (s : ServerModel). s.trouble ≡ None) w.servers

-- a run leads to it from the start, and the last stamp of each actor is one that is given
pub record IsReached (w : World) : Type 0 where
  pub events : List Event
  pub run : Runs (start w.config) events w
  pub early : (actor : Actor) → clock_of w actor < stamp_limit
