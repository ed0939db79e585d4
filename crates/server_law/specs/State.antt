-- What a server keeps: what its acts change, and what they do not.
use Rattle.std.specs.Prelude.{ℕ, ◌+◌, ◌==◌, Bool, false, ◌&&◌, not, List, [], Option, None, Some, replicate, slice_index_or}
use Rattle.std.specs.List.{list_any}
use Rattle.adlb_unit.specs.Targets.{home_of}
use Rattle.adlb_unit.specs.declared.configs.Config.{Config}
use Rattle.adlb_unit.specs.declared.names.Rank.{Rank}
use Rattle.adlb_unit.specs.declared.names.Server.{Server}
use Rattle.adlb_unit.specs.declared.names.UnitId.{UnitId}
use Rattle.adlb_unit.specs.declared.notes.Trouble.{Trouble}
use Rattle.work_queue.specs.Queue.{Queue}
use Rattle.server_components.specs.Store.{Store}
use Rattle.exhaust_ring.specs.Ring.{Ring, RingModel, no_check}
use Rattle.server_components.specs.Pushes.{Pushing}
use Rattle.server_components.specs.Parked.{Parked, is_of}
use Rattle.server_components.specs.declared.waits.Waiting.{Waiting}
use Rattle.server_components.specs.declared.wishes.Wish.{Wish}

-- a rank that waits, for which no server that was asked is unanswered; and one for which this server is
abbrev pub idle : Wish → List Server → Waiting
idle wish to_ask = record { wish = wish; asked = None; to_ask = to_ask }

-- a rank that waits while a server is asked for it
abbrev pub awaiting : Wish → Server → List Server → Waiting
awaiting wish asked to_ask = record { wish = wish; asked = Some asked; to_ask = to_ask }

-- an acknowledgement that a server is owed, of the push of this unit
pub record Debt : Type 0 where
  pub to : Server
  pub id : UnitId

-- an acknowledgement that is owed
abbrev pub debt : Server → UnitId → Debt
debt to id = record { to = to; id = id }

-- what acts change
pub record Kept : Type 0 where
  pub queue : Queue
  -- the common parts of batches
  pub parts : Store
  -- the ranks that wait here, in the order in which they came; and of ranks that wait elsewhere, what was not here for them
  pub parked : Parked
  -- the push of this server, if one stands, and how many it began; and the acknowledgement that the event has still to say
  pub pushing : Pushing
  pub owed : Option Debt
  -- of each rank, by its number, whether its Finish letter was handled
  pub finished : List Bool
  -- the problem was called done; all work was found used up; no rank waits or runs any more
  pub done : Bool
  pub exhausted : Bool
  pub shut : Bool
  -- the checks that go round the ring of servers; and the activity of the last notice that a check is wanted
  pub ring : Ring
  pub noted : Option ℕ

-- what they do not: who the server is, and what is counted of events and letters
pub record ServerModel : Type 0 where
  pub config : Config
  pub me : Server
  -- the stamp of the last event
  pub clock : ℕ
  -- how many letters were handled that may change what is free or who waits
  pub activity : ℕ
  -- how many letters went to each actor, the ranks before the servers
  pub sent : List ℕ
  -- what broke the server, if anything did
  pub trouble : Option Trouble
  pub kept : Kept

-- a server before its first event
abbrev pub start : Config → Server → ServerModel
start config me = record {
  config = config;
  me = me;
  clock = 0;
  activity = 0;
  sent = replicate (config.ranks + config.servers) 0;
  trouble = None;
  kept = record {
    queue = record { units = []; promises = []; common = 0; arrivals = 0; limit = config.limit };
    parts = [];
    parked = record { waiting = []; wishes = [] };
    pushing = record { push = None; pushes = 0 };
    owed = None;
    finished = replicate config.ranks false;
    done = false;
    exhausted = false;
    shut = false;
    ring = no_check;
    noted = None;
  };
}

-- What is read off it.

-- the server is the rank's home
abbrev pub is_home : Config → Server → Rank → Bool
is_home config me rank = home_of config.servers rank == me.0

-- the rank waits here
abbrev pub is_waiting : Kept → Rank → Bool
is_waiting k rank = list_any (is_of rank) k.parked.waiting

-- the rank's Finish letter was handled
abbrev pub is_finished : Kept → Rank → Bool
is_finished k rank = slice_index_or k.finished rank.0 false

-- the rank neither waits nor has finished, as far as the server knows
abbrev pub runs : Kept → Rank → Bool
runs k rank = not (is_waiting k rank) && not (is_finished k rank)

-- the server in the ring
abbrev pub ring_at : ServerModel → RingModel
ring_at s = record { config = s.config; me = s.me; ring = s.kept.ring; exhausted = s.kept.exhausted; shut = s.kept.shut }

-- the rank's home is here, and it runs
abbrev pub runs_at_home : ServerModel → Rank → Bool
runs_at_home s rank = is_home s.config s.me rank && runs s.kept rank
