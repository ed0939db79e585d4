-- The fields of a server.
use Rattle.std.specs.Prelude.{◌≡◌, ◌+◌, ◌*◌, ◌<◌, ◌≤◌, ℕ, None, length, sum_by, All}
use Rattle.adlb_unit.specs.Limits.{stamp_limit}
use Rattle.adlb_unit.specs.declared.names.BatchId.{BatchId}
use Rattle.server_components.specs.Store.{Store}
use Rattle.server_components.specs.declared.parts.Part.{Part}
use Rattle.server_components.specs.Parked.{IsParked, ParkedModel}
use Rattle.server_core.specs.Out.{event_letters}
use Rattle.server_core.specs.declared.states.ServerState.TheInside.{Inside}
use Rattle.server_law.specs.State.{ServerModel}

-- no acknowledgement is owed: an event says it before it ends, and the code at once
abbrev pub state_of : Inside → ServerModel
state_of i = record {
  config = i.config;
  me = i.me;
  clock = i.clock;
  activity = i.activity;
  sent = i.sent.items;
  trouble = i.trouble;
  kept = record {
    queue = i.queue;
    parts = i.parts;
    parked = i.parked.parked;
    pushing = i.pushes.pushing;
    owed = None;
    finished = i.finished.items;
    done = i.done;
    exhausted = i.ring.exhausted;
    shut = i.ring.shut;
    ring = i.ring.ring;
    noted = i.noted;
  };
}

-- what waits at the server
abbrev pub parked_of : ServerModel → ParkedModel
parked_of s = record { config = s.config; me = s.me; parked = s.kept.parked }

-- how many bytes the parts have together
abbrev pub bytes_of : BatchId × Part → ℕ
bytes_of e = length e.1.bytes

-- the bytes of all parts
abbrev pub bytes_in : Store → ℕ
bytes_in parts = sum_by bytes_of parts

-- what holds of a server's state
pub record IsSound (s : ServerModel) : Type 0 where
  pub finished : length s.kept.finished ≡ s.config.ranks
  pub actors : length s.sent ≡ s.config.ranks + s.config.servers
  -- each rank waits once and at its home, and has one wish at most elsewhere
  pub parked : IsParked (parked_of s)
  -- an event brings at most one unit, and sends fewer letters than `event_letters`
  pub arrivals : s.kept.queue.arrivals ≤ s.clock
  -- the bytes of the parts that are kept are charged to the queue
  pub charged : bytes_in s.kept.parts ≤ s.kept.queue.common
  -- and starts at most one check
  pub check : s.kept.ring.check ≤ s.clock
  pub activity : s.activity ≤ s.clock
  pub sent : All (λ n. n ≤ event_letters * s.clock) s.sent
  pub clock : s.clock < stamp_limit

-- what holds of a server's fields
pub record IsInside (i : Inside) : Type 0 where
  pub sound : IsSound (state_of i)
  -- what waits is seen as at this server, and so are its push and its ring
  pub config : i.parked.config ≡ i.config
  pub me : i.parked.me ≡ i.me
  pub push_config : i.pushes.config ≡ i.config
  pub push_me : i.pushes.me ≡ i.me
  pub ring_config : i.ring.config ≡ i.config
  pub ring_me : i.ring.me ≡ i.me
