-- The ranks that wait at one server, and what was not there for ranks that wait elsewhere.
use Rattle.std.specs.Prelude.{◌≡◌, ◌≢◌, ◌<◌, ◌==◌, Bool, ◌&&◌, All, AllPairs, List, [], find, Option, None, Some, is_none, is_some}
use Rattle.std.specs.List.{list_any}
use Rattle.adlb_unit.specs.Targets.{home_of}
use Rattle.adlb_unit.specs.declared.configs.Config.{Config}
use Rattle.adlb_unit.specs.declared.names.Rank.{Rank}
use Rattle.adlb_unit.specs.declared.names.Server.{Server}
use Rattle.server_components.specs.declared.waits.Waiting.{Waiting}
use Rattle.server_components.specs.declared.wishes.Wish.{Wish}

-- the ranks that wait here, in the order in which they came; and of ranks that wait elsewhere, what was not here for them
pub record Parked : Type 0 where
  pub waiting : List Waiting
  pub wishes : List Wish

-- at this server of a run
pub record ParkedModel : Type 0 where
  pub config : Config
  pub me : Server
  pub parked : Parked

-- no rank waits, and nothing is wished
abbrev pub empty : Config → Server → ParkedModel
empty config me = record { config = config; me = me; parked = record { waiting = []; wishes = [] } }

-- these wait, or these are wished, in place of what was
abbrev pub with_waiting : ParkedModel → List Waiting → ParkedModel
with_waiting m waiting = record m { parked = record m.parked { waiting = waiting } }

-- the model with these wishes
abbrev pub with_wishes : ParkedModel → List Wish → ParkedModel
with_wishes m wishes = record m { parked = record m.parked { wishes = wishes } }

-- the rank is in the run, and its home is this server, or another one
abbrev pub IsHere : Config → Server → Rank → Type 0
IsHere config me rank = (rank.0 < config.ranks) × (home_of config.servers rank ≡ me.0)

-- the rank is in the run, and at home elsewhere
abbrev pub IsAway : Config → Server → Rank → Type 0
IsAway config me rank = (rank.0 < config.ranks) × (home_of config.servers rank ≢ me.0)

-- another server of the run
abbrev pub IsOther : Config → Server → Server → Type 0
IsOther config me s = (s.0 < config.servers) × (s.0 ≢ me.0)

-- Tests.

-- the wish is of the rank
abbrev pub is_by : Rank → Wish → Bool
is_by rank w = w.rank.0 == rank.0

-- the entry is of the rank
abbrev pub is_of : Rank → Waiting → Bool
is_of rank e = is_by rank e.wish

-- no server that was asked for the rank is unanswered
abbrev pub is_idle : Waiting → Bool
is_idle e = is_none e.asked

-- a server is asked for the entry
abbrev pub is_asked : Waiting → Bool
is_asked e = is_some e.asked

-- the rank waits; and a server that was asked for it is unanswered
abbrev pub is_parked : ParkedModel → Rank → Bool
is_parked m rank = list_any (is_of rank) m.parked.waiting

-- the rank waits, and a server is asked for it
abbrev pub is_pending : ParkedModel → Rank → Bool
is_pending m rank = list_any (λ e. is_of rank e && is_asked e) m.parked.waiting

-- how the rank waits, if it does
abbrev pub entry_of : ParkedModel → Rank → Option Waiting
entry_of m rank = find (is_of rank) m.parked.waiting

-- What is so of each.

-- a rank waits as it should
pub record IsWaiting (config : Config) (me : Server) (e : Waiting) : Type 0 where
  pub here : IsHere config me e.wish.rank
  -- only other servers are asked
  pub asked : (s : Server) → e.asked ≡ Some s → IsOther config me s
  pub to_ask : All (IsOther config me) e.to_ask
  -- for an idle rank none is still to be asked
  pub settled : e.asked ≡ None → e.to_ask ≡ []

-- all that waits is as it should be
pub record IsParked (m : ParkedModel) : Type 0 where
  pub there : m.me.0 < m.config.servers
  pub each : All (IsWaiting m.config m.me) m.parked.waiting
  -- no rank waits twice
  pub once : AllPairs (λ (e f : Waiting). e.wish.rank.0 ≢ f.wish.rank.0) m.parked.waiting
  pub away : All (λ (w : Wish). IsAway m.config m.me w.rank) m.parked.wishes
  -- no rank has two wishes
  pub wished_once : AllPairs (λ (v w : Wish). v.rank.0 ≢ w.rank.0) m.parked.wishes
