-- The limits of a run's numbers.
use Rattle.std.specs.Prelude.{◌≡◌, ◌≤◌, ◌<◌, ◌^◌, ℕ, List, length}
use Rattle.adlb_unit.specs.declared.configs.ConfigFault.{ConfigFault}
use Rattle.adlb_unit.specs.declared.configs.ConfigFault.TheVariants.{Ranks, Servers, Limit}

-- stamps are below this number
abbrev pub stamp_limit : ℕ
stamp_limit = 2 ^ 48

-- the most of a unit's own bytes, of a run's ranks and servers, and of a list's types
abbrev pub body_limit : ℕ
body_limit = 2 ^ 20

-- a run has 32 ranks at most
abbrev pub rank_limit : ℕ
rank_limit = 32

-- and 8 servers at most
abbrev pub server_limit : ℕ
server_limit = 8

-- a request lists 16 types at most
abbrev pub type_limit : ℕ
type_limit = 16

-- a run can have this number of ranks
abbrev pub InRanks : ℕ → Type 0
InRanks ranks = (1 ≤ ranks) × (ranks ≤ rank_limit)

-- a run can have this number of servers
abbrev pub InServers : ℕ → Type 0
InServers servers = (1 ≤ servers) × (servers ≤ server_limit)

-- of the bytes that a server takes
abbrev pub InLimit : ℕ → Type 0
InLimit limit = (64 ≤ limit) × (limit ≤ 2 ^ 30)

-- the fault names the first number that is outside
abbrev pub Refuses : ℕ → ℕ → ℕ → ConfigFault → Type 0
Refuses ranks servers limit (Ranks given) = ¬ InRanks ranks × (given ≡ ranks)
Refuses ranks servers limit (Servers given) = InRanks ranks × ¬ InServers servers × (given ≡ servers)
Refuses ranks servers limit (Limit given) = InRanks ranks × InServers servers × ¬ InLimit limit × (given ≡ limit)
