-- The servers as a ring, in the order of their numbers.
use Rattle.std.specs.Prelude.{ℕ, ◌+◌, ◌-◌, ◌%◌, List, map}
use Rattle.std.specs.List.{range_with_len}
use Rattle.adlb_unit.specs.declared.configs.Config.{Config}
use Rattle.adlb_unit.specs.declared.names.Server.{Server}

-- the server that is this number of places after this one
abbrev pub behind : Config → Server → ℕ → Server
behind config server places = record { 0 = (server.0 + places) % config.servers }

-- the others, from the one after this one on
abbrev pub others : Config → Server → List Server
others config server = map (behind config server) (range_with_len 1 (config.servers - 1))
