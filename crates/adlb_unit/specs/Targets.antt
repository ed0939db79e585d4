-- Ranks that targets name, and the servers at which they are at home.
use Rattle.std.specs.Prelude.{ℕ, ◌<◌, ◌%◌, nat_lt, Bool, true}
use Rattle.adlb_unit.specs.declared.configs.Config.{Config}
use Rattle.adlb_unit.specs.declared.names.Rank.{Rank}
use Rattle.adlb_unit.specs.declared.names.Server.{Server}
use Rattle.adlb_unit.specs.declared.names.Target.{Target}
use Rattle.adlb_unit.specs.declared.names.Target.TheVariants.{Any, Only, Soft}

-- a rank that the target names is below the number of ranks
abbrev pub Aims : Target → ℕ → Type 0
Aims Any ranks = Unit {0}
Aims (Only rank) ranks = rank.0 < ranks
Aims (Soft rank) ranks = rank.0 < ranks

-- as a test: it is in the run
abbrev pub in_ranks : Config → Target → Bool
in_ranks config Any = true
in_ranks config (Only rank) = nat_lt rank.0 config.ranks
in_ranks config (Soft rank) = nat_lt rank.0 config.ranks

-- the number of a rank's home, by the number of servers, and the home in a run
abbrev pub home_of : ℕ → Rank → ℕ
home_of servers rank = rank.0 % servers

-- the server at which the rank is at home
abbrev pub home : Config → Rank → Server
home config rank = record { 0 = home_of config.servers rank }
