-- The state of each actor, where that of one is set.
use Rattle.std.proofs.Common.{◌≡◌, ◌≢◌, ◌<◌, ◌⊎◌, inl, inr, length, set, sym, ap, subst}
use Rattle.std.proofs.lemmas.Bool.{cases_eq}
use Rattle.std.proofs.lemmas.List.{get_or-set_other, get_or-set_same}
use Rattle.adlb_unit.specs.declared.names.Rank.{Rank}
use Rattle.adlb_unit.specs.declared.names.Server.{Server}
use Rattle.rank_client.specs.State.{ClientModel, start as new_client}
use Rattle.server_law.specs.State.{ServerModel, start as new_pool}
use Rattle.core_run.specs.World.{World, client_of, pool_of, rank_named, server_named}

-- the world with the state of one client set
abbrev pub with_client : World → Rank → ClientModel → World
with_client w me s = record w { ranks = set w.ranks me.0 s }

-- the world with the state of one server set
abbrev pub with_pool : World → Server → ServerModel → World
with_pool w me s = record w { servers = set w.servers me.0 s }

-- a client that was set is found
pub client_there : (w : World) (me : Rank) (s : ClientModel) → me.0 < length w.ranks → client_of (with_client w me s) me ≡ s
client_there w me s inside = get_or-set_same w.ranks me.0 s (new_client w.config me) inside

-- setting one client leaves the others
pub client_beside : (w : World) (me other : Rank) (s : ClientModel) → other.0 ≢ me.0
    → client_of (with_client w me s) other ≡ client_of w other
client_beside w me other s differs = get_or-set_other w.ranks me.0 other.0 s (new_client w.config other) differs

-- a server that was set is found
pub pool_there : (w : World) (me : Server) (s : ServerModel) → me.0 < length w.servers → pool_of (with_pool w me s) me ≡ s
pool_there w me s inside = get_or-set_same w.servers me.0 s (new_pool w.config me) inside

-- setting one server leaves the others
pub pool_beside : (w : World) (me other : Server) (s : ServerModel) → other.0 ≢ me.0 → pool_of (with_pool w me s) other ≡ pool_of w other
pool_beside w me other s differs = get_or-set_other w.servers me.0 other.0 s (new_pool w.config other) differs

-- what is so of the one, and was of the others, is so of each
pub every_client : (P : Rank → ClientModel → Type 0) (w : World) (me : Rank) (s : ClientModel) → me.0 < length w.ranks → P me s
    → ((other : Rank) → other.0 < w.config.ranks → other.0 ≢ me.0 → P other (client_of w other)) → (rank : Rank) → rank.0 < w.config.ranks
    → P rank (client_of (with_client w me s) rank)
every_client P w me s inside here others rank within = by_place (cases_eq rank.0 me.0)
  where
    by_place : (rank.0 ≡ me.0) ⊎ (rank.0 ≢ me.0) → P rank (client_of (with_client w me s) rank)
    by_place (inl same) =
        let it : me ≡ rank = ap rank_named (sym same) in
        subst (λ (r : Rank). P r (client_of (with_client w me s) r)) it (subst (P me) (sym (client_there w me s inside)) here)
    by_place (inr differs) = subst (P rank) (sym (client_beside w me rank s differs)) (others rank within differs)

-- what holds of the set server and of the others holds of each
pub every_pool : (P : Server → ServerModel → Type 0) (w : World) (me : Server) (s : ServerModel) → me.0 < length w.servers → P me s
    → ((other : Server) → other.0 < w.config.servers → other.0 ≢ me.0 → P other (pool_of w other)) → (server : Server)
    → server.0 < w.config.servers → P server (pool_of (with_pool w me s) server)
every_pool P w me s inside here others server within = by_place (cases_eq server.0 me.0)
  where
    by_place : (server.0 ≡ me.0) ⊎ (server.0 ≢ me.0) → P server (pool_of (with_pool w me s) server)
    by_place (inl same) =
        let it : me ≡ server = ap server_named (sym same) in
        subst (λ (k : Server). P k (pool_of (with_pool w me s) k)) it (subst (P me) (sym (pool_there w me s inside)) here)
    by_place (inr differs) = subst (P server) (sym (pool_beside w me server s differs)) (others server within differs)
