-- What holds of letters and of each actor's own state at every moment of a run, and between the acts of an event.
use Rattle.std.specs.Prelude.{◌≡◌, ◌<◌, ℕ, Bool, length}
use Rattle.adlb_unit.specs.declared.names.Rank.{Rank}
use Rattle.adlb_unit.specs.declared.names.Server.{Server}
use Rattle.adlb_unit.specs.declared.names.UnitId.{UnitId}
use Rattle.core_run.specs.World.{Links, World, actors, row}
use Rattle.core_law.specs.Letters.{any_remote, finishes, kinds, numbered, one_letter, remotes}
use Rattle.core_law.specs.Measures.{IsBalanced, push_weights, weights}
use Rattle.core_law.specs.Pushes.{pushing, pushing_to}
use Rattle.core_law.specs.Own.{AreOwn}

-- this number of rows, each of this number of lists
pub record IsSquare (n : ℕ) (links : Links) : Type 0 where
  pub rows : length links ≡ n
  pub each : (a : ℕ) → a < n → length (row links a) ≡ n

-- there are as many ranks, servers and links as the run has
pub record IsShaped (w : World) : Type 0 where
  pub ranks : length w.ranks ≡ w.config.ranks
  pub servers : length w.servers ≡ w.config.servers
  pub square : IsSquare (actors w.config) w.links

-- all that holds of letters and of the actors' own states
pub record IsWell (w : World) : Type 0 where
  pub shape : IsShaped w
  pub own : AreOwn w
  pub kind : IsBalanced (kinds w.config) w
  pub one : (rank : Rank) → IsBalanced (weights (one_letter rank)) w
  pub finish : (rank : Rank) (server : Server) → server.0 < w.config.servers → IsBalanced (finishes rank server) w
  pub remote : (home asked : Server) (rank : Rank) (request : ℕ) → IsBalanced (weights (remotes home asked rank request)) w
  pub any : (rank : Rank) → IsBalanced (weights (any_remote rank)) w
  pub push : (a : Server) → IsBalanced (push_weights (pushing a)) w
  pub push_to : (a t : Server) (id : UnitId) (sent : Bool) → IsBalanced (push_weights (pushing_to a t id sent)) w
  pub number : (rank : Rank) (next : ℕ) → IsBalanced (weights (numbered rank next)) w
