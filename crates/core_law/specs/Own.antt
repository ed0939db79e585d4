-- What holds of each actor's own state at every moment of a run.
use Rattle.std.specs.Prelude.{◌≡◌, ◌<◌, ◌≤◌, ◌+◌, true, false, length, Option, None, Some, All, IfSome}
use Rattle.adlb_unit.specs.Limits.{body_limit}
use Rattle.adlb_unit.specs.Targets.{in_ranks}
use Rattle.adlb_unit.specs.Ids.{same_unit}
use Rattle.adlb_unit.specs.declared.configs.Config.{Config}
use Rattle.adlb_unit.specs.declared.names.CommonRef.{CommonRef}
use Rattle.adlb_unit.specs.declared.names.Rank.{Rank}
use Rattle.adlb_unit.specs.declared.names.Server.{Server}
use Rattle.adlb_unit.specs.declared.notes.UnitNote.{UnitNote}
use Rattle.adlb_unit.specs.declared.units.Unit.{Unit}
use Rattle.rank_client.specs.declared.pendings.Pending.{Pending}
use Rattle.rank_client.specs.declared.pendings.Pending.TheVariants as waits_for
use Rattle.rank_client.specs.State.{ClientModel}
use Rattle.server_components.specs.Parked.{IsOther}
use Rattle.server_components.specs.declared.waits.Waiting.{Waiting}
use Rattle.server_components.specs.declared.wishes.Wish.{Wish}
use Rattle.server_components.specs.declared.standing.StandingPush.{StandingPush}
use Rattle.server_law.specs.State.{Debt, ServerModel, is_home}
use Rattle.core_run.specs.World.{World, client_of, pool_of}

-- the unit that the rank puts in its last call
pub record IsOffer (s : ClientModel) (unit : Unit) : Type 0 where
  pub rank : unit.id.rank ≡ s.me
  pub call : unit.id.number + 1 ≡ s.next
  -- it shares the common part of the batch that is going on, if there is one
  pub batch : unit.common ≡ s.batch
  pub size : length unit.body ≤ body_limit
  pub target : in_ranks s.config unit.target ≡ true

-- the part that is referred to, if there is one, is at a server of the run
abbrev pub IsAt : Config → Option CommonRef → Type 0
IsAt config o = IfSome o (λ (c : CommonRef). c.server.0 < config.servers)

-- the note of a unit that was granted: its server is one of the run, and so is that of its common part, if it has one
pub record IsNote (config : Config) (note : UnitNote) : Type 0 where
  pub there : note.server.0 < config.servers
  pub common : IsAt config note.common

-- the call that is pending is the last one. Some server has not refused a put or a common part that is pending, has not looked
-- for a try, or has not heard that the problem is done. A unit that is fetched is no longer held
abbrev pub IsCall : ClientModel → Pending → Type 0
IsCall s waits_for.Nothing = Prim.Unit {0}
IsCall s (waits_for.Put unit first tried) = IsOffer s unit × (tried < s.config.servers)
IsCall s (waits_for.Reserve request types) = request + 1 ≡ s.next
IsCall s (waits_for.Try request types tried) = (request + 1 ≡ s.next) × (tried < s.config.servers)
IsCall s (waits_for.Fetch request note) = (request + 1 ≡ s.next) × IsNote s.config note
    × All (λ n. same_unit n.id note.id ≡ false) s.handles
IsCall s (waits_for.Common request note common own) = (request + 1 ≡ s.next) × (common.server.0 < s.config.servers)
IsCall s (waits_for.Keep request common first tried) =
    (request + 1 ≡ s.next) × (s.batch ≡ None) × (length common ≤ body_limit) × (tried < s.config.servers)
IsCall s (waits_for.Close request batch) = (request + 1 ≡ s.next) × (s.batch ≡ Some batch)
IsCall s (waits_for.Count request kind) = request + 1 ≡ s.next
IsCall s (waits_for.SetDone request tried) = (request + 1 ≡ s.next) × (tried < s.config.servers)

-- of the client of this rank
pub record IsClient (run : Config) (rank : Rank) (s : ClientModel) : Type 0 where
  pub config : s.config ≡ run
  pub me : s.me ≡ rank
  pub call : IsCall s s.pending
  -- no call is pending once the rank has finished
  pub rests : s.finished ≡ true → s.pending ≡ waits_for.Nothing
  pub batch : IsAt s.config s.batch
  pub notes : All (IsNote s.config) s.handles

-- of a rank that waits: it is one of the run, with its home here, and only other servers are asked for it
pub record IsEntry (run : Config) (server : Server) (e : Waiting) : Type 0 where
  pub within : e.wish.rank.0 < run.ranks
  pub here : is_home run server e.wish.rank ≡ true
  pub asked : IfSome e.asked (IsOther run server)
  pub to_ask : All (IsOther run server) e.to_ask

-- of a rank whose wish is kept: it is one of the run, with its home elsewhere
pub record IsWish (run : Config) (server : Server) (wish : Wish) : Type 0 where
  pub within : wish.rank.0 < run.ranks
  pub away : is_home run server wish.rank ≡ false

-- of this server
pub record IsPool (run : Config) (server : Server) (s : ServerModel) : Type 0 where
  pub config : s.config ≡ run
  pub me : s.me ≡ server
  pub finished : length s.kept.finished ≡ run.ranks
  pub waiting : All (IsEntry run server) s.kept.parked.waiting
  pub wishes : All (IsWish run server) s.kept.parked.wishes
  -- a push goes to another server, and so does an acknowledgement
  pub pushing : IfSome s.kept.pushing.push (λ (p : StandingPush). IsOther run server p.to)
  pub owed : IfSome s.kept.owed (λ (d : Debt). IsOther run server d.to)
  -- the last notice was of this activity or less, and so was the last mark
  pub noted : IfSome s.kept.noted (λ n. n ≤ s.activity)
  pub mark : s.kept.ring.mark ≤ s.activity
  -- a server that is alone is shut only where each rank has finished
  pub shut : run.servers ≡ 1 → s.kept.shut ≡ true → All (λ finished. finished ≡ true) s.kept.finished
  -- a check of a server that is alone ends as it begins
  pub alone : run.servers ≡ 1 → s.kept.ring.runs ≡ false

-- of all actors of a world
pub record AreOwn (w : World) : Type 0 where
  pub ranks : (me : Rank) → me.0 < w.config.ranks → IsClient w.config me (client_of w me)
  pub servers : (me : Server) → me.0 < w.config.servers → IsPool w.config me (pool_of w me)

-- of worlds between events: no server owes an acknowledgement
abbrev pub NoneOwes : World → Type 0
NoneOwes w = (me : Server) → me.0 < w.config.servers → (pool_of w me).kept.owed ≡ None
