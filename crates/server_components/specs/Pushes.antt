-- Pushes: a unit moves from the queue of one server to that of another where there is room.
use Rattle.std.specs.Prelude.{◌≡◌, ◌≢◌, ◌≤◌, ◌<◌, ℕ, ◌+◌, ◌-◌, ◌/◌, ◌%◌, ◌^◌, ◌==◌, min, nat_lt, Bool, true, false, ◌&&◌, not, All, Option}
use Rattle.std.specs.Prelude.{None, Some, is_none, if◌then◌else◌}
use Rattle.std.specs.Option.{option_map}
use Rattle.adlb_unit.specs.Ids.{same_unit}
use Rattle.adlb_unit.specs.Ring.{behind}
use Rattle.adlb_unit.specs.declared.configs.Config.{Config}
use Rattle.adlb_unit.specs.declared.names.Server.{Server}
use Rattle.adlb_unit.specs.declared.names.UnitId.{UnitId}
use Rattle.work_queue.specs.Push.{first_to_push_of}
use Rattle.work_queue.specs.Queue.{Exceeds, HasFree, Queue, charge_of, id_of, with_promise, without}
use Rattle.server_components.specs.declared.pushing.Push.{Push}
use Rattle.server_components.specs.declared.pushing.Push.TheVariants.{Go, Cancel}
use Rattle.server_components.specs.declared.pushing.PushQuery.{PushQuery}
use Rattle.server_components.specs.declared.standing.StandingPush.{StandingPush}

-- A push that stands.

-- it asks that server for room of `n` bytes for the unit
abbrev pub asks_room : Server → UnitId → ℕ → StandingPush
asks_room to id n = record { to = to; id = id; length = n; sent = false }

-- the unit, of `n` bytes, or a cancel of it was sent to that server
abbrev pub has_sent : Server → UnitId → ℕ → StandingPush
has_sent to id n = record { to = to; id = id; length = n; sent = true }

-- the push of a server that stands, if one does; and how many it began, those that were refused or cancelled too
pub record Pushing : Type 0 where
  pub push : Option StandingPush
  pub pushes : ℕ

-- the pushes of this server of a run
pub record PushModel : Type 0 where
  pub config : Config
  pub me : Server
  pub pushing : Pushing

-- none was begun
abbrev pub no_push : Config → Server → PushModel
no_push config me = record { config = config; me = me; pushing = record { push = None; pushes = 0 } }

-- the push that stands is this one, or none does
abbrev pub with_push : Pushing → Option StandingPush → Pushing
with_push p push = record p { push = push }

-- the server's pushes are these
abbrev pub with_pushing : PushModel → Pushing → PushModel
with_pushing m pushing = record m { pushing = pushing }

-- another server of the run
abbrev pub IsOther : Config → Server → Server → Type 0
IsOther config me s = (s.0 < config.servers) × (s.0 ≢ me.0)

-- what is so of each
pub record IsPushModel (m : PushModel) : Type 0 where
  pub there : m.me.0 < m.config.servers
  -- a push goes to another server
  pub other : (p : StandingPush) → m.pushing.push ≡ Some p → IsOther m.config m.me p.to

-- Which push it is.

-- it asks that server for room for the unit
abbrev pub Asks : Pushing → Server → UnitId → Type 0
Asks p to id = (n : ℕ) × (p.push ≡ Some (asks_room to id n))

-- the unit or a cancel of it was sent to that server
abbrev pub HasSent : Pushing → Server → UnitId → Type 0
HasSent p to id = (n : ℕ) × (p.push ≡ Some (has_sent to id n))

-- As tests.

-- whether the unit or a cancel was sent is as the first says
abbrev pub is_sent : Bool → Bool → Bool
is_sent true sent = sent
is_sent false sent = not sent

-- the push is of the unit to that server, and is sent or still a query, as the flag says
abbrev pub is_push_as : Server → UnitId → Bool → StandingPush → Bool
is_push_as to id sent p = (p.to.0 == to.0) && (same_unit p.id id && is_sent sent p.sent)

-- a push stands, and passes
abbrev pub some_push : (StandingPush → Bool) → Option StandingPush → Bool
some_push test None = false
some_push test (Some p) = test p

-- the server is asked for room for the unit
abbrev pub asks : Pushing → Server → UnitId → Bool
asks p to id = some_push (is_push_as to id false) p.push

-- the unit, or a cancel of it, was sent to the server
abbrev pub sent_to : Pushing → Server → UnitId → Bool
sent_to p to id = some_push (is_push_as to id true) p.push

-- some query stands; or some push whose unit, or a cancel of it, was sent
abbrev pub is_query : Pushing → Bool
is_query p = some_push (λ s. not s.sent) p.push

-- the unit, or a cancel of it, was sent
abbrev pub is_under_way : Pushing → Bool
is_under_way p = some_push (λ s. s.sent) p.push

-- what is said of a push
abbrev pub shown : StandingPush → Server × UnitId × Bool
shown p = (p.to, p.id, p.sent)

-- A push begins.

-- the charge is above the limit of each server of the run less an eighth of it, in whole numbers
abbrev pub IsPressed : Config → Queue → Type 0
IsPressed config q = config.limit - config.limit / 8 < charge_of q

-- what `IsPressed` says, as a test
abbrev pub is_pressed : Config → Queue → Bool
is_pressed config q = nat_lt (config.limit - config.limit / 8) (charge_of q)

-- the other servers are asked in turn, from the one after this one on, by how many pushes were begun before
abbrev pub next_to : Config → Server → ℕ → Server
next_to config me pushes = behind config me (pushes % (config.servers - 1) + 1)

-- one more was begun; the count is a number of 64 bits, and stays at the last of them
abbrev pub one_more : ℕ → ℕ
one_more pushes = min (pushes + 1) (2 ^ 64 - 1)

-- there are several servers, no push of this one stands, and its queue is pressed
abbrev pub may_push : Config → Pushing → Queue → Bool
may_push config p q = nat_lt 1 config.servers && (is_none p.push && is_pressed config q)

-- the query of a push that begins: the next server is asked for room for this unit of this length
abbrev pub query_to : Config → Server → Pushing → UnitId × ℕ → PushQuery
query_to config me p unit = record { to = next_to config me p.pushes; id = unit.0; length = unit.1 }

-- if a push begins, it is of the unit that goes first
abbrev pub query_of : Config → Server → Pushing → Queue → Option PushQuery
query_of config me p q = if may_push config p q then option_map (query_to config me p) (first_to_push_of q.units) else None

-- the push stands as this query, and is counted
abbrev pub begun : Pushing → PushQuery → Pushing
begun p q = record { push = Some (asks_room q.to q.id q.length); pushes = one_more p.pushes }

-- the push that begins, if there is one
abbrev pub begun_if : Pushing → Option PushQuery → Pushing
begun_if p None = p
begun_if p (Some q) = begun p q

-- What comes of a query.

-- at the server that is asked: there is room, which is promised; or the unit would go beyond the limit, and nothing changes
abbrev pub IsPromise : Queue → UnitId → ℕ → Bool → Queue → Type 0
IsPromise old id n true new = (charge_of old + n ≤ old.limit) × (new ≡ with_promise old id n)
IsPromise old id n false new = Exceeds old n × (new ≡ old)

-- At the server that asked, after a promise. The unit, if it is free, goes and is then gone from the queue; otherwise a cancel goes.
abbrev pub IsSending : Queue → Server → UnitId → Push → Queue → Type 0
IsSending old to id (Go server unit) new =
    (server ≡ to) × HasFree id old.units × All (λ p. id_of p ≡ id → unit ≡ p.unit) old.units × (new ≡ without old id)
IsSending old to id (Cancel server gone) new = (server ≡ to) × (gone ≡ id) × ¬ HasFree id old.units × (new ≡ old)
