-- Which letters a server expects.
use Rattle.std.specs.Prelude.{◌≡◌, ◌≢◌, ◌⊎◌, ◌<◌, ◌≤◌, ◌↔◌, true, false, length, All, Any, ℕ, IsSome, None, Some}
use Rattle.adlb_unit.specs.Limits.{body_limit, stamp_limit}
use Rattle.adlb_unit.specs.Targets.{Aims, home_of}
use Rattle.adlb_unit.specs.declared.actors.Actor.{Actor}
use Rattle.adlb_unit.specs.declared.actors.Actor.TheVariants as by
use Rattle.adlb_unit.specs.declared.letters.Letter.{Letter}
use Rattle.adlb_unit.specs.declared.messages.Message.{Message}
use Rattle.adlb_unit.specs.declared.messages.Message.TheVariants as tells
use Rattle.adlb_unit.specs.declared.names.Rank.{Rank}
use Rattle.adlb_unit.specs.declared.names.Server.{Server}
use Rattle.adlb_unit.specs.declared.units.Unit.{Unit}
use Rattle.work_queue.specs.Queue.{HasNoPromise, HasNoUnit, HasPinned, HasPromise, HasRoom}
use Rattle.server_components.specs.Store.{CanClose, CanFetch, Keeps, part_in}
use Rattle.server_components.specs.declared.waits.Waiting.{Waiting}
use Rattle.server_components.specs.Pushes.{Asks, HasSent}
use Rattle.exhaust_ring.specs.Expected.{Expects, IsRunning}
use Rattle.server_law.specs.Acts.{batch_of}
use Rattle.server_law.specs.State.{ServerModel, is_finished, ring_at}
use Rattle.server_law.specs.Step.{serve}

-- the unit is the sender's. No unit and no promise of its id is here. Its body is no longer than it may be. A rank that its target
-- names is in the run
pub record IsNew (s : ServerModel) (from : Rank) (unit : Unit) : Type 0 where
  pub sender : unit.id.rank ≡ from
  pub new : HasNoUnit unit.id s.kept.queue.units
  pub unpromised : HasNoPromise unit.id s.kept.queue.promises
  pub size : length unit.body ≤ body_limit
  pub target : Aims unit.target s.config.ranks

-- the server is the rank's home
abbrev pub IsHome : ServerModel → Rank → Type 0
IsHome s rank = home_of s.config.servers rank ≡ s.me.0

-- the rank runs, as far as the server knows: it does not wait here, and its Finish letter was not handled
pub record Runs (s : ServerModel) (rank : Rank) : Type 0 where
  pub waits_not : All (λ (e : Waiting). e.wish.rank ≢ rank) s.kept.parked.waiting
  pub finished_not : is_finished s.kept rank ≡ false

-- a rank's letter that says this is awaited, one row a letter; no other letter is
abbrev pub IsAwaited : ServerModel → Rank → Message → Type 0
IsAwaited s from (tells.Put unit) = IsNew s from unit
-- the sender's home is here, and it runs
IsAwaited s from (tells.Reserve request types) = IsHome s from × Runs s from
-- each rank may look at each server
IsAwaited s from (tells.Try request types) = Prim.Unit {0}
-- the unit is here and pinned to the sender
IsAwaited s from (tells.Fetch request id) = HasPinned id from s.kept.queue.units
-- nothing is kept of the batch, and its common part is no longer than it may be
IsAwaited s from (tells.KeepCommon request common) = (part_in s.kept.parts (batch_of from request) ≡ None) × (length common ≤ body_limit)
-- the batch is the sender's; its part is here, open, and was fetched at most so often
IsAwaited s from (tells.CloseBatch request batch accepted) =
    (batch.rank ≡ from) × Keeps s.kept.parts batch s.kept.queue.common (CanClose accepted)
-- the part is here, and, if closed, was fetched fewer times than units of the batch were accepted
IsAwaited s from (tells.FetchCommon request batch) = Keeps s.kept.parts batch s.kept.queue.common CanFetch
-- the sender's home is here, and it runs
IsAwaited s from (tells.Count request kind) = IsHome s from × Runs s from
-- each rank may say to each server that the problem is done
IsAwaited s from (tells.Done request) = Prim.Unit {0}
-- the sender runs
IsAwaited s from tells.Finish = Runs s from
IsAwaited s from _ = ⊥

-- the rank waits here since this call, and the server that was asked for it and has not answered is this one
abbrev pub IsUnanswered : ServerModel → Server → Rank → ℕ → Type 0
IsUnanswered s from rank request =
    Any (λ (e : Waiting). (e.wish.rank ≡ rank) × (e.wish.request ≡ request) × (e.asked ≡ Some from)) s.kept.parked.waiting

-- another server's letter that says this is awaited, one row a letter; no other letter is
abbrev pub IsAwaitedFrom : ServerModel → Server → Message → Type 0
-- the sender is the rank's home
IsAwaitedFrom s from (tells.Ask rank request types) = (rank.0 < s.config.ranks) × (home_of s.config.servers rank ≡ from.0)
IsAwaitedFrom s from (tells.AskGrant rank request note) = IsUnanswered s from rank request
IsAwaitedFrom s from (tells.AskNone rank request) = IsUnanswered s from rank request
-- the rank's home is here
IsAwaitedFrom s from (tells.Hint rank request) = (rank.0 < s.config.ranks) × IsHome s rank
-- no unit and no promise of the id is here
IsAwaitedFrom s from (tells.PushQuery id length) = HasNoUnit id s.kept.queue.units × HasNoPromise id s.kept.queue.promises
-- the push of this server asks the sender for room for this unit
IsAwaitedFrom s from (tells.PushYes id) = Asks s.kept.pushing from id
IsAwaitedFrom s from (tells.PushNo id) = Asks s.kept.pushing from id
-- no unit of the id is here, room of the unit's length was promised, and no acknowledgement is owed, as none is between events
IsAwaitedFrom s from (tells.PushUnit unit) =
    HasNoUnit unit.id s.kept.queue.units × HasRoom unit.id (length unit.body) s.kept.queue.promises × (s.kept.owed ≡ None)
-- room was promised
IsAwaitedFrom s from (tells.PushCancel id) = HasPromise id s.kept.queue.promises
-- the push of this server has sent the unit or a cancel of it to the sender
IsAwaitedFrom s from (tells.PushAck id) = HasSent s.kept.pushing from id
-- this is server 0
IsAwaitedFrom s from tells.Notice = s.me.0 ≡ 0
-- the ring expects the token from the sender; this is server 0, and the check runs
IsAwaitedFrom s from (tells.Token t) = Expects (ring_at s) from t
IsAwaitedFrom s from (tells.Failed t why) = IsRunning (ring_at s) t
-- the sender is server 0
IsAwaitedFrom s from tells.Exhaust = from.0 ≡ 0
IsAwaitedFrom s from tells.Shutdown = from.0 ≡ 0
IsAwaitedFrom s from _ = ⊥

-- beside each row: the sender is a rank of the run, or another server of it, and the stamp one that is given
abbrev pub IsExpected : ServerModel → Actor → Letter → Type 0
IsExpected s (by.Rank from) letter = (from.0 < s.config.ranks) × (letter.stamp < stamp_limit) × IsAwaited s from letter.message
IsExpected s (by.Server from) letter =
    (from.0 < s.config.servers) × (from ≢ s.me) × (letter.stamp < stamp_limit) × IsAwaitedFrom s from letter.message

-- the law: exactly the letters that are expected have a step
abbrev pub ExpectedHaveSteps : Type 0
ExpectedHaveSteps = (s : ServerModel) (from : Actor) (letter : Letter) → IsSome (serve s from letter) ↔ IsExpected s from letter

-- a rank that waits here, for which no server that was asked is unanswered
abbrev pub WaitsIdle : ServerModel → Rank → Type 0
WaitsIdle s rank = Any (λ (e : Waiting). (e.wish.rank ≡ rank) × (e.asked ≡ None)) s.kept.parked.waiting

-- the server is quiet: no push that it began stands, and each rank of the run whose home this is waits here and is idle, or has finished
pub record IsQuiet (s : ServerModel) : Type 0 where
  pub unpushed : s.kept.pushing.push ≡ None
  pub rest : (rank : Rank) → rank.0 < s.config.ranks → IsHome s rank → WaitsIdle s rank ⊎ (is_finished s.kept rank ≡ true)
