-- What a server's thread promises.
use Rattle.std.specs.Prelude.{ℕ, ◌≡◌, ◌⊎◌, ◌<◌, ◌+◌, ◌-◌, ◌==◌, ◌++◌, ◌∷◌, ◌&&◌, ◌||◌, nat_lt, not, Bool, true, false, List, [], map}
use Rattle.std.specs.Prelude.{filter, flat_map, length, take, if◌then◌else◌, Option, None, Some, IfSome, IsSome}
use Rattle.std.specs.List.{list_any, range_with_len}
use Rattle.actor_desk.specs.Desks.{Begins, DeskModel, Tallies, received, sent_at}
use Rattle.adlb_unit.specs.Limits.{stamp_limit}
use Rattle.adlb_unit.specs.Links.{is_within, place_of, sending}
use Rattle.adlb_unit.specs.declared.actors.Actor.{Actor}
use Rattle.adlb_unit.specs.declared.actors.Actor.TheVariants as by
use Rattle.adlb_unit.specs.declared.configs.Config.{Config}
use Rattle.adlb_unit.specs.declared.letters.Letter.{Letter}
use Rattle.adlb_unit.specs.declared.letters.Sending.{Sending}
use Rattle.adlb_unit.specs.declared.messages.Message.{Message}
use Rattle.adlb_unit.specs.declared.messages.Message.TheVariants as tells
use Rattle.adlb_unit.specs.declared.names.Rank.{Rank}
use Rattle.adlb_unit.specs.declared.names.Server.{Server}
use Rattle.adlb_unit.specs.declared.notes.Trouble.{Trouble}
use Rattle.thread_actors.specs.World.{actors, has_ended, rank_named, server_named}
use Rattle.merge_history.specs.Own.{PoolWalks, letters_to, sent}
use Rattle.rank_mail.specs.declared.posted.Posted.{Posted}
use Rattle.server_core.specs.Left.{left_of}
use Rattle.server_core.specs.declared.states.LeftUnit.{LeftUnit}
use Rattle.server_law.specs.State.{ServerModel, is_finished, is_waiting, start}
use Rattle.server_law.specs.Step.{next_stamp, serve}
use Rattle.thread_actors.specs.Faults.{IsLate, IsLateFault, told}
use Rattle.thread_actors.specs.declared.faults.ActorFault.{ActorFault}
use Rattle.thread_actors.specs.declared.faults.ActorFault.TheVariants as faults

-- the run's numbers, and which server
pub record Seat : Type 0 where
  pub config : Config
  pub me : Server

-- The server's journal is its own run. It leads the server from the start to a state in which it has ended, where these units are left.
-- What went through its mailboxes is what the journal has.
pub record IsServerRun (config : Config) (me : Server) (desk : DeskModel) (left : List LeftUnit) : Type 0 where
  pub last : ServerModel
  pub walks : PoolWalks config (start config me) desk.events last
  pub ended : has_ended last ≡ true
  pub left_is : left ≡ left_of last
  pub tallies : Tallies desk []

-- the server does not expect this letter of the actor of this number: it has no step for it, whatever actor of the run that is
abbrev pub IsUnexpected : Config → ServerModel → ℕ → Letter → Type 0
IsUnexpected config s from letter =
    (a : Actor) → is_within config a ≡ true → place_of config a ≡ from → serve s a letter ≡ None

-- Whatever the server met, its journal is its own run, up to some state. No stamp in it is past the last one. What went through its
-- mailboxes begins with what the journal has.
pub record IsBegun (config : Config) (me : Server) (desk : DeskModel) : Type 0 where
  pub last : ServerModel
  pub walks : PoolWalks config (start config me) desk.events last
  pub within : last.clock < stamp_limit
  pub begins : Begins desk

-- What a server that breaks tells, and whom.

-- the letters that the journal's events received, in their order
abbrev pub came : DeskModel → List Posted
came d = flat_map (λ e. received d.config e.cause) d.events

-- a letter of the actor of this number tells that a rank is gone, or by Abort that a server broke or a thread was not started
abbrev pub trouble_told : Config → ℕ → Message → Option Trouble
trouble_told config from (tells.Gone trouble) = Some trouble
trouble_told config from (tells.Abort trouble absent) = if nat_lt from config.ranks then None else Some trouble
trouble_told config from _ = None

-- a rank that sends this letter waits for its answer
abbrev pub awaits_answer : Message → Bool
awaits_answer (tells.Put unit) = true
awaits_answer (tells.Reserve request types) = true
awaits_answer (tells.Try request types) = true
awaits_answer (tells.Fetch request id) = true
awaits_answer (tells.FetchCommon request batch) = true
awaits_answer (tells.KeepCommon request common) = true
awaits_answer (tells.CloseBatch request batch accepted) = true
awaits_answer (tells.Count request kind) = true
awaits_answer (tells.Done request) = true
awaits_answer _ = false

-- The rank waits for the server that this letter breaks: it waits there for a unit, or for the answer to the letter.
abbrev pub waits_for : ServerModel → Posted → Rank → Bool
waits_for s x rank = is_waiting s.kept rank || ((x.from == rank.0) && awaits_answer x.letter.message)

-- the letter by which a broken server tells its trouble to a server
abbrev pub abort_to : Trouble → Server → Sending
abort_to trouble server = sending 0 0 (by.Server server) (tells.Abort trouble 0)

-- and to a rank
abbrev pub broken_to : Trouble → Rank → Sending
broken_to trouble rank = sending 0 0 (by.Rank rank) (tells.Broken trouble)

-- each other server is told, in the order of their numbers
abbrev pub told_servers : Config → Server → Trouble → List Sending
told_servers config me trouble =
    map (abort_to trouble) (filter (λ s. not (s.0 == me.0)) (map server_named (range_with_len 0 config.servers)))

-- each rank that waits for it is told, in the order of their numbers
abbrev pub told_ranks : Config → ServerModel → Posted → Trouble → List Sending
told_ranks config s x trouble = map (broken_to trouble) (filter (waits_for s x) (map rank_named (range_with_len 0 config.ranks)))

-- what a broken server answers to a letter: its rank is told, if it waits for the answer
abbrev pub told_by_answer : Config → Trouble → Posted → List Sending
told_by_answer config trouble x =
    if nat_lt x.from config.ranks && awaits_answer x.letter.message then broken_to trouble (rank_named x.from) ∷ [] else []

-- All that a server tells which this letter broke in this state, and to which these came later: each other server is told, then each rank
-- that waits for it, and then each rank of a later letter that waits for its answer.
abbrev pub all_told : Config → Server → ServerModel → Posted → List Posted → Trouble → List Sending
all_told config me s x later trouble =
    told_servers config me trouble ++ (told_ranks config s x trouble ++ flat_map (told_by_answer config trouble) later)

-- what a broken server tells an actor of this number: a rank that it broke, a server that it is to break too
abbrev pub tells_of : Config → ℕ → Message → Bool
tells_of config to (tells.Broken trouble) = nat_lt to config.ranks
tells_of config to (tells.Abort trouble absent) = not (nat_lt to config.ranks)
tells_of config to _ = false

-- no letter of the rank comes after this one: it is the rank's last, or it tells that the last ranks, so many, were not started
abbrev pub ends_rank : Config → ℕ → Message → ℕ → Bool
ends_rank config from tells.Finish rank = from == rank
ends_rank config from (tells.Gone trouble) rank = from == rank
ends_rank config from (tells.Abort trouble absent) rank = not (nat_lt from config.ranks) && not (nat_lt rank (config.ranks - absent))
ends_rank config from _ rank = false

-- the rank is over after these letters: its Finish was handled before the server broke, or one of them ends it
abbrev pub is_over : Config → ServerModel → List Posted → Rank → Bool
is_over config s heard rank = is_finished s.kept rank || list_any (λ p. ends_rank config p.from p.letter.message rank.0) heard

-- In its last state the server broke by this letter, for this fault. Its own step failed, by a letter that it expected. If its stamp was
-- too long, it is the one that the step's event would bear. Or the letter was not expected, or told of a trouble, which is the server's
-- from then on, if it can be one that an actor met.
pub record BreaksBy (config : Config) (last : ServerModel) (x : Posted) (fault : ActorFault) (own : Bool) : Type 0 where
  pub step : own ≡ true
      → (from : Actor) × (is_within config from ≡ true) × (place_of config from ≡ x.from) × IsSome (serve last from x.letter)
  pub stamp : own ≡ true → (stamp : ℕ) → fault ≡ faults.TooLong stamp → stamp ≡ next_stamp last x.letter
  pub unexpected : (n : ℕ) → fault ≡ faults.Unexpected n
      → (n ≡ x.from) × IsUnexpected config last x.from x.letter × (trouble_told config x.from x.letter.message ≡ None)
  pub others : own ≡ false → (fault ≡ faults.Unexpected x.from) ⊎ IsSome (trouble_told config x.from x.letter.message)
  pub first : own ≡ false → (trouble : Trouble) → trouble_told config x.from x.letter.message ≡ Some trouble → IsLate trouble
      → told fault ≡ trouble

-- In the last state of its journal, where it had not ended, a letter broke the server, the next that came. After what its events sent it
-- told all whom that concerns, and sent nothing else. It read on until each rank was over, and no longer.
pub record IsBroken (me : Server) (d : DeskModel) (last : ServerModel) (fault : ActorFault) (own : Bool) : Type 0 where
  pub letter : Posted
  pub later : List Posted
  pub got : d.got ≡ came d ++ letter ∷ later
  pub going : has_ended last ≡ false
  pub breaks : BreaksBy d.config last letter fault own
  pub sends : (to : ℕ) → to < actors d.config → sent_at d to
      ≡ sent d.config to d.events ++ letters_to d.config to (all_told d.config me last letter later (told fault))
  pub over : (rank : Rank) → rank.0 < d.config.ranks → is_over d.config last (letter ∷ later) rank ≡ true
  pub no_sooner : (n : ℕ) → n < length later
      → (rank : Rank) × (rank.0 < d.config.ranks) × (is_over d.config last (letter ∷ take n later) rank ≡ false)

-- What contracts see of how a server ended: also whether its fault was of a step of its own.
pub record Ended : Type 0 where
  pub left : List LeftUnit
  pub fault : Option ActorFault
  pub own : Bool
  pub desk : DeskModel

-- What a server's thread promises. It has its desk, a stamp that was too long is past the last one, and its journal is its own run so far.
-- If it did not fail, that is its whole run. If it failed, it broke, or there was no memory for what was left after its whole run.
pub record EndsAs (config : Config) (me : Server) (e : Ended) : Type 0 where
  pub config_is : e.desk.config ≡ config
  pub number : e.desk.number ≡ config.ranks + me.0
  pub late : IfSome e.fault IsLateFault
  pub begun : IsBegun config me e.desk
  pub own : e.fault ≡ None → IsServerRun config me e.desk e.left
  pub broken : (fault : ActorFault) → e.fault ≡ Some fault → IsBroken me e.desk begun.last fault e.own
      ⊎ ((e.own ≡ false) × (fault ≡ faults.Memory) × (left : List LeftUnit) × IsServerRun config me e.desk left)
