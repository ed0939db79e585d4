-- When journals are one run: each is its actor's own run, and on each link what was got is a prefix of what was sent.
use Rattle.std.specs.Prelude.{◌≡◌, ◌<◌, ◌==◌, ℕ, nat_lt, ◌&&◌, not, List, [], ◌∷◌, ◌++◌, All, map, filter, Option, None, Some}
use Rattle.std.specs.Prelude.{if◌then◌else◌, slice_get}
use mathlib.Core.List.{IsPrefix}
use Rattle.adlb_unit.specs.declared.actors.Actor.{Actor}
use Rattle.adlb_unit.specs.declared.actors.Actor.TheVariants as by
use Rattle.adlb_unit.specs.declared.configs.Config.{Config}
use Rattle.adlb_unit.specs.declared.letters.Letter.{Letter}
use Rattle.adlb_unit.specs.declared.letters.Sending.{Sending}
use Rattle.adlb_unit.specs.declared.names.Rank.{Rank}
use Rattle.adlb_unit.specs.declared.names.Server.{Server}
use Rattle.rank_client.specs.State.{ClientModel, start as new_client}
use Rattle.rank_client.specs.Step.{Made, begin, hear}
use Rattle.adlb_unit.specs.Links.{is_within, place_of}
use Rattle.server_law.specs.State.{ServerModel, start as new_pool}
use Rattle.server_law.specs.Carried.{Served}
use Rattle.server_law.specs.Step.{serve}
use Rattle.core_run.specs.declared.events.Event.{Event as Occurrence}
use Rattle.core_run.specs.declared.events.Event.TheVariants as occurs
use Rattle.core_run.specs.Runs.{Runs}
use Rattle.core_run.specs.World.{World, actors, client_of, has_ended, link, pool_of, rank_named, start}
use Rattle.merge_history.specs.declared.causes.Cause.{Cause}
use Rattle.merge_history.specs.declared.causes.Cause.TheVariants as causes
use Rattle.merge_history.specs.Events.{Event, OfActor}
use Rattle.bag_ledger.specs.declared.entries.Entry.{Entry}
use Rattle.merge_history.specs.Merging.{IsMergeOf, joined, journal_at}

-- An actor's own run.

-- the step of a rank's client by this cause, and that of a server
abbrev pub client_step : Config → ClientModel → Cause → Option Made
client_step config s (causes.Called call) = begin s call
client_step config s (causes.Got (by.Rank from) letter) = None
client_step config s (causes.Got (by.Server from) letter) = if nat_lt from.0 config.servers then hear s from letter else None

-- the step of a server by its cause, if it has one
abbrev pub pool_step : Config → ServerModel → Cause → Option Served
pool_step config s (causes.Called call) = None
pool_step config s (causes.Got from letter) = if is_within config from && not (has_ended s) then serve s from letter else None

-- the events, in order, are steps that lead the client, or the server, from one state to another: each has the step's stamp, letters and
-- entries
abbrev pub ClientWalks : Config → ClientModel → List Event → ClientModel → Type 0
ClientWalks config s [] last = s ≡ last
ClientWalks config s (e ∷ es) last =
    (x : Made) × (client_step config s e.cause ≡ Some x) × (e.stamp ≡ x.state.clock) × (e.sends ≡ x.sends) × (e.entries ≡ x.entries)
    × ClientWalks config x.state es last

-- the events are steps of the server, one after the other
abbrev pub PoolWalks : Config → ServerModel → List Event → ServerModel → Type 0
PoolWalks config s [] last = s ≡ last
PoolWalks config s (e ∷ es) last =
    (x : Served) × (pool_step config s e.cause ≡ Some x) × (e.stamp ≡ x.state.clock) × (e.sends ≡ x.sends) × (e.entries ≡ x.entries)
    × PoolWalks config x.state es last

-- the states in which the actors' journals end
pub record Finals : Type 0 where
  pub client : Rank → ClientModel
  pub pool : Server → ServerModel

-- from the actor's start to its last state
abbrev pub Walks : Config → Finals → Actor → List Event → Type 0
Walks config finals (by.Rank rank) events = ClientWalks config (new_client config rank) events (finals.client rank)
Walks config finals (by.Server server) events = PoolWalks config (new_pool config server) events (finals.pool server)

-- the stamp is above that of the letter that was got
abbrev pub IsAbove : ℕ → Cause → Type 0
IsAbove stamp (causes.Called call) = Unit {0}
IsAbove stamp (causes.Got from letter) = letter.stamp < stamp

-- what an event sends bears its stamp, and what it got a lower one
pub record IsTimed (e : Event) : Type 0 where
  pub bears : All (λ y. y.letter.stamp ≡ e.stamp) e.sends
  pub above : IsAbove e.stamp e.cause

-- a journal is its actor's own run
pub record IsOwnRun (config : Config) (finals : Finals) (journal : OfActor) : Type 0 where
  pub walks : Walks config finals journal.actor journal.events
  pub timed : All IsTimed journal.events

-- What stands on a link. Actors are named by their places.

-- the letters among these that go to the actor
abbrev pub letters_to : Config → ℕ → List Sending → List Letter
letters_to config to sends = map (λ y. y.letter) (filter (λ y. place_of config y.to == to) sends)

-- the letter that the event got, if it got one of this actor
abbrev pub letter_from : Config → ℕ → Cause → List Letter
letter_from config from (causes.Called call) = []
letter_from config from (causes.Got of letter) = if place_of config of == from then letter ∷ [] else []

-- what these events sent to an actor, and what they got of one
abbrev pub sent : Config → ℕ → List Event → List Letter
sent config to [] = []
sent config to (e ∷ es) = letters_to config to e.sends ++ sent config to es

-- the letters that a journal got from an actor
abbrev pub got : Config → ℕ → List Event → List Letter
got config from [] = []
got config from (e ∷ es) = letter_from config from e.cause ++ got config from es

-- the journals compose
pub record Compose (config : Config) (finals : Finals) (journals : List OfActor) : Type 0 where
  pub own : (k : ℕ) (journal : OfActor) → slice_get journals k ≡ Some journal → IsOwnRun config finals journal
  pub links : (from to : ℕ) → from < actors config → to < actors config
      → IsPrefix (got config from (journal_at journals to)) (sent config to (journal_at journals from))

-- One run.

-- what happens in the run at an actor's event: a rank begins a call, or the actor handles a letter
abbrev pub occurrence : Actor → Cause → Occurrence
occurrence (by.Rank rank) (causes.Called call) = occurs.Call rank call
occurrence (by.Server server) (causes.Called call) = occurs.Call (rank_named server.0) call
occurrence actor (causes.Got from letter) = occurs.Deliver from actor

-- the events are a run from the start, whose ledger is their joined entries. After it each actor is in its last state, and of each link
-- those letters are under way that were sent and not got
pub record IsCoreRun (config : Config) (finals : Finals) (journals : List OfActor) (events : List (Actor × Event)) : Type 0 where
  pub last : World
  pub runs : Runs (start config) (map (λ x. occurrence x.0 x.1.cause) events) last
  pub ledger : last.ledger ≡ joined events
  pub ranks : (rank : Rank) → rank.0 < config.ranks → client_of last rank ≡ finals.client rank
  pub servers : (server : Server) → server.0 < config.servers → pool_of last server ≡ finals.pool server
  pub links : (from to : ℕ) → from < actors config → to < actors config
      → sent config to (journal_at journals from) ≡ got config from (journal_at journals to) ++ link last.links from to

-- there is one history of these journals, which compose and are one run, and the ledger has its entries
pub record IsOneHistory (config : Config) (finals : Finals) (journals : List OfActor) (ledger : List Entry) : Type 0 where
  pub history : List (Actor × Event)
  pub merged : IsMergeOf config journals history
  pub compose : Compose config finals journals
  pub run : IsCoreRun config finals journals history
  pub ledger_is : ledger ≡ joined history
