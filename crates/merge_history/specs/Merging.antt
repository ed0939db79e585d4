-- Journals in one order. An actor is also its place among all: the ranks come before the servers.
use Rattle.std.specs.Prelude.{◌≡◌, ℕ, true, List, [], ◌++◌, All, length, map, flat_map, slice_index_or}
use Rattle.std.specs.List.{range_with_len}
use Rattle.adlb_unit.specs.declared.actors.Actor.{Actor}
use Rattle.adlb_unit.specs.declared.actors.Actor.TheVariants as by
use Rattle.adlb_unit.specs.declared.configs.Config.{Config}
use Rattle.bag_ledger.specs.declared.entries.Entry.{Entry}
use Rattle.adlb_unit.specs.Links.{is_within, place_of}
use Rattle.core_run.specs.World.{actors, rank_named, server_named}
use Rattle.flat_merge.specs.Flat.{IsKeptMerge}
use Rattle.flat_merge.specs.Taking.{Climbs}
use Rattle.journal_law.specs.Orders.{IsMerged, Rises}
use Rattle.merge_history.specs.Events.{Event, OfActor}
use Rattle.packed_ledger.specs.declared.stamped.Stamped.{Stamped}

-- the stamp of an event
abbrev pub stamp_of : Event → ℕ
stamp_of e = e.stamp

-- the actors of a run, by place
abbrev pub actors_of : Config → List Actor
actors_of config =
    map (λ n. by.Rank (rank_named n)) (range_with_len 0 config.ranks) ++ map (λ n. by.Server (server_named n))
    (range_with_len 0 config.servers)

-- one journal for each actor, by place, in which the stamps rise
pub record CanMerge (config : Config) (journals : List OfActor) : Type 0 where
  pub actors : map (λ j. j.actor) journals ≡ actors_of config
  pub rises : All (λ j. Rises stamp_of j.events) journals

-- the events in the journal of the actor at this place
abbrev pub journal_at : List OfActor → ℕ → List Event
journal_at journals place = slice_index_or (map (λ j. j.events) journals) place []

-- each event with its actor's place
abbrev pub numbered : Config → List (Actor × Event) → List (ℕ × Event)
numbered config events = map (λ x. (place_of config x.0, x.1)) events

-- all events of the journals, by stamp and then by actor; in this order each actor's are its journal
pub record IsMergeOf (config : Config) (journals : List OfActor) (events : List (Actor × Event)) : Type 0 where
  pub within : All (λ x. is_within config x.0 ≡ true) events
  pub merged : IsMerged stamp_of (actors config) (journal_at journals) (numbered config events)

-- the entries of all events, in order
abbrev pub joined : List (Actor × Event) → List Entry
joined events = flat_map (λ x. x.1.entries) events

-- What is kept, in one order.

-- the stamp of what is kept
abbrev pub stamp_at : Stamped → ℕ
stamp_at x = x.stamp

-- in each list stamps do not fall
abbrev pub AllClimb : List (List Stamped) → Type 0
AllClimb lists = (a : ℕ) → Climbs stamp_at (slice_index_or lists a [])

-- the entries of all lists, by stamp, among equal stamps by list, and of one list in its order
pub record IsLedgerOf (lists : List (List Stamped)) (ledger : List Entry) : Type 0 where
  pub merged : List (ℕ × Stamped)
  pub is : IsKeptMerge stamp_at (length lists) (λ a. slice_index_or lists a []) merged
  pub entries : ledger ≡ map (λ x. x.1.entry) merged
