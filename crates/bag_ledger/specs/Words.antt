-- Words of the laws: what an entry does to a unit or to a call, what `settled` says, and where promises stand.
use Rattle.std.specs.Prelude.{ℕ, ◌≡◌, Bool, true, false, ◌&&◌, ◌==◌, [], length, Some, IsTrue, IsFalse}
use Rattle.std.specs.List.{list_any}
use Rattle.adlb_unit.specs.declared.names.Rank.{Rank}
use Rattle.adlb_unit.specs.declared.names.Server.{Server}
use Rattle.adlb_unit.specs.declared.names.UnitId.{UnitId}
use Rattle.adlb_unit.specs.declared.notes.End.{End}
use Rattle.adlb_unit.specs.declared.notes.End.TheVariants as ends_by
use Rattle.adlb_unit.specs.Ids.{same_unit}
use Rattle.bag_ledger.specs.declared.entries.Entry.{Entry}
use Rattle.bag_ledger.specs.declared.entries.Entry.TheVariants.{Putting, Refused, Accepted, Granted, Looked, Fetched, Done, Exhausted}
use Rattle.bag_ledger.specs.declared.states.Placed.{Placed}
use Rattle.bag_ledger.specs.declared.states.Promise.{Promise}
use Rattle.bag_ledger.specs.declared.states.RankState.{RankState}
use Rattle.bag_ledger.specs.declared.states.UnitPlace.TheVariants.{Travelling}
use Rattle.bag_ledger.specs.Bag.{Bag, unit_of, promise_of, is_travelling, is_asking, is_asking_or_finished, has_fit}
use Rattle.bag_ledger.specs.Steps.{Is, Stands}

-- the entry puts the unit, accepts it, grants it, or gives its own bytes
abbrev pub puts : UnitId → Entry → Bool
puts id (Putting rank call kind prio target answer body) = same_unit (record { rank = rank; number = call }) id
puts id _ = false

-- a server accepts the unit
abbrev pub accepts : UnitId → Entry → Bool
accepts id (Accepted server accepted) = same_unit accepted id
accepts id _ = false

-- a server grants the unit
abbrev pub grants : UnitId → Entry → Bool
grants id (Granted server rank call granted) = same_unit granted id
grants id _ = false

-- a server hands the unit over
abbrev pub fetches : UnitId → Entry → Bool
fetches id (Fetched server rank fetched) = same_unit fetched id
fetches id _ = false

-- by the entry this server refuses what the rank brings in this call, or looks in vain for what it wants
abbrev pub refuses : Server → Rank → ℕ → Entry → Bool
refuses server rank call (Refused by id used) = (by.0 == server.0) && same_unit id (record { rank = rank; number = call })
refuses server rank call _ = false

-- the server looks for the rank's call in vain
abbrev pub looks : Server → Rank → ℕ → Entry → Bool
looks server rank call (Looked by for pending) = (by.0 == server.0) && (for.0 == rank.0) && (pending == call)
looks server rank call _ = false

-- the entry brings this end about
abbrev pub causes : End → Entry → Bool
causes ends_by.NoMoreWork (Done rank call) = true
causes ends_by.Exhausted Exhausted = true
causes end _ = false

-- each rank asks or has finished, some rank asks, no promise stands, no unit travels, and no rank that asks has a fit
abbrev pub IsSettled : Bag → Type 0
IsSettled b =
    ((rank : Rank) (r : RankState) → Is b rank r → IsTrue (is_asking_or_finished r.status))
    × ((rank : Rank) × (r : RankState) × Is b rank r × IsTrue (is_asking r.status))
    × (b.promises ≡ []) × IsFalse (list_any (λ u. is_travelling u.place) b.units)
    × ((rank : Rank) (r : RankState) → Is b rank r → IsFalse (has_fit b.units rank r.status))

-- each promise is of a unit of that length, and each unit that travels is promised where it goes
pub record IsTracked (b : Bag) : Type 0 where
  pub measured : (id : UnitId) (p : Promise) → promise_of b id ≡ Some p → (u : Placed) × (unit_of b id ≡ Some u)
      × (length u.unit.body ≡ p.length)
  pub promised : (id : UnitId) (u : Placed) (to : Server) → Stands b id u (Travelling to) → (p : Promise) × (promise_of b id ≡ Some p)
      × (p.server ≡ to)
