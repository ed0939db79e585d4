-- The bag: what it keeps, and what is read off it.
use Rattle.std.specs.Prelude.{ℕ, ◌+◌, ◌==◌, Bool, true, false, ◌&&◌, not, List, [], ◌∷◌, length, map, filter, find, replicate, sum_by}
use Rattle.std.specs.Prelude.{Option, Some, None, if◌then◌else◌, slice_get}
use Rattle.std.specs.List.{list_any, list_all, range_with_len}
use Rattle.adlb_unit.specs.declared.configs.Config.{Config}
use Rattle.adlb_unit.specs.declared.names.Rank.{Rank}
use Rattle.adlb_unit.specs.declared.names.Server.{Server}
use Rattle.adlb_unit.specs.declared.names.WorkType.{WorkType}
use Rattle.adlb_unit.specs.declared.names.UnitId.{UnitId}
use Rattle.adlb_unit.specs.declared.names.BatchId.{BatchId}
use Rattle.adlb_unit.specs.declared.notes.Info.{Info}
use Rattle.adlb_unit.specs.declared.units.Unit.{Unit}
use Rattle.adlb_unit.specs.Ids.{same_batch, same_unit}
use Rattle.adlb_unit.specs.Infos.{info_of_prios}
use Rattle.adlb_unit.specs.Permit.{permitted}
use Rattle.bag_ledger.specs.declared.states.RankState.{RankState}
use Rattle.bag_ledger.specs.declared.states.Placed.{Placed}
use Rattle.bag_ledger.specs.declared.states.Part.{Part}
use Rattle.bag_ledger.specs.declared.states.Promise.{Promise}
use Rattle.bag_ledger.specs.declared.states.UnitPlace.{UnitPlace}
use Rattle.bag_ledger.specs.declared.states.UnitPlace.TheVariants.{Free, Travelling, Pinned}
use Rattle.bag_ledger.specs.declared.states.Status.{Status}
use Rattle.bag_ledger.specs.declared.states.Status.TheVariants as does

-- the ranks by number, the accepted units in order, the common parts, the promises, whether the problem was called done and
-- whether exhaustion was found. The number of servers and the limit of each in bytes stay
pub record Bag : Type 0 where
  pub ranks : List RankState
  pub units : List Placed
  pub parts : List Part
  pub promises : List Promise
  pub done : Bool
  pub exhausted : Bool
  pub servers : ℕ
  pub limit : ℕ

-- a rank at the start
abbrev pub fresh : RankState
fresh = record { status = does.Running; declined = []; next = 0; batch = None; end = None }

-- the bag at the start, with this number of ranks and of servers, and this limit
abbrev pub empty : ℕ → ℕ → ℕ → Bag
empty ranks servers limit = record {
  ranks = replicate ranks fresh;
  units = [];
  parts = [];
  promises = [];
  done = false;
  exhausted = false;
  servers = servers;
  limit = limit;
}

-- the bag at the start of a run
abbrev pub start : Config → Bag
start config = empty config.ranks config.servers config.limit

-- Look-ups.

-- the state of the rank, if there is such a rank
abbrev pub rank_at : Bag → Rank → Option RankState
rank_at b rank = slice_get b.ranks rank.0

-- the accepted unit, the common part and the promise of this id, if there is one
abbrev pub unit_of : Bag → UnitId → Option Placed
unit_of b id = find (λ u. same_unit u.unit.id id) b.units

-- the part of a batch
abbrev pub part_of : Bag → BatchId → Option Part
part_of b batch = find (λ p. same_batch p.batch batch) b.parts

-- the promise for a unit
abbrev pub promise_of : Bag → UnitId → Option Promise
promise_of b id = find (λ p. same_unit p.id id) b.promises

-- Places.

-- free, at whatever server
abbrev pub is_free : UnitPlace → Bool
is_free (Free at) = true
is_free _ = false

-- free at the server
abbrev pub is_free_at : Server → UnitPlace → Bool
is_free_at server (Free at) = at.0 == server.0
is_free_at server _ = false

-- free or pinned at the server
abbrev pub is_placed_at : Server → UnitPlace → Bool
is_placed_at server (Free at) = at.0 == server.0
is_placed_at server (Pinned at rank) = at.0 == server.0
is_placed_at server _ = false

-- on the way to a server
abbrev pub is_travelling : UnitPlace → Bool
is_travelling (Travelling to) = true
is_travelling _ = false

-- Charge.

-- what one unit, one part and one promise add to the charge of the server
abbrev pub unit_charge : Server → Placed → ℕ
unit_charge server u = if is_placed_at server u.place then length u.unit.body else 0

-- what a part takes at a server
abbrev pub part_charge : Server → Part → ℕ
part_charge server p = if (p.server.0 == server.0) && not p.freed then length p.common else 0

-- what a promise takes at a server
abbrev pub promise_charge : Server → Promise → ℕ
promise_charge server p = if p.server.0 == server.0 then p.length else 0

-- the own bytes of the units free or pinned at the server, the bytes of the parts there that are not freed, and the bytes
-- promised there
abbrev pub charge : Bag → Server → ℕ
charge b server =
    sum_by (unit_charge server) b.units + sum_by (part_charge server) b.parts + sum_by (promise_charge server) b.promises

-- Pending calls.

-- the unit that the rank puts; the call in which it begins a batch, and the common part
abbrev pub putting : Status → Option Unit
putting (does.Putting unit) = Some unit
putting _ = None

-- the call and the common bytes of a rank that begins a batch
abbrev pub keeping : Status → Option (ℕ × List ℕ)
keeping (does.Keeping call common) = Some (call, common)
keeping _ = None

-- what the rank brings, by a put or a batch beginning: the number of the call, and the length
abbrev pub offer : Status → Option (ℕ × ℕ)
offer (does.Putting unit) = Some (unit.id.number, length unit.body)
offer (does.Keeping call common) = Some (call, length common)
offer _ = None

-- what the rank wants, by a reserve or a try: the number of the call, and the types
abbrev pub wish : Status → Option (ℕ × Option (List WorkType))
wish (does.Asking call types) = Some (call, types)
wish (does.Trying call types) = Some (call, types)
wish _ = None

-- the number of a call that an end may answer: one that brings or wants
abbrev pub open_call : Status → Option ℕ
open_call (does.Putting unit) = Some unit.id.number
open_call (does.Keeping call common) = Some call
open_call (does.Asking call types) = Some call
open_call (does.Trying call types) = Some call
open_call _ = None

-- the server declined the pending call: it refused what the rank brings, or looked in vain
abbrev pub has_declined : RankState → Server → Bool
has_declined r server = list_any (λ s. s.0 == server.0) r.declined

-- each server declined the rank's pending call
abbrev pub all_declined : Bag → RankState → Bool
all_declined b r = list_all (λ k. list_any (λ s. s.0 == k) r.declined) (range_with_len 0 b.servers)

-- What is due, and what is settled.

-- a closed part is due once it was fetched as often as units of its batch were accepted
abbrev pub is_due : Part → Bool
is_due p = p.closed && not p.freed && (p.fetched == p.accepted)

-- some part is due
abbrev pub has_due : Bag → Bool
has_due b = list_any is_due b.parts

-- a unit free at the server is permitted to the rank with these types
abbrev pub has_fit_at : Bag → Server → Rank → Option (List WorkType) → Bool
has_fit_at b server rank types =
    list_any (λ u. is_free_at server u.place && permitted rank types u.unit.kind u.unit.target) b.units

-- the rank asks; it asks or has finished
abbrev pub is_asking : Status → Bool
is_asking (does.Asking call types) = true
is_asking _ = false

-- the rank asks for a unit, or has finished
abbrev pub is_asking_or_finished : Status → Bool
is_asking_or_finished (does.Asking call types) = true
is_asking_or_finished does.Finished = true
is_asking_or_finished _ = false

-- the rank asks, and a unit free at any server is permitted to it
abbrev pub has_fit : List Placed → Rank → Status → Bool
has_fit units rank (does.Asking call types) =
    list_any (λ u. is_free u.place && permitted rank types u.unit.kind u.unit.target) units
has_fit units rank _ = false

-- no rank of this list, whose first has this number, has a fit
abbrev pub none_fits : List Placed → ℕ → List RankState → Bool
none_fits units number [] = true
none_fits units number (r ∷ rs) =
    not (has_fit units (record { 0 = number }) r.status) && none_fits units (number + 1) rs

-- each rank asks or has finished, some rank asks, no promise stands, no unit travels, and no free unit is permitted to a rank
-- that asks
abbrev pub settled : Bag → Bool
settled b =
    list_all (λ r. is_asking_or_finished r.status) b.ranks && list_any (λ r. is_asking r.status) b.ranks
    && (length b.promises == 0) && not (list_any (λ u. is_travelling u.place) b.units) && none_fits b.units 0 b.ranks

-- What is counted.

-- the units of the type that are free at the server
abbrev pub free_of_kind : Bag → Server → WorkType → List Placed
free_of_kind b server kind = filter (λ u. is_free_at server u.place && (u.unit.kind.0 == kind.0)) b.units

-- what a count of the type at the server tells
abbrev pub info_of : Bag → Server → WorkType → Info
info_of b server kind = info_of_prios (map (λ u. u.unit.prio) (free_of_kind b server kind))
