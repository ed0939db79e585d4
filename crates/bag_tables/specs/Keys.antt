-- The keys by which units are counted while they are free.
use Rattle.std.specs.Prelude.{ℕ, ℤ, Option, Some, None}
use Rattle.std.specs.Ordering.{nat_cmp, int_cmp, ordering_then}
use Rattle.std.specs.Option.{option_cmp, option_map}
use Rattle.std.specs.declared.cmp.Ordering.{Ordering}
use Rattle.std.specs.declared.cmp.Reverse.{Reverse}
use Rattle.adlb_unit.specs.declared.names.Server.{Server}
use Rattle.adlb_unit.specs.declared.names.Target.{Target}
use Rattle.adlb_unit.specs.declared.names.Target.TheVariants.{Any, Only, Soft}
use Rattle.adlb_unit.specs.declared.units.Unit.{Unit}
use Rattle.bag_ledger.specs.declared.states.Placed.{Placed}
use Rattle.bag_ledger.specs.declared.states.UnitPlace.{UnitPlace}
use Rattle.bag_ledger.specs.declared.states.UnitPlace.TheVariants.{Free}

-- the one rank that the target lets have the unit; none if each rank may
abbrev pub only_of : Target → Option ℕ
only_of Any = None
only_of (Only rank) = Some rank.0
only_of (Soft rank) = None

-- server, type and that rank; server and that rank; server and type; server, type and priority
abbrev pub shelf_of : Server → Unit → ℕ × ℕ × Option ℕ
shelf_of server unit = (server.0, unit.kind.0, only_of unit.target)

-- a free unit's key by its target
abbrev pub target_of : Server → Unit → ℕ × Option ℕ
target_of server unit = (server.0, only_of unit.target)

-- its key by its type
abbrev pub kind_of : Server → Unit → ℕ × ℕ
kind_of server unit = (server.0, unit.kind.0)

-- its key by its type and priority, the highest first
abbrev pub prio_of : Server → Unit → ℕ × ℕ × Option (Reverse ℤ)
prio_of server unit = (server.0, unit.kind.0, Some (record { 0 = unit.prio }))

-- their orders, by the parts from the left on, priorities from the highest on
abbrev pub by_shelf : ℕ × ℕ × Option ℕ → ℕ × ℕ × Option ℕ → Ordering
by_shelf a b = ordering_then (ordering_then (nat_cmp a.0 b.0) (nat_cmp a.1 b.1)) (option_cmp nat_cmp a.2 b.2)

-- the order of keys by target
abbrev pub by_target : ℕ × Option ℕ → ℕ × Option ℕ → Ordering
by_target a b = ordering_then (nat_cmp a.0 b.0) (option_cmp nat_cmp a.1 b.1)

-- the order of keys by type
abbrev pub by_kind : ℕ × ℕ → ℕ × ℕ → Ordering
by_kind a b = ordering_then (nat_cmp a.0 b.0) (nat_cmp a.1 b.1)

-- the order of keys by type and priority
abbrev pub by_prio : ℕ × ℕ × Option (Reverse ℤ) → ℕ × ℕ × Option (Reverse ℤ) → Ordering
by_prio a b = ordering_then (ordering_then (nat_cmp a.0 b.0) (nat_cmp a.1 b.1)) (option_cmp (λ x y. int_cmp y.0 x.0) a.2 b.2)

-- the server at which a unit at this place is free
abbrev pub free_server : UnitPlace → Option Server
free_server (Free server) = Some server
free_server _ = None

-- the key of a unit, while it is free
abbrev pub free_key : {K : Type 0} → (Server → Unit → K) → Placed → Option K
free_key key_of u = option_map (λ server. key_of server u.unit) (free_server u.place)
