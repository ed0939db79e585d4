-- What the tables keep beside their lists.
use Rattle.std.specs.Prelude.{ℕ, ◌≡◌, List, length, count_by, position, Option, Some, None, if◌then◌else◌}
use Rattle.adlb_unit.specs.Ids.{same_unit, same_batch}
use Rattle.adlb_unit.specs.declared.names.Server.{Server}
use Rattle.adlb_unit.specs.declared.names.UnitId.{UnitId}
use Rattle.adlb_unit.specs.declared.names.BatchId.{BatchId}
use Rattle.bag_ledger.specs.declared.states.Placed.{Placed}
use Rattle.bag_ledger.specs.declared.states.Part.{Part}
use Rattle.bag_ledger.specs.declared.states.UnitPlace.{UnitPlace}
use Rattle.bag_ledger.specs.declared.states.UnitPlace.TheVariants.{Free, Pinned}
use Rattle.bag_ledger.specs.Bag.{unit_charge, part_charge, is_due}
use Rattle.bag_tables.specs.declared.places.Places.{Places}
use Rattle.bag_tables.specs.declared.charges.Charges.{Charges}
use Rattle.bag_tables.specs.declared.counts.FreeCounts.{FreeCounts}
use Rattle.bag_tables.specs.Places.{place_at}
use Rattle.bag_tables.specs.Charges.{IsSummed}
use Rattle.bag_tables.specs.Counted.{IsCounted}

-- the server that is charged with a unit at this place
abbrev pub held_at : UnitPlace → Option Server
held_at (Free server) = Some server
held_at (Pinned server rank) = Some server
held_at _ = None

-- the server that is charged with a common part
abbrev pub kept_at : Part → Option Server
kept_at p = if p.freed then None else Some p.server

-- what a unit charges to the server of this number
abbrev pub unit_weight : ℕ → Placed → ℕ
unit_weight k u = unit_charge (record { 0 = k }) u

-- the bytes of a unit
abbrev pub unit_size : Placed → ℕ
unit_size u = length u.unit.body

-- of these units the places give the first of each id, the charges are the sums, and the counts tell what is free
pub record UnitsAreKept (places : Places) (charges : Charges) (free : FreeCounts) (units : List Placed) : Type 0 where
  pub placed : (id : UnitId) → place_at places id.rank.0 id.number ≡ position (λ u. same_unit u.unit.id id) units
  pub charged : IsSummed unit_weight unit_size charges units
  pub counted : IsCounted free units

-- what a common part charges to the server of this number
abbrev pub part_weight : ℕ → Part → ℕ
part_weight k p = part_charge (record { 0 = k }) p

-- the bytes of a common part
abbrev pub part_size : Part → ℕ
part_size p = length p.common

-- of these common parts, of which `due` are due, the places give the first of each batch, and the charges are the sums
pub record PartsAreKept (places : Places) (charges : Charges) (due : ℕ) (parts : List Part) : Type 0 where
  pub placed : (batch : BatchId) → place_at places batch.rank.0 batch.number ≡ position (λ p. same_batch p.batch batch) parts
  pub charged : IsSummed part_weight part_size charges parts
  pub counted : due ≡ count_by is_due parts
