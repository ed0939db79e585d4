-- Promises in slots.
use Rattle.std.specs.Prelude.{ℕ, ◌≡◌, ◌≤◌, Bool, false, List, [], ◌∷◌, count_by, position, Option, Some, None}
use Rattle.adlb_unit.specs.Ids.{same_unit}
use Rattle.adlb_unit.specs.declared.names.UnitId.{UnitId}
use Rattle.bag_ledger.specs.declared.states.Promise.{Promise}
use Rattle.bag_ledger.specs.Bag.{promise_charge}
use Rattle.bag_tables.specs.declared.places.Places.{Places}
use Rattle.bag_tables.specs.declared.charges.Charges.{Charges}
use Rattle.bag_tables.specs.Places.{place_at}
use Rattle.bag_tables.specs.Charges.{IsSummed}

-- the promises that stand in the slots
abbrev pub standing : List (Option Promise) → List Promise
standing [] = []
standing (None ∷ slots) = standing slots
standing (Some p ∷ slots) = p ∷ standing slots

-- the slot has the promise of the unit
abbrev pub is_promised : UnitId → Option Promise → Bool
is_promised id None = false
is_promised id (Some p) = same_unit p.id id

-- what a slot charges to the server of this number
abbrev pub slot_weight : ℕ → Option Promise → ℕ
slot_weight k None = 0
slot_weight k (Some p) = promise_charge (record { 0 = k }) p

-- the bytes that a slot promises
abbrev pub slot_size : Option Promise → ℕ
slot_size None = 0
slot_size (Some p) = p.length

-- of these slots the places give the first of each unit, no unit has two promises, and the charges are the sums
pub record PromisesAreKept (places : Places) (charges : Charges) (slots : List (Option Promise)) : Type 0 where
  pub placed : (id : UnitId) → place_at places id.rank.0 id.number ≡ position (is_promised id) slots
  pub alone : (id : UnitId) → count_by (λ p. same_unit p.id id) (standing slots) ≤ 1
  pub charged : IsSummed slot_weight slot_size charges slots
