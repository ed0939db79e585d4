-- The units that rules look up.
use Rattle.std.proofs.Common.{◌≡◌, Bool, true, false, List, find, Option, None, Some, IsSome, refl, ap, Contains}
use Rattle.std.specs.Prelude.{is_some}
use Rattle.std.proofs.lemmas.Bool.{false_from_ne_true}
use Rattle.adlb_unit.specs.Ids.{same_unit}
use Rattle.adlb_unit.specs.declared.names.Rank.{Rank}
use Rattle.adlb_unit.specs.declared.names.UnitId.{UnitId}
use Rattle.work_queue.specs.Best.{best_of}
use Rattle.work_queue.specs.Queue.{HasFree, HasPinned, HasUnit, id_of}
use Rattle.work_queue.specs.declared.placing.Placed.{Placed}
use Rattle.work_queue.proofs.Lists.{free_from_best}
use Rattle.work_queue.proofs.Named.{find_listed}
use Rattle.work_queue.proofs.Searched.{find_first}
use Rattle.work_queue.proofs.Walks.{best_walk}
use Rattle.server_components.specs.Grants.{unit_with}
use Rattle.server_law.specs.Finding.{best_for, is_free_as, is_pinned_as}
use Rattle.server_components.specs.declared.wishes.Wish.{Wish}
use Rattle.server_law.specs.State.{Kept}
use Rattle.server_law.proofs.Tests.{find_says, free_says, is_free_says, is_pinned_says, pinned_says, unit_says}

-- an option that is not empty has a value
pub some_there : {X : Type 0} (o : Option X) → IsSome o → (x : X) × (o ≡ Some x)
some_there None some = absurd (cc)
some_there (Some x) some = (x, refl)

none_where : {X : Type 0} (o : Option X) → is_some o ≡ false → o ≡ None
none_where None none = refl
none_where (Some x) none = absurd (cc)

-- By their ids.

-- the unit of this id
pub record IsUnit (id : UnitId) (units : List Placed) (p : Placed) : Type 0 where
  pub found : unit_with id units ≡ Some p
  pub is : id_of p ≡ id
  pub there : Contains units p

-- a unit that is found has this id and is in the list
pub unit_is : (id : UnitId) (units : List Placed) (p : Placed) → unit_with id units ≡ Some p → IsUnit id units p
unit_is id units p found =
    let listed = find_listed id_of units p id found in
    record { found = found; is = listed.1; there = listed.0 }

-- if there is a unit of this id, it is found
pub unit_there : (id : UnitId) (units : List Placed) → HasUnit id units → (p : Placed) × IsUnit id units p
unit_there id units has =
    let says = find_says (λ p. same_unit (id_of p) id) (λ p. id_of p ≡ id) (λ p. unit_says (id_of p) id) units in
    let found = some_there (unit_with id units) (says.1 has) in
    (found.0, unit_is id units found.0 found.1)

-- The best.

-- where the queue has a best unit for the wish, it is found
pub best_there : (k : Kept) (wish : Wish) (id : UnitId) → best_of wish.rank wish.types k.queue.units ≡ Some id
    → (p : Placed) × (best_for k wish ≡ Some p) × IsUnit id k.queue.units p
best_there k wish id best =
    let free = free_from_best wish.rank wish.types k.queue.units id ((best_walk wish.rank wish.types k.queue.units id).0 best) in
    let p = unit_there id k.queue.units (free.0, free.1, free.2, free.3, free.4.0) in
    (p.0, rw (best, p.1.found) refl, p.1)

-- something is found for the wish where the queue has a best unit for it
pub best_says : (k : Kept) (wish : Wish) → is_some (best_for k wish) ≡ is_some (best_of wish.rank wish.types k.queue.units)
best_says k wish = by_best (best_of wish.rank wish.types k.queue.units) refl
  where
    by_best : (o : Option UnitId) → best_of wish.rank wish.types k.queue.units ≡ o → is_some (best_for k wish) ≡ is_some o
    by_best None best = rw best refl
    by_best (Some id) best = let p = best_there k wish id best in ap (λ (q : Option Placed). is_some q) p.1

-- Free and pinned units.

-- a test that asks for the id finds the unit in the list
stands : (test : Placed → Bool) (units : List Placed) (p : Placed) → find test units ≡ Some p → (test p ≡ true) × Contains units p
stands test units p found = let first = find_first test units p found in (first.passes, (first.place, first.within, first.read))

-- a unit that is found pinned to a rank has this id and this pin, and is in the list
pub pinned_is : (id : UnitId) (rank : Rank) (units : List Placed) (p : Placed) → find (is_pinned_as id rank) units ≡ Some p
    → (id_of p ≡ id) × (p.pin ≡ Some rank) × Contains units p
pinned_is id rank units p found =
    let at = stands (is_pinned_as id rank) units p found in
    let is = (is_pinned_says id rank p).0 at.0 in
    (is.0, is.1, at.1)

-- if there is a unit of this id pinned to the rank, it is found
pub pinned_there : (id : UnitId) (rank : Rank) (units : List Placed) → HasPinned id rank units
    → (p : Placed) × (find (is_pinned_as id rank) units ≡ Some p)
pinned_there id rank units has = some_there (find (is_pinned_as id rank) units) ((pinned_says id rank units).1 has)

-- a free unit that is found has this id and is in the list
pub free_is : (id : UnitId) (units : List Placed) (p : Placed) → find (is_free_as id) units ≡ Some p
    → (id_of p ≡ id) × (p.pin ≡ None) × Contains units p
free_is id units p found =
    let at = stands (is_free_as id) units p found in
    let is = (is_free_says id p).0 at.0 in
    (is.0, is.1, at.1)

-- if there is a free unit of this id, it is found
pub free_there : (id : UnitId) (units : List Placed) → HasFree id units → (p : Placed) × (find (is_free_as id) units ≡ Some p)
free_there id units has = some_there (find (is_free_as id) units) ((free_says id units).1 has)

-- if there is no free unit of this id, nothing is found
pub none_free : (id : UnitId) (units : List Placed) → (HasFree id units → ⊥) → find (is_free_as id) units ≡ None
none_free id units none = none_where (find (is_free_as id) units) (false_from_ne_true _ (λ some. none ((free_says id units).0 some)))
