-- What a step leaves of the units and the promises that look-ups find.
use Rattle.std.proofs.Common.{◌≡◌, ◌⊎◌, inl, inr, Bool, true, false, Some, None, refl, sym, ◌∙◌}
use Rattle.adlb_unit.specs.declared.names.UnitId.{UnitId}
use Rattle.adlb_unit.specs.Ids.{same_unit}
use Rattle.adlb_unit.proofs.Same.{same_unit_is}
use Rattle.bag_ledger.specs.declared.states.Placed.{Placed}
use Rattle.bag_ledger.specs.declared.states.Promise.{Promise}
use Rattle.bag_ledger.specs.declared.states.UnitPlace.{UnitPlace}
use Rattle.bag_ledger.specs.Bag.{Bag, unit_of, promise_of}
use Rattle.bag_ledger.specs.Steps.{moved, unpromised}
use Rattle.bag_ledger.proofs.Tests.{some_is}
use Rattle.bag_ledger.proofs.Lookups.{find_changed, find_other, find_filtered, find_unfiltered}

-- an id that is the one is not the other
pub apart : (id other : UnitId) → same_unit id other ≡ false → (x : UnitId) → same_unit x id ≡ true → same_unit x other ≡ false
apart id other differ x is = rw (same_unit_is x id is) differ

-- a unit that is moved is found at its new place
pub moved_here : (b : Bag) (id : UnitId) (place : UnitPlace) (u : Placed) → unit_of b id ≡ Some u
    → unit_of (moved id place b) id ≡ Some (record u { place = place })
moved_here b id place u e = find_changed (λ u. record u { place = place }) (λ u. same_unit u.unit.id id) (λ u. refl) b.units u e

-- moving one unit leaves the others
pub moved_other : (b : Bag) (id other : UnitId) (place : UnitPlace) → same_unit id other ≡ false
    → unit_of (moved id place b) other ≡ unit_of b other
moved_other b id other place differ =
    find_other (λ u. record u { place = place }) (λ u. same_unit u.unit.id id) (λ u. same_unit u.unit.id other) (λ u. refl)
    (λ u is. apart id other differ u.unit.id is) b.units

-- a unit that was there is there, perhaps at another place
pub moved_keeps : (b : Bag) (id x : UnitId) (place : UnitPlace) (u : Placed) → unit_of b x ≡ Some u
    → (v : Placed) × (unit_of (moved id place b) x ≡ Some v) × (v.unit ≡ u.unit)
moved_keeps b id x place u there = by_test (same_unit id x) refl
  where
    by_test : (t : Bool) → same_unit id x ≡ t → (v : Placed) × (unit_of (moved id place b) x ≡ Some v) × (v.unit ≡ u.unit)
    by_test true is =
        let same : id ≡ x = same_unit_is id x is in
        let here = moved_here b x place u there in
        (record u { place = place }, rw same here, refl)
    by_test false is = (u, moved_other b id x place is ∙ there, refl)

-- a unit that is there is the moved one, or stood there before
pub moved_is : (b : Bag) (id x : UnitId) (place : UnitPlace) (u v : Placed) → unit_of b id ≡ Some u → unit_of (moved id place b) x ≡ Some v
    → ((x ≡ id) × (v ≡ record u { place = place })) ⊎ ((same_unit id x ≡ false) × (unit_of b x ≡ Some v))
moved_is b id x place u v there now = by_test (same_unit id x) refl
  where
    by_test : (t : Bool) → same_unit id x ≡ t → ((x ≡ id) × (v ≡ record u { place = place }))
        ⊎ ((same_unit id x ≡ false) × (unit_of b x ≡ Some v))
    by_test true is =
        let same : x ≡ id = sym (same_unit_is id x is) in
        let found : unit_of (moved id place b) id ≡ Some v = rw same at now in
        inl (same, sym (some_is (sym (moved_here b id place u there) ∙ found)))
    by_test false is = inr (is, sym (moved_other b id x place is) ∙ now)

-- taking one unit's promise away leaves those of the others
pub unpromised_other : (b : Bag) (id x : UnitId) → same_unit id x ≡ false → promise_of (unpromised id b) x ≡ promise_of b x
unpromised_other b id x differ =
    find_unfiltered (λ p. same_unit p.id id) (λ p. same_unit p.id x) (λ p is. apart id x differ p.id is) b.promises

-- a promise that is left stood before, and is of another unit
pub unpromised_is : (b : Bag) (id x : UnitId) (p : Promise) → promise_of (unpromised id b) x ≡ Some p → promise_of b x ≡ Some p
unpromised_is b id x p now = by_test (same_unit id x) refl
  where
    by_test : (t : Bool) → same_unit id x ≡ t → promise_of b x ≡ Some p
    by_test true is =
        let same : x ≡ id = sym (same_unit_is id x is) in
        let found : promise_of (unpromised id b) id ≡ Some p = rw same at now in
        let none : promise_of (unpromised id b) id ≡ None = find_filtered (λ (p : Promise). same_unit p.id id) b.promises in
        absurd (cc)
    by_test false is = sym (unpromised_other b id x is) ∙ now
