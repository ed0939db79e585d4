-- Units that are kept stay so.
use Rattle.std.proofs.Common.{◌≡◌, ◌∙◌, sym, ◌==◌, ◌&&◌, ℕ, ◌+◌, ◌<◌, ◌≤◌, ◌^◌, List, [], ◌∷◌, ◌++◌, length, slice_index_or, Some, None}
use Rattle.std.proofs.Common.{refl, arith}
use Rattle.std.specs.Prelude.{if◌then◌else◌, position, Result, Ok, Err, OnOk, OnErr}
use Rattle.std.specs.Option.{option_or}
use Rattle.adlb_unit.specs.Ids.{same_unit}
use Rattle.adlb_unit.specs.declared.names.Server.{Server}
use Rattle.adlb_unit.specs.declared.names.UnitId.{UnitId}
use Rattle.adlb_unit.specs.declared.units.Unit.{Unit}
use Rattle.bag_ledger.specs.declared.states.Placed.{Placed}
use Rattle.bag_ledger.specs.declared.states.UnitPlace.{UnitPlace}
use Rattle.bag_ledger.specs.declared.states.UnitPlace.TheVariants.{Free, Travelling, Pinned, Spent}
use Rattle.bag_ledger.specs.Steps.{change_at}
use Rattle.bag_tables.specs.declared.places.Places.{Places}
use Rattle.bag_tables.specs.declared.charges.Charges.{Charges}
use Rattle.bag_tables.specs.declared.counts.FreeCounts.{FreeCounts}
use Rattle.bag_tables.specs.Places.{place_at}
use Rattle.bag_tables.specs.Charges.{IsSummed, charged_at, bytes_at}
use Rattle.bag_tables.specs.Keys.{by_shelf, by_target, by_kind, by_prio, shelf_of, target_of, kind_of, prio_of, free_key, free_server}
use Rattle.bag_tables.specs.Counted.{AreHeld, AreShifted, AreTight, HaveRoom, IsCounted}
use Rattle.bag_tables.specs.Keeping.{UnitsAreKept, held_at, unit_weight, unit_size}
use Rattle.bag_tables.proofs.Tallying.{tally_change, tally_fits, tally_holds, tally_push, tally_same}
use Rattle.bag_tables.proofs.Placing.{position_push, position_changed}
use Rattle.bag_tables.proofs.Summing.{summed_none, summed_push, summed_change, summed_holds, summed_fits, bytes_low}

-- what a unit weighs on a server is its bytes where it is held
pub weight_is : (k : ℕ) (u : Placed) → unit_weight k u ≡ bytes_at (held_at u.place) k (length u.unit.body)
weight_is k u = by_place u.place refl
  where
    by_place : (place : UnitPlace) → u.place ≡ place → unit_weight k u ≡ bytes_at (held_at u.place) k (length u.unit.body)
    by_place (Free server) is = rw is refl
    by_place (Travelling server) is = rw is refl
    by_place (Pinned server rank) is = rw is refl
    by_place Spent is = rw is refl

-- a unit weighs at most its bytes
pub weight_low : (k : ℕ) (u : Placed) → unit_weight k u ≤ unit_size u
weight_low k u = omega (arith, weight_is k u, bytes_low (held_at u.place) k (length u.unit.body))

-- at the start no unit is kept
pub units_none : (places : Places) (charges : Charges) (free : FreeCounts) → ((r n : ℕ) → place_at places r n ≡ None)
    → ((k : ℕ) → charged_at charges k ≡ 0) → IsCounted free [] → UnitsAreKept places charges free []
units_none places charges free no_place no_charge no_count = record {
  placed = λ id. no_place id.rank.0 id.number;
  charged = summed_none unit_weight unit_size charges no_charge;
  counted = no_count;
}

-- counts that do not change, and those of a unit more
pub counted_same : (free same : FreeCounts) (units : List Placed) (unit : Unit) → IsCounted free units → AreShifted free same None None unit
    → IsCounted same units
counted_same free same units unit is kept = record {
  shelves = tally_same by_shelf (free_key shelf_of) free.shelves same.shelves units is.shelves kept.shelves;
  targets = tally_same by_target (free_key target_of) free.targets same.targets units is.targets kept.targets;
  kinds = tally_same by_kind (free_key kind_of) free.kinds same.kinds units is.kinds kept.kinds;
  prios = tally_same by_prio (free_key prio_of) free.prios same.prios units is.prios kept.prios;
}

counted_more : (free more : FreeCounts) (units : List Placed) (unit : Unit) (server : Server) → IsCounted free units
    → AreShifted free more None (Some server) unit → IsCounted more (units ++ record { unit = unit; place = Free server } ∷ [])
counted_more free more units unit server is raised =
    let u : Placed = record { unit = unit; place = Free server } in
    record {
      shelves = tally_push by_shelf (free_key shelf_of) free.shelves more.shelves units u is.shelves raised.shelves;
      targets = tally_push by_target (free_key target_of) free.targets more.targets units u is.targets raised.targets;
      kinds = tally_push by_kind (free_key kind_of) free.kinds more.kinds units u is.kinds raised.kinds;
      prios = tally_push by_prio (free_key prio_of) free.prios more.prios units u is.prios raised.prios;
    }

-- units are kept with one unit more
pub units_added : (places noted : Places) (charges raised : Charges) (free more : FreeCounts) (units : List Placed) (unit : Unit)
    (server : Server) (at n : ℕ) → UnitsAreKept places charges free units → at ≡ length units → n ≡ length unit.body → n < 2 ^ 64
    → ((r m : ℕ) → place_at noted r m ≡ option_or (place_at places r m)
    (if (unit.id.rank.0 == r) && (unit.id.number == m) then Some at else None))
    → ((k : ℕ) → k < 8 → charged_at raised k + bytes_at None k n ≡ charged_at charges k + bytes_at (Some server) k n)
    → AreShifted free more None (Some server) unit
    → UnitsAreKept noted raised more (units ++ record { unit = unit; place = Free server } ∷ [])
units_added places noted charges raised free more units unit server at n kept last long short notes raises counts =
    let u : Placed = record { unit = unit; place = Free server } in
    record {
      placed = λ id. notes id.rank.0 id.number ∙ rw (kept.placed id, last) (sym (position_push (λ v. same_unit v.unit.id id) units u));
      charged = summed_push unit_weight unit_size charges raised units u kept.charged (rw (← long) short)
          (λ k within. rw (← long) (let e = raises k within in omega (arith, e)));
      counted = counted_more free more units unit server kept.counted counts;
    }

-- a unit that moves
abbrev pub to_place : UnitPlace → Placed → Placed
to_place place u = record u { place = place }

-- charges are sums of units after one of them moves
pub charge_moved : (charges shifted : Charges) (units : List Placed) (at : ℕ) (u : Placed) (place : UnitPlace) (n : ℕ)
    → IsSummed unit_weight unit_size charges units → at < length units → slice_index_or units at u ≡ u → n ≡ length u.unit.body
    → ((k : ℕ) → k < 8 → charged_at shifted k + bytes_at (held_at u.place) k n ≡ charged_at charges k + bytes_at (held_at place) k n)
    → IsSummed unit_weight unit_size shifted (change_at (to_place place) at units)
charge_moved charges shifted units at u place n is inside here long shifts =
    summed_change unit_weight unit_size (to_place place) charges shifted units at u is inside (omega arith)
    (λ k within. rw here (rw (weight_is k u, weight_is k (to_place place u), ← long) (shifts k within)))

-- free counts are those of the units after one of them moves
pub count_moved : (free moved : FreeCounts) (units : List Placed) (at : ℕ) (u : Placed) (place : UnitPlace) → IsCounted free units
    → at < length units → slice_index_or units at u ≡ u → AreShifted free moved (free_server u.place) (free_server place) u.unit
    → IsCounted moved (change_at (to_place place) at units)
count_moved free moved units at u place is inside here shifts = record {
  shelves = tally_change by_shelf (free_key shelf_of) (to_place place) free.shelves moved.shelves units at u is.shelves inside here
      shifts.shelves;
  targets = tally_change by_target (free_key target_of) (to_place place) free.targets moved.targets units at u is.targets inside here
      shifts.targets;
  kinds = tally_change by_kind (free_key kind_of) (to_place place) free.kinds moved.kinds units at u is.kinds inside here shifts.kinds;
  prios = tally_change by_prio (free_key prio_of) (to_place place) free.prios moved.prios units at u is.prios inside here shifts.prios;
}

-- the server that holds a unit is charged at least its bytes
pub charge_holds : (charges : Charges) (units : List Placed) (at : ℕ) (u : Placed) (n : ℕ) → IsSummed unit_weight unit_size charges units
    → at < length units → slice_index_or units at u ≡ u → n ≡ length u.unit.body → (k : ℕ) → k < 8
    → bytes_at (held_at u.place) k n ≤ charged_at charges k
charge_holds charges units at u n is inside here long k within =
    let held = rw here at (summed_holds unit_weight unit_size charges units at u is inside k within) in
    rw (long, ← weight_is k u) held

-- a charge has room for `n` bytes more
pub charge_fits : (charges : Charges) (units : List Placed) (n : ℕ) → IsSummed unit_weight unit_size charges units → length units < 2 ^ 64
    → n < 2 ^ 64 → (k : ℕ) → k < 8 → charged_at charges k + n < 2 ^ 128
charge_fits charges units n is few short = summed_fits unit_weight unit_size charges units n is weight_low few short

-- free counts have no key that counts nothing
pub count_tight : (free : FreeCounts) (units : List Placed) → IsCounted free units → AreTight free
count_tight free units is =
    record { shelves = is.shelves.tight; targets = is.targets.tight; kinds = is.kinds.tight; prios = is.prios.tight }

-- a free unit is among the counts
pub count_holds : (free : FreeCounts) (units : List Placed) (at : ℕ) (u : Placed) → IsCounted free units → at < length units
    → slice_index_or units at u ≡ u → AreHeld free (free_server u.place) u.unit
count_holds free units at u is inside here = record {
  shelves = tally_holds by_shelf (free_key shelf_of) free.shelves units at u is.shelves inside here;
  targets = tally_holds by_target (free_key target_of) free.targets units at u is.targets inside here;
  kinds = tally_holds by_kind (free_key kind_of) free.kinds units at u is.kinds inside here;
  prios = tally_holds by_prio (free_key prio_of) free.prios units at u is.prios inside here;
}

-- the counts have room for one unit more
pub count_fits : (free : FreeCounts) (units : List Placed) → IsCounted free units → length units < 2 ^ 63 → HaveRoom free
count_fits free units is few = record {
  shelves = tally_fits by_shelf (free_key shelf_of) free.shelves units is.shelves few;
  targets = tally_fits by_target (free_key target_of) free.targets units is.targets few;
  kinds = tally_fits by_kind (free_key kind_of) free.kinds units is.kinds few;
  prios = tally_fits by_prio (free_key prio_of) free.prios units is.prios few;
}

-- a unit that moves is found at the index where it was
pub placed_moved : (places : Places) (units : List Placed) (at : ℕ) (place : UnitPlace)
    → ((id : UnitId) → place_at places id.rank.0 id.number ≡ position (λ u. same_unit u.unit.id id) units) → (id : UnitId)
    → place_at places id.rank.0 id.number ≡ position (λ u. same_unit u.unit.id id) (change_at (to_place place) at units)
placed_moved places units at place placed id =
    placed id ∙ sym (position_changed (λ u. same_unit u.unit.id id) (to_place place) (λ u. refl) at units)

-- units are kept after one of them moves
pub units_moved : {T E : Type 0} (places : Places) (charges : Charges) (free : FreeCounts) (units new : List Placed) (at : ℕ)
    (place : UnitPlace) (result : Result T E)
    → ((id : UnitId) → place_at places id.rank.0 id.number ≡ position (λ u. same_unit u.unit.id id) units)
    → OnOk result (new ≡ change_at (to_place place) at units) → OnErr result (new ≡ units) → IsSummed unit_weight unit_size charges new
    → IsCounted free new → UnitsAreKept places charges free new
units_moved places charges free units new at place (Ok x) placed moved kept charged counted = record {
  placed = λ id. rw moved (placed_moved places units at place placed id);
  charged = charged;
  counted = counted;
}
units_moved places charges free units new at place (Err e) placed moved kept charged counted =
    record { placed = λ id. rw kept (placed id); charged = charged; counted = counted }
