-- The units that a server holds, as a unit of the bag comes, is moved, is pinned there, or is fetched from there.
use Rattle.std.proofs.Common.{◌≡◌, ◌+◌, ◌==◌, Bool, true, false, cond, List, [], ◌∷◌, ◌++◌, map, filter, find, sum_by, Option, Some, None}
use Rattle.std.proofs.Common.{refl, sym, ap, ◌∙◌, subst, arith}
use Rattle.std.specs.Prelude.{option_and_then}
use Rattle.std.specs.Option.{option_map, option_or}
use Rattle.std.proofs.lemmas.List.Folds.{find-append}
use Rattle.std.proofs.lemmas.List.Sums.{sum_by_push}
use Rattle.adlb_unit.specs.Ids.{same_unit}
use Rattle.adlb_unit.specs.declared.names.Rank.{Rank}
use Rattle.adlb_unit.specs.declared.names.Server.{Server}
use Rattle.adlb_unit.specs.declared.names.UnitId.{UnitId}
use Rattle.adlb_unit.specs.declared.units.Unit.{Unit}
use Rattle.adlb_unit.proofs.Same.{same_unit_from, same_unit_is}
use Rattle.bag_ledger.specs.Steps.{change_first}
use Rattle.bag_ledger.specs.declared.states.Placed.{Placed as Lodged}
use Rattle.bag_ledger.specs.declared.states.UnitPlace.{UnitPlace}
use Rattle.bag_ledger.specs.declared.states.UnitPlace.TheVariants.{Free, Pinned, Spent, Travelling}
use Rattle.bag_ledger.proofs.Lookups.{find_changed, find_filtered, find_other, find_unfiltered, sum_changed}
use Rattle.bag_ledger.proofs.Moves.{apart}
use Rattle.bag_ledger.proofs.Tests.{same_number, same_server_is, some_is}
use Rattle.bag_law.proofs.Turn.{found_passes}
use Rattle.work_queue.proofs.Ids.{distinct_pinned}
use Rattle.work_queue.proofs.Lists.{distinct_added, distinct_left, sum_by-others, sum_by-pinned}
use Rattle.work_queue.proofs.Named.{find_listed, find_nothing}
use Rattle.work_queue.specs.Queue.{HasDistinctIds, has_other_id, id_of, pinned_by}
use Rattle.work_queue.specs.declared.placing.Placed.{Placed}
use Rattle.server_law.specs.Agreement.{HoldsUnits, UnitWeight, of_id, pin_at, pinned_weight, slot_of, weight_at, weight_in}
use Rattle.server_components.specs.Grants.{unit_with}

-- What a unit in this place is at the server.

abbrev to_place : UnitPlace → Lodged → Lodged
to_place place u = record u { place = place }

-- a unit that is elsewhere is not one of the server's, and weighs nothing there
pub no_slot : (me : Server) (u : Lodged) → pin_at me u.place ≡ None → slot_of me u ≡ None
no_slot me u away = ap (λ o. option_map (λ (pin : Option Rank). record { unit = u.unit; pin = pin }) o) away

-- a unit that is elsewhere weighs nothing here
pub no_weight : (me : Server) (f : UnitWeight) (u : Lodged) → pin_at me u.place ≡ None → weight_at me f u ≡ 0
no_weight me f u away = ap (pinned_weight f u.unit) away

-- a unit that is there, with its pin
pub slot_there : (me : Server) (u : Lodged) (p : Placed) → u.unit ≡ p.unit → pin_at me u.place ≡ Some p.pin → slot_of me u ≡ Some p
slot_there me u p same pin =
    ap (λ o. option_map (λ (pin : Option Rank). record { unit = u.unit; pin = pin }) o) pin
    ∙ ap (λ (unit : Unit). Some (record { unit = unit; pin = p.pin })) same

-- a unit that is here weighs what the queue's unit weighs
pub weight_there : (me : Server) (f : UnitWeight) (u : Lodged) (p : Placed) → u.unit ≡ p.unit → pin_at me u.place ≡ Some p.pin
    → weight_at me f u ≡ weight_in f p
weight_there me f u p same pin =
    ap (pinned_weight f u.unit) pin ∙ ap (λ (unit : Unit). weight_in f (record { unit = unit; pin = p.pin })) same

-- a free unit here has no pin
pub free_here : (me : Server) → pin_at me (Free me) ≡ Some None
free_here me = ap (λ t. cond t (Some None) None) (same_number me.0)

-- a unit pinned here has its pin
pub pinned_here : (me : Server) (rank : Rank) → pin_at me (Pinned me rank) ≡ Some (Some rank)
pinned_here me rank = ap (λ t. cond t (Some (Some rank)) None) (same_number me.0)

-- of this id there is the same at the server as in the bag
abbrev pub IsSame : List Lodged → Server → List Placed → UnitId → Type 0
IsSame all me units id = unit_with id units ≡ option_and_then (slot_of me) (find (of_id id) all)

-- A unit comes.

-- what is last in both lists is found in both, or in neither
last_same : (me : Server) (u : Lodged) (slot : Option Placed) (t : Bool) → slot ≡ slot_of me u
    → cond t slot None ≡ option_and_then (slot_of me) (cond t (Some u) None)
last_same me u slot true same = same
last_same me u slot false same = refl

-- elsewhere
pub holds_beside : (all : List Lodged) (me : Server) (units : List Placed) (u : Lodged) → HoldsUnits all me units → pin_at me u.place ≡ None
    → HoldsUnits (all ++ u ∷ []) me units
holds_beside all me units u holds away = record {
  each = λ id. rw (find-append (of_id id) all (u ∷ [])) (by_found id (find (of_id id) all) (holds.each id));
  distinct = holds.distinct;
  weighs = λ f.
      let more = sum_by_push (weight_at me f) all u in
      let same = holds.weighs f in
      let none = no_weight me f u away in
      omega arith;
}
  where
    by_found : (id : UnitId) (o : Option Lodged) → unit_with id units ≡ option_and_then (slot_of me) o
        → unit_with id units ≡ option_and_then (slot_of me) (option_or o (cond (of_id id u) (Some u) None))
    by_found id (Some v) is = is
    by_found id None is = is ∙ by_test (of_id id u)
      where
        by_test : (t : Bool) → None ≡ option_and_then (slot_of me) (cond t (Some u) None)
        by_test true = sym (no_slot me u away)
        by_test false = refl

-- here
pub holds_added : (all : List Lodged) (me : Server) (units : List Placed) (unit : Unit) → HoldsUnits all me units
    → find (of_id unit.id) all ≡ None
    → HoldsUnits (all ++ record { unit = unit; place = Free me } ∷ []) me (units ++ record { unit = unit; pin = None } ∷ [])
holds_added all me units unit holds new = record {
  each = λ id.
      rw (find-append (λ q. same_unit (id_of q) id) units (p ∷ []), find-append (of_id id) all (u ∷ []), holds.each id)
      (by_found id (find (of_id id) all) refl);
  distinct = distinct_added units p holds.distinct (find_nothing id_of units unit.id absent);
  weighs = λ f.
      let before = holds.weighs f in
      let more = sum_by_push (weight_at me f) all u in
      let there = sum_by_push (weight_in f) units p in
      let same = weight_there me f u p refl (free_here me) in
      omega arith;
}
  where
    u : Lodged
    u = record { unit = unit; place = Free me }

    p : Placed
    p = record { unit = unit; pin = None }

    absent : unit_with unit.id units ≡ None
    absent = holds.each unit.id ∙ ap (λ o. option_and_then (slot_of me) o) new

    by_found : (id : UnitId) (o : Option Lodged) → find (of_id id) all ≡ o
        → option_or (option_and_then (slot_of me) o) (cond (same_unit unit.id id) (Some p) None)
        ≡ option_and_then (slot_of me) (option_or o (cond (same_unit unit.id id) (Some u) None))
    by_found id None found = by_test (same_unit unit.id id)
      where
        by_test : (t : Bool) → cond t (Some p) None ≡ option_and_then (slot_of me) (cond t (Some u) None)
        by_test true = sym (slot_there me u p refl (free_here me))
        by_test false = refl
    by_found id (Some v) found = by_test (same_unit unit.id id) refl (slot_of me v)
      where
        by_test : (t : Bool) → same_unit unit.id id ≡ t → (o : Option Placed) → option_or o (cond t (Some p) None) ≡ o
        by_test t is (Some q) = refl
        by_test false is None = refl
        by_test true is None =
            let none : find (of_id id) all ≡ None = ap (λ k. find (of_id k) all) (sym (same_unit_is unit.id id is)) ∙ new in
            absurd (cc)

-- A unit goes to another place.

-- what a server holds where one unit moves in bag and queue
pub holds_moved : (all : List Lodged) (me : Server) (units now : List Placed) (id : UnitId) (place : UnitPlace) (u : Lodged)
    → HoldsUnits all me units → find (of_id id) all ≡ Some u → unit_with id now ≡ slot_of me (record u { place = place })
    → ((other : UnitId) → same_unit id other ≡ false → unit_with other now ≡ unit_with other units) → HasDistinctIds now
    → ((f : UnitWeight) →
    sum_by (weight_in f) now + weight_at me f u ≡ sum_by (weight_in f) units + weight_at me f (record u { place = place }))
    → HoldsUnits (change_first (to_place place) (of_id id) all) me now
holds_moved all me units now id place u holds found here others distinct weighs = record {
  each = λ other. by_id other (same_unit id other) refl;
  distinct = distinct;
  weighs = λ f.
      let change = sum_changed (weight_at me f) (to_place place) (of_id id) all u found in
      let before = holds.weighs f in
      let other = weighs f in
      omega arith;
}
  where
    moved : List Lodged
    moved = change_first (to_place place) (of_id id) all

    by_id : (other : UnitId) (t : Bool) → same_unit id other ≡ t → IsSame moved me now other
    by_id other true is =
        let at : IsSame moved me now id = rw (find_changed (to_place place) (of_id id) (λ x. refl) all u found) here in
        subst (λ k. IsSame moved me now k) (same_unit_is id other is) at
    by_id other false differs =
        let stays : find (of_id other) moved ≡ find (of_id other) all =
        find_other (to_place place) (of_id id) (of_id other) (λ x. refl) (λ x is. apart id other differs x.unit.id is) all in
        rw (others other differs, stays) (holds.each other)

-- from one place elsewhere to another
pub holds_passing : (all : List Lodged) (me : Server) (units : List Placed) (id : UnitId) (place : UnitPlace) (u : Lodged)
    → HoldsUnits all me units → find (of_id id) all ≡ Some u → pin_at me u.place ≡ None → pin_at me place ≡ None
    → HoldsUnits (change_first (to_place place) (of_id id) all) me units
holds_passing all me units id place u holds found was is =
    let now : Lodged = record u { place = place } in
    let absent : unit_with id units ≡ None = holds.each id ∙ ap (λ o. option_and_then (slot_of me) o) found ∙ no_slot me u was in
    holds_moved all me units units id place u holds found (absent ∙ sym (no_slot me now is)) (λ other differs. refl) holds.distinct
    (λ f. let before = no_weight me f u was in let after = no_weight me f now is in omega arith)

-- from elsewhere to the server, where it is free
pub holds_arrived : (all : List Lodged) (me : Server) (units : List Placed) (u : Lodged) → HoldsUnits all me units
    → find (of_id u.unit.id) all ≡ Some u → pin_at me u.place ≡ None
    → HoldsUnits (change_first (to_place (Free me)) (of_id u.unit.id) all) me (units ++ record { unit = u.unit; pin = None } ∷ [])
holds_arrived all me units u holds found away =
    holds_moved all me units (units ++ p ∷ []) u.unit.id (Free me) u holds found here others
    (distinct_added units p holds.distinct (find_nothing id_of units u.unit.id absent))
    (λ f.
    let more = sum_by_push (weight_in f) units p in
    let was = no_weight me f u away in
    let will = weight_there me f (record u { place = Free me }) p refl (free_here me) in
    omega arith)
  where
    p : Placed
    p = record { unit = u.unit; pin = None }

    absent : unit_with u.unit.id units ≡ None
    absent = holds.each u.unit.id ∙ ap (λ o. option_and_then (slot_of me) o) found ∙ no_slot me u away

    here : unit_with u.unit.id (units ++ record { unit = u.unit; pin = None } ∷ []) ≡ slot_of me (record u { place = Free me })
    here =
        rw (find-append (λ q. same_unit (id_of q) u.unit.id) units (p ∷ []), absent, same_unit_from u.unit.id u.unit.id refl)
        (sym (slot_there me (record u { place = Free me }) (record { unit = u.unit; pin = None }) refl (free_here me)))

    alone : (o : Option Placed) → option_or o None ≡ o
    alone None = refl
    alone (Some q) = refl

    others : (other : UnitId) → same_unit u.unit.id other ≡ false
        → unit_with other (units ++ record { unit = u.unit; pin = None } ∷ []) ≡ unit_with other units
    others other differs = rw (find-append (λ q. same_unit (id_of q) other) units (p ∷ []), differs) (alone (unit_with other units))

-- A unit that is there.

-- the unit of this id in the bag is this one of the server
pub record IsLodged (all : List Lodged) (me : Server) (id : UnitId) (p : Placed) (u : Lodged) : Type 0 where
  pub found : find (of_id id) all ≡ Some u
  pub same : u.unit ≡ p.unit
  pub pin : pin_at me u.place ≡ Some p.pin

slot_is : (me : Server) (u : Lodged) (p : Placed) → slot_of me u ≡ Some p → (u.unit ≡ p.unit) × (pin_at me u.place ≡ Some p.pin)
slot_is me u p is = by_pin (pin_at me u.place) refl is
  where
    by_pin : (o : Option (Option Rank)) → pin_at me u.place ≡ o
        → option_map (λ (pin : Option Rank). record { unit = u.unit; pin = pin }) o ≡ Some p
        → (u.unit ≡ p.unit) × (pin_at me u.place ≡ Some p.pin)
    by_pin None at is = absurd (cc)
    by_pin (Some pin) at is =
        let same : record { unit = u.unit; pin = pin } ≡ p = some_is is in
        (ap (λ (q : Placed). q.unit) same, at ∙ ap (λ (q : Placed). Some q.pin) same)

-- a unit that the queue has is lodged at the server in the bag, with its pin
pub lodged : (all : List Lodged) (me : Server) (units : List Placed) (id : UnitId) (p : Placed) → HoldsUnits all me units
    → unit_with id units ≡ Some p → (u : Lodged) × IsLodged all me id p u
lodged all me units id p holds there = by_found (find (of_id id) all) refl (sym (holds.each id) ∙ there)
  where
    by_found : (o : Option Lodged) → find (of_id id) all ≡ o → option_and_then (slot_of me) o ≡ Some p
        → (u : Lodged) × IsLodged all me id p u
    by_found None found is = absurd (cc)
    by_found (Some u) found is = let parts = slot_is me u p is in (u, record { found = found; same = parts.0; pin = parts.1 })

-- where a unit that is there stands, by its pin
abbrev pub place_with : Server → Option Rank → UnitPlace
place_with me None = Free me
place_with me (Some rank) = Pinned me rank

-- the place of a unit that is free or pinned here
pub place_is : (me : Server) (pin : Option Rank) (place : UnitPlace) → pin_at me place ≡ Some pin → place ≡ place_with me pin
place_is me pin (Free at) is = by_test (at.0 == me.0) refl is
  where
    by_test : (t : Bool) → (at.0 == me.0) ≡ t → cond t (Some None) None ≡ Some pin → Free at ≡ place_with me pin
    by_test true same is = ap Free (same_server_is at me same) ∙ ap (place_with me) (some_is is)
    by_test false same is = absurd (cc)
place_is me pin (Pinned at rank) is = by_test (at.0 == me.0) refl is
  where
    by_test : (t : Bool) → (at.0 == me.0) ≡ t → cond t (Some (Some rank)) None ≡ Some pin → Pinned at rank ≡ place_with me pin
    by_test true same is = ap (λ server. Pinned server rank) (same_server_is at me same) ∙ ap (place_with me) (some_is is)
    by_test false same is = absurd (cc)
place_is me pin (Travelling to) is = absurd (cc)
place_is me pin Spent is = absurd (cc)

find_pinned : (id : UnitId) (rank : Rank) (other : UnitId) (units : List Placed)
    → unit_with other (map (pinned_by id rank) units) ≡ option_map (pinned_by id rank) (unit_with other units)
find_pinned id rank other [] = refl
find_pinned id rank other (q ∷ units) =
    by_test (find_pinned id rank other units) (same_unit (id_of q) id) refl (same_unit (id_of q) other) refl
  where
    by_test : unit_with other (map (pinned_by id rank) units) ≡ option_map (pinned_by id rank) (unit_with other units)
        → (t : Bool) → same_unit (id_of q) id ≡ t → (v : Bool) → same_unit (id_of q) other ≡ v
        → unit_with other (map (pinned_by id rank) (q ∷ units)) ≡ option_map (pinned_by id rank) (unit_with other (q ∷ units))
    by_test rest true is true at = rw (is, at, is) refl
    by_test rest true is false at = rw (is, at) rest
    by_test rest false is true at = rw (is, at, is) refl
    by_test rest false is false at = rw (is, at) rest

-- a pin of another id changes nothing of what is found
other_pinned : (id : UnitId) (rank : Rank) (other : UnitId) (units : List Placed) → same_unit id other ≡ false
    → unit_with other (map (pinned_by id rank) units) ≡ unit_with other units
other_pinned id rank other units differs = find_pinned id rank other units ∙ by_found (unit_with other units) refl
  where
    by_found : (o : Option Placed) → unit_with other units ≡ o → option_map (pinned_by id rank) o ≡ o
    by_found None found = refl
    by_found (Some q) found =
        by_test (same_unit (id_of q) id) refl (found_passes (λ p. same_unit (id_of p) other) units q found)
      where
        by_test : (t : Bool) → same_unit (id_of q) id ≡ t → same_unit (id_of q) other ≡ true
            → option_map (pinned_by id rank) (Some q) ≡ Some q
        by_test true is here = let none : same_unit (id_of q) other ≡ false = apart id other differs (id_of q) is in absurd (cc)
        by_test false is here = rw is refl

-- a unit that is free there is pinned there
pub holds_pinned : (all : List Lodged) (me : Server) (units : List Placed) (id : UnitId) (rank : Rank) (p : Placed) (u : Lodged)
    → HoldsUnits all me units → unit_with id units ≡ Some p → IsLodged all me id p u
    → HoldsUnits (change_first (to_place (Pinned me rank)) (of_id id) all) me (map (pinned_by id rank) units)
holds_pinned all me units id rank p u holds there is =
    let at = find_listed id_of units p id there in
    let now : Placed = record p { pin = Some rank } in
    let after : Lodged = record u { place = Pinned me rank } in
    let found : unit_with id (map (pinned_by id rank) units) ≡ Some now =
    find_pinned id rank id units ∙ ap (λ o. option_map (pinned_by id rank) o) there ∙ this_pinned in
    holds_moved all me units (map (pinned_by id rank) units) id (Pinned me rank) u holds is.found
    (found ∙ sym (slot_there me after now is.same (pinned_here me rank))) (λ other differs. other_pinned id rank other units differs)
    (distinct_pinned id rank units holds.distinct)
    (λ f.
    let before = sum_by-others units p id holds.distinct at.0 at.1 (weight_in f) in
    let more = sum_by-pinned units p id holds.distinct at.0 at.1 rank (weight_in f) in
    let was = weight_there me f u p is.same is.pin in
    let will = weight_there me f after now is.same (pinned_here me rank) in
    omega arith)
  where
    this_pinned : option_map (pinned_by id rank) (Some p) ≡ Some (record p { pin = Some rank })
    this_pinned = ap (λ t. Some (cond t (record p { pin = Some rank }) p)) (found_passes (λ q. same_unit (id_of q) id) units p there)

-- a unit that is there goes elsewhere
pub holds_taken : (all : List Lodged) (me : Server) (units : List Placed) (id : UnitId) (place : UnitPlace) (p : Placed) (u : Lodged)
    → HoldsUnits all me units → unit_with id units ≡ Some p → IsLodged all me id p u → pin_at me place ≡ None
    → HoldsUnits (change_first (to_place place) (of_id id) all) me (filter (has_other_id id) units)
holds_taken all me units id place p u holds there is away =
    let at = find_listed id_of units p id there in
    let after : Lodged = record u { place = place } in
    holds_moved all me units (filter (has_other_id id) units) id place u holds is.found
    (find_filtered (λ q. same_unit (id_of q) id) units ∙ sym (no_slot me after away))
    (λ other differs.
    find_unfiltered (λ q. same_unit (id_of q) id) (λ q. same_unit (id_of q) other) (λ q same. apart id other differs (id_of q) same) units)
    (distinct_left id units holds.distinct)
    (λ f.
    let before = sum_by-others units p id holds.distinct at.0 at.1 (weight_in f) in
    let was = weight_there me f u p is.same is.pin in
    let will = no_weight me f after away in
    omega arith)
