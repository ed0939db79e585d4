-- The unit that a search found.
use Rattle.std.proofs.Common.{inl, inr, ◌≡◌, ◌<◌, ◌≤◌, ℕ, List, length, get_or, None, Some, true, sym, ap, ◌∙◌, Contains, arith, find}
use Rattle.std.specs.List.{position_or_len, slice_get}
use Rattle.std.proofs.lemmas.Bool.{cases_lt}
use Rattle.std.proofs.lemmas.List.{get_or_default}
use Rattle.std.proofs.lemmas.List.Folds.{find_at}
use Rattle.std.proofs.lemmas.List.Sums.{passes_at_first}
use Rattle.std.proofs.lemmas.Option.{get_or_from_slice_get, slice_get-get_or, slice_get_past, slice_get_within}
use Rattle.std.proofs.lemmas.List.Elements.{All-contains, Contains-get_or}
use Rattle.adlb_unit.specs.declared.names.UnitId.{UnitId}
use Rattle.slab.specs.Slab.{get}
use Rattle.work_queue.proofs.Ids.{only_one}
use Rattle.adlb_unit.proofs.Same.{same_unit_is}
use Rattle.work_queue.proofs.Indexed.{IsEntryAt}
use Rattle.work_queue.proofs.Names.{place_within}
use Rattle.work_queue.proofs.Units.{length-units, unit_listed, unit_under}
use Rattle.work_queue.specs.inside.{IsSound}
use Rattle.work_queue.specs.Queue.{HasDistinctIds, HasUnit, IsSmall, id_of, is_unit}
use Rattle.work_queue.specs.inside.Names.{IsNamed}
use Rattle.work_queue.specs.inside.Units.{units_at}
use Rattle.work_queue.specs.declared.entries.Entry.{Entry}
use Rattle.work_queue.specs.declared.placing.Placed.{Placed}
use Rattle.work_queue.specs.declared.queues.WorkQueue.TheInside.{Inside}

-- the unit of this id is under the key at this place of the list of keys
pub record IsFound (w : Inside) (place key : ℕ) (p : Placed) (id : UnitId) : Type 0 where
  pub within : place < length w.order.items
  pub key_is : get_or w.order.items place 0 ≡ key
  pub found : get w.slots key ≡ Some p
  pub has_id : id_of p ≡ id

-- what the search by id answers for the units of the queue
pub placed : (w : Inside) (id : UnitId) (place : ℕ) → IsSound w
    → ((units : List Placed) → HasDistinctIds units → IsNamed units w.index.stamps.items w.names
    → length w.index.stamps.items ≡ length units → place ≡ position_or_len (is_unit id) units)
    → place ≡ position_or_len (is_unit id) (units_at w.slots w.order.items)
placed w id place sound tells = tells (units_at w.slots w.order.items) sound.distinct sound.named sound.indexed.long

-- the place of a unit that is there is within the order
pub place_in_order : (w : Inside) (id : UnitId) (place : ℕ) → IsSound w → HasUnit id (units_at w.slots w.order.items)
    → place ≡ position_or_len (is_unit id) (units_at w.slots w.order.items) → place < length w.order.items
place_in_order w id place sound has is =
    let inside = place_within (units_at w.slots w.order.items) id has in
    let long = length-units w.slots w.order.items sound.there in
    omega (arith, is, inside, long)

-- the unit that is there is found at its place and key
pub found_at : (w : Inside) (id : UnitId) (place key : ℕ) → IsSound w → HasUnit id (units_at w.slots w.order.items)
    → place ≡ position_or_len (is_unit id) (units_at w.slots w.order.items) → key ≡ get_or w.order.items place key
    → (p : Placed) × IsFound w place key p id
found_at w id place key sound has is read =
    let units = units_at w.slots w.order.items in
    let inside : place < length w.order.items = place_in_order w id place sound has is in
    let long = length-units w.slots w.order.items sound.there in
    let key_is : get_or w.order.items place 0 ≡ key = get_or_default w.order.items place 0 key inside ∙ sym read in
    let p = get_or units place has.1 in
    let at : slice_get units place ≡ Some p = slice_get-get_or units place has.1 (omega (arith, inside, long)) in
    let passes : is_unit id p ≡ true = rw (sym is) at (passes_at_first (is_unit id) units has.1 (place_within units id has)) in (
      p,
      record {
        within = inside;
        key_is = key_is;
        found = ap (λ k. get w.slots k) (sym key_is) ∙ sym (unit_under w.slots w.order.items sound.there place inside) ∙ at;
        has_id = same_unit_is (id_of p) id passes;
      },
    )

-- a place not within a length is past it
pub not_within : (place n : ℕ) → (place < n → ⊥) → n ≤ place
not_within place n past = elim (cases_lt place n) [ inl below ↦ absurd (past below) | inr beyond ↦ beyond ]

-- what is under the key at that place, and beyond the last
pub found_under : (w : Inside) (id : UnitId) (place key : ℕ) → IsSound w
    → place ≡ position_or_len (is_unit id) (units_at w.slots w.order.items) → place < length w.order.items
    → key ≡ get_or w.order.items place key → get w.slots key ≡ find (is_unit id) (units_at w.slots w.order.items)
found_under w id place key sound is within read =
    ap (λ k. get w.slots k) (read ∙ get_or_default w.order.items place key 0 within)
    ∙ sym (unit_under w.slots w.order.items sound.there place within)
    ∙ ap (λ n. slice_get (units_at w.slots w.order.items) n) is
    ∙ sym (find_at (is_unit id) (units_at w.slots w.order.items))

-- if the place is past the order, no unit has the id
pub found_past : (w : Inside) (id : UnitId) (place : ℕ) → IsSound w → place ≡ position_or_len (is_unit id) (units_at w.slots w.order.items)
    → (place < length w.order.items → ⊥) → None ≡ find (is_unit id) (units_at w.slots w.order.items)
found_past w id place sound is past =
    let long = length-units w.slots w.order.items sound.there in
    let beyond = not_within place (length w.order.items) past in
    sym (slice_get_past (units_at w.slots w.order.items) place (omega (arith, long, beyond)))
    ∙ ap (λ n. slice_get (units_at w.slots w.order.items) n) is
    ∙ sym (find_at (is_unit id) (units_at w.slots w.order.items))

-- there are as many stamps as units in order
pub as_long_as_order : (w : Inside) → IsSound w → length w.index.stamps.items ≡ length w.order.items
as_long_as_order w sound = sound.indexed.long ∙ length-units w.slots w.order.items sound.there

-- what is found by the stamp of an entry is its unit
pub leading_unit : (w : Inside) (e : Entry) (p : Placed) → (at : IsEntryAt (units_at w.slots w.order.items) w.index.stamps.items e)
    → ((place : ℕ) (q : Placed) → slice_get (units_at w.slots w.order.items) place ≡ Some q → get_or w.index.stamps.items place 0 ≡ e.stamp
    → p ≡ q) → p ≡ at.unit
leading_unit w e p at found = found at.place at.unit at.here (sym (ap (λ (x : Entry). x.stamp) at.is))

-- a unit of a sound queue is small
pub small_at : (w : Inside) (place : ℕ) (p : Placed) → IsSound w → slice_get (units_at w.slots w.order.items) place ≡ Some p → IsSmall p
small_at w place p sound at =
    let S : Placed → Type 0 = λ q. IsSmall q in
    let units = units_at w.slots w.order.items in
    All-contains S units p sound.small (place, slice_get_within units place p at, get_or_from_slice_get units place p p at)

module _ (w : Inside) (place key : ℕ) (p : Placed) (id : UnitId) (sound : IsSound w) (at : IsFound w place key p id) where
  listed : Contains (units_at w.slots w.order.items) p
  listed =
      let key_in : Contains w.order.items key = rw at.key_is at (Contains-get_or w.order.items place 0 at.within) in
      unit_listed w.slots w.order.items key p at.found key_in

  -- the unit that was found is small
  pub small_found : IsSmall p
  small_found =
      let P : Placed → Type 0 = λ q. IsSmall q in
      All-contains P (units_at w.slots w.order.items) p sound.small listed

  -- it is the only unit of this id
  pub only_found : (k : ℕ) (d : Placed) → k < length (units_at w.slots w.order.items)
      → id_of (get_or (units_at w.slots w.order.items) k d) ≡ id → get_or (units_at w.slots w.order.items) k d ≡ p
  only_found k d within same = only_one (units_at w.slots w.order.items) k d p sound.distinct listed within (same ∙ sym at.has_id)
