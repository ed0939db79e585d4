-- Promises in their list.
use Rattle.std.proofs.Common.{◌≡◌, ◌≢◌, ◌<◌, ◌↔◌, ℕ, ◌+◌, List, length, get_or, true, Some, None, sym, ap, ◌∙◌, All, arith, sum_by}
use Rattle.std.specs.List.{remove, filter}
use Rattle.std.proofs.lemmas.List.Elements.{All-weaker, filter_passes}
use Rattle.std.proofs.lemmas.Bool.{both_ways, not-true}
use Rattle.std.proofs.lemmas.List.Edits.{length-remove}
use Rattle.std.proofs.lemmas.List.Sums.{sum_by-remove}
use Rattle.std.proofs.lemmas.Option.{none-some, same_Some}
use Rattle.adlb_unit.specs.declared.names.UnitId.{UnitId}
use Rattle.adlb_unit.specs.Ids.{same_unit}
use Rattle.adlb_unit.proofs.Same.{same_unit_from}
use Rattle.work_queue.proofs.Named.{only_one, remove_is}
use Rattle.work_queue.specs.Queue.{HasApartPromises, HasDistinctPromises, HasNoPromise, HasNoUnit, HasRoom, Promise, is_for_other, promised}
use Rattle.work_queue.specs.declared.placing.Placed.{Placed}

-- the id that a promise is for
abbrev pub promised_id : Promise → UnitId
promised_id p = p.id

-- the promise of an id is the one of this id
pub only_promise : (promises : List Promise) (k i : ℕ) (d r : Promise) → HasDistinctPromises promises → k < length promises
    → i < length promises → r ≡ get_or promises i r → (get_or promises k d).id ≡ r.id → get_or promises k d ≡ r
only_promise promises k i d r distinct within at read same = only_one promised_id promises k d r distinct (i, at, sym read) within same

-- the room of an id is the length of the promise that was found
pub room_found : (promises : List Promise) (i : ℕ) (r : Promise) (id : UnitId) → HasDistinctPromises promises → i < length promises
    → r ≡ get_or promises i r → r.id ≡ id → (n : ℕ) → (Some r.length ≡ Some n) ↔ HasRoom id n promises
room_found promises i r id distinct within read is n = (
  λ same. (i, r, within, sym read, (is, same_Some r.length n same)),
  λ has. let at : has.1 ≡ r = sym has.3 ∙ only_promise promises has.0 i has.1 r distinct has.2 within read
      (ap promised_id has.3 ∙ has.4.0 ∙ sym is) in ap (λ m. Some m) (sym (ap (λ (p : Promise). p.length) at) ∙ has.4.1),
)

-- an id without a promise has no room
pub room_missing : (promises : List Promise) (id : UnitId) → HasNoPromise id promises → (n : ℕ) → (None ≡ Some n) ↔ HasRoom id n promises
room_missing promises id none n =
    (λ some. absurd (none-some n some), λ has. absurd (none has.0 has.1 has.2 (ap promised_id has.3 ∙ has.4.0)))

-- the promise r at this place, of this id
module _ (promises : List Promise) (i : ℕ) (r : Promise) (id : UnitId) (distinct : HasDistinctPromises promises)
    (within : i < length promises) (read : r ≡ get_or promises i r) (is : r.id ≡ id) where
  -- a promise removed by its place is one filtered out by its id
  pub removed_is : remove promises i ≡ filter (is_for_other id) promises
  removed_is = remove_is promised_id promises i r id distinct within read is

  -- each promise for the id has the length that was found
  pub length_told : All (λ (p : Promise). p.id ≡ id → r.length ≡ p.length) promises
  length_told k d in_list same =
      sym (ap (λ (p : Promise). p.length) (only_promise promises k i d r distinct in_list within read (same ∙ sym is)))

  -- a removal leaves one promise less
  pub fewer_left : length (remove promises i) + 1 ≡ length promises
  fewer_left = length-remove promises i within

  -- the bytes promised are those of one promise and of the others
  pub less_left : sum_by promised promises ≡ r.length + sum_by promised (remove promises i)
  less_left =
      let total : sum_by promised (remove promises i) + (get_or promises i r).length ≡ sum_by promised promises =
      sum_by-remove promised promises i r within in
      let here : (get_or promises i r).length ≡ r.length = ap (λ (p : Promise). p.length) (sym read) in
      omega arith

-- what is said of the promise of an id is said of its room
pub room_told : (promises : List Promise) (id : UnitId) (n m : ℕ) → All (λ (p : Promise). p.id ≡ id → m ≡ p.length) promises
    → HasRoom id n promises → m ≡ n
room_told promises id n m told has =
    let at : get_or promises has.0 has.1 ≡ has.1 = has.3 in
    told has.0 has.1 has.2 (ap promised_id at ∙ has.4.0) ∙ ap (λ (p : Promise). p.length) at ∙ has.4.1

-- no unit has the id of a promise
pub room_apart : (units : List Placed) (promises : List Promise) (id : UnitId) (n : ℕ) → HasApartPromises units promises
    → HasRoom id n promises → HasNoUnit id units
room_apart units promises id n apart has k d within same = apart has.0 has.1 has.2 k d within (same ∙ sym (ap promised_id has.3 ∙ has.4.0))

-- no promise of the id is left
pub none_left : (id : UnitId) (promises : List Promise) → HasNoPromise id (filter (is_for_other id) promises)
none_left id promises =
    let T : Promise → Type 0 = λ p. is_for_other id p ≡ true in
    let D : Promise → Type 0 = λ p. p.id ≢ id in
    All-weaker T D (λ p test same. both_ways (same_unit p.id id) (not-true (same_unit p.id id) test) (same_unit_from p.id id same))
    (filter (is_for_other id) promises) (filter_passes (is_for_other id) promises)
