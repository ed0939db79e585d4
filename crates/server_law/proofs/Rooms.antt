-- Promised room, as a server promises it and as it comes to an end.
use Rattle.std.proofs.Common.{◌≡◌, ℕ, ◌+◌, ◌==◌, Bool, true, false, cond, not, List, [], ◌∷◌, ◌++◌, find, filter, sum_by, Option, Some}
use Rattle.std.proofs.Common.{None, refl, sym, ap, ◌∙◌, subst, arith}
use Rattle.std.specs.Prelude.{option_and_then}
use Rattle.std.specs.Option.{option_or}
use Rattle.std.proofs.lemmas.List.Folds.{find-append}
use Rattle.std.proofs.lemmas.List.Sums.{sum_by-cons}
use Rattle.adlb_unit.specs.Ids.{same_unit}
use Rattle.adlb_unit.specs.declared.names.Server.{Server}
use Rattle.adlb_unit.specs.declared.names.UnitId.{UnitId}
use Rattle.adlb_unit.proofs.Same.{same_unit_is}
use Rattle.bag_ledger.specs.Bag.{promise_charge}
use Rattle.bag_ledger.specs.declared.states.Promise.{Promise as Room}
use Rattle.bag_ledger.proofs.Lookups.{find_filtered, find_unfiltered}
use Rattle.bag_ledger.proofs.Moves.{apart}
use Rattle.bag_ledger.proofs.Tests.{same_number, same_server_is}
use Rattle.bag_law.specs.Counts.{if_so}
use Rattle.bag_law.specs.Sound.{PromisesAreSingle}
use Rattle.bag_law.proofs.Facts.{sum_single}
use Rattle.work_queue.specs.Queue.{HasDistinctPromises, Promise, is_for_other, promised}
use Rattle.work_queue.proofs.Named.{find_listed}
use Rattle.work_queue.proofs.Promises.{less_left, promised_id, removed_is}
use Rattle.server_law.specs.Agreement.{room_at, room_for}

-- the promise is of this unit
abbrev pub of_room : UnitId → Room → Bool
of_room id p = same_unit p.id id

-- the bag's promises at the server are the queue's
abbrev pub AreRooms : List Room → Server → List Promise → Type 0
AreRooms rooms me promises = (id : UnitId) → room_for id promises ≡ option_and_then (room_at me) (find (of_room id) rooms)

-- Room is promised.

-- promises where one comes
pub rooms_added : (rooms : List Room) (me : Server) (promises : List Promise) (id : UnitId) (n : ℕ) → AreRooms rooms me promises
    → find (of_room id) rooms ≡ None
    → AreRooms (rooms ++ record { server = me; id = id; length = n } ∷ []) me (promises ++ record { id = id; length = n } ∷ [])
rooms_added rooms me promises id n are none other =
    rw (find-append (λ (p : Promise). same_unit p.id other) promises (new ∷ []), find-append (of_room other) rooms (room ∷ []), are other)
    (by_found (find (of_room other) rooms) refl (same_unit id other) refl)
  where
    new : Promise
    new = record { id = id; length = n }

    room : Room
    room = record { server = me; id = id; length = n }

    mine : room_at me (record { server = me; id = id; length = n }) ≡ Some (record { id = id; length = n })
    mine = rw (same_number me.0) refl

    alone : (o : Option Promise) → option_or o None ≡ o
    alone None = refl
    alone (Some p) = refl

    by_found : (o : Option Room) → find (of_room other) rooms ≡ o → (t : Bool) → same_unit id other ≡ t
        → option_or (option_and_then (room_at me) o) (cond t (Some (record { id = id; length = n })) None)
        ≡ option_and_then (room_at me) (option_or o (cond t (Some (record { server = me; id = id; length = n })) None))
    by_found None found true is = sym mine
    by_found None found false is = refl
    by_found (Some q) found true is =
        let no_one : find (of_room other) rooms ≡ None =
        subst (λ (x : UnitId). find (of_room x) rooms ≡ None) (same_unit_is id other is) none in
        absurd (cc)
    by_found (Some q) found false is = alone (room_at me q)

-- A promise ends.

-- promises without those of a unit
pub rooms_left : (rooms : List Room) (me : Server) (promises : List Promise) (id : UnitId) → AreRooms rooms me promises
    → AreRooms (filter (λ (p : Room). not (same_unit p.id id)) rooms) me (filter (is_for_other id) promises)
rooms_left rooms me promises id are other = by_test (same_unit id other) refl
  where
    Same : UnitId → Type 0
    Same x = room_for x (filter (is_for_other id) promises)
        ≡ option_and_then (room_at me) (find (of_room x) (filter (λ (p : Room). not (same_unit p.id id)) rooms))

    here : Same id
    here = rw (find_filtered (λ (p : Promise). same_unit p.id id) promises, find_filtered (of_room id) rooms) refl

    by_test : (t : Bool) → same_unit id other ≡ t → Same other
    by_test true is = subst Same (same_unit_is id other is) here
    by_test false is =
        rw (
          find_unfiltered (λ (p : Promise). same_unit p.id id) (λ (p : Promise). same_unit p.id other) (λ p s. apart id other is p.id s)
              promises,
          find_unfiltered (of_room id) (of_room other) (λ p s. apart id other is p.id s) rooms,
        ) (are other)

-- the server's promise of this id is that of the bag
pub record IsRoom (rooms : List Room) (me : Server) (promises : List Promise) (id : UnitId) : Type 0 where
  pub room : Room
  pub found : find (of_room id) rooms ≡ Some room
  pub here : room.server ≡ me
  pub kept : room_for id promises ≡ Some (record { id = room.id; length = room.length })

-- a promise of the queue is one of the bag
pub room_is : (rooms : List Room) (me : Server) (promises : List Promise) (id : UnitId) (p : Promise) → AreRooms rooms me promises
    → room_for id promises ≡ Some p → IsRoom rooms me promises id
room_is rooms me promises id p are there = by_found (find (of_room id) rooms) refl (sym (are id) ∙ there)
  where
    by_found : (o : Option Room) → find (of_room id) rooms ≡ o → option_and_then (room_at me) o ≡ Some p → IsRoom rooms me promises id
    by_found None found is = absurd (cc)
    by_found (Some r) found is = by_test (r.server.0 == me.0) refl is
      where
        by_test : (t : Bool) → (r.server.0 == me.0) ≡ t → cond t (Some (record { id = r.id; length = r.length })) None ≡ Some p
            → IsRoom rooms me promises id
        by_test false at is = absurd (cc)
        by_test true at is =
            record { room = r; found = found; here = same_server_is r.server me at; kept = there ∙ sym is }

-- a sum is that of what is filtered off and what stays
pub sum_off : {X : Type 0} (f : X → ℕ) (test : X → Bool) (xs : List X)
    → sum_by f (filter (λ x. not (test x)) xs) + sum_by (λ x. if_so (test x) (f x)) xs ≡ sum_by f xs
sum_off f test [] = refl
sum_off f test (x ∷ xs) = by_test (sum_off f test xs) (test x) refl
  where
    by_test : sum_by f (filter (λ y. not (test y)) xs) + sum_by (λ y. if_so (test y) (f y)) xs ≡ sum_by f xs → (t : Bool) → test x ≡ t
        → sum_by f (filter (λ y. not (test y)) (x ∷ xs)) + sum_by (λ y. if_so (test y) (f y)) (x ∷ xs) ≡ sum_by f (x ∷ xs)
    by_test rest true is = rw (sum_by-cons (λ y. if_so (test y) (f y)) x xs, sum_by-cons f x xs, is) (omega arith)
    by_test rest false is =
        rw (sum_by-cons (λ y. if_so (test y) (f y)) x xs, sum_by-cons f x xs, is, sum_by-cons f x (filter (λ y. not (test y)) xs))
        (omega arith)

-- without the promise of an id the server is charged less by its bytes
pub rooms_sum : (rooms : List Room) (me : Server) (promises : List Promise) (id : UnitId) → PromisesAreSingle rooms
    → HasDistinctPromises promises → IsRoom rooms me promises id → sum_by (promise_charge me) rooms ≡ sum_by promised promises
    → sum_by (promise_charge me) (filter (λ (p : Room). not (same_unit p.id id)) rooms)
    ≡ sum_by promised (filter (is_for_other id) promises)
rooms_sum rooms me promises id single distinct is same =
    let off = sum_off (promise_charge me) (of_room id) rooms in
    let one = sum_single (promise_charge me) (of_room id) rooms is.room is.found (single.each id) in
    let charge : promise_charge me is.room ≡ is.room.length = rw (is.here, same_number me.0) refl in
    let p : Promise = record { id = is.room.id; length = is.room.length } in
    let at = find_listed promised_id promises p id is.kept in
    let less = less_left promises at.0.0 p id distinct at.0.1 (sym at.0.2) at.1 in
    let left = ap (sum_by promised) (removed_is promises at.0.0 p id distinct at.0.1 (sym at.0.2) at.1) in
    omega arith
