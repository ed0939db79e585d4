-- The lists of units that the calls leave, for a caller that keeps sums or counts over them.
use Rattle.std.proofs.Common.{◌≡◌, ◌≢◌, ℕ, ◌+◌, Bool, true, false, cond, List, [], ◌∷◌, ◌++◌, get_or, take, drop, map, Option, Some, None}
use Rattle.std.proofs.Common.{refl, sym, ap, ◌∙◌, All, Any, Contains, inl, inr, arith, subst, sum_by}
use Rattle.std.specs.List.{filter}
use Rattle.std.specs.List.Sorted.{IsPermutation}
use Rattle.std.proofs.lemmas.Bool.{both_ways, not-true, not_from_false}
use Rattle.std.proofs.lemmas.List.{drop_more, get_or-map, length-map, take-append-drop}
use Rattle.std.proofs.lemmas.List.Elements.{All-contains, All-map, All-weaker, filter_passes}
use Rattle.std.proofs.lemmas.List.Kept.{AllPairs-filter}
use Rattle.std.proofs.lemmas.List.Quantifiers.{Any-push, all_pairs_push}
use Rattle.std.proofs.lemmas.List.Sorted.{IsPermutation-middle, IsPermutation-to_front, sum_by-IsPermutation}
use Rattle.std.proofs.lemmas.List.Sums.{sum_by-cons}
use Rattle.std.proofs.lemmas.Option.{get_or_from_slice_get, slice_get_within}
use Rattle.adlb_unit.specs.declared.names.Rank.{Rank}
use Rattle.adlb_unit.specs.declared.names.UnitId.{UnitId}
use Rattle.adlb_unit.specs.declared.names.WorkType.{WorkType}
use Rattle.adlb_unit.specs.declared.units.Unit.{Unit}
use Rattle.slab.proofs.SlabLemmas.{Contains-cons, Contains-cons_cases}
use Rattle.adlb_unit.specs.Ids.{same_unit}
use Rattle.adlb_unit.proofs.Same.{same_unit_from, unit_differs}
use Rattle.work_queue.proofs.Ids.{distinct_pinned, filter_at, map_at, other_stays, this_pinned, unit_pinned}
use Rattle.work_queue.specs.Best.{IsBest}
use Rattle.work_queue.specs.Queue.{HasDistinctIds, HasFree, HasPinned, Queue, has_other_id, id_of, pinned_by, with_pin, without}
use Rattle.work_queue.specs.declared.placing.Placed.{Placed}

-- a unit of a list splits it before and after it
pub split_at : (units : List Placed) (p : Placed) → Contains units p → (front : List Placed) × (back : List Placed)
    × (units ≡ front ++ p ∷ back)
split_at units p there =
    let front = take there.0 units in
    let back = drop (there.0 + 1) units in (
      front,
      back,
      sym (take-append-drop there.0 units) ∙ ap (λ l. front ++ l) (drop_more units there.0 p there.1) ∙ ap (λ q. front ++ q ∷ back) there.2,
    )

moved : (xs ys front back : List Placed) (p : Placed) → xs ≡ front ++ p ∷ back → ys ≡ front ++ back → IsPermutation xs (p ∷ ys)
moved xs ys front back p whole others = rw (whole, others) (IsPermutation-middle front p back)

-- a unit p of the list, of this id
module _ (units : List Placed) (p : Placed) (id : UnitId) (distinct : HasDistinctIds units) (there : Contains units p)
    (is : id_of p ≡ id) where
  -- the unit and those of other ids
  pub others_first : IsPermutation units (p ∷ filter (has_other_id id) units)
  others_first =
      let parts = split_at units p there in
      let parted : HasDistinctIds (parts.0 ++ p ∷ parts.1) = rw parts.2 at distinct in
      let others : filter (has_other_id id) units ≡ parts.0 ++ parts.1 = ap (λ l. filter (has_other_id id) l) parts.2
      ∙ filter_at parts.0 parts.1 p id parted is in
      moved units (filter (has_other_id id) units) parts.0 parts.1 p parts.2 others

  -- a sum over units is that of one and of those of other ids
  pub sum_by-others : (f : Placed → ℕ) → sum_by f units ≡ f p + sum_by f (filter (has_other_id id) units)
  sum_by-others f = sym (sum_by-IsPermutation f units (p ∷ filter (has_other_id id) units) others_first)
      ∙ sum_by-cons f p (filter (has_other_id id) units)

  -- after the pin, the unit with the pin and those of other ids
  pub pinned_first : (rank : Rank)
      → IsPermutation (map (pinned_by id rank) units) (record p { pin = Some rank } ∷ filter (has_other_id id) units)
  pinned_first rank =
      let now : Placed = record p { pin = Some rank } in
      let parts = split_at units p there in
      let parted : HasDistinctIds (parts.0 ++ p ∷ parts.1) = rw parts.2 at distinct in
      let others : filter (has_other_id id) units ≡ parts.0 ++ parts.1 = ap (λ l. filter (has_other_id id) l) parts.2
      ∙ filter_at parts.0 parts.1 p id parted is in
      let pinned : map (pinned_by id rank) units ≡ parts.0 ++ now ∷ parts.1 = ap (λ l. map (pinned_by id rank) l) parts.2
      ∙ map_at parts.0 parts.1 p id rank parted is in
      moved (map (pinned_by id rank) units) (filter (has_other_id id) units) parts.0 parts.1 now pinned others

  -- a sum after a pin is that of the pinned unit and of those of other ids
  pub sum_by-pinned : (rank : Rank) (f : Placed → ℕ)
      → sum_by f (map (pinned_by id rank) units) ≡ f (record p { pin = Some rank }) + sum_by f (filter (has_other_id id) units)
  sum_by-pinned rank f =
      let now : Placed = record p { pin = Some rank } in
      sym (sum_by-IsPermutation f (map (pinned_by id rank) units) (now ∷ filter (has_other_id id) units) (pinned_first rank))
      ∙ sum_by-cons f now (filter (has_other_id id) units)

-- a pin keeps each unit's body
pub body_pinned : (id : UnitId) (rank : Rank) (q : Placed) → (pinned_by id rank q).unit.body ≡ q.unit.body
body_pinned id rank q = ap (λ u. u.body) (unit_pinned id rank q)

-- what stays of the list when the unit is taken does not tell whether it was pinned before
pub filter-map_pinned : (id : UnitId) (rank : Rank) (units : List Placed) → filter (has_other_id id) (map (pinned_by id rank) units)
    ≡ filter (has_other_id id) units
filter-map_pinned id rank [] = refl
filter-map_pinned id rank (q ∷ units) = by_test (same_unit (id_of q) id) refl (filter-map_pinned id rank units)
  where
    by_test : (t : Bool) → same_unit (id_of q) id ≡ t → filter (has_other_id id) (map (pinned_by id rank) units)
        ≡ filter (has_other_id id) units → filter (has_other_id id)
        (cond t (record q { pin = Some rank }) q ∷ map (pinned_by id rank) units) ≡ filter (has_other_id id) (q ∷ units)
    by_test true test rest = rw (test, rest) refl
    by_test false test rest = rw (test, rest) refl

-- what holds of each unit's id holds after a pin
pub ids_pinned : (P : UnitId → Type 0) (id : UnitId) (rank : Rank) (units : List Placed) → All (λ q. P (id_of q)) units
    → All (λ q. P (id_of q)) (map (pinned_by id rank) units)
ids_pinned P id rank units all =
    let Q : Placed → Type 0 = λ q. P (id_of q) in
    let R : Placed → Type 0 = λ q. P (id_of (pinned_by id rank q)) in
    All-map Q (pinned_by id rank) units (All-weaker Q R (λ q h. rw (ap (λ u. u.id) (unit_pinned id rank q)) h) units all)

-- no unit that stays has the id of the one that was taken
pub id_gone : (id : UnitId) (units : List Placed) → All (λ q. id_of q ≢ id) (filter (has_other_id id) units)
id_gone id units =
    let T : Placed → Type 0 = λ q. has_other_id id q ≡ true in
    let D : Placed → Type 0 = λ q. id_of q ≢ id in
    All-weaker T D
    (λ q test same. both_ways (same_unit (id_of q) id) (not-true (same_unit (id_of q) id) test) (same_unit_from (id_of q) id same))
    (filter (has_other_id id) units) (filter_passes (has_other_id id) units)

-- ids stay distinct when a unit is taken, and when one of a new id is added
pub distinct_left : (id : UnitId) (units : List Placed) → HasDistinctIds units → HasDistinctIds (filter (has_other_id id) units)
distinct_left id units distinct = AllPairs-filter (λ a b. id_of a ≢ id_of b) (has_other_id id) units distinct

-- units stay distinct with one of a new id
pub distinct_added : (units : List Placed) (p : Placed) → HasDistinctIds units → All (λ q. id_of q ≢ id_of p) units
    → HasDistinctIds (units ++ p ∷ [])
distinct_added units p distinct fresh = all_pairs_push (λ a b. id_of a ≢ id_of b) units p distinct fresh

-- the unit that is added last may as well come first
pub added_first : (units : List Placed) (p : Placed) → IsPermutation (units ++ p ∷ []) (p ∷ units)
added_first units p = IsPermutation-to_front units p

-- the unit that `pin` and `take_pinned` ask for
pub free_unit : (id : UnitId) (units : List Placed) → HasFree id units → (p : Placed) × Contains units p × (id_of p ≡ id) × (p.pin ≡ None)
free_unit id units has = (has.1, (has.0, has.2, has.3), has.4.0, has.4.1)

-- a unit that is pinned to a rank, from what is known of its id
pub pinned_unit : (id : UnitId) (rank : Rank) (units : List Placed) → HasPinned id rank units
    → (p : Placed) × Contains units p × (id_of p ≡ id) × (p.pin ≡ Some rank)
pinned_unit id rank units has = (has.1, (has.0, has.2, has.3), has.4.0, has.4.1)

-- the best unit is free
pub free_from_best : (rank : Rank) (types : Option (List WorkType)) (units : List Placed) (id : UnitId) → IsBest rank types units id
    → HasFree id units
free_from_best rank types units id best = (
  best.place,
  best.unit,
  slice_get_within units best.place best.unit best.here,
  get_or_from_slice_get units best.place best.unit best.unit best.here,
  (best.has_id, best.is_offered.0),
)

-- the unit stands with its pin among the units after the pin
pub contains_pinned : (units : List Placed) (p : Placed) (id : UnitId) (rank : Rank) → Contains units p → id_of p ≡ id
    → Contains (map (pinned_by id rank) units) (record p { pin = Some rank })
contains_pinned units p id rank there is =
    let now : Placed = record p { pin = Some rank } in
    let long = length-map units (pinned_by id rank) in
    let read : get_or (map (pinned_by id rank) units) there.0 now ≡ now = get_or-map (pinned_by id rank) units there.0 p now there.1
    ∙ ap (λ q. pinned_by id rank q) there.2 ∙ this_pinned id rank p is in
    (there.0, omega (arith, long, there.1), read)

-- so a free unit of the id is a pinned one after the pin
pub pinned_from_free : (id : UnitId) (rank : Rank) (units : List Placed) → HasFree id units
    → HasPinned id rank (map (pinned_by id rank) units)
pinned_from_free id rank units has =
    let there = contains_pinned units has.1 id rank (has.0, has.2, has.3) has.4.0 in
    (there.0, record has.1 { pin = Some rank }, there.1, there.2, (has.4.0, refl))

-- what was added is free
pub free_added : (units : List Placed) (unit : Unit) → HasFree unit.id (units ++ record { unit = unit; pin = None } ∷ [])
free_added units unit =
    let P : Placed → Type 0 = λ p. (id_of p ≡ unit.id) × (p.pin ≡ None) in
    Any-push P units (record { unit = unit; pin = None }) (refl, refl)

listed_later : (t : Bool) (q p : Placed) (rest : List Placed) → Contains rest p → Contains (cond t (q ∷ rest) rest) p
listed_later true q p rest there = Contains-cons q p rest there
listed_later false q p rest there = there

contains_left : (id : UnitId) (units : List Placed) (p : Placed) → Contains units p → has_other_id id p ≡ true
    → Contains (filter (has_other_id id) units) p
contains_left id [] p there passes = absurd (omega (arith, there.1))
contains_left id (q ∷ units) p there passes = elim (Contains-cons_cases q p units there) [
  | inl same ↦ rw (ap (λ u. same_unit (id_of u) id) same ∙ not-true (same_unit (id_of p) id) passes) (0, omega arith, same)
  | inr later ↦ listed_later (has_other_id id q) q p (filter (has_other_id id) units) (contains_left id units p later passes)
]

-- a unit of another id stays when one is taken, and as it is when one is pinned
pub any_left : (P : Placed → Type 0) (id : UnitId) (units : List Placed) → Any (λ p. P p × (id_of p ≢ id)) units
    → Any P (filter (has_other_id id) units)
any_left P id units has =
    let there = contains_left id units has.1 (
      has.0,
      has.2,
      has.3,
    ) (not_from_false (same_unit (id_of has.1) id) (unit_differs (id_of has.1) id has.4.1)) in
    (there.0, has.1, there.1, there.2, has.4.0)

-- what holds of another unit holds of one after a pin
pub any_pinned : (P : Placed → Type 0) (id : UnitId) (rank : Rank) (units : List Placed) → Any (λ p. P p × (id_of p ≢ id)) units
    → Any P (map (pinned_by id rank) units)
any_pinned P id rank units has =
    let long = length-map units (pinned_by id rank) in
    let read : get_or (map (pinned_by id rank) units) has.0 has.1 ≡ has.1 = get_or-map (pinned_by id rank) units has.0 has.1 has.1 has.2
    ∙ ap (λ q. pinned_by id rank q) has.3 ∙ other_stays id rank has.1 has.4.1 in
    (has.0, has.1, omega (arith, long, has.2), read, has.4.0)

-- so a pinned unit stays pinned
pub pinned_left : (id other : UnitId) (holder : Rank) (units : List Placed) → other ≢ id → HasPinned other holder units
    → HasPinned other holder (filter (has_other_id id) units)
pinned_left id other holder units differs has =
    let P : Placed → Type 0 = λ p. (id_of p ≡ other) × (p.pin ≡ Some holder) in
    any_left P id units (has.0, has.1, has.2, has.3, (has.4, λ same. differs (sym has.4.0 ∙ same)))

-- a pin leaves the pins of other units
pub pinned_stays : (id other : UnitId) (rank holder : Rank) (units : List Placed) → other ≢ id → HasPinned other holder units
    → HasPinned other holder (map (pinned_by id rank) units)
pinned_stays id other rank holder units differs has =
    let P : Placed → Type 0 = λ p. (id_of p ≡ other) × (p.pin ≡ Some holder) in
    any_pinned P id rank units (has.0, has.1, has.2, has.3, (has.4, λ same. differs (sym has.4.0 ∙ same)))

-- a free unit was pinned and taken: it is the one of this id, this is its body, and the others, of other ids, stay
pub record IsTaken (before after : List Placed) (id : UnitId) (body : List ℕ) : Type 0 where
  pub unit : Placed
  pub there : Contains before unit
  pub has_id : id_of unit ≡ id
  pub free : unit.pin ≡ None
  pub body_is : body ≡ unit.unit.body
  pub rest : IsPermutation before (unit ∷ after)
  pub distinct : HasDistinctIds after
  pub gone : All (λ q. id_of q ≢ id) after

-- a unit that is pinned and then taken is taken from the queue as it was
pub pinned_then_taken : (units : List Placed) (id : UnitId) (rank : Rank) (body : List ℕ) → HasDistinctIds units → HasFree id units
    → All (λ p. id_of p ≡ id → body ≡ p.unit.body) (map (pinned_by id rank) units)
    → IsTaken units (filter (has_other_id id) (map (pinned_by id rank) units)) id body
pinned_then_taken units id rank body distinct has bodies =
    let p = has.1 in
    let there : Contains units p = (has.0, has.2, has.3) in
    let B : Placed → Type 0 = λ q. id_of q ≡ id → body ≡ q.unit.body in
    record {
      unit = p;
      there = there;
      has_id = has.4.0;
      free = has.4.1;
      body_is = All-contains B (map (pinned_by id rank) units) (record p { pin = Some rank }) bodies
          (contains_pinned units p id rank there has.4.0) has.4.0;
      rest = rw filter-map_pinned (others_first units p id distinct there has.4.0);
      distinct = distinct_left id (map (pinned_by id rank) units) (distinct_pinned id rank units distinct);
      gone = id_gone id (map (pinned_by id rank) units);
    }

-- the same of the queue before, between and after, by what `pin` and `take_pinned` ensure
pub taken_after_pin : (old mid new : Queue) (id : UnitId) (rank : Rank) (body : List ℕ) → HasDistinctIds old.units → HasFree id old.units
    → mid ≡ with_pin old id rank → new ≡ without mid id → All (λ p. id_of p ≡ id → body ≡ p.unit.body) mid.units
    → IsTaken old.units new.units id body
taken_after_pin old mid new id rank body distinct has pinned taken bodies =
    let B : Queue → Type 0 = λ q. All (λ p. id_of p ≡ id → body ≡ p.unit.body) q.units in
    let T : Queue → Type 0 = λ q. IsTaken old.units q.units id body in
    let after : new ≡ without (with_pin old id rank) id = taken ∙ ap (λ q. without q id) pinned in
    subst T (sym after) (pinned_then_taken old.units id rank body distinct has (subst B pinned bodies))
