-- Units by their ids: a pin and a removal in a list of units of distinct ids.
use Rattle.std.proofs.Common.{◌≡◌, ◌≢◌, ◌<◌, ℕ, Bool, true, false, cond, List, [], ◌∷◌, ◌++◌, length, get_or, map, Some, refl, sym, ap, ◌∙◌}
use Rattle.std.proofs.Common.{All, arith, sum_by, Contains}
use Rattle.std.specs.List.{filter}
use Rattle.std.proofs.lemmas.List.{map-append, get_or-map, length-map}
use Rattle.std.proofs.lemmas.List.Elements.{All-head, All-tail, All-weaker, All-map}
use Rattle.std.proofs.lemmas.List.Sums.{sum_by-cons}
use Rattle.adlb_unit.specs.declared.names.Rank.{Rank}
use Rattle.adlb_unit.specs.declared.names.UnitId.{UnitId}
use Rattle.adlb_unit.specs.Ids.{same_unit}
use Rattle.adlb_unit.proofs.Same.{same_unit_from, unit_differs}
use Rattle.work_queue.proofs.Named as named
use Rattle.work_queue.specs.Queue.{HasDistinctIds, IsSmall, has_other_id, id_of, pinned_by, size_of}
use Rattle.work_queue.specs.declared.placing.Placed.{Placed}

-- a unit of another id stays as it is
pub other_stays : (id : UnitId) (rank : Rank) (q : Placed) → id_of q ≢ id → pinned_by id rank q ≡ q
other_stays id rank q differs = ap (λ t. cond t (record q { pin = Some rank }) q) (unit_differs (id_of q) id differs)

-- the unit of the id is pinned to the rank
pub this_pinned : (id : UnitId) (rank : Rank) (p : Placed) → id_of p ≡ id → pinned_by id rank p ≡ record p { pin = Some rank }
this_pinned id rank p e = ap (λ t. cond t (record p { pin = Some rank }) p) (same_unit_from (id_of p) id e)

-- a pin changes nothing else of a unit
pub unit_pinned : (id : UnitId) (rank : Rank) (q : Placed) → (pinned_by id rank q).unit ≡ q.unit
unit_pinned id rank q = by_test (same_unit (id_of q) id)
  where
    by_test : (t : Bool) → (cond t (record q { pin = Some rank }) q).unit ≡ q.unit
    by_test true = refl
    by_test false = refl

-- units of other ids are not pinned
pub map_others : (id : UnitId) (rank : Rank) (units : List Placed) → All (λ q. id_of q ≢ id) units → map (pinned_by id rank) units ≡ units
map_others id rank [] others = refl
map_others id rank (q ∷ units) others =
    let P : Placed → Type 0 = λ q. id_of q ≢ id in
    rw (other_stays id rank q (All-head P q units others), map_others id rank units (All-tail P q units others)) refl

-- the units on both sides of one have other ids
pub others_before : (front back : List Placed) (p : Placed) (id : UnitId) → HasDistinctIds (front ++ p ∷ back) → id_of p ≡ id
    → All (λ q. id_of q ≢ id) front
others_before = named.others_before id_of

-- the units after one have other ids
pub others_after : (front back : List Placed) (p : Placed) (id : UnitId) → HasDistinctIds (front ++ p ∷ back) → id_of p ≡ id
    → All (λ q. id_of q ≢ id) back
others_after = named.others_after id_of

-- a pin changes the unit at its place alone
pub map_at : (front back : List Placed) (p : Placed) (id : UnitId) (rank : Rank) → HasDistinctIds (front ++ p ∷ back) → id_of p ≡ id
    → map (pinned_by id rank) (front ++ p ∷ back) ≡ front ++ record p { pin = Some rank } ∷ back
map_at front back p id rank distinct is =
    map-append (pinned_by id rank) front (p ∷ back)
    ∙ rw (
      map_others id rank front (others_before front back p id distinct is),
      this_pinned id rank p is,
      map_others id rank back (others_after front back p id distinct is),
    ) refl

-- a removal takes the unit at its place alone
pub filter_at : (front back : List Placed) (p : Placed) (id : UnitId) → HasDistinctIds (front ++ p ∷ back) → id_of p ≡ id
    → filter (has_other_id id) (front ++ p ∷ back) ≡ front ++ back
filter_at = named.filter_at id_of

-- a unit of the list is the only one of its id
pub only_one : (units : List Placed) (k : ℕ) (d p : Placed) → HasDistinctIds units → Contains units p → k < length units
    → id_of (get_or units k d) ≡ id_of p → get_or units k d ≡ p
only_one = named.only_one id_of

-- ids stay distinct when units are pinned
pub distinct_pinned : (id : UnitId) (rank : Rank) (units : List Placed) → HasDistinctIds units
    → HasDistinctIds (map (pinned_by id rank) units)
distinct_pinned id rank units distinct i j d before within same =
    let long : length (map (pinned_by id rank) units) ≡ length units = length-map units (pinned_by id rank) in
    let at : (k : ℕ) → k < length units → id_of (get_or (map (pinned_by id rank) units) k d)
    ≡ id_of (get_or units k d) =
    λ k in_list. ap id_of (get_or-map (pinned_by id rank) units k d d in_list) ∙ ap (λ u. u.id) (unit_pinned id rank (get_or units k d)) in
    distinct i j d before (omega arith) (sym (at i (omega arith)) ∙ same ∙ at j (omega arith))

size_pinned : (id : UnitId) (rank : Rank) (q : Placed) → size_of (pinned_by id rank q) ≡ size_of q
size_pinned id rank q = ap (λ u. length u.body) (unit_pinned id rank q)

-- pinned units stay small
pub small_pinned : (id : UnitId) (rank : Rank) (units : List Placed) → All IsSmall units → All IsSmall (map (pinned_by id rank) units)
small_pinned id rank units small =
    let P : Placed → Type 0 = λ q. IsSmall q in
    let Q : Placed → Type 0 = λ q. IsSmall (pinned_by id rank q) in
    All-map P (pinned_by id rank) units (All-weaker P Q (λ q h. omega (arith, h, size_pinned id rank q)) units small)

-- a pin keeps the sizes
pub sizes_pinned : (id : UnitId) (rank : Rank) (units : List Placed) → sum_by size_of (map (pinned_by id rank) units) ≡ sum_by size_of units
sizes_pinned id rank [] = refl
sizes_pinned id rank (q ∷ units) =
    omega (
      arith,
      sum_by-cons size_of (pinned_by id rank q) (map (pinned_by id rank) units),
      sum_by-cons size_of q units,
      sizes_pinned id rank units,
      size_pinned id rank q,
    )
