-- The units that are left.
use Rattle.core_inline.proofs.Prelude.{All, AllPairs, Bag, Bool, IsLeft, LeftUnit, List, None, Option, Server, ServerModel, Some, [], ap}
use Rattle.core_inline.proofs.Prelude.{arith, false, find, get_or-map, left_at, left_unit, left_with, length-map, map, option_and_then}
use Rattle.core_inline.proofs.Prelude.{option_map, refl, same_number, sym, true, unit_of, ◌∙◌, ◌∷◌, ◌≡◌, ◌≢◌}
use Rattle.adlb_unit.proofs.Same.{same_unit_from}
use Rattle.adlb_unit.specs.Ids.{same_unit}
use Rattle.adlb_unit.specs.declared.names.UnitId.{UnitId}
use Rattle.adlb_unit.specs.declared.units.Unit.{Unit}
use Rattle.bag_ledger.specs.declared.states.Placed.{Placed as Lodged}
use Rattle.bag_ledger.specs.declared.states.UnitPlace.{UnitPlace}
use Rattle.bag_ledger.specs.declared.states.UnitPlace.TheVariants.{Free, Pinned, Spent, Travelling}
use Rattle.core_inline.specs.Left.{left_of}
use Rattle.server_components.specs.Grants.{unit_with}
use Rattle.server_core.specs.Left.{left_of as left_list}
use Rattle.server_law.specs.Agreement.{ServerAgrees, of_id, slot_of}
use Rattle.server_law.specs.Rest.{HasAll, IsHereOrSpent, IsKeptAt}
use Rattle.std.proofs.lemmas.List.Elements.{All-contains}
use Rattle.work_queue.proofs.Named.{find_listed}
use Rattle.work_queue.specs.Queue.{HasDistinctIds, id_of}
use Rattle.work_queue.specs.declared.placing.Placed.{Placed}

-- what is so of each unit is so of one that is found
found_kept : (P : Lodged → Type 0) (b : Bag) (id : UnitId) (u : Lodged) → All P b.units → unit_of b id ≡ Some u → P u
found_kept P b id u all found = All-contains P b.units u all (find_listed (λ (v : Lodged). v.unit.id) b.units u id found).0

-- where each unit is spent, nothing is left
pub nothing_left : (last : Bag) (left : List LeftUnit) → All (λ u. u.place ≡ Spent) last.units → IsLeft last left → left ≡ []
nothing_left last [] spent is = refl
nothing_left last (l ∷ left) spent is = absurd (let both = sym here ∙ is.each l.id ∙ gone (unit_of last l.id) refl in cc)
  where
    here : left_with l.id (l ∷ left) ≡ Some l
    here = rw (same_unit_from l.id l.id refl) refl

    gone : (o : Option Lodged) → unit_of last l.id ≡ o → option_and_then left_of o ≡ None
    gone None found = refl
    gone (Some u) found = ap (left_at u.unit.id) (found_kept (λ v. v.place ≡ Spent) last l.id u spent found)

-- What the server has left is what the bag has left, where each unit is at the server or spent.

slot_left : (me : Server) (unit : Unit) (place : UnitPlace) → IsHereOrSpent me place
    → option_map (left_unit me) (slot_of me (record { unit = unit; place = place })) ≡ left_at unit.id place
slot_left me unit (Free at) here = rw (here, same_number me.0) refl
slot_left me unit (Pinned at rank) here = rw (here, same_number me.0) refl
slot_left me unit (Travelling to) here = absurd here
slot_left me unit Spent here = refl

find_left : (me : Server) (id : UnitId) (units : List Placed)
    → left_with id (map (left_unit me) units) ≡ option_map (left_unit me) (unit_with id units)
find_left me id [] = refl
find_left me id (p ∷ units) = by_test (same_unit (id_of p) id) refl (find_left me id units)
  where
    by_test : (t : Bool) → same_unit (id_of p) id ≡ t
        → left_with id (map (left_unit me) units) ≡ option_map (left_unit me) (unit_with id units)
        → left_with id (map (left_unit me) (p ∷ units)) ≡ option_map (left_unit me) (unit_with id (p ∷ units))
    by_test true is rest = rw is refl
    by_test false is rest = rw is rest

distinct_left : (me : Server) (units : List Placed) → HasDistinctIds units → AllPairs (λ a b. a.id ≢ b.id) (map (left_unit me) units)
distinct_left me [] distinct i j d before inside = absurd (omega (arith, inside))
distinct_left me (p ∷ units) distinct i j d before inside =
    let long = length-map (p ∷ units) (left_unit me) in
    let first = get_or-map (left_unit me) (p ∷ units) i p d (omega (arith, long, inside, before)) in
    let second = get_or-map (left_unit me) (p ∷ units) j p d (omega (arith, long, inside)) in
    λ same. distinct i j p before (omega (arith, long, inside))
    (sym (ap (λ (l : LeftUnit). l.id) first) ∙ same ∙ ap (λ (l : LeftUnit). l.id) second)

-- the units that a server alone has left are those left in the bag
pub left_is : (b : Bag) (s : ServerModel) → ServerAgrees b s → HasAll b s.me → IsLeft b (left_list s)
left_is b s agrees all = record {
  each =
      λ id. find_left s.me id s.kept.queue.units ∙ ap (option_map (left_unit s.me)) (agrees.units.each id)
      ∙ by_found id (find (of_id id) b.units) refl;
  distinct = distinct_left s.me s.kept.queue.units agrees.units.distinct;
}
  where
    by_found : (id : UnitId) (o : Option Lodged) → find (of_id id) b.units ≡ o
        → option_map (left_unit s.me) (option_and_then (slot_of s.me) o) ≡ option_and_then left_of o
    by_found id None found = refl
    by_found id (Some u) found = slot_left s.me u.unit u.place (found_kept (IsKeptAt s.me) b id u all.units found)
