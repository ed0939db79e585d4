-- Units that a server looks up by an id.
use Rattle.std.proofs.Common.{◌≡◌, ℕ, Bool, true, ◌&&◌, List, find, Option, Some, None, refl, sym, ap, ◌∙◌, Contains}
use Rattle.std.specs.Prelude.{is_none}
use Rattle.std.proofs.lemmas.Bool.{and_parts, eqb-true}
use Rattle.adlb_unit.specs.Ids.{same_unit}
use Rattle.adlb_unit.specs.declared.names.Rank.{Rank}
use Rattle.adlb_unit.specs.declared.names.UnitId.{UnitId}
use Rattle.adlb_unit.proofs.Same.{same_unit_is}
use Rattle.work_queue.proofs.Named.{find_listed, find_nothing, only_one}
use Rattle.work_queue.proofs.Offers.{free_is}
use Rattle.work_queue.proofs.Searched.{find_first}
use Rattle.work_queue.specs.Queue.{HasDistinctIds, id_of}
use Rattle.work_queue.specs.declared.placing.Placed.{Placed}
use Rattle.server_components.specs.Grants.{unit_with}
use Rattle.server_law.specs.Finding.{is_free_as, is_pin, is_pinned_as}

-- a unit that is in the list is the one that its id finds
pub listed_is_found : (units : List Placed) (p : Placed) (id : UnitId) → HasDistinctIds units → Contains units p → id_of p ≡ id
    → unit_with id units ≡ Some p
listed_is_found units p id distinct there is = by_found (unit_with id units) refl
  where
    by_found : (o : Option Placed) → unit_with id units ≡ o → o ≡ Some p
    by_found None found = absurd (find_nothing id_of units id found there.0 p there.1 (ap id_of there.2 ∙ is))
    by_found (Some q) found =
        let at = find_listed id_of units q id found in
        ap Some (sym at.0.2 ∙ only_one id_of units at.0.0 q p distinct there at.0.1 (ap id_of at.0.2 ∙ at.1 ∙ sym is))

-- so is one that a test finds which asks for the id too
both_found : (units : List Placed) (id : UnitId) (test : Placed → Bool) (p : Placed) → HasDistinctIds units
    → find (λ q. same_unit (id_of q) id && test q) units ≡ Some p → (unit_with id units ≡ Some p) × (test p ≡ true)
both_found units id test p distinct found =
    let first = find_first (λ q. same_unit (id_of q) id && test q) units p found in
    let parts = and_parts (same_unit (id_of p) id) (test p) first.passes in
    (listed_is_found units p id distinct (first.place, first.within, first.read) (same_unit_is (id_of p) id parts.0), parts.1)

-- a free unit that is found is the one that its id finds
pub free_is_found : (units : List Placed) (id : UnitId) (p : Placed) → HasDistinctIds units → find (is_free_as id) units ≡ Some p
    → (unit_with id units ≡ Some p) × (p.pin ≡ None)
free_is_found units id p distinct found =
    let at = both_found units id (λ q. is_none q.pin) p distinct found in (at.0, free_is p.pin at.1)

-- a pinned unit that is found is the one that its id finds
pub pinned_is_found : (units : List Placed) (id : UnitId) (rank : Rank) (p : Placed) → HasDistinctIds units
    → find (is_pinned_as id rank) units ≡ Some p → (unit_with id units ≡ Some p) × (p.pin ≡ Some rank)
pinned_is_found units id rank p distinct found =
    let at = both_found units id (λ q. is_pin q.pin rank) p distinct found in (at.0, by_pin p.pin at.1)
  where
    by_pin : (pin : Option Rank) → is_pin pin rank ≡ true → pin ≡ Some rank
    by_pin None is = absurd (cc)
    by_pin (Some to) is = let made : ℕ → Option Rank = λ n. Some (record { 0 = n }) in ap made (eqb-true to.0 rank.0 is)
