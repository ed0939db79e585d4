-- What the unit of an id says of all units.
use Rattle.std.proofs.Common.{◌≡◌, ◌↔◌, Bool, true, false, not, List, Option, Some, None, is_some, refl, sym, ap, ◌∙◌, All, Any, find}
use Rattle.std.proofs.Common.{IsTrue, Bor}
use Rattle.std.specs.Option.{option_copied}
use Rattle.std.proofs.lemmas.Bool.{false≢true, true≢false}
use Rattle.std.proofs.lemmas.List.Elements.{All-contains}
use Rattle.std.proofs.lemmas.Option.{none-some}
use Rattle.adlb_unit.specs.declared.names.Rank.{Rank}
use Rattle.adlb_unit.specs.declared.names.UnitId.{UnitId}
use Rattle.work_queue.proofs.Named.{any_found, find_listed, find_nothing, found_any, only_one}
use Rattle.work_queue.specs.Queue.{HasDistinctIds, HasFree, HasUnit, IsSmall, id_of, is_unit}
use Rattle.work_queue.specs.declared.placing.Placed.{Placed}

module _ (units : List Placed) (id : UnitId) where
  -- if a unit is found, the queue has one of the id
  pub unit_there : (p : Placed) → Some p ≡ find (is_unit id) units → HasUnit id units
  unit_there p found =
      let at = find_listed id_of units p id (sym found) in
      (at.0.0, p, at.0.1, at.0.2, at.1)

  -- if nothing is found, the queue has no unit of the id
  pub unit_missing : None ≡ find (is_unit id) units → HasUnit id units → ⊥
  unit_missing none has = find_nothing id_of units id (sym none) has.0 has.1 has.2 (ap id_of has.3 ∙ has.4)

  -- the unit that is found is small
  pub unit_small : All IsSmall units → (p : Placed) → Some p ≡ find (is_unit id) units → IsSmall p
  unit_small small p found =
      let S : Placed → Type 0 = λ q. IsSmall q in
      All-contains S units p small (find_listed id_of units p id (sym found)).0

  -- if nothing is found, no unit of the id has any pin
  pub pin_missing : None ≡ find (is_unit id) units → (o : Option Rank) → Any (λ q. (id_of q ≡ id) × (q.pin ≡ o)) units → ⊥
  pin_missing none o has = unit_missing none (has.0, has.1, has.2, has.3, has.4.0)

  -- the test says whether there is a unit of the id
  pub has_unit_is : (o : Option (Bor Placed)) (b : Bool) → option_copied o ≡ find (is_unit id) units → b ≡ is_some o → IsTrue b
      ↔ HasUnit id units
  has_unit_is None b found is = (λ t. absurd (false≢true (sym is ∙ t)), λ has. absurd (unit_missing found has))
  has_unit_is (Some r) b found is = (λ t. unit_there r.now found, λ has. is)

  module _ (distinct : HasDistinctIds units) (p : Placed) (found : Some p ≡ find (is_unit id) units) where
    -- it is the only unit of the id
    pub the_unit : All (λ q. id_of q ≡ id → q ≡ p) units
    the_unit k d within same =
        let at = find_listed id_of units p id (sym found) in
        only_one id_of units k d p distinct at.0 within (same ∙ sym at.1)

    -- the pin of the unit that was found is that of the id
    pub pin_is : (o : Option Rank) → (p.pin ≡ o) ↔ Any (λ q. (id_of q ≡ id) × (q.pin ≡ o)) units
    pin_is o =
        let P : Placed → Type 0 = λ q. q.pin ≡ o in
        (λ e. any_found id_of P units id distinct p (sym found) e, λ has. found_any id_of P units id distinct p (sym found) has)

    free_is : (pin : Option Rank) (b : Bool) → p.pin ≡ pin → is_some pin ≡ not b → IsTrue b ↔ HasFree id units
    free_is None true same test = (λ t. (pin_is None).0 same, λ has. refl)
    free_is None false same test = absurd (false≢true test)
    free_is (Some rank) true same test = absurd (true≢false test)
    free_is (Some rank) false same test = (λ t. absurd (false≢true t), λ has. absurd (none-some rank (sym ((pin_is None).1 has) ∙ same)))

    -- the unit of the id is free exactly if it has no pin
    pub unit_free : (b : Bool) → is_some p.pin ≡ not b → IsTrue b ↔ HasFree id units
    unit_free b test = free_is p.pin b refl test
