-- The first unit that is permitted to some request.
use Rattle.std.proofs.Common.{◌≡◌, Bool, true, List, Option, Some, None, Any, refl, sym, ap, ◌∙◌, find, is_none}
use Rattle.std.specs.List.{list_any}
use Rattle.std.specs.Option.{option_map}
use Rattle.std.proofs.lemmas.Bool.{and_parts, and_from, both_ways}
use Rattle.std.proofs.lemmas.List.Folds.{Any-from_list_any, list_any-from_Any}
use Rattle.std.proofs.lemmas.Option.{get_or_from_slice_get, none-some, same_Some}
use Rattle.adlb_unit.specs.declared.names.Rank.{Rank}
use Rattle.adlb_unit.specs.declared.names.UnitId.{UnitId}
use Rattle.adlb_unit.specs.declared.names.WorkType.{WorkType}
use Rattle.adlb_unit.specs.Permit.{permitted}
use Rattle.work_queue.proofs.Offers.{free_is, is_permitted, permitted_is}
use Rattle.work_queue.proofs.Searched.{find_first, find_none}
use Rattle.work_queue.specs.Fits.{IsAsked, IsFirstFit, asked_for, first_fit}
use Rattle.work_queue.specs.Queue.{HasFree, id_of}
use Rattle.work_queue.specs.declared.placing.Placed.{Placed}

module _ (asked : List (Rank × Option (List WorkType))) where
  abbrev permits : Placed → Rank × Option (List WorkType) → Bool
  permits p a = permitted a.0 a.1 p.unit.kind p.unit.target

  -- the test tells the units that are asked
  asked_is : (p : Placed) → asked_for asked p ≡ true → IsAsked asked p
  asked_is p test =
      let parts = and_parts (is_none p.pin) (list_any (permits p) asked) test in
      let some = Any-from_list_any (permits p) asked parts.1 in
      (free_is p.pin parts.0, (some.0, some.1, some.2, some.3, permitted_is some.1.0 some.1.1 p.unit.kind p.unit.target some.4))

  is_asked : (p : Placed) → IsAsked asked p → asked_for asked p ≡ true
  is_asked p is =
      let some = is.1 in
      and_from (is_none p.pin) (list_any (permits p) asked) (rw is.0 refl)
      (list_any-from_Any (permits p) asked (
        some.0,
        some.1,
        some.2,
        some.3,
        is_permitted some.1.0 some.1.1 p.unit.kind p.unit.target some.4,
      ))

  -- what is found is a unit with this id
  pub fit_found : (o : Option Placed) (id : UnitId) → Some id ≡ option_map id_of o → (p : Placed) × (o ≡ Some p) × (id_of p ≡ id)
  fit_found None id same = absurd (none-some id (sym same))
  fit_found (Some p) id same = (p, refl, sym (same_Some id (id_of p) same))

  -- if no id is named, there is no unit
  pub fit_missing : (o : Option Placed) → None ≡ option_map id_of o → o ≡ None
  fit_missing None same = refl
  fit_missing (Some p) same = absurd (none-some (id_of p) same)

  module _ (units : List Placed) (id : UnitId) (same : Some id ≡ first_fit asked units) where
    -- the unit that is found is the first fit
    pub fit_is : IsFirstFit asked units id
    fit_is =
        let found = fit_found (find (asked_for asked) units) id same in
        let first = find_first (asked_for asked) units found.0 found.1 in
        record {
          place = first.place;
          unit = found.0;
          here = first.here;
          has_id = found.2;
          is_asked = asked_is found.0 first.passes;
          is_first =
              λ other q before at is. both_ways (asked_for asked q)
              (ap (asked_for asked) (sym (get_or_from_slice_get units other q q at)) ∙ first.fails other q before) (is_asked q is);
        }

    -- the unit that is found suits one that asks
    pub some_asked : Any (IsAsked asked) units
    some_asked =
        let found = fit_found (find (asked_for asked) units) id same in
        let first = find_first (asked_for asked) units found.0 found.1 in
        (first.place, found.0, first.within, first.read, asked_is found.0 first.passes)

    -- the unit that is found is free
    pub fit_is_free : HasFree id units
    fit_is_free =
        let found = fit_found (find (asked_for asked) units) id same in
        let first = find_first (asked_for asked) units found.0 found.1 in
        (first.place, found.0, first.within, first.read, (found.2, (asked_is found.0 first.passes).0))

  -- if no fit is found, no unit suits one that asks
  pub none_asked : (units : List Placed) → None ≡ first_fit asked units → Any (IsAsked asked) units → ⊥
  none_asked units same some =
      let fails = find_none (asked_for asked) units (fit_missing (find (asked_for asked) units) same) some.0 some.1 some.2 in
      both_ways (asked_for asked some.1) (ap (asked_for asked) (sym some.3) ∙ fails) (is_asked some.1 some.4)
