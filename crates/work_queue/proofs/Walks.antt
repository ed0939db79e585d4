-- What the walks over a list find is what the relations say.
use Rattle.std.proofs.Common.{◌≡◌, ◌↔◌, ℕ, List, Option, Some, None, Any, fold, refl, sym, ap, subst}
use Rattle.std.specs.Option.{option_map}
use Rattle.std.proofs.lemmas.Option.{get_or_from_slice_get, none-some, same_Some, slice_get_within}
use Rattle.adlb_unit.specs.declared.names.Rank.{Rank}
use Rattle.adlb_unit.specs.declared.names.UnitId.{UnitId}
use Rattle.adlb_unit.specs.declared.names.WorkType.{WorkType}
use Rattle.work_queue.proofs.Firsts.{best_is, none_offered, some_offered}
use Rattle.work_queue.proofs.FirstFits.{fit_is, none_asked, some_asked}
use Rattle.work_queue.proofs.Only.{only_best, only_fit, only_push}
use Rattle.work_queue.proofs.Pushes.{first_is, none_movable, some_movable}
use Rattle.work_queue.specs.Best.{IsBest, IsOffered, best_from, best_of, rated_id}
use Rattle.work_queue.specs.Fits.{IsAsked, IsFirstFit, first_fit}
use Rattle.work_queue.specs.Push.{IsFirstToPush, IsMovable, first_to_push_of, pick_to_push}
use Rattle.work_queue.specs.declared.placing.Placed.{Placed}
use Rattle.work_queue.specs.declared.pushing.Candidate.{Candidate}
use Rattle.work_queue.specs.declared.rating.Rated.{Rated}

module _ (rank : Rank) (types : Option (List WorkType)) (units : List Placed) where
  -- if there is a best, some unit is offered
  pub best_offered : (id : UnitId) → IsBest rank types units id → Any (IsOffered rank types) units
  best_offered id is = (
    is.place,
    is.unit,
    slice_get_within units is.place is.unit is.here,
    get_or_from_slice_get units is.place is.unit is.unit is.here,
    is.is_offered,
  )

  best_found : (found : Option Rated) → found ≡ best_from rank types None units → (id : UnitId) → (rated_id found ≡ Some id)
      ↔ IsBest rank types units id
  best_found None same id = (λ no. absurd (none-some id no), λ is. absurd (none_offered rank types units same (best_offered id is)))
  best_found (Some r) same id =
      let here : IsBest rank types units r.id = best_is rank types units r same in
      let B : UnitId → Type 0 = λ x. IsBest rank types units x in
      (λ e. subst B (same_Some r.id id e) here, λ is. ap (λ x. Some x) (only_best rank types units r.id id here is))

  none_found : (found : Option Rated) → found ≡ best_from rank types None units → (rated_id found ≡ None)
      ↔ ¬ Any (IsOffered rank types) units
  none_found None same = (λ e some. none_offered rank types units same some, λ none. refl)
  none_found (Some r) same = (λ e. absurd (none-some r.id (sym e)), λ none. absurd (none (some_offered rank types units r same)))

  -- the walk finds a unit exactly if it is the best that is offered
  pub best_walk : (id : UnitId) → (best_of rank types units ≡ Some id) ↔ IsBest rank types units id
  best_walk = best_found (best_from rank types None units) refl

  -- the walk finds nothing exactly if no unit is offered
  pub no_best : (best_of rank types units ≡ None) ↔ ¬ Any (IsOffered rank types) units
  no_best = none_found (best_from rank types None units) refl

module _ (units : List Placed) where
  -- if there is a first to push, some unit can be moved
  pub push_movable : (is : UnitId × ℕ) → IsFirstToPush units is → Any IsMovable units
  push_movable is first = (
    first.place,
    first.unit,
    slice_get_within units first.place first.unit first.here,
    get_or_from_slice_get units first.place first.unit first.unit first.here,
    first.is_movable,
  )

  abbrev told_of : Option Candidate → Option (UnitId × ℕ)
  told_of found = option_map (λ (c : Candidate). (c.id, c.length)) found

  push_found : (found : Option Candidate) → found ≡ fold pick_to_push None units → (is : UnitId × ℕ) → (told_of found ≡ Some is)
      ↔ IsFirstToPush units is
  push_found None same is = (λ no. absurd (none-some is no), λ first. absurd (none_movable units same (push_movable is first)))
  push_found (Some c) same is =
      let here : IsFirstToPush units (c.id, c.length) = first_is units c same in
      let F : UnitId × ℕ → Type 0 = λ x. IsFirstToPush units x in
      (λ e. subst F (same_Some (c.id, c.length) is e) here, λ first. ap (λ x. Some x) (only_push units (c.id, c.length) is here first))

  none_pushed : (found : Option Candidate) → found ≡ fold pick_to_push None units → (told_of found ≡ None) ↔ ¬ Any IsMovable units
  none_pushed None same = (λ e some. none_movable units same some, λ none. refl)
  none_pushed (Some c) same = (λ e. absurd (none-some (c.id, c.length) (sym e)), λ none. absurd (none (some_movable units c same)))

  -- the walk finds a unit exactly if it is the first to push
  pub push_walk : (is : UnitId × ℕ) → (first_to_push_of units ≡ Some is) ↔ IsFirstToPush units is
  push_walk = push_found (fold pick_to_push None units) refl

  -- the walk finds nothing exactly if no unit can be moved
  pub no_push : (first_to_push_of units ≡ None) ↔ ¬ Any IsMovable units
  no_push = none_pushed (fold pick_to_push None units) refl

module _ (asked : List (Rank × Option (List WorkType))) (units : List Placed) where
  -- if there is a first fit, some unit suits one that asks
  pub fit_asked : (id : UnitId) → IsFirstFit asked units id → Any (IsAsked asked) units
  fit_asked id is = (
    is.place,
    is.unit,
    slice_get_within units is.place is.unit is.here,
    get_or_from_slice_get units is.place is.unit is.unit is.here,
    is.is_asked,
  )

  fit_found : (found : Option UnitId) → found ≡ first_fit asked units → (id : UnitId) → (found ≡ Some id) ↔ IsFirstFit asked units id
  fit_found None same id = (λ no. absurd (none-some id no), λ is. absurd (none_asked asked units same (fit_asked id is)))
  fit_found (Some first) same id =
      let here : IsFirstFit asked units first = fit_is asked units first same in
      let F : UnitId → Type 0 = λ x. IsFirstFit asked units x in
      (λ e. subst F (same_Some first id e) here, λ is. ap (λ x. Some x) (only_fit asked units first id here is))

  none_fit : (found : Option UnitId) → found ≡ first_fit asked units → (found ≡ None) ↔ ¬ Any (IsAsked asked) units
  none_fit None same = (λ e some. none_asked asked units same some, λ none. refl)
  none_fit (Some first) same = (λ e. absurd (none-some first (sym e)), λ none. absurd (none (some_asked asked units first same)))

  -- the walk finds a unit exactly if it is the first fit
  pub fit_walk : (id : UnitId) → (first_fit asked units ≡ Some id) ↔ IsFirstFit asked units id
  fit_walk = fit_found (first_fit asked units) refl

  -- no fit is found exactly if no unit suits a rank that asked
  pub no_fit : (first_fit asked units ≡ None) ↔ ¬ Any (IsAsked asked) units
  no_fit = none_fit (first_fit asked units) refl
