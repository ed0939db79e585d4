-- The best unit for a wish: what it is, and what it says if there is no such unit.
use Rattle.std.proofs.Common.{◌≡◌, ◌⊎◌, inl, inr, true, false, List, get_or, Option, Some, None, is_some, refl, sym, ap, ◌∙◌, All, Contains}
use Rattle.std.specs.Prelude.{option_and_then, is_none}
use Rattle.std.proofs.lemmas.Bool.{and_parts, false_from_ne_true}
use Rattle.std.proofs.lemmas.List.{get_or_default}
use Rattle.std.proofs.lemmas.Option.{get_or_from_slice_get, slice_get_within}
use Rattle.adlb_unit.specs.declared.names.Rank.{Rank}
use Rattle.adlb_unit.specs.declared.names.UnitId.{UnitId}
use Rattle.adlb_unit.specs.declared.names.WorkType.{WorkType}
use Rattle.adlb_unit.specs.Permit.{permitted}
use Rattle.adlb_unit.specs.declared.units.Unit.{Unit}
use Rattle.bag_ledger.proofs.Tests.{some_is}
use Rattle.work_queue.proofs.Firsts.{best_is, none_offered}
use Rattle.work_queue.proofs.Named.{find_listed, find_nothing}
use Rattle.work_queue.proofs.Offers.{free_is, is_offered, offered_is}
use Rattle.work_queue.specs.Best.{best_from, best_of, offered, rated_id}
use Rattle.work_queue.specs.Queue.{HasDistinctIds, id_of}
use Rattle.work_queue.specs.declared.placing.Placed.{Placed}
use Rattle.work_queue.specs.declared.rating.Rated.{Rated}
use Rattle.server_components.specs.Grants.{unit_with}
use Rattle.server_law.specs.Finding.{best_for}
use Rattle.server_components.specs.declared.wishes.Wish.{Wish}
use Rattle.server_law.specs.State.{Kept}
use Rattle.server_law.specs.Sure.{IsFound, IsFreeFor}
use Rattle.server_law.proofs.ByIds.{free_is_found, listed_is_found}

-- the best unit is in the list, and is free and permitted
best_stands : (rank : Rank) (types : Option (List WorkType)) (units : List Placed) (id : UnitId) → best_of rank types units ≡ Some id
    → (p : Placed) × Contains units p × (id_of p ≡ id) × (offered rank types p ≡ true)
best_stands rank types units id is = by_found (best_from rank types None units) refl is
  where
    by_found : (o : Option Rated) → best_from rank types None units ≡ o → rated_id o ≡ Some id
        → (p : Placed) × Contains units p × (id_of p ≡ id) × (offered rank types p ≡ true)
    by_found None found is = absurd (cc)
    by_found (Some r) found is =
        let b = best_is rank types units r (sym found) in
        let read = get_or_from_slice_get units b.place b.unit b.unit b.here in
        let within = slice_get_within units b.place b.unit b.here in
        (b.unit, (b.place, within, read), b.has_id ∙ some_is is, is_offered rank types b.unit b.is_offered)

-- the unit is free, is the one that its id finds, and is permitted
pub record IsFit (wish : Wish) (units : List Placed) (p : Placed) : Type 0 where
  pub found : unit_with p.unit.id units ≡ Some p
  pub free : p.pin ≡ None
  pub permits : permitted wish.rank wish.types p.unit.kind p.unit.target ≡ true

-- the best unit for a wish is free and permitted
pub best_is_fit : (k : Kept) (wish : Wish) (p : Placed) → HasDistinctIds k.queue.units → best_for k wish ≡ Some p
    → IsFit wish k.queue.units p
best_is_fit k wish p distinct is = by_id (best_of wish.rank wish.types k.queue.units) refl is
  where
    by_id : (o : Option UnitId) → best_of wish.rank wish.types k.queue.units ≡ o
        → option_and_then (λ id. unit_with id k.queue.units) o ≡ Some p → IsFit wish k.queue.units p
    by_id None best is = absurd (cc)
    by_id (Some id) best is =
        let units = k.queue.units in
        let at = find_listed id_of units p id is in
        let q = best_stands wish.rank wish.types units id best in
        let same : q.0 ≡ p = some_is (sym (listed_is_found units q.0 id distinct q.1 q.2) ∙ is) in
        let may : offered wish.rank wish.types p ≡ true = rw (← same) q.3 in
        let parts = and_parts (is_none p.pin) (permitted wish.rank wish.types p.unit.kind p.unit.target) may in
        record { found = ap (λ k. unit_with k units) at.1 ∙ is; free = free_is p.pin parts.0; permits = parts.1 }

-- so is one that is given to a rank that waits
pub given_fits : (k : Kept) (wish : Wish) (unit : Unit) → HasDistinctIds k.queue.units
    → IsFreeFor k unit wish ⊎ IsFound (best_for k wish) unit
    → (p : Placed) × IsFit wish k.queue.units p × (p.unit ≡ unit)
given_fits k wish unit distinct (inl free) =
    let found = free.0 in
    let at = free_is_found k.queue.units unit.id found.0 distinct found.1 in (
      found.0,
      record {
        found = ap (λ (u : Unit). unit_with u.id k.queue.units) found.2 ∙ at.0;
        free = at.1;
        permits = rw found.2 free.1;
      },
      found.2,
    )
given_fits k wish unit distinct (inr best) = (best.0, best_is_fit k wish best.0 distinct best.1, best.2)

-- if there is no best unit, no unit is free and permitted
pub nothing_fits : (k : Kept) (wish : Wish) → is_some (best_for k wish) ≡ false
    → All (λ p. offered wish.rank wish.types p ≡ false) k.queue.units
nothing_fits k wish none i d within = false_from_ne_true (offered wish.rank wish.types (get_or units i d)) impossible
  where
    units : List Placed
    units = k.queue.units

    impossible : offered wish.rank wish.types (get_or units i d) ≡ true → ⊥
    impossible may = by_rated (best_from wish.rank wish.types None units) refl
      where
        by_id : (id : UnitId) → best_of wish.rank wish.types units ≡ Some id → ⊥
        by_id id best =
            by_found (unit_with id units) refl (ap (λ o. is_some (option_and_then (λ id. unit_with id units) o)) (sym best) ∙ none)
          where
            by_found : (o : Option Placed) → unit_with id units ≡ o → is_some o ≡ false → ⊥
            by_found None found none =
                let q = best_stands wish.rank wish.types units id best in
                find_nothing id_of units id found q.1.0 q.0 q.1.1 (ap id_of q.1.2 ∙ q.2)
            by_found (Some p) found none = absurd (cc)

        by_rated : (o : Option Rated) → best_from wish.rank wish.types None units ≡ o → ⊥
        by_rated None found =
            let read = get_or_default units i d (get_or units i d) within in
            none_offered wish.rank wish.types units (sym found)
            (i, get_or units i d, within, sym read, offered_is wish.rank wish.types (get_or units i d) may)
        by_rated (Some r) found = by_id r.id (ap rated_id found)
